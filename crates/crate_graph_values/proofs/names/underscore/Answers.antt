use Rattle.std.proofs.Common.{◌≡◌, lit<, sym, ap, ◌∙◌, rules, ◌++◌, string_bytes}
use Rattle.std.proofs.lemmas.Str.Pattern.{split_parts}
use Rattle.crate_graph_values.specs.Names.{has_dash, with_underscores}
use Rattle.crate_graph_values.proofs.NameLemmas.{with_underscores-split, with_underscores-none, has_dash-with_underscores}
use Rattle.crate_graph_values.proofs.names.underscore.Goals as goal

pub loop-before-preserved : goal.loop-before-preserved
loop-before-preserved c =
    let parts = rw c.in-Some.is at (split_parts 45 _ _ c.split_once.ensures.cases (lit< tt)) in
    record {
      text = search rules;
      so_far = rw (c.in_ok-push_str-2.ensures.bytes, c.in_ok-push_str.ensures.bytes)
          (with_underscores-split _ _ _ _ _ c.loop-before.invariant.so_far parts.0 parts.1);
    }

pub returns : goal.returns
returns c =
    let none = rw c.in_default.is at (split_parts 45 _ _ c.split_once.ensures.cases (lit< tt)) in
    let is : string_bytes c.push_str-2.new.self ≡ with_underscores c.args.name.now =
    c.in_ok-push_str-3.ensures.bytes ∙ ap (λ rest. string_bytes c.loop-before.text ++ rest) (sym (with_underscores-none _ none)) ∙ c.loop-before.invariant.so_far in
    record { value = is; no_dash = ap has_dash is ∙ has_dash-with_underscores c.args.name.now }
