use Rattle.std.proofs.Common.{rules, lit<, sym, ap, ◌∙◌}
use Rattle.std.specs.Option.{option_copied}
use Rattle.std.proofs.lemmas.Str.Pattern.{strip_prefix_char, strip_suffix_char}
use Rattle.base_text_outside.proofs.CfgLemmas.{unquoted_no_first, unquote-cut}
use Rattle.base_text_outside.proofs.cfg.unquote.Goals as goal

pub returns-in_err-after : goal.returns-in_err-after
returns-in_err-after c =
    let never = rw c.in_err-after.was at (strip_prefix_char 34 _ _ c.strip_prefix.ensures.cases (lit< tt)) in
    record { value = ap option_copied c.from_residual.ensures ∙ sym (unquoted_no_first _ never); between = search rules }

pub returns : goal.returns
returns c =
    let first = rw c.in_ok-after.was at (strip_prefix_char 34 _ _ c.strip_prefix.ensures.cases (lit< tt)) in
    let last = strip_suffix_char 34 _ _ c.strip_suffix.ensures.cases (lit< tt) in
    let cut = unquote-cut c.args.text.now c.in_ok-after.after.now c.strip_suffix.result first last in
    record { value = cut.0; between = cut.1 }
