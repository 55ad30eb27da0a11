use Rattle.std.proofs.Common.{◌≡◌, ◌∙◌, [], ◌++◌, List, ap, append-nil, arith, refl, rules, subst, sym}
use Rattle.std.proofs.lemmas.Grind.{common_steps}
use Rattle.pm_lower_crates.specs.Keeping.{AreLowered}
use Rattle.pm_lower_crates.specs.KeptEdges.{none}
use Rattle.pm_lower_crates.specs.WantedEdges.{Edge}
use Rattle.pm_lower_crates.proofs.FrontLemmas.{have_edges, its_crates, its_edges, kept_behind, none_left}
use Rattle.pm_lower_crates.proofs.keeping.keep_edges.Goals as goal

pub loop-edge-init : goal.loop-edge-init
loop-edge-init c = record {
  keeps = λ before bare are. record { kept = before; are_kept = none; crates_are = are };
  all = refl;
  limit = refl;
  count = refl;
}

pub loop-edge-preserved : goal.loop-edge-preserved
loop-edge-preserved c = record {
  keeps = λ before bare are. c.in_ok-keep_edge.ensures.keeps before bare c.loop-edge.yielded (c.loop-edge.invariant.keeps before bare are);
  all = grind (arith, common_steps);
  limit = c.in_ok-keep_edge.ensures.limit ∙ c.loop-edge.invariant.limit;
  count = c.in_ok-keep_edge.ensures.count ∙ c.loop-edge.invariant.count;
}

pub returns-clause-behind : goal.returns-clause-behind
returns-clause-behind c = λ front rows is behind.
    let old = c.args.graph.now.crates in
    let new = c.loop-edge.graph.crates in
    let edges = its_edges front rows old is in
    let crates = its_crates front rows old is in
    let first : c.args.edges.items ≡ c.into_iter-edge-iterator.result.rest.items = search rules in
    let last : c.loop-edge.edge-iterator.rest.items ≡ [] =
    none_left c.loop-edge.edge-iterator.rest.items (sym c.loop-edge.edge-iterator.rest.ok.0 ∙ c.in-None.ensures.steps.0) in
    let all : c.loop-edge.yielded ≡ c.args.edges.items =
    sym (first ∙ c.loop-edge.invariant.all ∙ ap (λ (es : List Edge). c.loop-edge.yielded ++ es) last ∙ append-nil c.loop-edge.yielded) in
    kept_behind front rows old is c.args.edges.items new c.requires behind
    (subst (λ (es : List Edge). AreLowered edges crates es new) all (c.loop-edge.invariant.keeps edges crates (have_edges front rows old is)))
