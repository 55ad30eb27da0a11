use Rattle.std.proofs.Common.{arith, subst, sym}
use Rattle.std.proofs.lemmas.List.{length-map}
use Rattle.graph_base.specs.Reversed.{IsGraph}
use Rattle.pm_cargo_members.proofs.closure.Graph.new.Goals as goal

pub new-rows-requires : goal.new-rows-requires
new-rows-requires c = record {
  short = omega (arith, c.requires.short, length-map c.args.rows.items (λ r. r.items));
  in_range = c.requires.in_range;
}

pub invariant_of-result : goal.invariant_of-result
invariant_of-result c =
    record {
      graph = subst IsGraph (sym c.new-rows.ensures)
          (record { short = omega (arith, c.requires.short, length-map c.args.rows.items (λ r. r.items)); in_range = c.requires.in_range });
      leads_back = c.in_ok-back.ensures.edges;
      reaches_back = c.in_ok-back.ensures.reach;
    }
