use Rattle.std.proofs.Common.{refl, subst, sym}
use Rattle.live_page.specs.Refresh.{GivesCrates}
use Rattle.live_page.proofs.refreshing.set_graph.Goals as goal

pub returns-in_ok-set_in_db-in-Some-clause-crates : goal.returns-in_ok-set_in_db-in-Some-clause-crates
returns-in_ok-set_in_db-in-Some-clause-crates c =
    subst (λ g. GivesCrates _ g c.args.db.now c.set_in_db.new.db) (sym c.in-Some.is) (record {
      before = c.args.db.now;
      kept = record { crates = refl; listed = refl; durability = refl; writes = refl };
      ids = _;
      set = c.in_ok-set_in_db-in-Some.ensures.steps;
    })
