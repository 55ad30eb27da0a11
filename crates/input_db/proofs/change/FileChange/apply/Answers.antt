use Rattle.std.proofs.Common.{subst, sym}
use Rattle.input_db.specs.Change.{IsChanged}
use Rattle.input_db.specs.Database.{Database}
use Rattle.input_db.proofs.Beside.{IsChanged_set}
use Rattle.input_db.proofs.ChangedTexts.{applied_changes}
use Rattle.input_db.proofs.change.FileChange.apply.Goals as goal

pub returns-clause-ok : goal.returns-clause-ok
returns-clause-ok g c =
    let old = g.D.SourceDatabase.seen c.args.db.now in
    IsChanged_set c.args.self _ c.in_ok-graph.graph old _ _ _
    (subst (λ (db : Database). IsChanged c.args.self old db) (sym c.in_ok-graph.ensures.applied) (applied_changes c.args.self old))
    c.in_ok-set_crates.ensures
