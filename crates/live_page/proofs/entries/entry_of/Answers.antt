use Rattle.live_page.proofs.Shown.{dependencies_present}
use Rattle.live_page.proofs.entries.entry_of.Goals as goal

pub dependency_entries-requires : goal.dependency_entries-requires
dependency_entries-requires c =
    dependencies_present c.args.db.now.crates c.args.krate c.crate_input.result.now c.requires.table c.crate_input.ensures
