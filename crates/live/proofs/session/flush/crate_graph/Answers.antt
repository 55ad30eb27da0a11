use Rattle.std.proofs.Common.{Some, subst, sym}
use Rattle.vfs_core.specs.Files.{existing_files}
use Rattle.live.specs.Refresh.{IsGraphBy, IsProjectGraph}
use Rattle.live.proofs.session.flush.crate_graph.Goals as goal

pub returns-in-Ok : goal.returns-in-Ok
returns-in-Ok c =
    let files = existing_files c.args.files.now in
    subst (λ p. IsGraphBy p files (Some c.in-Ok.graph)) (sym c.in-Some.is) (subst (λ p. IsProjectGraph p files c.in-Ok.graph) c.get.ensures (record {
      crates = c.in-Ok.ensures.lowers.crates_are;
      begins = c.in-Ok.ensures.begins;
      missing = c.in-Ok.ensures.missing;
    }))
