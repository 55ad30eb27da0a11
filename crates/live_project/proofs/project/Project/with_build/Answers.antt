use Rattle.live_project.proofs.FewRoots.{is_loaded_with}
use Rattle.live_project.proofs.project.Project.with_build.Goals as goal

-- the copy has what the project has, and then the outputs
pub invariant_of-result : goal.invariant_of-result
invariant_of-result c =
    rw (c.in_ok-sources.ensures, c.set_build_scripts.ensures, c.in_ok-workspace.ensures)
    (is_loaded_with (record { sources = c.self.inside.sources; workspace = c.self.inside.workspace }) c.args.scripts c.self.invariant)
