use Rattle.std.proofs.Common.{◌∙◌, ap}
use Rattle.pm_lower_crates.specs.Loader.{path_key}
use Rattle.pm_lower_crates.proofs.FileLemmas.{later_file}
use Rattle.pm_lower_crates.proofs.loader.MapLoader.insert.Goals as goal

pub returns-clause-last_counts : goal.returns-clause-last_counts
returns-clause-last_counts c = λ asked.
    later_file _ _ _ c.args.path _ c.args.id asked (c.in_ok-path.ensures.ok ∙ ap path_key c.as_path.ensures) c.self.view_is (c.in_ok-insert.ensures.updates.0 (path_key asked))
