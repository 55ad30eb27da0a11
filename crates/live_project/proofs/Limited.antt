-- The limit that refuses the crates of a project is that of crates.
use Rattle.std.proofs.Common.{◌≡◌, ℕ, List, Err}
use Rattle.base_text_outside.specs.declared.limits.Limit.{Limit}
use Rattle.base_text_outside.specs.declared.limits.Limit.TheVariants.{Crates}
use Rattle.pm_lower.specs.ToCrateGraph.{project_rows}
use Rattle.pm_lower_crates.specs.Lowering.{no_project_part}
use Rattle.pm_lower_crates.specs.declared.lower_error.LowerError.TheVariants.{TooMany}
use Rattle.pm_lower_crates.proofs.LimitLemmas.{rows-limit}
use Rattle.vfs_core.specs.VfsPath.{PathContent}
use Rattle.live_project.specs.Crates.{files_by_path, project_lowered}
use Rattle.live_project.specs.Project.{ProjectContent}

pub lowered_limit : (p : ProjectContent) (files : List (ℕ × PathContent)) (limit : Limit) → (project_lowered p files).crates ≡ Err (TooMany limit) → limit ≡ Crates
lowered_limit p files limit is = rows-limit p.sources.config.limits.crates 0 no_project_part (project_rows (files_by_path files) p.workspace) limit is
