use Rattle.std.proofs.Common.{◌∙◌, ap, sym}
use Rattle.base_text_paths.specs.AbsPath.{abs_text}
use Rattle.pm_lower_load.proofs.MetadataLemmas.{above}
use Rattle.pm_lower.specs.ProjectWorkspace.{kind_root}
use Rattle.pm_lower.proofs.project_workspace.ProjectWorkspace.workspace_root.Goals as goal

pub returns-in-DetachedFile : goal.returns-in-DetachedFile
returns-in-DetachedFile c = above c.in-DetachedFile.file (abs_text c.parent.result) c.parent.ensures ∙ ap kind_root (sym c.in-DetachedFile.is)
