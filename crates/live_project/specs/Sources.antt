-- What was said to a session, and what a load of it keeps: the configuration, the recorded answers, the files
-- that live, and the path of the manifest. What comes after the load never reaches them. From the rule that a
-- load keeps its files, answers and configuration.
use Rattle.std.specs.Prelude.{List, ℕ, Bool, [], fold, length, nat_lt, ◌||◌, if◌then◌else◌}
use Rattle.std.specs.List.{list_any}
use Rattle.base_text_outside.specs.declared.command.Output.{Output}
use Rattle.base_text_outside.specs.declared.command.Question.{Question}
use Rattle.base_text.specs.MemoryTree.{with_tree_file}
use Rattle.base_text.specs.Tree.{TreeFiles}
use Rattle.pm_tools_ask.specs.Ask.{Means}
use Rattle.vfs_core.specs.Marks.{live_files, mentioned_paths}
use Rattle.vfs_core.specs.VfsPath.{PathContent, vfs_path_eq}
use Rattle.vfs_core.specs.declared.marks.Mark.{Mark}
use Rattle.live_config.specs.declared.config.LiveConfig.{LiveConfig}
use Rattle.live_project.specs.declared.sources.Sources.{Sources}

-- ---- what was said

-- what was said to a session so far: its configuration, what was said of files (newest first), and the
-- answers that were recorded, by their questions
pub record Said : Type 0 where
  pub config : LiveConfig
  pub marks : List Mark
  pub answers : List (Question × Output)

-- whether a path has a number, or there is room for one more
abbrev pub has_room : Said → PathContent → Bool
has_room said path =
    list_any (vfs_path_eq path) (mentioned_paths said.marks)
    || nat_lt (length (mentioned_paths said.marks)) said.config.limits.paths

-- ---- what a load keeps

-- what the questions of a load are asked with
abbrev pub means_of_sources : Sources → Means
means_of_sources s = record {
  answers = s.answers;
  files = s.files;
  tools = s.config.tools;
  process_env = s.config.process_env;
  extra_env = s.config.cargo.extra_env;
}

-- the files of a tree, with one more that lives; a virtual path is in no tree
abbrev pub with_kept_file : TreeFiles → PathContent × List ℕ → TreeFiles
with_kept_file files file = if file.0.is_virtual then files else with_tree_file file.0.text file.1 files

-- the tree of the files that live
unfoldable pub kept_files : List (PathContent × List ℕ) → TreeFiles
kept_files files = fold with_kept_file [] files

-- what a load keeps: the configuration, the answers and the files that live at that load, and its path
abbrev pub sources_of : Said → List ℕ → Sources
sources_of said path = record {
  config = said.config;
  answers = said.answers;
  files = kept_files (live_files said.marks);
  path = path;
}
