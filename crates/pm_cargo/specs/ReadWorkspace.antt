-- How a document of `cargo metadata` is read as a workspace. The checks come in the order of the lines, and
-- the first refusal counts. The rule is that of rust-analyzer's `CargoWorkspace::new`.
use Rattle.std.specs.Prelude.{ℕ, Bool, List, Ok}
use Rattle.base_text_outside.specs.declared.limits.Limits.{Limits}
use Rattle.cargo_meta.specs.declared.metadata.Metadata.{Metadata}
use Rattle.pm_cargo_reading.specs.Links.{linked_contents}
use Rattle.pm_cargo_reading.specs.Nodes.{nodes_of}
use Rattle.pm_cargo_reading.specs.Packages.{absolute_path, optional_path}
use Rattle.base_values.specs.Outcome.{◌>>=◌}
use Rattle.pm_cargo_reading.specs.Reading.{Reading}
use Rattle.pm_cargo_members.specs.Members.{with_all_member_deps}
use Rattle.pm_cargo.specs.Workspace.{Workspace}
use Rattle.pm_cargo.specs.declared.cargo_workspace.Directories.{Directories}

-- the directories of a document, each of which must be absolute
unfoldable pub directories_of : Metadata → Reading Directories
directories_of document = do
  root ← absolute_path document.workspace_root
  target ← absolute_path document.target_directory
  build ← optional_path document.build_directory
  Ok (record { workspace_root = root; target_directory = target; build_directory = build })

-- the workspace of a document, of its manifest, with an environment: its directories are read first, and
-- then the packages with their targets and what the nodes give them are read; last each member gets the
-- members that it depends on
unfoldable pub read_workspace : Metadata → List ℕ → List (List ℕ × List ℕ) → Bool → Limits → Reading Workspace
read_workspace document manifest env is_sysroot limits = do
  directories ← directories_of document
  contents ← linked_contents document.workspace_members limits document.packages (nodes_of document.resolve)
  Ok (record {
    packages = with_all_member_deps contents.packages;
    targets = contents.targets;
    workspace_root = directories.workspace_root;
    target_directory = directories.target_directory;
    build_directory = directories.build_directory;
    manifest_path = manifest;
    env = env;
    is_sysroot = is_sysroot;
  })
