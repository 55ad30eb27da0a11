-- A document is read step by step: the first step that is refused refuses the workspace, and else the workspace holds what each step gave.
use Rattle.std.proofs.Common.{◌≡◌, ℕ, List, Bool, Option, Ok, ap, refl, ◌∙◌}
use Rattle.base_text_outside.specs.declared.limits.Limits.{Limits}
use Rattle.cargo_meta.specs.declared.metadata.Metadata.{Metadata}
use Rattle.pm_cargo_reading.specs.Links.{linked_contents}
use Rattle.pm_cargo_reading.specs.Nodes.{nodes_of}
use Rattle.base_values.specs.Outcome.{◌>>=◌}
use Rattle.pm_cargo_reading.specs.Reading.{Reading, Refuses}
use Rattle.pm_cargo_reading.specs.declared.contents.Contents.{Contents}
use Rattle.pm_cargo_reading.specs.declared.workspace_error.WorkspaceError.{WorkspaceError}
use Rattle.pm_cargo_reading.proofs.ReadingLemmas.{refuses_on}
use Rattle.pm_cargo_members.specs.Members.{with_all_member_deps}
use Rattle.pm_cargo.specs.ReadWorkspace.{directories_of, read_workspace}
use Rattle.pm_cargo.specs.Workspace.{Workspace}
use Rattle.pm_cargo.specs.declared.cargo_workspace.Directories.{Directories}

module _ (manifest : List ℕ) (env : List (List ℕ × List ℕ)) (is_sysroot : Bool) where
  -- the workspace of what is read
  abbrev pub made : List ℕ → List ℕ → Option (List ℕ) → Contents → Workspace
  made root target build contents = record {
    packages = with_all_member_deps contents.packages;
    targets = contents.targets;
    workspace_root = root;
    target_directory = target;
    build_directory = build;
    manifest_path = manifest;
    env = env;
    is_sysroot = is_sysroot;
  }

  -- the workspace of its directories and its contents
  abbrev pub made_in : Directories → Contents → Workspace
  made_in d = made d.workspace_root d.target_directory d.build_directory

  -- the workspace of what may be refused
  abbrev read_parts : Reading Directories → Reading Contents → Reading Workspace
  read_parts directories contents = directories >>= λ d. contents >>= λ c. Ok (made_in d c)

  module _ (document : Metadata) (limits : Limits) where
    abbrev contents_read : Reading Contents
    contents_read = linked_contents document.workspace_members limits document.packages (nodes_of document.resolve)

    read-parts : read_workspace document manifest env is_sysroot limits ≡ read_parts (directories_of document) contents_read
    unfolding read_workspace
    read-parts = refl

    pub read-no_directories : (e : WorkspaceError) → Refuses e (directories_of document) → Refuses e (read_workspace document manifest env is_sysroot limits)
    read-no_directories e h = refuses_on e (directories_of document) _ (λ x is. read-parts ∙ ap (λ d. read_parts d contents_read) is) h

    pub read-no_contents : (e : WorkspaceError) (directories : Directories) → directories_of document ≡ Ok directories
        → Refuses e contents_read → Refuses e (read_workspace document manifest env is_sysroot limits)
    read-no_contents e directories p h = refuses_on e contents_read _ (λ x is. read-parts ∙ (λ i. read_parts (p i) (is i))) h

    pub read-all : (directories : Directories) (contents : Contents) → directories_of document ≡ Ok directories
        → contents_read ≡ Ok contents → read_workspace document manifest env is_sysroot limits ≡ Ok (made_in directories contents)
    read-all directories contents p t = read-parts ∙ (λ i. read_parts (p i) (t i))
