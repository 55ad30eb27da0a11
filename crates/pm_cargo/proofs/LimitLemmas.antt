-- What the reading of a workspace says of limits: which of them a refusal names, and how many packages it leaves.
use Rattle.std.proofs.Common.{◌≡◌, ℕ, ◌≤◌, Bool, List, length, arith}
use Rattle.base_text_outside.specs.declared.limits.Limits.{Limits}
use Rattle.cargo_meta.specs.declared.metadata.Metadata.{Metadata}
use Rattle.pm_cargo_packages.specs.declared.package.PackageData.{PackageData}
use Rattle.pm_cargo_packages.proofs.UpdateLemmas.{length-changed}
use Rattle.pm_cargo_reading.specs.Links.{linked_contents}
use Rattle.pm_cargo_reading.specs.Nodes.{nodes_of}
use Rattle.pm_cargo_reading.specs.Packages.{absolute_path, optional_path}
use Rattle.pm_cargo_members.specs.Members.{member_graph, with_all_member_deps, with_member_deps}
use Rattle.pm_cargo.specs.ReadWorkspace.{read_workspace, directories_of}
use Rattle.pm_cargo.specs.Workspace.{Workspace}
use Rattle.pm_cargo_reading.proofs.LimitLemmas.{Names, linked_few, names_all, names_bind, names_ok, names_optional, names_path}
use Rattle.pm_cargo_reading.specs.Reading.{Refuses, NamesMetadataLimit}
use Rattle.pm_cargo_reading.specs.declared.workspace_error.WorkspaceError.{WorkspaceError}
use Rattle.pm_cargo_reading.specs.declared.workspace_error.WorkspaceError.TheVariants.{NotAbsolute, NoParent, UnknownPackage, TooMany, OutOfMemory}
use Rattle.base_values.proofs.Outcomes.{Keeps, keeps_bind, keeps_ok}

names_directories : (document : Metadata) → Names (directories_of document)
unfolding directories_of
names_directories document =
    names_bind (absolute_path document.workspace_root) _ (names_path document.workspace_root) (λ root.
    names_bind (absolute_path document.target_directory) _ (names_path document.target_directory) (λ target.
    names_bind (optional_path document.build_directory) _ (names_optional document.build_directory) (λ build. names_ok _)))

-- a document that is refused by a limit is refused by that of packages or that of targets
pub names_document : (document : Metadata) (manifest : List ℕ) (env : List (List ℕ × List ℕ)) (is_sysroot : Bool) (limits : Limits) → Names (read_workspace document manifest env is_sysroot limits)
unfolding read_workspace
names_document document manifest env is_sysroot limits =
    names_bind (directories_of document) _ (names_directories document) (λ directories.
    names_bind (linked_contents document.workspace_members limits document.packages (nodes_of document.resolve)) _
    (names_all document.workspace_members limits document.packages (nodes_of document.resolve)) (λ contents. names_ok _))

members_length : (packages : List PackageData) → length (with_all_member_deps packages) ≡ length packages
unfolding with_all_member_deps
members_length packages = length-changed (with_member_deps (member_graph packages)) 0 packages

-- a workspace that is read has at most as many packages as the limit
pub document_few : (document : Metadata) (manifest : List ℕ) (env : List (List ℕ × List ℕ)) (is_sysroot : Bool) (limits : Limits)
    → Keeps (λ w. length w.packages ≤ limits.packages) (read_workspace document manifest env is_sysroot limits)
unfolding read_workspace
document_few document manifest env is_sysroot limits =
    let Few : Workspace → Type 0 = λ w. length w.packages ≤ limits.packages in
    keeps_bind Few (directories_of document) _ (λ directories of_directories.
    keeps_bind Few (linked_contents document.workspace_members limits document.packages (nodes_of document.resolve)) _ (λ contents is.
    keeps_ok Few _ (let few = linked_few document.workspace_members limits document.packages (nodes_of document.resolve) contents is in
    let same = members_length contents.packages in omega (arith, few, same))))

-- the limit that a refused document names
pub refused_limit : (document : Metadata) (manifest : List ℕ) (env : List (List ℕ × List ℕ)) (is_sysroot : Bool) (limits : Limits) (e : WorkspaceError)
    → Refuses e (read_workspace document manifest env is_sysroot limits) → NamesMetadataLimit e
refused_limit document manifest env is_sysroot limits (NotAbsolute text) h = tt
refused_limit document manifest env is_sysroot limits (NoParent text) h = tt
refused_limit document manifest env is_sysroot limits (UnknownPackage id) h = tt
refused_limit document manifest env is_sysroot limits (TooMany limit) h = names_document document manifest env is_sysroot limits limit h
refused_limit document manifest env is_sysroot limits OutOfMemory h = tt
