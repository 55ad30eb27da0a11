-- Two documents that are a shuffle of each other, and are both read, are read as one workspace.
use Rattle.std.proofs.Common.{◌≡◌, ℕ, List, [], Bool, true, false, Option, Ok, Err, map, refl, sym, ap, ◌∙◌}
use Rattle.std.specs.Prelude.{bytes_eq}
use Rattle.std.specs.List.{Contains}
use Rattle.base_text_outside.specs.declared.limits.Limits.{Limits}
use Rattle.base_values.specs.Sorted.{sorted}
use Rattle.cargo_meta.specs.declared.metadata.Metadata.{Metadata}
use Rattle.cargo_meta_values.specs.declared.names.PackageId.{PackageId}
use Rattle.cargo_meta_values.specs.declared.resolve.Node.{Node}
use Rattle.pm_cargo_packages.specs.declared.package.PackageData.{PackageData}
use Rattle.pm_cargo_reading.specs.Links.{linked_contents, linked_packages, with_links}
use Rattle.pm_cargo_reading.specs.Nodes.{links_of, nodes_of}
use Rattle.pm_cargo_reading.specs.Packages.{absolute_path, contents_of, is_listed, optional_path, take_package}
use Rattle.base_values.specs.Outcome.{◌>>=◌, take_each}
use Rattle.pm_cargo_reading.specs.Reading.{Reading}
use Rattle.pm_cargo_reading.specs.declared.contents.Contents.{Contents}
use Rattle.pm_cargo_reading.proofs.ContentsLemmas.{contents-members}
use Rattle.pm_cargo_reading.proofs.ReadingLemmas.{one_value}
use Rattle.base_values.proofs.Outcomes.{ok_from_bind}
use Rattle.pm_cargo_members.proofs.ListLemmas.{any_in, any_of}
use Rattle.pm_cargo.specs.ReadWorkspace.{read_workspace, directories_of}
use Rattle.pm_cargo.specs.Shuffle.{IsShuffle, by_node, with_sorted_entries}
use Rattle.pm_cargo.specs.Workspace.{Workspace}
use Rattle.pm_cargo.proofs.ReadLemmas.{made_in}
use Rattle.pm_cargo.proofs.NodeOrderLemmas.{with_links-in_order}
use Rattle.pm_cargo.specs.declared.cargo_workspace.Directories.{Directories}

-- ---- members

same_bool : (x y : Bool) → (x ≡ true → y ≡ true) → (y ≡ true → x ≡ true) → x ≡ y
same_bool true true on back = refl
same_bool true false on back = sym (on refl)
same_bool false true on back = back refl
same_bool false false on back = refl

listed_among : (members others : List PackageId) → ((id : PackageId) → Contains members id → Contains others id) → (id : PackageId)
    → is_listed members id ≡ true → is_listed others id ≡ true
listed_among members others among id is =
    let m = any_in (λ member. bytes_eq member.repr id.repr) members is in
    any_of (λ member. bytes_eq member.repr id.repr) others m.0 (among m.0 m.1) m.2

-- ---- readings

module _ (manifest : List ℕ) (env : List (List ℕ × List ℕ)) (is_sysroot : Bool) where
  -- the workspace of what is read
  abbrev workspace : Directories → Contents → Workspace
  workspace directories contents = made_in manifest env is_sysroot directories contents

  -- contents with linked packages
  abbrev linked : Contents → List PackageData → Contents
  linked contents packages = record { packages = packages; targets = contents.targets }

  -- the workspace of what may be refused
  abbrev read_from : Reading Directories → Reading Contents → List Node → Reading Workspace
  read_from directories contents nodes =
      directories >>= λ d.
      (contents >>= λ c. linked_packages c.packages nodes >>= λ packages. Ok (linked c packages)) >>= λ read. Ok (workspace d read)

  -- where both give a workspace, nodes that are equal once they are in order give one
  same_workspace : (directories : Reading Directories) (contents : Reading Contents) (nodes others : List Node)
      → map with_sorted_entries (sorted by_node nodes) ≡ map with_sorted_entries (sorted by_node others)
      → (w v : Workspace) → read_from directories contents nodes ≡ Ok w → read_from directories contents others ≡ Ok v → w ≡ v
  unfolding linked_packages
  same_workspace (Ok d) (Ok c) nodes others same w v is are =
      let x = ok_from_bind (linked_packages c.packages nodes >>= λ packages. Ok (linked c packages)) (λ read. Ok (workspace d read)) w is in
      let y = ok_from_bind (linked_packages c.packages others >>= λ packages. Ok (linked c packages)) (λ read. Ok (workspace d read)) v are in
      let p = ok_from_bind (linked_packages c.packages nodes) (λ packages. Ok (linked c packages)) x.0 x.1 in
      let q = ok_from_bind (linked_packages c.packages others) (λ packages. Ok (linked c packages)) y.0 y.1 in
      let l = ok_from_bind (links_of c.packages nodes) (λ links. Ok (with_links links c.packages)) p.0 p.1 in
      let m = ok_from_bind (links_of c.packages others) (λ links. Ok (with_links links c.packages)) q.0 q.1 in
      let packages : p.0 ≡ q.0 =
      one_value p.0 (with_links l.0 c.packages) (Ok p.0) refl (sym l.2)
      ∙ with_links-in_order c.packages nodes others l.0 m.0 l.1 m.1 same
      ∙ one_value (with_links m.0 c.packages) q.0 (Ok q.0) (sym m.2) refl in
      let contents : x.0 ≡ y.0 =
      one_value x.0 (linked c p.0) (Ok x.0) refl (sym p.2) ∙ ap (linked c) packages ∙ one_value (linked c q.0) y.0 (Ok y.0) (sym q.2) refl in
      one_value w (workspace d x.0) (Ok w) refl (sym x.2) ∙ ap (workspace d) contents ∙ one_value (workspace d y.0) v (Ok v) (sym y.2) refl
  same_workspace (Err e) contents nodes others same w v is are = cc
  same_workspace (Ok d) (Err e) nodes others same w v is are = cc

-- the directories of what may be refused
abbrev directories_read : Reading (List ℕ) → Reading (List ℕ) → Reading (Option (List ℕ)) → Reading Directories
directories_read root target build = root >>= λ r. target >>= λ t. build >>= λ b.
    Ok (record { workspace_root = r; target_directory = t; build_directory = b })

module _ (a b : Metadata) (shuffle : IsShuffle a b) where
  same_listed : (id : PackageId) → is_listed a.workspace_members id ≡ is_listed b.workspace_members id
  same_listed id =
      same_bool (is_listed a.workspace_members id) (is_listed b.workspace_members id)
      (listed_among a.workspace_members b.workspace_members (λ m. (shuffle.members m).0) id)
      (listed_among b.workspace_members a.workspace_members (λ m. (shuffle.members m).1) id)

  same_contents : (limits : Limits) → contents_of a.workspace_members limits a.packages ≡ contents_of b.workspace_members limits b.packages
  unfolding contents_of
  same_contents limits =
      contents-members a.workspace_members b.workspace_members limits same_listed a.packages
      ∙ ap (take_each (take_package b.workspace_members limits) (record { packages = []; targets = [] })) shuffle.packages

  -- the directories of both
  same_directories : directories_of a ≡ directories_of b
  unfolding directories_of
  same_directories = λ i. directories_read (absolute_path (shuffle.root i)) (absolute_path (shuffle.target i)) (optional_path (shuffle.build i))

  -- the law
  pub shuffle-read : (manifest : List ℕ) (env : List (List ℕ × List ℕ)) (is_sysroot : Bool) (limits : Limits) (w v : Workspace)
      → read_workspace a manifest env is_sysroot limits ≡ Ok w → read_workspace b manifest env is_sysroot limits ≡ Ok v → w ≡ v
  unfolding read_workspace linked_contents
  shuffle-read manifest env is_sysroot limits w v is are =
      same_workspace manifest env is_sysroot (directories_of a) (contents_of a.workspace_members limits a.packages) (nodes_of a.resolve) (nodes_of b.resolve)
      shuffle.nodes w v is ((λ i. read_from manifest env is_sysroot (same_directories i) (same_contents limits i) (nodes_of b.resolve)) ∙ are)
