-- Entries by other paths: they are the same where the paths of the root files are.
use Rattle.std.proofs.Common.{◌≡◌, ℕ, List, [], ◌∷◌, Option, Some, None, refl, ap, subst, ◌∙◌}
use Rattle.std.specs.Prelude.{slice_get}
use Rattle.std.specs.List.{All, cons_option, filter_map}
use Rattle.std.specs.Option.{option_map}
use Rattle.std.proofs.lemmas.List.Elements.{All-head, All-tail}
use Rattle.std.proofs.lemmas.Option.{get_or_from_slice_get, slice_get_within}
use Rattle.live_page.specs.Entries.{Node, Paths, dependency_entries, distinct_entries, entries_of, entry_of, root_path}

module _ (paths others : Paths) where
  -- the root file of a node has the same path in both
  abbrev IsAlike : Node → Type 0
  IsAlike node = paths node.root_file ≡ others node.root_file

  -- an item that is found is one of the list
  alike-at : (nodes : List Node) (place : ℕ) (node : Node) → All IsAlike nodes → slice_get nodes place ≡ Some node → IsAlike node
  alike-at nodes place node all at =
      let within = slice_get_within nodes place node at in
      subst IsAlike (get_or_from_slice_get nodes place node node at) (all place node within)

  root-alike : (nodes : List Node) → All IsAlike nodes → (place : ℕ) → root_path paths (slice_get nodes place) ≡ root_path others (slice_get nodes place)
  root-alike nodes all place = by (slice_get nodes place) refl
    where
      by : (found : Option Node) → slice_get nodes place ≡ found → root_path paths found ≡ root_path others found
      by None at = refl
      by (Some node) at = alike-at nodes place node all at

  each-alike : (root : ℕ → Option (List ℕ)) (nodes : List Node) → All IsAlike nodes → filter_map (entry_of paths root) nodes ≡ filter_map (entry_of others root) nodes
  each-alike root [] all = refl
  each-alike root (node ∷ nodes) all =
      let first = All-head IsAlike node nodes all in
      let rest = each-alike root nodes (All-tail IsAlike node nodes all) in
      λ i. cons_option (option_map (λ path. record { root = path; deps = dependency_entries root node.dependencies }) (first i)) (rest i)

  pub entries_alike : (nodes : List Node) → All IsAlike nodes → entries_of paths nodes ≡ entries_of others nodes
  entries_alike nodes all =
      ap (λ (root : ℕ → Option (List ℕ)). distinct_entries (filter_map (entry_of paths root) nodes)) (λ i place. root-alike nodes all place i)
      ∙ ap distinct_entries (each-alike (λ place. root_path others (slice_get nodes place)) nodes all)
