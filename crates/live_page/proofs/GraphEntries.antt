-- Once a graph is set in a database, the entries of the crates that the database lists are those of the graph.
use Rattle.std.proofs.Common.{◌≡◌, ℕ, ◌<◌, ⊎_elim, List, [], ◌∷◌, length, map, Option, Some, None, refl, sym, ap, ◌∙◌, subst, arith, get_or}
use Rattle.std.specs.Prelude.{slice_get}
use Rattle.std.specs.BTreeMap as tree
use Rattle.std.specs.List.{All, Contains, cons_option, filter_map}
use Rattle.std.specs.Option.{option_and_then, option_map}
use Rattle.std.specs.declared.cmp.Ordering.{Ordering}
use Rattle.std.proofs.lemmas.List.{get_or_default}
use Rattle.std.proofs.lemmas.List.Elements.{All-head, All-tail}
use Rattle.std.proofs.lemmas.Option.{same_Some, slice_get-get_or, slice_get-map, slice_get_within}
use Rattle.base_text_paths.specs.Arena.{number_of}
use Rattle.base_values.specs.Sorted.{sorted}
use Rattle.graph_base.specs.Edges.{HasEdge, IsInRange}
use Rattle.graph_base.specs.Finish.{IsBehindTargets}
use Rattle.crate_graph_values.specs.Laws.{renamed_dependency}
use Rattle.crate_graph_values.specs.declared.builder.CrateBuilder.{CrateBuilder}
use Rattle.crate_graph_values.specs.declared.crate_data.Dependency.{Dependency}
use Rattle.crate_graph.proofs.ExtendLemmas.{edge_crate, targets_within}
use Rattle.crate_graph.proofs.GraphLemmas.{length-edges, slice_get_some}
use Rattle.crate_graph.specs.Graph.{edges, target_of}
use Rattle.input_db.specs.Database.{Database}
use Rattle.crate_graph.specs.Extend.{Id}
use Rattle.input_db.specs.Identity.{Table, data_of, input_in, number_in}
use Rattle.input_db.specs.SetInDb.{HoldLastInputs, IsSetInDb, ShareWhereAlike, finished_crate, listed_crates, finished_number}
use Rattle.input_db.specs.declared.crate_input.CrateInput.{CrateInput}
use Rattle.live_page.specs.Entries.{Node, Paths, dependency_cmp, dependency_entry, entries_listed, entries_of, entry_in, entry_of}
use Rattle.live_page.specs.Entries.{named_number, node_by, node_in, entry_node, root_file_path, root_path}
use Rattle.live_page.specs.declared.crate_entry.CrateEntry.{CrateEntry}
use Rattle.live_page.proofs.Distinct.{distinct_entries_alike}
use Rattle.live_page.proofs.Members.{all_made, first_places_all, first_places_from, last_place, made_of_some, mapped_from, mapped_to}

-- a crate that is found at a place is a crate of the list
holds_found : (crates : List CrateBuilder) (m : ℕ) (krate : CrateBuilder) → m < length crates → slice_get crates m ≡ Some krate
    → Contains crates krate
holds_found crates m krate within at =
    (m, within, same_Some (get_or crates m krate) krate (sym (slice_get-get_or crates m krate within) ∙ at))

module _ (crates : List CrateBuilder) (order numbers : List ℕ) (behind : IsBehindTargets (edges crates) order) where
  -- the order has numbers of crates alone
  pub below_crates : (m : ℕ) → Contains order m → m < length crates
  below_crates m there = let is_in = (behind.all m).0 there in omega (arith, is_in, length-edges crates)

  -- and that of each crate
  pub in_order : (m : ℕ) → m < length crates → Contains order m
  in_order m within = (behind.all m).1 (omega (arith, within, length-edges crates))

  pub in_range : IsInRange (edges crates)
  in_range a b edge =
      let krate = edge_crate crates a b edge in
      let there = in_order a (below_some krate.0 krate.1) in
      let is : get_or order there.0 0 ≡ a = get_or_default order there.0 0 a there.1 ∙ there.2 in
      let target = behind.behind there.0 b there.1 (subst (λ n. HasEdge (edges crates) n b) (sym is) edge) in
      let first = target.1 in
      let place = there.1 in
      let within : target.0 < length order = omega (arith, first, place) in
      (behind.all b).0 (target.0, within, get_or_default order target.0 b 0 within ∙ target.2)
    where
      below_some : (krate : CrateBuilder) → slice_get crates a ≡ Some krate → a < length crates
      below_some krate at = slice_get_within crates a krate at

  -- the crate at a place of the order
  pub at_place : (k m : ℕ) (krate : CrateBuilder) → k < length order → get_or order k 0 ≡ m → slice_get crates m ≡ Some krate
      → finished_crate crates order k ≡ Some krate
  at_place k m krate within is at =
      ap (option_and_then (slice_get crates)) (slice_get-get_or order k 0 within ∙ ap Some is) ∙ at

  module _ (shared : ShareWhereAlike crates order numbers) (table : Table) (inputs : HoldLastInputs crates order numbers table) where
    -- under the number of a crate the database holds the data of the crate, whichever crate was put in there last
    pub data_held : (m : ℕ) (krate : CrateBuilder) → m < length crates → slice_get crates m ≡ Some krate
        → option_map (λ input. input.crate_data) (input_in table (get_or numbers m 0)) ≡ Some (data_of (number_in numbers) krate)
    data_held m krate within at =
        let place = in_order m within in
        let is : get_or order place.0 0 ≡ m = get_or_default order place.0 0 m place.1 ∙ place.2 in
        let here = at_place place.0 m krate place.1 is at in
        let last = last_place (finished_number numbers order) (length order) place.0 place.1 in
        let n : ℕ = get_or order last.0 0 in
        let there = slice_get_some crates n (below_crates n (last.0, last.1, get_or_default order last.0 n 0 last.1)) in
        let at_last = at_place last.0 n there.0 last.1 refl there.1 in
        let alike : data_of (number_in numbers) there.0 ≡ data_of (number_in numbers) krate =
        ⊎_elim
        (λ same. ap (data_of (number_in numbers)) (same_Some there.0 krate (sym at_last ∙ ap (finished_crate crates order) (sym same) ∙ here)))
        (λ both. sym both.2.crate_data) ((shared place.0 last.0 krate there.0 here at_last).0 (sym last.2)) in
        ap (λ p. option_map (λ (input : CrateInput). input.crate_data) (input_in table p))
        (ap (λ p. get_or numbers p 0) (sym is) ∙ sym last.2)
        ∙ ap (option_map (λ (input : CrateInput). input.crate_data)) (inputs last.0 there.0 at_last last.3) ∙ ap Some alike

    -- so the node under a crate's number is the crate's, by its numbers in the database
    node_held : (m : ℕ) (krate : CrateBuilder) → m < length crates → slice_get crates m ≡ Some krate
        → node_in table (get_or numbers m 0) ≡ Some (node_by (λ n. n) (data_of (number_in numbers) krate))
    node_held m krate within at =
        by (input_in table (get_or numbers m 0)) ∙ ap (option_map (node_by (λ n. n))) (data_held m krate within at)
      where
        by : (input : Option CrateInput) → option_map (λ i. node_by (λ n. n) i.crate_data) input
            ≡ option_map (node_by (λ n. n)) (option_map (λ i. i.crate_data) input)
        by None = refl
        by (Some input) = refl

    module _ (paths : Paths) where
      abbrev nodes : List Node
      nodes = map entry_node crates

      -- the node at a place
      node_at : (m : ℕ) (krate : CrateBuilder) → slice_get crates m ≡ Some krate → slice_get nodes m ≡ Some (entry_node krate)
      node_at m krate at = slice_get-map entry_node crates m ∙ ap (option_map entry_node) at

      -- the root file that a crate's number leads to is the crate's own
      root_same : (id : Id) → number_of id < length crates
          → root_file_path paths table (number_in numbers id) ≡ root_path paths (slice_get nodes (number_of id))
      root_same id within =
          let at = slice_get_some crates (number_of id) within in
          ap (root_path paths) (node_held (number_of id) at.0 within at.1)
          ∙ ap (root_path paths) (sym (node_at (number_of id) at.0 at.1))

      dependencies_same : (deps : List (Dependency Id)) → All (λ dep. target_of dep < length crates) deps
          → filter_map (dependency_entry (root_file_path paths table)) (map (named_number (λ n. n)) (map (renamed_dependency (number_in numbers)) deps))
          ≡ filter_map (dependency_entry (λ place. root_path paths (slice_get nodes place))) (map (named_number number_of) deps)
      dependencies_same [] within = refl
      dependencies_same (dep ∷ deps) within =
          let root = root_same dep.crate_id (All-head (λ d. target_of d < length crates) dep deps within) in
          let rest = dependencies_same deps (All-tail (λ d. target_of d < length crates) dep deps within) in
          λ i. cons_option (option_map (λ path. record { name = dep.name; root = path }) (root i)) (rest i)

      -- and the entry under a crate's number is the crate's own
      entry_same : (m : ℕ) (krate : CrateBuilder) → m < length crates → slice_get crates m ≡ Some krate
          → entry_in paths table (get_or numbers m 0)
          ≡ entry_of paths (λ place. root_path paths (slice_get nodes place)) (entry_node krate)
      entry_same m krate within at =
          ap (option_and_then (entry_of paths (root_file_path paths table))) (node_held m krate within at)
          ∙ ap (λ deps. option_map (λ path. record { root = path; deps = sorted dependency_cmp deps }) (paths krate.basic.root_file_id))
          (dependencies_same krate.basic.dependencies (targets_within crates m krate (length crates) in_range refl at))

      -- each entry of the list is one of the graph
      of_graph : (entry : CrateEntry) → Contains (filter_map (entry_in paths table) (listed_crates order numbers)) entry
          → Contains (filter_map (entry_of paths (λ place. root_path paths (slice_get nodes place))) nodes) entry
      of_graph entry there =
          let found = made_of_some (entry_in paths table) (listed_crates order numbers) entry there in
          let from = mapped_from (λ n. get_or numbers n 0) order found.0
          (first_places_from (map (λ n. get_or numbers n 0) order) found.0 found.1) in
          let within = below_crates from.0 from.1 in
          let at = slice_get_some crates from.0 within in
          all_made (entry_of paths (λ place. root_path paths (slice_get nodes place))) nodes (entry_node at.0) entry
          (mapped_to entry_node crates at.0 (holds_found crates from.0 at.0 within at.1))
          (sym (entry_same from.0 at.0 within at.1) ∙ ap (entry_in paths table) from.2 ∙ found.2)

      -- and each of the graph is one of the list
      of_list : (entry : CrateEntry) → Contains (filter_map (entry_of paths (λ place. root_path paths (slice_get nodes place))) nodes) entry
          → Contains (filter_map (entry_in paths table) (listed_crates order numbers)) entry
      of_list entry there =
          let made = made_of_some (entry_of paths (λ place. root_path paths (slice_get nodes place))) nodes entry there in
          let found = mapped_from entry_node crates made.0 made.1 in
          let krate = found.0 in
          let m = found.1.0 in
          let within = found.1.1 in
          let at : slice_get crates m ≡ Some krate = slice_get-get_or crates m krate within ∙ ap Some found.1.2 in
          all_made (entry_in paths table) (listed_crates order numbers) (get_or numbers m 0) entry
          (first_places_all (map (λ n. get_or numbers n 0) order) (get_or numbers m 0)
          (mapped_to (λ n. get_or numbers n 0) order m (in_order m within)))
          (entry_same m krate within at ∙ ap (entry_of paths (λ place. root_path paths (slice_get nodes place))) found.2 ∙ made.2)

-- by whichever paths of files
pub entries_after_set : (cmp : Id → Id → Ordering) (crates : List CrateBuilder) (old new : Database) (ids : tree.BTreeMap Id ℕ)
    → IsSetInDb cmp crates old new ids → (paths : Paths) → entries_listed paths new ≡ entries_of paths (map entry_node crates)
entries_after_set cmp crates old new ids set paths =
    ap (λ listed. entries_listed paths (record new { listed = listed })) set.listed
    ∙ distinct_entries_alike _ _ (λ entry. (
      of_graph crates set.order set.numbers set.behind set.shared new.crates set.inputs paths entry,
      of_list crates set.order set.numbers set.behind set.shared new.crates set.inputs paths entry,
    ))
