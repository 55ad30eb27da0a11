-- The rows of a workspace as they are gathered.
use Rattle.std.proofs.Common.{◌≡◌, ℕ, ◌+◌, List, [], ◌++◌, map, length, Option, refl, sym, ap, ◌∙◌, subst}
use Rattle.std.specs.List.{All}
use Rattle.std.proofs.lemmas.List.{length-map}
use Rattle.crate_graph.specs.Graph.{Graph, IsWellMadeGraph}
use Rattle.pm_cargo.specs.Workspace.{Workspace}
use Rattle.pm_lower_crates.specs.Loader.{FileNumbers}
use Rattle.pm_lower_crates.specs.Facts.{Facts}
use Rattle.pm_lower_crates.specs.Front.{IsPublicIn}
use Rattle.pm_lower_crates.specs.Gathering.{AddsRows, AreFilesOf, AreNumbered, edges_between, owners_by}
use Rattle.pm_lower_crates.specs.Keeping.{StartBehind}
use Rattle.pm_lower_crates.specs.KeptEdges.{IsWithinRows}
use Rattle.pm_lower_crates.specs.Lowering.{Crate, cargo_rows, crate_seen, row_crate, wanted_edges}
use Rattle.pm_lower_crates.specs.Rows.{Owner, owners, rows_of}
use Rattle.pm_lower_crates.specs.WantedEdges.{Edge, Public, bad_names_of_owners}
use Rattle.pm_lower_crates.proofs.GatheredLemmas.{IsGathered}
use Rattle.pm_lower_crates.proofs.LoweringLemmas.{made_bare}
use Rattle.pm_lower_crates.proofs.RowLemmas.{count_added, owners_are_live}
use Rattle.pm_lower_crates.proofs.UnrankedLemmas.{wanted_are_gathered}
use Rattle.pm_lower_crates.proofs.WithinLemmas.{are_numbered_by, wanted_behind, wanted_within}

module _ (live : FileNumbers) (facts : Facts) (public : Public) (n : ℕ) (w : Workspace) (files : List (List (Option ℕ))) (are : AreFilesOf live w files) where
  owners_live : owners_by w 0 n w.packages files ≡ owners live w n
  owners_live = ap (owners_by w 0 n w.packages) are ∙ owners_are_live live w 0 n w.packages

  -- how many rows it has
  pub cargo_count : length (cargo_rows live facts public n w).rows ≡ length (rows_of (owners_by w 0 n w.packages files))
  unfolding cargo_rows
  cargo_count = length-map (rows_of (owners live w n)) (row_crate facts w) ∙ ap (λ os. length (rows_of os)) (sym owners_live)

  -- its bad names
  pub cargo_names : bad_names_of_owners (owners_by w 0 n w.packages files) ≡ (cargo_rows live facts public n w).bad_names
  unfolding cargo_rows
  cargo_names = ap bad_names_of_owners owners_live

  -- what it wants
  cargo_wants : edges_between public (owners_by w 0 n w.packages files) ≡ wanted_edges (cargo_rows live facts public n w)
  unfolding cargo_rows
  cargo_wants = ap (edges_between public) owners_live ∙ sym (wanted_are_gathered 1 public (owners live w n))

  cargo_crates : map (row_crate facts w) (rows_of (owners_by w 0 n w.packages files)) ≡ (cargo_rows live facts public n w).rows
  unfolding cargo_rows
  cargo_crates = ap (λ os. map (row_crate facts w) (rows_of os)) owners_live

  cargo_bare : All (λ (c : Crate). c.deps ≡ []) (cargo_rows live facts public n w).rows
  unfolding cargo_rows
  cargo_bare = made_bare (row_crate facts w) (λ row. refl) (rows_of (owners live w n))

  -- the crates of its rows once they stand in a graph
  pub cargo_gathered : (old mid : Graph) (made : List Owner) (want : List Edge) → n ≡ length old.crates → IsWellMadeGraph old.crates old.limit → IsPublicIn n public
      → made ≡ owners_by w 0 n w.packages files → AddsRows facts w old mid (rows_of made) → want ≡ edges_between public made
      → IsGathered old mid (cargo_rows live facts public n w) want
  cargo_gathered old mid made want is well known made_are adds want_are =
      let by = owners_by w 0 n w.packages files in
      let numbers : AreNumbered n (rows_of by) = are_numbered_by w n w.packages files in
      let wants : want ≡ edges_between public by = want_are ∙ ap (edges_between public) made_are in
      let within : All (IsWithinRows (n + length (cargo_rows live facts public n w).rows)) want =
      subst (λ k. All (IsWithinRows (n + k)) want) (sym cargo_count) (subst (λ es. All (IsWithinRows (n + length (rows_of by))) es) (sym wants) (wanted_within n public by known numbers)) in
      record {
        made = well;
        limit = adds.limit;
        fits = adds.within well.within;
        added = adds.crates ∙ ap (λ cs. map crate_seen old.crates ++ cs) (ap (λ os. map (row_crate facts w) (rows_of os)) made_are ∙ cargo_crates);
        bare = cargo_bare;
        wanted = wants ∙ cargo_wants;
        within = subst (λ k. All (IsWithinRows (k + length (cargo_rows live facts public n w).rows)) want) is within;
        behind = subst (λ k. StartBehind k want) is (subst (StartBehind n) (sym wants) (wanted_behind n public by numbers));
      }

-- the edges lie in the graph, whatever the loader has
pub cargo_within : (facts : Facts) (public : Public) (w : Workspace) (files : List (List (Option ℕ))) (old mid : Graph) (made : List Owner) (want : List Edge)
    → IsPublicIn (length old.crates) public → made ≡ owners_by w 0 (length old.crates) w.packages files → AddsRows facts w old mid (rows_of made) → want ≡ edges_between public made
    → All (IsWithinRows (length mid.crates)) want
cargo_within facts public w files old mid made want known made_are adds want_are =
    let n = length old.crates in
    let numbers : AreNumbered n (rows_of made) = subst (λ os. AreNumbered n (rows_of os)) (sym made_are) (are_numbered_by w n w.packages files) in
    subst (λ k. All (IsWithinRows k) want) (sym (count_added facts w old mid (rows_of made) adds))
    (subst (λ es. All (IsWithinRows (n + length (rows_of made))) es) (sym want_are) (wanted_within n public made known numbers))
