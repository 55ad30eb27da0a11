-- The rows of a project as they are gathered.
use Rattle.std.proofs.Common.{◌≡◌, ℕ, ◌+◌, List, [], ◌++◌, map, length, Option, refl, sym, ap, ◌∙◌, subst}
use Rattle.std.specs.List.{All, range_with_len}
use Rattle.std.proofs.lemmas.List.{length-map}
use Rattle.crate_graph.specs.Graph.{Graph, IsWellMadeGraph}
use Rattle.pm_json.specs.Queries.{crates_in}
use Rattle.pm_json.specs.declared.project_json.ProjectJson.{ProjectJson}
use Rattle.pm_lower_crates.specs.Loader.{FileNumbers}
use Rattle.pm_lower_crates.specs.Facts.{Facts}
use Rattle.pm_lower_crates.specs.Front.{IsPublicIn}
use Rattle.pm_lower_crates.specs.Keeping.{StartBehind}
use Rattle.pm_lower_crates.specs.KeptEdges.{IsWithinRows}
use Rattle.pm_lower_crates.specs.Lowering.{Crate, crate_seen, wanted_edges}
use Rattle.pm_lower_crates.specs.WantedEdges.{Edge, Public}
use Rattle.pm_lower_crates.proofs.GatheredLemmas.{IsGathered}
use Rattle.pm_lower_crates.proofs.LoweringLemmas.{made_bare}
use Rattle.pm_lower_crates.proofs.WithinLemmas.{more_public}
use Rattle.pm_lower_crates.specs.JsonGathering.{AddsJsonRows, json_edges_among}
use Rattle.pm_lower_crates.specs.JsonLowering.{json_rows, json_row_crate}
use Rattle.pm_lower_crates.specs.JsonRows.{JsonRow, rows_among, rows_by_place}
use Rattle.pm_lower_crates.proofs.JsonEdgeLemmas.{wanted_are_gathered, wanted_behind, wanted_within}
use Rattle.pm_lower_crates.proofs.JsonRowLemmas.{numbers_from, rows_above, rows_below}

module _ (files : FileNumbers) (facts : Facts) (public : Public) (n : ℕ) (project : ProjectJson) where
  abbrev by_place : List (Option JsonRow)
  by_place = rows_by_place files n project

  -- how many rows it has
  pub json_count : length (json_rows files facts public n project).rows ≡ length (rows_among (rows_by_place files n project))
  unfolding json_rows
  json_count = length-map (rows_among by_place) (json_row_crate facts project)

  -- no name is bad
  pub json_names : (json_rows files facts public n project).bad_names ≡ []
  unfolding json_rows
  json_names = refl

  json_wants : json_edges_among public by_place ≡ wanted_edges (json_rows files facts public n project)
  unfolding json_rows
  json_wants = sym (wanted_are_gathered public by_place 1)

  json_crates : map (json_row_crate facts project) (rows_among by_place) ≡ (json_rows files facts public n project).rows
  unfolding json_rows
  json_crates = refl

  json_bare : All (λ (c : Crate). c.deps ≡ []) (json_rows files facts public n project).rows
  unfolding json_rows
  json_bare = made_bare (json_row_crate facts project) (λ row. refl) (rows_among by_place)

  -- the crates of its rows once they stand in a graph
  pub json_gathered : (old mid : Graph) (made : List (Option JsonRow)) (want : List Edge) → n ≡ length old.crates → IsWellMadeGraph old.crates old.limit → IsPublicIn n public
      → made ≡ rows_by_place files n project → AddsJsonRows facts project old mid (rows_among made) → want ≡ json_edges_among public made
      → IsGathered old mid (json_rows files facts public n project) want
  json_gathered old mid made want is well known made_are adds want_are =
      let rows = rows_among by_place in
      let numbers : map (λ (r : JsonRow). r.number) rows ≡ range_with_len n (length rows) = numbers_from files 0 n (crates_in project) in
      let wants : want ≡ json_edges_among public by_place = want_are ∙ ap (json_edges_among public) made_are in
      let within : All (IsWithinRows (n + length (json_rows files facts public n project).rows)) want =
      subst (λ k. All (IsWithinRows (n + k)) want) (sym json_count)
      (subst (λ es. All (IsWithinRows (n + length rows)) es) (sym wants)
      (wanted_within (n + length rows) public (more_public n (length rows) public known) by_place (rows_below n rows numbers))) in
      record {
        made = well;
        limit = adds.limit;
        fits = adds.within well.within;
        added = adds.crates ∙ ap (λ cs. map crate_seen old.crates ++ cs) (ap (λ rs. map (json_row_crate facts project) (rows_among rs)) made_are ∙ json_crates);
        bare = json_bare;
        wanted = wants ∙ json_wants;
        within = subst (λ k. All (IsWithinRows (k + length (json_rows files facts public n project).rows)) want) is within;
        behind = subst (λ k. StartBehind k want) is (subst (StartBehind n) (sym wants) (wanted_behind n public by_place (rows_above n rows numbers)));
      }
