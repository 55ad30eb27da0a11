-- The rows of a part once their crates stand behind those of a front, and what becomes of them when their edges are kept.
use Rattle.std.proofs.Common.{◌≡◌, ◌+◌, ◌≤◌, List, [], ◌++◌, map, length, length-append, refl, sym, ap, ◌∙◌, subst, arith}
use Rattle.std.specs.List.{All}
use Rattle.std.proofs.lemmas.List.{length-map}
use Rattle.crate_graph.specs.Graph.{Graph, IsWellMadeGraph}
use Rattle.pm_lower_crates.specs.Keeping.{AreLowered, HaveEdges, IsFrontWith, StartBehind}
use Rattle.pm_lower_crates.specs.KeptEdges.{IsWithinRows, kept_edges}
use Rattle.pm_lower_crates.specs.Lowering.{Crate, HasCratesBehind, LacksCyclesAlone, ProjectPart, crate_seen, lowered_behind, wanted_edges, with_deps}
use Rattle.pm_lower_crates.specs.WantedEdges.{Edge}
use Rattle.pm_lower_crates.proofs.FrontLemmas.{have_edges, is_front, its_crates, its_edges, lacks_behind}
use Rattle.pm_lower_crates.proofs.LoweringLemmas.{has_behind}

-- the crates of a part's rows stand behind those of a graph, and none of its edges does yet
pub record IsGathered (old mid : Graph) (part : ProjectPart) (want : List Edge) : Type 0 where
  pub made : IsWellMadeGraph old.crates old.limit
  pub limit : mid.limit ≡ old.limit
  pub fits : length mid.crates ≤ old.limit
  pub added : map crate_seen mid.crates ≡ map crate_seen old.crates ++ part.rows
  pub bare : All (λ (c : Crate). c.deps ≡ []) part.rows
  pub wanted : want ≡ wanted_edges part
  pub within : All (IsWithinRows (length old.crates + length part.rows)) want
  pub behind : StartBehind (length old.crates) want

module _ (old mid : Graph) (part : ProjectPart) (want : List Edge) (is : IsGathered old mid part want) where
  gathered_count : length mid.crates ≡ length old.crates + length part.rows
  gathered_count =
      sym (length-map mid.crates crate_seen) ∙ ap length is.added ∙ length-append (map crate_seen old.crates) part.rows
      ∙ ap (λ n. n + length part.rows) (length-map old.crates crate_seen)

  -- its rows are within the limit
  pub gathered_fits : length old.crates + length part.rows ≤ old.limit
  gathered_fits = omega (arith, is.fits, gathered_count)

  -- its edges lie in the graph
  pub gathered_within : All (IsWithinRows (length mid.crates)) want
  gathered_within = subst (λ n. All (IsWithinRows n) want) (sym gathered_count) is.within

  abbrev front : List Crate
  front = map crate_seen old.crates

  as_front : IsFrontWith front part.rows mid.crates
  as_front = is_front old.crates mid.crates old.limit part.rows is.made is.added is.bare

  -- with the edges it has the crates of the lowering
  pub gathered_has : (new : Graph) → part.bad_names ≡ [] → new.limit ≡ mid.limit
      → ((front rows : List Crate) → IsFrontWith front rows mid.crates → StartBehind (length front) want → map crate_seen new.crates ≡ front ++ with_deps (kept_edges want) (length front) rows)
      → HasCratesBehind old new (lowered_behind old.limit (length old.crates) part)
  gathered_has new good limit keeps =
      has_behind old new part (length old.crates) want refl (limit ∙ is.limit) gathered_fits good is.wanted
      (keeps front part.rows as_front (subst (λ n. StartBehind n want) (sym (length-map old.crates crate_seen)) is.behind))

  -- and lacks those alone that would close a cycle
  pub gathered_lacks : (new : Graph)
      → ((before : List Edge) (bare : List Crate) → HaveEdges before mid.crates bare → AreLowered before bare want new.crates)
      → LacksCyclesAlone (wanted_edges part) new.crates
  gathered_lacks new keeps =
      subst (λ es. LacksCyclesAlone es new.crates) is.wanted
      (lacks_behind old.crates mid.crates new.crates old.limit part.rows want is.made as_front gathered_within
      (keeps (its_edges front part.rows mid.crates as_front) (its_crates front part.rows mid.crates as_front) (have_edges front part.rows mid.crates as_front)))
