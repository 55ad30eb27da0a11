use Rattle.std.proofs.Common.{◌≡◌, ◌∙◌, [], ◌∷◌, ◌++◌, Some, ap, arith, length, map, refl, subst, sym}
use Rattle.std.proofs.lemmas.Result.{err_from_is_err_and}
use Rattle.crate_graph.specs.Graph.{Graph}
use Rattle.pm_lower_crates.specs.Facts.{facts_of}
use Rattle.pm_lower_crates.specs.Lowering.{crate_seen, lowered_behind}
use Rattle.pm_lower_crates.specs.Refusal.{Refuses}
use Rattle.pm_lower_crates.specs.WantedEdges.{to_public}
use Rattle.pm_lower_crates.proofs.GatheredLemmas.{IsGathered, gathered_has, gathered_lacks, gathered_within}
use Rattle.pm_lower_crates.proofs.LoweringLemmas.{refuses_past}
use Rattle.pm_lower_crates.proofs.RowLemmas.{limit_weaker}
use Rattle.pm_lower_crates.specs.DetachedLowering.{file_crate, file_part}
use Rattle.pm_lower_crates.proofs.AloneLemmas.{alone_none, alone_one, part_names}
use Rattle.pm_lower_crates.proofs.detached_lowering.graph_of.Goals.{in-Some+in_ok-add_crate+in_ok-add_public, in_default}
use Rattle.pm_lower_crates.proofs.detached_lowering.graph_of.Goals as goal

pub returns-in_err-add_crate-clause-lowers : goal.returns-in_err-add_crate-clause-lowers
returns-in_err-add_crate-clause-lowers g c =
    let file = c.args.file.now in
    let facts = facts_of g.O.BuildOutputs.output_at g.O.BuildOutputs.is_failed c.args.facts.now in
    let front = c.args.front in
    let n = length front.graph.crates in
    let e = c.in_err-add_crate.field-0.0 in
    let p = err_from_is_err_and c.from_residual.result c.from_residual.ensures.1 in
    let refuses : Refuses e (lowered_behind front.graph.limit n (file_part facts front.public n file c.args.number)) =
    subst (λ o. Refuses e (lowered_behind front.graph.limit n (file_part facts front.public n file o))) (sym c.in-Some.is)
    (refuses_past front.graph.limit n (file_part facts front.public n file (Some c.in-Some.number)) e
    (limit_weaker e _ _ (λ full. let past = subst (λ (old : Graph). length old.crates ≡ old.limit) c.into_parts-graph.ensures.graph full in omega (arith, past)) c.in_err-add_crate.ensures.full)) in
    rw (p.1, p.2) refuses

pub keep_edges-requires : goal.keep_edges-requires
keep_edges-requires g c =
    let file = c.args.file.now in
    let facts = facts_of g.O.BuildOutputs.output_at g.O.BuildOutputs.is_failed c.args.facts.now in
    let front = c.args.front in
    let n = length front.graph.crates in
    let well = c.into_parts-graph.ensures.well_made in
    let same = c.into_parts-graph.ensures.graph in
    let gathered : IsGathered front.graph c.match-number.graph (file_part facts front.public n file c.args.number) c.match-number.edges.items =
    elim c.match-number.branch [
      | in-Some+in_ok-add_crate+in_ok-add_public w ↦
          let number = w.in-Some.number in
          let wants : w.add_public.new.edges.items ≡ [] ++ map (to_public n) front.public.rows =
          w.in_ok-add_public.ensures ∙ ap (λ es. es ++ map (to_public c.size-source.result) c.into_parts-graph.result.1.rows) c.new-edges.ensures.items
          ∙ (λ i. [] ++ map (to_public (c.size-source.ensures i)) (c.into_parts-graph.ensures.public i).rows) in
          let added = w.in_ok-add_crate.ensures.added ∙ ap (λ (old : Graph). map crate_seen old.crates ++ file_crate facts file number ∷ []) same in
          let room = subst (λ (old : Graph). length old.crates ≡ old.limit → ⊥) same w.in_ok-add_crate.ensures.room in
          let one = alone_one facts front.public file front.graph w.add_crate.new.graph well n number w.add_public.new.edges.items refl c.into_parts-graph.ensures.within wants
          (w.in_ok-add_crate.ensures.limit ∙ ap (λ (old : Graph). old.limit) same) added room in
          subst (λ o. IsGathered front.graph c.match-number.graph (file_part facts front.public n file o) c.match-number.edges.items) (sym w.in-Some.is)
          (rw (w.graph-is, w.edges-is) one)
      | in_default w ↦
          let none = alone_none facts front.public file front.graph c.match-number.graph well n c.match-number.edges.items (ap (λ v. v.items) w.edges-is ∙ c.new-edges.ensures.items) (w.graph-is ∙ same) in
          subst (λ o. IsGathered front.graph c.match-number.graph (file_part facts front.public n file o) c.match-number.edges.items) (sym w.in_default.is) none
    ] in
    gathered_within front.graph c.match-number.graph (file_part facts front.public n file c.args.number) c.match-number.edges.items gathered

pub returns-clause-lowers : goal.returns-clause-lowers
returns-clause-lowers g c =
    let file = c.args.file.now in
    let facts = facts_of g.O.BuildOutputs.output_at g.O.BuildOutputs.is_failed c.args.facts.now in
    let front = c.args.front in
    let n = length front.graph.crates in
    let well = c.into_parts-graph.ensures.well_made in
    let same = c.into_parts-graph.ensures.graph in
    let gathered : IsGathered front.graph c.match-number.graph (file_part facts front.public n file c.args.number) c.match-number.edges.items =
    elim c.match-number.branch [
      | in-Some+in_ok-add_crate+in_ok-add_public w ↦
          let number = w.in-Some.number in
          let wants : w.add_public.new.edges.items ≡ [] ++ map (to_public n) front.public.rows =
          w.in_ok-add_public.ensures ∙ ap (λ es. es ++ map (to_public c.size-source.result) c.into_parts-graph.result.1.rows) c.new-edges.ensures.items
          ∙ (λ i. [] ++ map (to_public (c.size-source.ensures i)) (c.into_parts-graph.ensures.public i).rows) in
          let added = w.in_ok-add_crate.ensures.added ∙ ap (λ (old : Graph). map crate_seen old.crates ++ file_crate facts file number ∷ []) same in
          let room = subst (λ (old : Graph). length old.crates ≡ old.limit → ⊥) same w.in_ok-add_crate.ensures.room in
          let one = alone_one facts front.public file front.graph w.add_crate.new.graph well n number w.add_public.new.edges.items refl c.into_parts-graph.ensures.within wants
          (w.in_ok-add_crate.ensures.limit ∙ ap (λ (old : Graph). old.limit) same) added room in
          subst (λ o. IsGathered front.graph c.match-number.graph (file_part facts front.public n file o) c.match-number.edges.items) (sym w.in-Some.is)
          (rw (w.graph-is, w.edges-is) one)
      | in_default w ↦
          let none = alone_none facts front.public file front.graph c.match-number.graph well n c.match-number.edges.items (ap (λ v. v.items) w.edges-is ∙ c.new-edges.ensures.items) (w.graph-is ∙ same) in
          subst (λ o. IsGathered front.graph c.match-number.graph (file_part facts front.public n file o) c.match-number.edges.items) (sym w.in_default.is) none
    ] in
    gathered_has front.graph c.match-number.graph (file_part facts front.public n file c.args.number) c.match-number.edges.items gathered c.keep_edges.new.graph
    (part_names facts front.public n file c.args.number) c.in_ok-keep_edges.ensures.limit c.in_ok-keep_edges.ensures.behind

pub returns-clause-missing : goal.returns-clause-missing
returns-clause-missing g c =
    let file = c.args.file.now in
    let facts = facts_of g.O.BuildOutputs.output_at g.O.BuildOutputs.is_failed c.args.facts.now in
    let front = c.args.front in
    let n = length front.graph.crates in
    let well = c.into_parts-graph.ensures.well_made in
    let same = c.into_parts-graph.ensures.graph in
    let gathered : IsGathered front.graph c.match-number.graph (file_part facts front.public n file c.args.number) c.match-number.edges.items =
    elim c.match-number.branch [
      | in-Some+in_ok-add_crate+in_ok-add_public w ↦
          let number = w.in-Some.number in
          let wants : w.add_public.new.edges.items ≡ [] ++ map (to_public n) front.public.rows =
          w.in_ok-add_public.ensures ∙ ap (λ es. es ++ map (to_public c.size-source.result) c.into_parts-graph.result.1.rows) c.new-edges.ensures.items
          ∙ (λ i. [] ++ map (to_public (c.size-source.ensures i)) (c.into_parts-graph.ensures.public i).rows) in
          let added = w.in_ok-add_crate.ensures.added ∙ ap (λ (old : Graph). map crate_seen old.crates ++ file_crate facts file number ∷ []) same in
          let room = subst (λ (old : Graph). length old.crates ≡ old.limit → ⊥) same w.in_ok-add_crate.ensures.room in
          let one = alone_one facts front.public file front.graph w.add_crate.new.graph well n number w.add_public.new.edges.items refl c.into_parts-graph.ensures.within wants
          (w.in_ok-add_crate.ensures.limit ∙ ap (λ (old : Graph). old.limit) same) added room in
          subst (λ o. IsGathered front.graph c.match-number.graph (file_part facts front.public n file o) c.match-number.edges.items) (sym w.in-Some.is)
          (rw (w.graph-is, w.edges-is) one)
      | in_default w ↦
          let none = alone_none facts front.public file front.graph c.match-number.graph well n c.match-number.edges.items (ap (λ v. v.items) w.edges-is ∙ c.new-edges.ensures.items) (w.graph-is ∙ same) in
          subst (λ o. IsGathered front.graph c.match-number.graph (file_part facts front.public n file o) c.match-number.edges.items) (sym w.in_default.is) none
    ] in
    gathered_lacks front.graph c.match-number.graph (file_part facts front.public n file c.args.number) c.match-number.edges.items gathered c.keep_edges.new.graph c.in_ok-keep_edges.ensures.keeps
