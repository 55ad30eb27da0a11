use Rattle.std.proofs.Common.{◌≡◌, ◌↔◌, ◌∷◌, ◌∙◌, ℕ, List, ap, arith, filter, length, subst, sym}
use Rattle.std.specs.List.{Contains}
use Rattle.std.proofs.lemmas.Result.{IfOk-weaker}
use Rattle.graph_base.specs.Edges.{IsAscending}
use Rattle.graph_base.specs.Reach.{Reaches}
use Rattle.input_db.specs.Identity.{crate_edges}
use Rattle.input_db.specs.Queries.{AreMarksOf, is_marked, others}
use Rattle.input_db.proofs.Dependents.{dependents_same, edges-long, marks_fit}
use Rattle.input_db.proofs.Filtered.{ascending_filtered}
use Rattle.input_db.proofs.ItselfFirst.{first_once}
use Rattle.input_db.proofs.crate_input.Crate.transitive_rev_deps.Goals as goal

pub marked_among-requires : goal.marked_among-requires
marked_among-requires g c =
    let table = c.crates_map-table.result.now in
    marks_fit (crate_edges table) c.in_ok-back.back c.number.result c.in_ok-reaching.reaching.items c.deref.result.now
    c.deref-2.result.now c.deref.ensures.value c.in_ok-reaching.ensures.exact c.in_ok-back.ensures.reach
    (omega (arith, c.requires, c.number.ensures, ap length c.crates_map-table.ensures, edges-long table))
    (ap length c.deref-2.ensures.value ∙ c.in_ok-is_listed.ensures.count ∙ c.len.ensures.length ∙ sym (edges-long table))

pub returns-clause-exact : goal.returns-clause-exact
returns-clause-exact g c =
    let db = g.D.SourceDatabase.seen c.args.db.now in
    let back = c.in_ok-back.back in
    let reaching = c.in_ok-reaching.reaching.items in
    let marks = c.in_ok-is_listed.is_listed.items in
    let found : (b : ℕ) → Contains reaching b ↔ Reaches back c.args.self b =
    subst (λ (n : ℕ). (b : ℕ) → Contains reaching b ↔ Reaches back n b) c.number.ensures c.in_ok-reaching.ensures.exact in
    let leads_back : (a b : ℕ) → Reaches back b a ↔ Reaches (crate_edges db.crates) a b =
    subst (λ (h : List (List ℕ)). (a b : ℕ) → Reaches back b a ↔ Reaches h a b) (ap crate_edges c.crates_map-table.ensures)
    c.in_ok-back.ensures.reach in
    let kept : c.deref-3.result.now ≡ filter (is_marked marks) reaching =
    c.deref-3.ensures.value ∙ c.in_ok-dependents.ensures
    ∙ ap (λ ms. filter (is_marked ms) c.deref.result.now) c.deref-2.ensures.value
    ∙ ap (filter (is_marked marks)) c.deref.ensures.value in
    IfOk-weaker c.itself_first.result _ _
    (λ crates is. dependents_same (crate_edges db.crates) back c.args.self db.listed marks reaching crates.items found leads_back
    (subst (AreMarksOf marks) c.all_crates.ensures.list c.in_ok-is_listed.ensures.listed)
    (is ∙ ap (λ ns. c.args.self ∷ others c.args.self ns) kept))
    c.itself_first.ensures

pub returns-clause-once : goal.returns-clause-once
returns-clause-once g c =
    let ascending = subst IsAscending (sym c.deref.ensures.value) c.in_ok-reaching.ensures.ascending in
    let kept = ascending_filtered (is_marked c.deref-2.result.now) c.deref.result.now ascending in
    let left = subst IsAscending (sym (c.deref-3.ensures.value ∙ c.in_ok-dependents.ensures)) kept in
    IfOk-weaker c.itself_first.result _ _ (λ crates is. first_once c.args.self c.deref-3.result.now crates.items is left)
    c.itself_first.ensures
