use Rattle.std.proofs.Common.{◌≡◌, [], ◌∷◌, ◌++◌, true, false, None, length, sym, ap, ◌∙◌, refl, slice_get, not, ◌==◌}
use Rattle.std.specs.Option.{option_copied}
use Rattle.std.proofs.lemmas.Result.{err_from_is_err_and}
use Rattle.crate_graph_values.specs.Names.{has_dash}
use Rattle.base_text_paths.specs.Arena.{number_of}
use Rattle.pm_lower_crates.specs.WantedEdges.{is_delayed, is_for, to_lib}
use Rattle.pm_lower_crates.proofs.EdgeLemmas.{part_more, part_all, without_owner, without_library, with_library, row_asks, row_asks_other, row_asks_none, same_is, unlike, good_without_library, bad_with_dash, library_there, library_nowhere, bad_weaker}
use Rattle.pm_lower_crates.proofs.edges.add_dependency.Goals as goal
use Rattle.pm_lower_crates.proofs.edges.add_dependency.Goals.{In_default, then-is_for+in_ok-try_clone+then-is_delayed+in_ok-push, then-is_for+in_ok-try_clone+else-is_delayed+in_ok-push-2, else-is_for}

no_owner : (c : In_default) → slice_get c.args.owners.now (number_of c.args.dependency.now.pkg) ≡ None
no_owner c = sym c.owner_at.ensures ∙ ap option_copied c.in_default.is

pub returns-in_default-clause-edges : goal.returns-in_default-clause-edges
returns-in_default-clause-edges c = without_owner false c.args.owners.now c.args.from.now c.args.dependency.now c.args.edges.now.items (no_owner c)

pub returns-in_default-clause-delayed : goal.returns-in_default-clause-delayed
returns-in_default-clause-delayed c = without_owner true c.args.owners.now c.args.from.now c.args.dependency.now c.args.delayed.now.items (no_owner c)

pub returns-in_default-clause-good : goal.returns-in_default-clause-good
returns-in_default-clause-good c = good_without_library c.args.owners.now c.args.from.now c.args.dependency.now (library_nowhere c.args.owners.now (number_of c.args.dependency.now.pkg) (no_owner c))

pub returns-in_default-library-clause-edges : goal.returns-in_default-library-clause-edges
returns-in_default-library-clause-edges c =
    without_library false c.args.owners.now c.args.from.now c.args.dependency.now c.in-Some.to.now c.args.edges.now.items (sym c.owner_at.ensures ∙ ap option_copied c.in-Some.is) (sym c.library.ensures ∙ ap option_copied c.in_default-library.is)

pub returns-in_default-library-clause-delayed : goal.returns-in_default-library-clause-delayed
returns-in_default-library-clause-delayed c =
    without_library true c.args.owners.now c.args.from.now c.args.dependency.now c.in-Some.to.now c.args.delayed.now.items (sym c.owner_at.ensures ∙ ap option_copied c.in-Some.is) (sym c.library.ensures ∙ ap option_copied c.in_default-library.is)

pub returns-in_default-library-clause-good : goal.returns-in_default-library-clause-good
returns-in_default-library-clause-good c = good_without_library c.args.owners.now c.args.from.now c.args.dependency.now
    (library_there c.args.owners.now (number_of c.args.dependency.now.pkg) c.in-Some.to.now (sym c.owner_at.ensures ∙ ap option_copied c.in-Some.is) ∙ sym c.library.ensures ∙ ap option_copied c.in_default-library.is)

pub returns-in_err-name-clause-bad : goal.returns-in_err-name-clause-bad
returns-in_err-name-clause-bad c =
    let p = err_from_is_err_and c.from_residual.result c.from_residual.ensures.1 in
    let d = c.args.dependency.now in
    let there = library_there c.args.owners.now (number_of d.pkg) c.in-Some.to.now (sym c.owner_at.ensures ∙ ap option_copied c.in-Some.is) ∙ sym c.library.ensures ∙ ap option_copied c.in-Some-library.is in
    let rows : (length c.args.from.now.rows == 0) ≡ false = ap (λ rs. length rs == 0) (sym c.rows.ensures) ∙ sym c.is_empty.ensures ∙ c.if-is_empty.false in
    rw (p.1, p.2) (bad_weaker c.in_err-name.field-0.0 (λ name. (name ≡ d.name) × (has_dash name ≡ true)) _
    (λ name h. bad_with_dash c.args.owners.now c.args.from.now d c.in-Some-library.library.now rows there (ap has_dash (sym h.0) ∙ h.1) ∙ ap (λ n. n ∷ []) (sym h.0))
    c.in_err-name.ensures.bad)

pub loop-row-preserved : goal.loop-row-preserved
loop-row-preserved c =
    let from = c.args.from.now in
    let d = c.args.dependency.now in
    let to = c.in-Some.to.now in
    let lib = c.in-Some-library.library.now in
    let row = c.row-item.result in
    let now = part_more (to_lib false from d to lib) c.args.edges.now.items c.loop-row.edges.items c.if-is_for.edges.items c.rows-row-items.result.now c.loop-row.row-index row c.loop-row-test.true c.row-item.is c.loop-row.invariant.edges in
    let late = part_more (to_lib true from d to lib) c.args.delayed.now.items c.loop-row.delayed.items c.if-is_for.delayed.items c.rows-row-items.result.now c.loop-row.row-index row c.loop-row-test.true c.row-item.is c.loop-row.invariant.delayed in
    elim c.if-is_for.branch [
      | then-is_for+in_ok-try_clone+then-is_delayed+in_ok-push w ↦
          let its : is_for d row ≡ true = sym c.is_for.ensures ∙ w.if-is_for.true in
          let waits : is_delayed from d to row ≡ true = sym w.is_delayed.ensures ∙ w.if-is_delayed.true in
          record {
            edges = now (rw w.edges-is (row_asks_other false from d to lib row c.loop-row.edges.items its (unlike false (is_delayed from d to row) (sym (ap not waits)))));
            delayed = late (rw (w.delayed-is, w.in_ok-push.ensures.items) (ap (λ es. c.loop-row.delayed.items ++ es) (row_asks true from d to lib row w.new-edge.result its (same_is true (is_delayed from d to row) (sym waits)) (rw (w.new-edge.ensures, w.in_ok-try_clone.ensures, c.in_ok-name.ensures.ok.0, w.number.ensures, w.number-then-is_for.ensures) refl))));
          }
      | then-is_for+in_ok-try_clone+else-is_delayed+in_ok-push-2 w ↦
          let its : is_for d row ≡ true = sym c.is_for.ensures ∙ w.if-is_for.true in
          let waits : is_delayed from d to row ≡ false = sym w.is_delayed.ensures ∙ w.if-is_delayed.false in
          record {
            edges = now (rw (w.edges-is, w.in_ok-push-2.ensures.items) (ap (λ es. c.loop-row.edges.items ++ es) (row_asks false from d to lib row w.new-edge.result its (same_is false (is_delayed from d to row) (sym waits)) (rw (w.new-edge.ensures, w.in_ok-try_clone.ensures, c.in_ok-name.ensures.ok.0, w.number.ensures, w.number-then-is_for.ensures) refl))));
            delayed = late (rw w.delayed-is (row_asks_other true from d to lib row c.loop-row.delayed.items its (unlike true (is_delayed from d to row) (sym (ap not waits)))));
          }
      | else-is_for w ↦
          let its : is_for d row ≡ false = sym c.is_for.ensures ∙ w.if-is_for.false in
          record {
            edges = now (rw w.edges-is (row_asks_none false from d to lib row c.loop-row.edges.items its));
            delayed = late (rw w.delayed-is (row_asks_none true from d to lib row c.loop-row.delayed.items its));
          }
    ]

pub returns-clause-edges : goal.returns-clause-edges
returns-clause-edges c =
    with_library false c.args.owners.now c.args.from.now c.args.dependency.now c.in-Some.to.now c.in-Some-library.library.now c.args.edges.now.items c.loop-row.edges.items c.rows-row-items.result.now
    (sym c.owner_at.ensures ∙ ap option_copied c.in-Some.is) (sym c.library.ensures ∙ ap option_copied c.in-Some-library.is) c.rows-row-items.ensures
    (part_all (to_lib false c.args.from.now c.args.dependency.now c.in-Some.to.now c.in-Some-library.library.now) c.args.edges.now.items c.loop-row.edges.items c.rows-row-items.result.now c.loop-row.row-index c.loop-row-test.false c.loop-row.invariant.edges)

pub returns-clause-delayed : goal.returns-clause-delayed
returns-clause-delayed c =
    with_library true c.args.owners.now c.args.from.now c.args.dependency.now c.in-Some.to.now c.in-Some-library.library.now c.args.delayed.now.items c.loop-row.delayed.items c.rows-row-items.result.now
    (sym c.owner_at.ensures ∙ ap option_copied c.in-Some.is) (sym c.library.ensures ∙ ap option_copied c.in-Some-library.is) c.rows-row-items.ensures
    (part_all (to_lib true c.args.from.now c.args.dependency.now c.in-Some.to.now c.in-Some-library.library.now) c.args.delayed.now.items c.loop-row.delayed.items c.rows-row-items.result.now c.loop-row.row-index c.loop-row-test.false c.loop-row.invariant.delayed)
