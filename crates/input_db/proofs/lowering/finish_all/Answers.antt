use Rattle.std.proofs.Common.{◌≡◌, ◌<◌, ◌≤◌, Some, ap, arith, get_or, length, subst, sym, ◌∙◌, ◌+◌, suc}
use Rattle.std.specs.Prelude.{slice_get}
use Rattle.std.specs.List.{All}
use Rattle.std.specs.Option.{option_and_then}
use Rattle.std.proofs.lemmas.List.Elements.{Contains-get_or}
use Rattle.std.proofs.lemmas.List.{take_all}
use Rattle.std.proofs.lemmas.Option.{slice_get-get_or}
use Rattle.input_db.specs.Identity.{named_in}
use Rattle.input_db.specs.Identity.{data_of, number_in}
use Rattle.input_db.specs.FinishSteps.{FinishedCrates, Progress, finish_crate, progress_after}
use Rattle.input_db.specs.SetInDb.{finished_crate}
use Rattle.crate_graph.proofs.ExtendLemmas.{targets_within}
use Rattle.crate_graph.proofs.GraphLemmas.{length-edges}
use Rattle.input_db.proofs.KnownLemmas.{known}
use Rattle.input_db.proofs.Run.{before}
use Rattle.input_db.proofs.RunLemmas.{before_more, finish-at, long}
use Rattle.input_db.proofs.lowering.finish_all.Given.{Over}
use Rattle.input_db.proofs.lowering.finish_all.Goals as goal

pub loop-number-init : goal.loop-number-init
loop-number-init g c =
    ap (λ (f : FinishedCrates). record { db = g.D.SourceDatabase.seen c.args.db.now; finished = f })
    c.requires.none

pub index-krate-requires : goal.index-krate-requires
index-krate-requires g c =
    let within : c.loop-number.number-index < length c.args.order.now = omega (arith, c.loop-number-test.true) in
    let fits = (c.requires.behind.all (get_or c.args.order.now c.loop-number.number-index 0)).0
    (Contains-get_or c.args.order.now c.loop-number.number-index 0 within) in
    omega (arith, fits, length-edges c.args.graph.now.crates, c.from_raw.ensures)

-- there is a number for each crate
numbers-long : (g : Over) (c : goal.After-finished-1 g) → length c.loop-number.finished.numbers ≡ length c.args.graph.now.crates
numbers-long g c = ap (λ (l : Progress). length l.finished.numbers) c.loop-number.invariant
    ∙ long c.args.graph.now.crates (g.D.SourceDatabase.seen c.args.db.now) c.args.order.now c.loop-number.number-index

-- the crate is that of its number
crate-is : (g : Over) (c : goal.After-finished-1 g)
    → slice_get c.args.graph.now.crates (get_or c.args.order.now c.loop-number.number-index 0) ≡ Some c.index-krate.result.now
crate-is g c = ap (slice_get c.args.graph.now.crates) (sym c.from_raw.ensures) ∙ c.index-krate.ensures

-- and it stands at its place of the order
crate-at : (g : Over) (c : goal.After-finished-1 g)
    → finished_crate c.args.graph.now.crates c.args.order.now c.loop-number.number-index ≡ Some c.index-krate.result.now
crate-at g c =
    let within : c.loop-number.number-index < length c.args.order.now = omega (arith, c.loop-number-test.true) in
    ap (option_and_then (slice_get c.args.graph.now.crates)) (slice_get-get_or c.args.order.now c.loop-number.number-index 0 within)
    ∙ crate-is g c

pub finish-requires-clause-number : goal.finish-requires-clause-number
finish-requires-clause-number g c =
    let within : c.loop-number.number-index < length c.args.order.now = omega (arith, c.loop-number-test.true) in
    let fits = (c.requires.behind.all (get_or c.args.order.now c.loop-number.number-index 0)).0
    (Contains-get_or c.args.order.now c.loop-number.number-index 0 within) in
    omega (arith, fits, length-edges c.args.graph.now.crates, numbers-long g c)

pub finish-requires-clause-targets : goal.finish-requires-clause-targets
finish-requires-clause-targets g c =
    targets_within c.args.graph.now.crates _ c.index-krate.result.now _ c.requires.well_made.in_range (numbers-long g c) (crate-is g c)

pub finish-requires-clause-known : goal.finish-requires-clause-known
finish-requires-clause-known g c =
    subst (λ (l : Progress). All (λ named. named < length l.db.crates) (named_in (data_of (number_in l.finished.numbers) c.index-krate.result.now)))
    (sym c.loop-number.invariant)
    (known c.args.graph.now.crates (g.D.SourceDatabase.seen c.args.db.now) c.args.order.now c.requires.behind c.loop-number.number-index
    c.index-krate.result.now (crate-at g c))

pub loop-number-preserved : goal.loop-number-preserved
loop-number-preserved g c =
    let crates = c.args.graph.now.crates in
    let old = g.D.SourceDatabase.seen c.args.db.now in
    let k = c.loop-number.number-index in
    let n = get_or c.args.order.now k 0 in
    let within : k < length c.args.order.now = omega (arith, c.loop-number-test.true) in
    let at : slice_get crates n ≡ Some c.index-krate.result.now =
    ap (slice_get crates) (sym c.from_raw.ensures) ∙ c.index-krate.ensures in
    let next : k + 1 ≡ suc k = omega arith in
    c.in_ok-finish.ensures
    ∙ ap (λ (l : Progress). finish_crate l n c.index-krate.result.now) c.loop-number.invariant
    ∙ sym (finish-at crates (before crates old c.args.order.now k) n c.index-krate.result.now at)
    ∙ sym (before_more crates old c.args.order.now k within)
    ∙ ap (before crates old c.args.order.now) (sym next)

pub returns : goal.returns
returns g c =
    let all : c.loop-number.number-index ≡ length c.args.order.now = omega (arith, c.loop-number-test.false, c.loop-number.auto.number-index-end) in
    let past : length c.args.order.now ≤ c.loop-number.number-index = omega (arith, all) in
    c.loop-number.invariant
    ∙ ap (λ ns. progress_after c.args.graph.now.crates (g.D.SourceDatabase.seen c.args.db.now) ns)
    (take_all c.loop-number.number-index c.args.order.now past)
