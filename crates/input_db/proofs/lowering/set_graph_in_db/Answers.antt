use Rattle.std.proofs.Common.{◌≡◌, ℕ, ◌<◌, List, ap, arith, length, refl, subst, sym, ◌∙◌}
use Rattle.std.specs.Prelude.{slice_get}
use Rattle.std.specs.List.{All}
use Rattle.graph_base.specs.Finish.{IsBehindTargets}
use Rattle.base_text_paths.specs.Paths.{IsClean}
use Rattle.crate_graph.specs.Graph.{edges}
use Rattle.crate_graph_values.specs.declared.builder.CrateBuilder.{CrateBuilder}
use Rattle.input_db.specs.Database.{Database}
use Rattle.input_db.specs.Identity.{IsTable}
use Rattle.input_db.specs.FinishSteps.{IsSetInSteps, Progress, none_finished, progress_after, with_new_list}
use Rattle.input_db.specs.SetInDb.{HaveIdentities, HoldLastInputs, IsSetInDb, KeepsOtherEntries}
use Rattle.input_db.proofs.IdentityLaws.{clean_paths, identities, shared}
use Rattle.input_db.proofs.InputLaws.{inputs, kept}
use Rattle.input_db.proofs.KnownLemmas.{given_is, given_known}
use Rattle.input_db.proofs.SetAgain.{set_again}
use Rattle.input_db.proofs.SetLemmas.{crates-with_new_list, keeps_files, listed-with_new_list, progress_after-long}
use Rattle.input_db.proofs.Run.{final_numbers}
use Rattle.input_db.proofs.RunLemmas.{run, stable}
use Rattle.input_db.proofs.lowering.set_graph_in_db.Goals as goal

pub finish_all-requires-clause-none : goal.finish_all-requires-clause-none
finish_all-requires-clause-none g c = c.in_ok-unfinished.ensures ∙ ap none_finished c.len.ensures.length

pub ids_of_numbers-requires : goal.ids_of_numbers-requires
ids_of_numbers-requires g c =
    let numbers : length c.numbers.result.now ≡ length c.args.graph.now.crates =
    ap length c.numbers.ensures ∙ ap (λ (l : Progress). length l.finished.numbers) c.in_ok-finished.ensures
    ∙ progress_after-long c.args.graph.now.crates (g.D.SourceDatabase.seen c.args.db.now) c.deref.result.now in
    omega (arith, numbers, c.len.ensures.well_made.within, c.len.ensures.well_made.fits)

pub store_list-requires : goal.store_list-requires
store_list-requires g c =
    subst (λ (ns : List ℕ). All (λ krate. krate < length (g.D.SourceDatabase.seen c.finish_all.new.db).crates) ns)
    (sym c.in_ok-given.ensures)
    (subst (λ (l : Progress). All (λ krate. krate < length l.db.crates) l.finished.given) (sym c.in_ok-finished.ensures)
    (given_known c.args.graph.now.crates (g.D.SourceDatabase.seen c.args.db.now) c.deref.result.now))

pub returns : goal.returns
returns g c =
    let crates = c.args.graph.now.crates in
    let old = g.D.SourceDatabase.seen c.args.db.now in
    let order = c.in_ok-order.order.items in
    let numbers = final_numbers crates old order in
    let behind : IsBehindTargets (edges crates) order = c.in_ok-order.ensures.behind in
    let is_run = run crates old order behind in
    let is_stable = stable crates old order behind in
    let finished : ◌≡◌ {A = Progress} (record { db = g.D.SourceDatabase.seen c.finish_all.new.db; finished = c.in_ok-finished.finished })
    (progress_after crates old order) = c.in_ok-finished.ensures ∙ ap (progress_after crates old) c.deref.ensures.value in
    let db : g.D.SourceDatabase.seen c.finish_all.new.db ≡ (progress_after crates old order).db = ap (λ (l : Progress). l.db) finished in
    let given : c.in_ok-given.given.items ≡ (progress_after crates old order).finished.given =
    c.in_ok-given.ensures ∙ ap (λ (l : Progress). l.finished.given) finished in
    let firsts = given ∙ given_is crates old order behind in
    let ends : g.D.SourceDatabase.seen c.store_list.new.db ≡ with_new_list (progress_after crates old order).db c.in_ok-given.given.items =
    c.store_list.ensures.list ∙ ap (λ (d : Database). with_new_list d c.in_ok-given.given.items) db in
    let table : (progress_after crates old order).db.crates ≡ (g.D.SourceDatabase.seen c.store_list.new.db).crates =
    sym (ap (λ (d : Database). d.crates) ends ∙ crates-with_new_list (progress_after crates old order).db c.in_ok-given.given.items) in
    let mapped : c.numbers.result.now ≡ numbers = c.numbers.ensures ∙ ap (λ (l : Progress). l.finished.numbers) finished in
    let clean : All (λ (krate : CrateBuilder). IsClean krate.basic.proc_macro_cwd) crates = c.len.ensures.well_made.clean in
    let set : IsSetInDb _ crates old (g.D.SourceDatabase.seen c.store_list.new.db) c.in_ok-ids.ids = record {
      order = order;
      numbers = numbers;
      finish_order = c.in_ok-order.ensures.order;
      behind = behind;
      every = progress_after-long crates old order;
      answer = λ id. c.in_ok-ids.ensures id ∙ ap (λ (ns : List ℕ). slice_get ns id.raw) mapped;
      identities = subst (HaveIdentities crates order numbers) table (identities crates old order behind is_run is_stable);
      shared = shared crates old order behind is_run is_stable (clean_paths crates order clean);
      inputs = subst (HoldLastInputs crates order numbers) table (inputs crates old order behind is_run is_stable);
      kept = subst (KeepsOtherEntries order numbers old.crates) table (kept crates old order behind is_run is_stable);
      table = subst IsTable (ap (λ (d : Database). d.crates) db ∙ table) c.store_list.ensures.table;
      listed = ap (λ (d : Database). d.listed) ends
          ∙ listed-with_new_list (progress_after crates old order).db c.in_ok-given.given.items ∙ firsts;
      beside = keeps_files crates old order _ _ ends;
    } in
    let steps : IsSetInSteps _ crates old (g.D.SourceDatabase.seen c.store_list.new.db) c.in_ok-ids.ids = record {
      set = set;
      numbers = refl;
      steps = ends ∙ ap (with_new_list (progress_after crates old order).db) firsts;
    } in
    record {
      steps = (steps, sym (c.into_numbers.ensures ∙ ap (λ (l : Progress). l.finished.numbers) finished));
      again = λ earlier ids last own. set_again _ crates earlier old _ ids c.in_ok-ids.ids last steps own;
    }
