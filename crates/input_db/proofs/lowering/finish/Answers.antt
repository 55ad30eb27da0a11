use Rattle.std.proofs.Common.{◌≡◌, ◌<◌, ap, length, subst, sym, ◌∙◌}
use Rattle.std.specs.List.{All}
use Rattle.input_db.specs.Identity.{named_in, names_of}
use Rattle.input_db.specs.Identity.{input_of, number_in}
use Rattle.input_db.specs.declared.crate_input.CrateInput.{CrateInput}
use Rattle.input_db.specs.declared.crate_input.UniqueCrateData.{UniqueCrateData}
use Rattle.input_db.proofs.SetLemmas.{names_present}
use Rattle.input_db.proofs.lowering.finish.Goals as goal

pub put_crate-requires-clause-input : goal.put_crate-requires-clause-input
put_crate-requires-clause-input g c =
    let input : c.in_ok-input.input ≡ input_of (number_in c.args.finished.now.numbers) c.args.krate.now =
    c.in_ok-input.ensures ∙ ap (λ numbers. input_of (number_in numbers) c.args.krate.now) c.numbers.ensures in
    subst (λ (i : CrateInput). All (λ named. named < length (g.D.SourceDatabase.seen c.args.db.now).crates) (named_in i.crate_data))
    (sym input) c.requires.known

pub put_crate-requires-clause-identity : goal.put_crate-requires-clause-identity
put_crate-requires-clause-identity g c =
    subst (λ (u : UniqueCrateData). All (λ named. named < length (g.D.SourceDatabase.seen c.args.db.now).crates) (names_of u))
    (sym c.in_ok-unique.ensures)
    (names_present c.is_first_of_root.result _ _ _ _ (put_crate-requires-clause-input g c))
