use Rattle.std.proofs.Common.{◌+◌, ◌∙◌, Ok, ap, drop, sym}
use Rattle.std.proofs.lemmas.Result.{err_from_is_err_and}
use Rattle.pm_tools.specs.Script.{named_atoms}
use Rattle.pm_tools.proofs.ScriptLemmas.{before-all, before-more, before-refused, with_before}
use Rattle.pm_tools.proofs.script.atoms_of.Goals as goal

pub loop-text-preserved : goal.loop-text-preserved
loop-text-preserved c =
    before-more c.args.texts.now c.loop-text.text-index c.text-item.result c.loop-text.atoms.items c.in_ok-atom_of.field-0 (named_atoms c.args.texts.now)
    c.loop-text-test.true c.text-item.is c.loop-text.invariant c.in_ok-atom_of.ensures
    ∙ ap (λ atoms. with_before atoms (named_atoms (drop (c.loop-text.text-index + 1) c.args.texts.now))) (sym c.in_ok-push.ensures.items)

pub returns-in_err-atom_of : goal.returns-in_err-atom_of
returns-in_err-atom_of c =
    let p = err_from_is_err_and c.from_residual.result c.from_residual.ensures.1 in
    rw (p.1, p.2) (before-refused c.args.texts.now c.loop-text.text-index c.text-item.result c.loop-text.atoms.items (named_atoms c.args.texts.now) c.in_err-atom_of.field-0.0
    c.loop-text-test.true c.text-item.is c.loop-text.invariant c.in_err-atom_of.ensures)

pub returns : goal.returns
returns c = before-all c.args.texts.now c.loop-text.text-index c.loop-text.atoms.items (named_atoms c.args.texts.now) c.loop-text-test.false c.loop-text.invariant ∙ ap Ok (sym c.new.ensures)
