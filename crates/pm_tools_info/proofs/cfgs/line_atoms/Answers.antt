use Rattle.std.proofs.Common.{◌≡◌, ◌++◌, Some, None, sym, ap, ◌∙◌, append-nil, arith, length, rules}
use Rattle.std.proofs.lemmas.Iterator.Consumers.{YieldsList-at, YieldsList-end, YieldsList-turn}
use Rattle.std.proofs.lemmas.Iterator.Splits.{YieldsList-from_lines}
use Rattle.std.proofs.lemmas.List.{at_drop_all, length_push}
use Rattle.std.specs.Option.{option_map}
use Rattle.std.specs.Str.Lines.{lines}
use Rattle.base_text_outside.specs.Cfg.{atom_of}
use Rattle.pm_tools_info.specs.Cfgs.{atoms_in}
use Rattle.pm_tools_info.proofs.Atoms.{atom_taken, none_taken}
use Rattle.pm_tools_info.proofs.Lines.{one_further}
use Rattle.pm_tools_info.proofs.cfgs.line_atoms.Goals as goal

pub loop-line-preserved : goal.loop-line-preserved
loop-line-preserved c =
    let all = YieldsList-at c.into_iter-line-iterator.ensures.into_iter_gives (YieldsList-from_lines c.args.text.now c.lines-line-items.ensures.rest) in
    let turn = YieldsList-turn all c.loop-line.yielded _ c.loop-line.yielded_by _ _ c.in-Some.line c.in-Some.is c.next.ensures.steps in
    let step = one_further (λ lines. option_map (λ more. c.loop-line.atoms.items ++ more) (atoms_in lines)) (lines c.args.text.now) _ _ c.in-Some.line.now turn.0 turn.1 (length_push c.loop-line.yielded c.in-Some.line) in
    atom_taken _ _ c.in-Ok.atom _ _ c.in-Ok.ensures.ok c.in_ok-push-in-Ok.ensures.items ∙ sym step ∙ c.loop-line.invariant

pub returns-in-Err-BadCfg : goal.returns-in-Err-BadCfg
returns-in-Err-BadCfg c =
    let all = YieldsList-at c.into_iter-line-iterator.ensures.into_iter_gives (YieldsList-from_lines c.args.text.now c.lines-line-items.ensures.rest) in
    let turn = YieldsList-turn all c.loop-line.yielded _ c.loop-line.yielded_by _ _ c.in-Some.line c.in-Some.is c.next.ensures.steps in
    let step = one_further (λ lines. option_map (λ more. c.loop-line.atoms.items ++ more) (atoms_in lines)) (lines c.args.text.now) _ _ c.in-Some.line.now turn.0 turn.1 (length_push c.loop-line.yielded c.in-Some.line) in
    let bad : atom_of c.in-Some.line.now ≡ None = c.in-Err-BadCfg.ensures.bad.0 (search rules) in
    none_taken _ _ _ bad ∙ sym step ∙ c.loop-line.invariant

pub returns : goal.returns
returns c =
    let all = YieldsList-at c.into_iter-line-iterator.ensures.into_iter_gives (YieldsList-from_lines c.args.text.now c.lines-line-items.ensures.rest) in
    let done = YieldsList-end all c.loop-line.yielded _ c.loop-line.yielded_by _ _ c.in-None.is c.next.ensures.steps in
    ap Some (sym (append-nil c.loop-line.atoms.items))
    ∙ sym (at_drop_all (λ lines. option_map (λ more. c.loop-line.atoms.items ++ more) (atoms_in lines)) (lines c.args.text.now) (length c.loop-line.yielded) (omega (arith, done.1)))
    ∙ c.loop-line.invariant
