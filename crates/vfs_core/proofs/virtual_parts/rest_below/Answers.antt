use Rattle.std.proofs.Common.{◌∙◌, ap, rules, sym, Some}
use Rattle.vfs_core.specs.VirtualPath.{trim_back}
use Rattle.vfs_core.proofs.TrimLemmas.{begins_all, begins_more, begins_other, begins_short, behind_more, rest_none, rest_some, same_name}
use Rattle.vfs_core.proofs.virtual_parts.rest_below.Goals as goal

pub returns-in_err-first : goal.returns-in_err-first
returns-in_err-first c =
    let none = begins_short _ _ _ _ c.in-Some.ensures c.in_err-first.ensures in
    rw c.from_residual.ensures (sym (rest_none _ _ (sym c.loop-part.invariant.2 ∙ none)))

pub returns-then-ne : goal.returns-then-ne
returns-then-ne c =
    let none = begins_other _ _ _ _ _ _ c.in-Some.ensures c.in_ok-first.ensures (sym c.ne.ensures ∙ c.if-ne.true) in
    sym (rest_none _ _ (sym c.loop-part.invariant.2 ∙ none))

pub loop-part-preserved : goal.loop-part-preserved
loop-part-preserved c =
    let same = same_name c.in_ok-first.first.now c.in-Some.part.now (sym c.ne.ensures ∙ c.if-ne.false) in (
      search rules,
      search rules,
      sym (begins_more _ _ _ _ _ _ c.in-Some.ensures c.in_ok-first.ensures same) ∙ c.loop-part.invariant.2,
      behind_more _ _ _ _ _ _ c.in-Some.ensures c.in_ok-first.ensures ∙ c.loop-part.invariant.3,
    )

pub returns : goal.returns
returns c =
    let all = begins_all c.loop-part.wanted.now c.loop-part.rest.now c.in_default.ensures in
    ap Some (c.trim_back.ensures ∙ ap trim_back c.trim_front.ensures)
    ∙ sym (rest_some c.args.front.now c.args.whole.now c.loop-part.wanted.now c.loop-part.rest.now
    (sym c.loop-part.invariant.2 ∙ all) c.in_default.ensures c.loop-part.invariant.3)
