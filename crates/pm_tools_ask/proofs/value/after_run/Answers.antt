use Rattle.std.proofs.Common.{◌≡◌, length, true, false, sym, ap, ◌∙◌}
use Rattle.pm_tools_ask.specs.Line.{after_run, ends_run}
use Rattle.pm_tools_ask.proofs.Scans.{after_run-end, after_run-more, after_run-stop}
use Rattle.pm_tools_ask.proofs.value.after_run.Goals as goal

pub returns-then-ends_run : goal.returns-then-ends_run
returns-then-ends_run c =
    let h = c.loop-c.invariant in
    let stop : ends_run c.in-Some.c ≡ true = sym c.ends_run.ensures ∙ c.if-ends_run.true in
    sym (after_run-stop c.loop-c.rest.now _ c.in-Some.c h.2 (sym h.3 ∙ c.in-Some.ensures.steps.0) stop) ∙ h.4

pub loop-c-preserved : goal.loop-c-preserved
loop-c-preserved c =
    let h = c.loop-c.invariant in
    let go : ends_run c.in-Some.c ≡ false = sym c.ends_run.ensures ∙ c.if-ends_run.false in
    let more = after_run-more c.loop-c.rest.now _ c.in-Some.c h.2 (sym h.3 ∙ c.in-Some.ensures.steps.0) go in
    (tt, tt, c.as_str-rest.utf8, sym c.as_str-rest.ensures, ap after_run c.as_str-rest.ensures ∙ sym more ∙ h.4)

pub returns : goal.returns
returns c =
    let h = c.loop-c.invariant in
    after_run-end _ (ap length (sym h.3) ∙ c.in_default.ensures.steps.0.0) ∙ h.4
