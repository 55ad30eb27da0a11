use Rattle.std.proofs.Common.{[], Some, inr, refl}
use Rattle.live.specs.Turn.{first_state}
use Rattle.live_prog.proofs.Tops.{fails_new, memory_top}
use Rattle.live.proofs.Words.{takes_early}
use Rattle.live_prog.proofs.top.live_top.Goals as goal

pub returns-in-Ok-clause-ok : goal.returns-in-Ok-clause-ok
returns-in-Ok-clause-ok g c = λ done. (_, c.live_cli-status.ensures.ok done first_state c.in-Ok.ensures.holds)

pub returns-in-Ok-clause-err : goal.returns-in-Ok-clause-err
returns-in-Ok-clause-err g c = λ failed. fails_new _ _ _ _ _ _ _ _ _ _ _ _ c.in-Ok.ensures.holds (c.live_cli-status.ensures.err failed)

pub returns-in-Ok-clause-usage : goal.returns-in-Ok-clause-usage
returns-in-Ok-clause-usage g c =
    let usage = c.live_cli-status.ensures.usage in record {
      only = usage.only;
      always = usage.always;
      untouched = λ none. let all = usage.untouched none in (all.1, all.2);
    }

pub returns-in-Ok-clause-taken : goal.returns-in-Ok-clause-taken
returns-in-Ok-clause-taken g c = c.live_cli-status.ensures.always.taken

pub returns-in-Ok-clause-complete : goal.returns-in-Ok-clause-complete
returns-in-Ok-clause-complete g c = c.live_cli-status.ensures.complete first_state c.in-Ok.ensures.holds

pub returns-in-Err-clause-err : goal.returns-in-Err-clause-err
returns-in-Err-clause-err g c = λ _. memory_top _ _ _ _ _ _ c.status.ensures

pub returns-in-Err-clause-complete : goal.returns-in-Err-clause-complete
returns-in-Err-clause-complete g c = λ faultless. λ work given all known. inr c.status.ensures

pub returns-in-Err-clause-taken : goal.returns-in-Err-clause-taken
returns-in-Err-clause-taken g c = λ work given. takes_early (record { work = Some work; usage = [] }) _ work refl
