use Rattle.std.proofs.Common.{Global, [], Some, Ok, Err, Option, Vec, false, ℕ}
use Rattle.base_text.specs.Calls.{none}
use Rattle.base_text.proofs.Called.{at_once}
use Rattle.live_page.specs.Pieces.{is_script_fault}
use Rattle.live_page.proofs.Gaves.{too_many}
use Rattle.live_page.proofs.lines.Lines.next.Goals as goal

pub returns-then-self-clause-reads : goal.returns-then-self-clause-reads
returns-then-self-clause-reads g c = record { bytes = []; reads = none }

pub returns-in-Ok-clause-too_many : goal.returns-in-Ok-clause-too_many
returns-in-Ok-clause-too_many g c = λ limit given all gave.
    too_many limit _ given all _ _ _ _ (Ok c.in-Ok.line) (c.in-Ok.ensures.gave limit (Some all) given gave) c.in-Ok.ensures.told

pub returns-in-Err-clause-too_many : goal.returns-in-Err-clause-too_many
returns-in-Err-clause-too_many g c = λ limit given all gave.
    too_many {Z = Global} limit _ given all _ _ _ _ (Err c.in-Err.error) (c.in-Err.ensures.gave limit (Some all) given gave) c.in-Err.ensures.told

pub returns-in-Ok-clause-at_once : goal.returns-in-Ok-clause-at_once
returns-in-Ok-clause-at_once g c = at_once g.S.ByteSource.read_gives false _ _ _ c.in-Ok.ensures.reads

pub returns-in-Err-clause-at_once : goal.returns-in-Err-clause-at_once
returns-in-Err-clause-at_once g c = at_once g.S.ByteSource.read_gives (is_script_fault {T = Option (Vec ℕ Global)} (Err c.in-Err.error)) _ _ _ c.in-Err.ensures.reads
