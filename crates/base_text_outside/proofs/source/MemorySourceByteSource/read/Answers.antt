use Rattle.std.proofs.Common.{refl}
use Rattle.std.proofs.lemmas.List.{take_rest}
use Rattle.base_text_outside.proofs.Filled.{filled-read}
use Rattle.base_text_outside.proofs.source.MemorySourceByteSource.read.Goals as goal

pub returns-clause-bytes : goal.returns-clause-bytes
returns-clause-bytes c =
    let count = rw take_rest at c.fill-count.ensures.count in
    let content = rw take_rest at c.fill-count.ensures.buffer in
    rw (← c.self.view_is, ← c.deref.ensures.value) (filled-read c.deref.result.now _ c.args.buf.now _ c.self.inside.taken _ refl count content)

pub returns-clause-gives : goal.returns-clause-gives
returns-clause-gives c = (returns-clause-bytes c).0
