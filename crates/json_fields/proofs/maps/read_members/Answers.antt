use Rattle.std.proofs.Common.{Ok, ap, ◌∙◌}
use Rattle.std.proofs.lemmas.List.{append-nil}
use Rattle.json_fields.proofs.Entries.{IsReadSoFar-none, IsReadSoFar-more}
use Rattle.json_fields.proofs.maps.read_members.Goals as goal

pub loop-key-init : goal.loop-key-init
loop-key-init g c =
    rw (c.into_iter-key-iterator.ensures.into_iter_gives, c.iter-key-items.ensures.rest, c.empty-found.ensures)
    (IsReadSoFar-none g.T.ReadJson.reads c.args.fields.now.entries c.iter-key-items.ensures.ordered)

pub loop-key-preserved : goal.loop-key-preserved
loop-key-preserved g c =
    let exact = rw c.as_str.ensures.value at c.in_ok-answer.ensures.exact in
    let last = rw c.in_ok-clone.ensures.cases at c.in_ok-insert.ensures.last in
    IsReadSoFar-more g.T.ReadJson.reads c.args.fields.now.entries c.loop-key.key-iterator c.next.new.self c.loop-key.found c.insert.new.self (c.in-Some.key.now, c.in-Some.value.now) c.in_ok-answer.answer
    c.loop-key.invariant c.in-Some.ensures.steps exact last

pub returns : goal.returns
returns g c = record { exact = c.loop-key.invariant.so_far ∙ rw c.in-None.ensures.steps.0 (ap Ok (append-nil c.loop-key.found)) }
