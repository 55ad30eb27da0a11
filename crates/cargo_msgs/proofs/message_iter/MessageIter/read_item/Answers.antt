use Rattle.std.proofs.Common.{◌≡◌, ◌∙◌, ◌++◌, ◌∷◌, [], ℕ, List, Option, None, Some, Ok, Err, true≢false, ap, refl, subst, sym}
use Rattle.base_text.specs.Reader.{GaveLines, lines_after}
use Rattle.base_text.specs.declared.lines.Line.TheVariants as line
use Rattle.base_text.specs.declared.lines.LineError.TheVariants as error
use Rattle.base_text.specs.Calls as lines
use Rattle.cargo_msgs.specs.Stream.{GaveMessages, GivesItem, is_out_of_memory, is_item_fault, item_of_bytes, items_after}
use Rattle.cargo_msgs.specs.declared.message_iter.ItemFault.TheVariants.{TooLong}
use Rattle.cargo_msgs.proofs.Streams.{GaveMessages-line, GaveMessages-more, GaveMessages-none, GaveOneMore-after, no_read_fault}
use Rattle.cargo_msgs.proofs.message_iter.MessageIter.read_item.Goals.{in-Ok-Some-Whole, in-Ok-Some-TooLong, in-Ok-None, in-Err-ReadFault, in-Err-OutOfMemory}
use Rattle.cargo_msgs.proofs.message_iter.MessageIter.read_item.Goals as goal

pub returns-clause-gave : goal.returns-clause-gave
returns-clause-gave g c =
    rw (← c.self.view_is) (λ whole first given before.
    let left = g.S.ByteSource.left c.self.inside.input in
    let left' = g.S.ByteSource.left c.next.new.input in
    let old = c.self.inside.lines in
    let new = c.next.new.self in
    elim c.match-next.branch [
      | in-Ok-Some-Whole w ↦
          let bytes = w.in-Ok-Some-Whole.bytes in
          let is : c.next.result ≡ Ok (Some (line.Whole bytes)) = w.in-Ok-Some-Whole.is ∙ ap Ok (w.in-Ok-Some-Whole.field-0-is ∙ ap Some w.in-Ok-Some-Whole.field-0-0-is) in
          let gives : GivesItem w.item_of.result (item_of_bytes bytes) = subst (λ b. GivesItem w.item_of.result (item_of_bytes b)) w.as_slice.ensures w.item_of.ensures in
          let step : (lines : List (Option (List ℕ))) → GaveLines first left lines old → GaveLines first left' (lines ++ Some bytes ∷ []) new = λ lines gave. subst (λ r. GaveLines first left' (lines_after lines r) new) is (c.next.ensures.gave first lines gave) in
          subst (λ r. GaveMessages first left' (items_after given r) new) (sym w.result-is) (GaveMessages-line bytes w.item_of.result gives first left left' given old new (ap is_out_of_memory (sym w.result-is) ∙ whole) step before)
      | in-Ok-Some-TooLong w ↦
          let is : c.next.result ≡ Ok (Some line.TooLong) = w.in-Ok-Some-TooLong.is ∙ ap Ok (w.in-Ok-Some-TooLong.field-0-is ∙ ap Some w.in-Ok-Some-TooLong.field-0-0-is) in
          let step : (lines : List (Option (List ℕ))) → GaveLines first left lines old → GaveLines first left' (lines ++ None ∷ []) new = λ lines gave. subst (λ r. GaveLines first left' (lines_after lines r) new) is (c.next.ensures.gave first lines gave) in
          subst (λ r. GaveMessages first left' (items_after given r) new) (sym w.result-is) (GaveMessages-more first left left' given old new None (Err TooLong) step refl before)
      | in-Ok-None w ↦
          let is : c.next.result ≡ Ok None = w.in-Ok-None.is ∙ ap Ok w.in-Ok-None.field-0-is in
          let step : (lines : List (Option (List ℕ))) → GaveLines first left lines old → GaveLines first left' lines new = λ lines gave. subst (λ r. GaveLines first left' (lines_after lines r) new) is (c.next.ensures.gave first lines gave) in
          subst (λ r. GaveMessages first left' (items_after given r) new) (sym w.result-is) (GaveMessages-none first left left' given old new step before)
      | in-Err-ReadFault w ↦
          let is : c.next.result ≡ Err error.ReadFault = w.in-Err-ReadFault.is ∙ ap Err w.in-Err-ReadFault.field-0-is in
          let step : (lines : List (Option (List ℕ))) → GaveLines first left lines old → GaveLines first left' lines new = λ lines gave. subst (λ r. GaveLines first left' (lines_after lines r) new) is (c.next.ensures.gave first lines gave) in
          subst (λ r. GaveMessages first left' (items_after given r) new) (sym w.result-is) (GaveMessages-none first left left' given old new step before)
      | in-Err-OutOfMemory w ↦ absurd (true≢false (ap is_out_of_memory (sym w.result-is) ∙ whole))
    ])

pub returns-clause-taken : goal.returns-clause-taken
returns-clause-taken g c =
    rw (← c.self.view_is) (λ first given gave. GaveOneMore-after first _ given _ c.next.result (c.next.ensures.gave first given gave))

pub returns-clause-reads : goal.returns-clause-reads
returns-clause-reads g c =
    let fault : lines.is_read_fault c.next.result ≡ is_item_fault c.match-next.result = elim c.match-next.branch [
      | in-Ok-Some-Whole w ↦
          let bytes = w.in-Ok-Some-Whole.bytes in
          let is : c.next.result ≡ Ok (Some (line.Whole bytes)) = w.in-Ok-Some-Whole.is ∙ ap Ok (w.in-Ok-Some-Whole.field-0-is ∙ ap Some w.in-Ok-Some-Whole.field-0-0-is) in
          let gives : GivesItem w.item_of.result (item_of_bytes bytes) = subst (λ b. GivesItem w.item_of.result (item_of_bytes b)) w.as_slice.ensures w.item_of.ensures in
          ap lines.is_read_fault is ∙ sym (no_read_fault bytes w.item_of.result gives) ∙ ap is_item_fault (sym w.result-is)
      | in-Ok-Some-TooLong w ↦
          ap lines.is_read_fault (w.in-Ok-Some-TooLong.is ∙ ap Ok (w.in-Ok-Some-TooLong.field-0-is ∙ ap Some w.in-Ok-Some-TooLong.field-0-0-is)) ∙ ap is_item_fault (sym w.result-is)
      | in-Ok-None w ↦ ap lines.is_read_fault (w.in-Ok-None.is ∙ ap Ok w.in-Ok-None.field-0-is) ∙ ap is_item_fault (sym w.result-is)
      | in-Err-ReadFault w ↦ ap lines.is_read_fault (w.in-Err-ReadFault.is ∙ ap Err w.in-Err-ReadFault.field-0-is) ∙ ap is_item_fault (sym w.result-is)
      | in-Err-OutOfMemory w ↦ ap lines.is_read_fault (w.in-Err-OutOfMemory.is ∙ ap Err w.in-Err-OutOfMemory.field-0-is) ∙ ap is_item_fault (sym w.result-is)
    ] in
    rw (← c.self.view_is) (subst (λ f. lines.ReadsAtOnce g.S.ByteSource.read_gives f c.self.inside.lines.piece c.self.inside.input c.next.new.input) fault c.next.ensures.reads)
