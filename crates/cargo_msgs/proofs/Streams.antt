-- What is given of a stream is the front of its lines' messages, and at the end all of them.
use Rattle.std.proofs.Common.{◌≡◌, ℕ, true, false, true≢false, List, [], ◌∷◌, ◌++◌, Option, Some, None, Result, Ok, Err, map, length, ◌≤◌, refl, sym, ap, subst, ◌∙◌, append-nil, arith}
use Rattle.std.proofs.lemmas.List.{map-append}
use Rattle.std.proofs.lemmas.Simd.{map-map}
use Rattle.std.proofs.lemmas.Str.{IsUtf8-from_is_utf8, is_utf8-from_IsUtf8}
use Rattle.std.specs.Prelude.{if◌then◌else◌}
use Rattle.std.specs.Str.{IsUtf8, is_utf8}
use Rattle.base_text.specs.Lines.{lines_of}
use Rattle.base_text.specs.Part as lines
use Rattle.base_text.specs.Reader.{GaveLines, IsFrontOf, Reader, lines_after, new_reader}
use Rattle.base_text.specs.declared.lines.Line.{Line}
use Rattle.base_text.specs.declared.lines.LineError.{LineError}
use Rattle.base_text.proofs.Wholes.{Gave-all, Gave-fresh, Gave-front}
use Rattle.cargo_msgs.specs.Messages.{message_of}
use Rattle.cargo_msgs.specs.Stream.{GaveMessages, GivesItem, Item, Stream, TellsItem, is_out_of_memory, is_item_fault, GaveOneMore, item_of_bytes, item_of_line, item_of_read, items_after}
use Rattle.cargo_msgs.specs.declared.message_iter.ItemFault.TheVariants.{NotUtf8, TooLong, ReadFault, OutOfMemory}

-- nothing was given before the first read
pub GaveMessages-fresh : (max : ℕ) (left : Option (List ℕ)) → GaveMessages left left [] (new_reader max)
GaveMessages-fresh max left = record { lines = []; gave = Gave-fresh max left; items = refl }

module _ (bytes : List ℕ) (left : Option (List ℕ)) (given : List Item) (reader : Reader) (gave : GaveMessages (Some bytes) left given reader) where
  -- the items of all lines at the end
  pub GaveMessages-all : reader.is_done ≡ true → given ≡ map (item_of_line reader.part.max_line) (lines_of bytes)
  GaveMessages-all done =
      sym gave.items ∙ ap (map item_of_read) (Gave-all bytes left gave.lines reader gave.gave done) ∙ map-map item_of_read (lines.item_of reader.part.max_line) (lines_of bytes)

  -- those of the first of them before that
  pub GaveMessages-front : IsFrontOf given (map (item_of_line reader.part.max_line) (lines_of bytes))
  GaveMessages-front =
      let front = Gave-front bytes left gave.lines reader gave.gave in
      record {
        rest = map item_of_read front.rest;
        is = sym (map-map item_of_read (lines.item_of reader.part.max_line) (lines_of bytes)) ∙ ap (map item_of_read) front.is ∙ map-append item_of_read gave.lines front.rest
            ∙ ap (λ is. is ++ map item_of_read front.rest) gave.items;
      }

-- one more line is one more item
pub GaveMessages-more : (first left left' : Option (List ℕ)) (given : List Item) (reader reader' : Reader) (line : Option (List ℕ)) (item : Item)
    → ((lines : List (Option (List ℕ))) → GaveLines first left lines reader → GaveLines first left' (lines ++ line ∷ []) reader') → item_of_read line ≡ item
    → GaveMessages first left given reader → GaveMessages first left' (given ++ item ∷ []) reader'
GaveMessages-more first left left' given reader reader' line item step is before = record {
  lines = before.lines ++ line ∷ [];
  gave = step before.lines before.gave;
  items = map-append item_of_read before.lines (line ∷ []) ∙ ap (λ is. is ++ item_of_read line ∷ []) before.items ∙ ap (λ i. given ++ i ∷ []) is;
}

-- no line is no item
pub GaveMessages-none : (first left left' : Option (List ℕ)) (given : List Item) (reader reader' : Reader)
    → ((lines : List (Option (List ℕ))) → GaveLines first left lines reader → GaveLines first left' lines reader')
    → GaveMessages first left given reader → GaveMessages first left' given reader'
GaveMessages-none first left left' given reader reader' step before = record { lines = before.lines; gave = step before.lines before.gave; items = before.items }

-- a line that was read is one item more
pub GaveMessages-line : (bytes : List ℕ) (item : Item) → GivesItem item (item_of_bytes bytes) → (first left left' : Option (List ℕ)) (given : List Item) (reader reader' : Reader) → is_out_of_memory (Some item) ≡ false
    → ((lines : List (Option (List ℕ))) → GaveLines first left lines reader → GaveLines first left' (lines ++ Some bytes ∷ []) reader')
    → GaveMessages first left given reader → GaveMessages first left' (items_after given (Some item)) reader'
GaveMessages-line bytes (Ok m) is first left left' given reader reader' whole step before = GaveMessages-more first left left' given reader reader' (Some bytes) (Ok m) step is before
GaveMessages-line bytes (Err NotUtf8) is first left left' given reader reader' whole step before = GaveMessages-more first left left' given reader reader' (Some bytes) (Err NotUtf8) step is before
GaveMessages-line bytes (Err TooLong) is first left left' given reader reader' whole step before = absurd is
GaveMessages-line bytes (Err ReadFault) is first left left' given reader reader' whole step before = absurd is
GaveMessages-line bytes (Err OutOfMemory) is first left left' given reader reader' whole step before = absurd (true≢false whole)

-- an item of a line is no fault of the source
pub no_read_fault : (bytes : List ℕ) (item : Item) → GivesItem item (item_of_bytes bytes) → is_item_fault (Some item) ≡ false
no_read_fault bytes (Ok m) is = refl
no_read_fault bytes (Err NotUtf8) is = refl
no_read_fault bytes (Err TooLong) is = refl
no_read_fault bytes (Err ReadFault) is = absurd is
no_read_fault bytes (Err OutOfMemory) is = refl

-- an answer of a reader of lines is one line more, or none
pub GaveOneMore-after : (first left : Option (List ℕ)) (given : List (Option (List ℕ))) (reader : Reader) (result : Result (Option Line) LineError)
    → GaveLines first left (lines_after given result) reader → GaveOneMore first left given reader
GaveOneMore-after first left given reader (Ok (Some line)) gave = record { more = lines.line_bytes line ∷ []; few = omega arith; gave = gave }
GaveOneMore-after first left given reader (Ok None) gave = record { more = []; few = omega arith; gave = subst (λ ls. GaveLines first left ls reader) (sym (append-nil given)) gave }
GaveOneMore-after first left given reader (Err error) gave = record { more = []; few = omega arith; gave = subst (λ ls. GaveLines first left ls reader) (sym (append-nil given)) gave }

-- nothing more is one line more at most
pub GaveOneMore-none : (first left : Option (List ℕ)) (given : List (Option (List ℕ))) (reader : Reader) → GaveLines first left given reader → GaveOneMore first left given reader
GaveOneMore-none first left given reader gave = record { more = []; few = omega arith; gave = subst (λ ls. GaveLines first left ls reader) (sym (append-nil given)) gave }

-- an item of a line means nothing more
pub Tells-line : {S : Type 0} (bytes : List ℕ) (item : Item) → GivesItem item (item_of_bytes bytes) → (old new : Stream S) (before now : ℕ) → TellsItem (Some item) old new before now
Tells-line bytes (Ok m) is old new before now = tt
Tells-line bytes (Err NotUtf8) is old new before now = tt
Tells-line bytes (Err TooLong) is old new before now = tt
Tells-line bytes (Err ReadFault) is old new before now = absurd is
Tells-line bytes (Err OutOfMemory) is old new before now = tt

-- the item of bytes that are UTF-8
pub item_of_bytes-text : (bytes : List ℕ) → IsUtf8 bytes → item_of_bytes bytes ≡ Ok (message_of bytes)
unfolding item_of_bytes
item_of_bytes-text bytes text = rw (is_utf8-from_IsUtf8 bytes text) refl

-- and of bytes that are not
pub item_of_bytes-bad : (bytes : List ℕ) → (IsUtf8 bytes → ⊥) → item_of_bytes bytes ≡ Err NotUtf8
unfolding item_of_bytes
item_of_bytes-bad bytes bad =
    elim (is_utf8 bytes) as (λ b. is_utf8 bytes ≡ b → ◌≡◌ {A = Item} (if b then Ok (message_of bytes) else Err NotUtf8) (Err NotUtf8)) [
      | true ↦ λ h. absurd (bad (IsUtf8-from_is_utf8 bytes h))
      | false ↦ λ h. refl
    ] refl
