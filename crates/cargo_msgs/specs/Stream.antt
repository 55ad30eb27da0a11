-- the messages of a stream: one for each line of its bytes, or why a line has none
use Rattle.std.specs.Prelude.{◌≡◌, ◌≤◌, if◌then◌else◌, ℕ, ◌⊎◌, Bool, true, false, List, [], ◌∷◌, ◌++◌, Option, None, Some, Result, Ok, Err, codes, length, map}
use Rattle.std.specs.Str.{is_utf8}
use Rattle.base_text_outside.specs.Causes.{Rose}
use Rattle.base_text.specs.Part as lines
use Rattle.base_text.specs.Reader.{GaveLines, IsSpent, Reader, new_reader}
use Rattle.cargo_msgs.specs.Messages.{message_of}
use Rattle.cargo_msgs.specs.declared.message_iter.ItemFault.{ItemFault}
use Rattle.cargo_msgs.specs.declared.message_iter.ItemFault.TheVariants.{NotUtf8, TooLong, ReadFault, OutOfMemory}
use Rattle.cargo_msgs.specs.declared.messages.Message.{Message}

-- what is given of a line: its message, or why it has none
abbrev pub Item : Type 0
Item = Result Message ItemFault

-- the item of a line's bytes
unfoldable pub item_of_bytes : List ℕ → Item
item_of_bytes line = if is_utf8 line then Ok (message_of line) else Err NotUtf8

-- the item of a line that was read, or that is too long
abbrev pub item_of_read : Option (List ℕ) → Item
item_of_read None = Err TooLong
item_of_read (Some line) = item_of_bytes line

-- the item of a line of a stream whose lines have at most so many bytes
abbrev pub item_of_line : ℕ → List ℕ → Item
item_of_line max line = item_of_read (lines.item_of max line)

-- a source, what a reader of lines holds of it, and whether an item was a fault of the source or of memory
pub record Stream (S : Type 0) : Type 0 where
  pub input : S
  pub lines : Reader
  pub has_failed : Bool

-- a stream of which nothing was read
abbrev pub new_stream : {S : Type 0} → S → ℕ → Stream S
new_stream input max = record { input = input; lines = new_reader max; has_failed = false }

-- these are the items of the lines that a reader gave of a source
pub record GaveMessages (first left : Option (List ℕ)) (given : List Item) (reader : Reader) : Type 0 where
  pub lines : List (Option (List ℕ))
  pub gave : GaveLines first left lines reader
  pub items : map item_of_read lines ≡ given

-- what was given after an answer: one more item where it is that of a line
abbrev pub items_after : List Item → Option Item → List Item
items_after given None = given
items_after given (Some (Ok m)) = given ++ Ok m ∷ []
items_after given (Some (Err NotUtf8)) = given ++ Err NotUtf8 ∷ []
items_after given (Some (Err TooLong)) = given ++ Err TooLong ∷ []
items_after given (Some (Err ReadFault)) = given
items_after given (Some (Err OutOfMemory)) = given

-- after a fault of the source, and out of memory, no item is given
abbrev pub is_fatal : Option Item → Bool
is_fatal None = false
is_fatal (Some (Ok m)) = false
is_fatal (Some (Err NotUtf8)) = false
is_fatal (Some (Err TooLong)) = false
is_fatal (Some (Err ReadFault)) = true
is_fatal (Some (Err OutOfMemory)) = true

-- what an answer means: none is the end of the lines, or follows a fault; a fault of the source has its cause
abbrev pub TellsItem : {S : Type 0} → Option Item → Stream S → Stream S → ℕ → ℕ → Type 0
TellsItem None old new before now = IsSpent new.lines ⊎ (old.has_failed ≡ true)
TellsItem (Some (Ok m)) old new before now = Unit {0}
TellsItem (Some (Err NotUtf8)) old new before now = Unit {0}
TellsItem (Some (Err TooLong)) old new before now = Unit {0}
TellsItem (Some (Err ReadFault)) old new before now = Rose before now
TellsItem (Some (Err OutOfMemory)) old new before now = Unit {0}

-- whether an answer reports that memory ran out
abbrev pub is_out_of_memory : Option Item → Bool
is_out_of_memory None = false
is_out_of_memory (Some (Ok m)) = false
is_out_of_memory (Some (Err NotUtf8)) = false
is_out_of_memory (Some (Err TooLong)) = false
is_out_of_memory (Some (Err ReadFault)) = false
is_out_of_memory (Some (Err OutOfMemory)) = true

-- whether an answer reports a fault of the source
abbrev pub is_item_fault : Option Item → Bool
is_item_fault None = false
is_item_fault (Some (Ok m)) = false
is_item_fault (Some (Err NotUtf8)) = false
is_item_fault (Some (Err TooLong)) = false
is_item_fault (Some (Err ReadFault)) = true
is_item_fault (Some (Err OutOfMemory)) = false

-- a reader gave these lines of a source, and at most one more
pub record GaveOneMore (first left : Option (List ℕ)) (lines : List (Option (List ℕ))) (reader : Reader)
    : Type 0 where
  pub more : List (Option (List ℕ))
  pub few : length more ≤ 1
  pub gave : GaveLines first left (lines ++ more) reader

-- what a call answers: what it means, whether it is the last, and that no fault is forgotten
pub record AnswersItem {S : Type 0} (result : Option Item) (old new : Stream S) (before now : ℕ)
    : Type 0 where
  pub told : TellsItem result old new before now
  pub fails : old.has_failed ≡ false → new.has_failed ≡ is_fatal result
  pub later : before ≤ now

-- a call answers the item, unless memory runs out
abbrev pub GivesItem : Item → Item → Type 0
GivesItem (Ok m) item = item ≡ Ok m
GivesItem (Err NotUtf8) item = item ≡ Err NotUtf8
GivesItem (Err TooLong) item = ⊥
GivesItem (Err ReadFault) item = ⊥
GivesItem (Err OutOfMemory) item = Unit {0}

-- a fault as it is printed
abbrev pub fault_text : ItemFault → List ℕ
fault_text NotUtf8 = codes "NotUtf8"
fault_text TooLong = codes "TooLong"
fault_text ReadFault = codes "ReadFault"
fault_text OutOfMemory = codes "OutOfMemory"
