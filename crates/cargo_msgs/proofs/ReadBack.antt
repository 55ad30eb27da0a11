-- A message that was read is read again from each text of what is written of it.
use Rattle.std.proofs.Common.{◌≡◌, ◌≤◌, Bool, true, false, Ok, Err, refl, ap, codes, cond}
use Rattle.serde_json.specs.Data.{depth}
use Rattle.serde_json.specs.Read.{max_depth}
use Rattle.serde_json.specs.Written.{has_float}
use Rattle.json_fields.specs.Document.{by_whole_place, document, whole}
use Rattle.json_fields.specs.Outcome.{Reading}
use Rattle.cargo_msgs.specs.Messages.{HasTexts, IsReadBack, message_at, message_data, message_of, or_line}
use Rattle.cargo_msgs.specs.declared.messages.Message.{Message}
use Rattle.cargo_msgs.specs.declared.messages.Message.TheVariants as message

-- what is read of a value with a float is nothing
no_float : {T : Type 0} (b : Bool) (r : Reading T) (x : T) → cond {A = Reading T} b (Err (codes "float")) r ≡ Ok x → b ≡ false
no_float true r x h = absurd (cc)
no_float false r x h = refl

pub has_texts : (m : Message) → whole message_at (message_data m) ≡ Ok m → depth (message_data m) ≤ max_depth → HasTexts m
unfolding whole document message_of
has_texts m again nests = record {
  nests = nests;
  clean = no_float (has_float (message_data m)) (by_whole_place (message_at (message_data m))) m again;
  again = λ text e. rw e (ap (or_line text) again);
}

pub read_back : (m : Message) → HasTexts m → IsReadBack m
read_back (message.CompilerArtifact a) h = h
read_back (message.CompilerMessage m) h = h
read_back (message.BuildScriptExecuted s) h = h
read_back (message.BuildFinished b) h = h
read_back (message.TextLine line) h = tt
