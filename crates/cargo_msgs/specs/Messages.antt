-- the messages of `cargo`: each is the object of its table with a reason, and every other line is a text
use Rattle.std.specs.Prelude.{◌≡◌, ◌≤◌, if◌then◌else◌, ℕ, false, List, [], bytes_eq, codes, Some, Ok, Err}
use Rattle.serde_json.specs.Data.{Data, Members, null, boolean, number, string, array, object, no_members, depth}
use Rattle.serde_json.specs.Read.{max_depth, read}
use Rattle.serde_json.specs.Written.{has_float}
use Rattle.json_fields.specs.Document.{document}
use Rattle.json_fields.specs.Fields.{members_at, required_member, text_at, under}
use Rattle.base_values.specs.Outcome.{◌>>=◌}
use Rattle.json_fields.specs.Outcome.{Reading, below_key}
use Rattle.json_fields.specs.Written.{set_member}
use Rattle.cargo_meta_values.specs.Names.{package_id_at, package_id_data}
use Rattle.cargo_meta_values.specs.Target.{target_at, target_data}
use Rattle.cargo_msgs.specs.Diagnostic.{diagnostic_at, diagnostic_data}
use Rattle.cargo_msgs.specs.Artifact.{artifact_data, artifact_from}
use Rattle.cargo_msgs.specs.Build.{build_finished_data, build_finished_from, build_script_data, build_script_from}
use Rattle.cargo_msgs.specs.declared.messages.CompilerMessage.{CompilerMessage}
use Rattle.cargo_msgs.specs.declared.messages.Message.{Message}
use Rattle.cargo_msgs.specs.declared.messages.Message.TheVariants as message

-- what the compiler said, by the members of its document
unfoldable pub compiler_message_from : Members → Reading CompilerMessage
compiler_message_from ms = do
  package_id ← required_member (codes "package_id") package_id_at ms
  target ← required_member (codes "target") target_at ms
  diagnostic ← required_member (codes "message") diagnostic_at ms
  Ok (record { package_id = package_id; target = target; message = diagnostic })

-- what the compiler said, as its document gives it
unfoldable pub compiler_message_at : Data → Reading CompilerMessage
compiler_message_at d = members_at d >>= compiler_message_from

-- the document of what the compiler said
unfoldable pub compiler_message_data : CompilerMessage → Data
compiler_message_data m =
    object (set_member (codes "message") (diagnostic_data m.message)
    (set_member (codes "target") (target_data m.target)
    (set_member (codes "package_id") (package_id_data m.package_id) no_members)))

-- a message of a reason, by the members of its document: one of four tables, or a miss of the reason
unfoldable pub message_by : List ℕ → Members → Reading Message
message_by reason ms =
    if bytes_eq reason (codes "compiler-artifact") then under message.CompilerArtifact (artifact_from ms)
    else if bytes_eq reason (codes "compiler-message") then under message.CompilerMessage (compiler_message_from ms)
    else if bytes_eq reason (codes "build-script-executed") then under message.BuildScriptExecuted (build_script_from ms)
    else if bytes_eq reason (codes "build-finished") then under message.BuildFinished (build_finished_from ms)
    else below_key (codes "reason") (Err [])

-- a message, by the members of its document
unfoldable pub message_from : Members → Reading Message
message_from ms = do
  reason ← required_member (codes "reason") text_at ms
  message_by reason ms

-- a message as its document gives it
unfoldable pub message_at : Data → Reading Message
message_at d = members_at d >>= message_from

-- an object with a reason
abbrev pub with_reason : List ℕ → Data → Data
with_reason reason null = null
with_reason reason (boolean b) = boolean b
with_reason reason (number n) = number n
with_reason reason (string s) = string s
with_reason reason (array ds) = array ds
with_reason reason (object ms) = object (set_member (codes "reason") (string reason) ms)

-- the document of a message, and the text of a line that is none
abbrev pub message_data : Message → Data
message_data (message.CompilerArtifact a) = with_reason (codes "compiler-artifact") (artifact_data a)
message_data (message.CompilerMessage m) = with_reason (codes "compiler-message") (compiler_message_data m)
message_data (message.BuildScriptExecuted s) =
    with_reason (codes "build-script-executed") (build_script_data s)
message_data (message.BuildFinished b) = with_reason (codes "build-finished") (build_finished_data b)
message_data (message.TextLine line) = string line

-- the message that was read, or the line
abbrev pub or_line : List ℕ → Reading Message → Message
or_line line (Ok m) = m
or_line line (Err place) = message.TextLine line

-- the message that a line is, or the line as a text where it is no document of a message
unfoldable pub message_of : List ℕ → Message
message_of line = or_line line (document message_at line)

-- what is written of a message is a document that a text can hold, and every text of it is read as the
-- message
pub record HasTexts (m : Message) : Type 0 where
  pub nests : depth (message_data m) ≤ max_depth
  pub clean : has_float (message_data m) ≡ false
  pub again : (text : List ℕ) → read text ≡ Some (message_data m) → message_of text ≡ m

-- a message is read again from its texts; of a line of text nothing is said
abbrev pub IsReadBack : Message → Type 0
IsReadBack (message.CompilerArtifact a) = HasTexts (message.CompilerArtifact a)
IsReadBack (message.CompilerMessage m) = HasTexts (message.CompilerMessage m)
IsReadBack (message.BuildScriptExecuted s) = HasTexts (message.BuildScriptExecuted s)
IsReadBack (message.BuildFinished b) = HasTexts (message.BuildFinished b)
IsReadBack (message.TextLine line) = Unit {0}
