-- The event table: which event a script line is. A line that is no JSON of at most 127 levels, that holds a
-- float anywhere, or whose shape is not in the table is no event.
use Rattle.std.specs.Prelude.{◌≡◌, ℕ, false, List, [], Option, Some, None, Result, Ok, Err, codes, slice_index, ◌==◌, if◌then◌else◌}
use Rattle.std.specs.Str.{bytes_eq}
use Rattle.serde_json.specs.Data.{Data, Members}
use Rattle.base_text_paths.specs.Paths.{normal, path_text}
use Rattle.base_text_outside.specs.declared.command.Output.{Output}
use Rattle.json_fields.specs.Document.{bytes_document}
use Rattle.json_fields.specs.Fields.{default_member, flag_at, list_at, members_at, optional_member, required_member, text_at}
use Rattle.base_values.specs.Outcome.{◌>>=◌}
use Rattle.json_fields.specs.Outcome.{Reading}
use Rattle.vfs_core.specs.VfsPath.{PathContent}
use Rattle.live_page.specs.declared.event.Event.{Event}
use Rattle.live_page.specs.declared.event.Event.TheVariants.{Answer, Build, Exclude, File, Flush, Load}
use Rattle.live_page.specs.declared.event.EventError.{EventError}
use Rattle.live_page.specs.declared.event.EventError.TheVariants.{Refused, OutOfMemory}

-- the real path of an absolute text
abbrev pub real_path : List ℕ → Reading PathContent
real_path text =
    if slice_index text 0 == 47 then Ok (record { is_virtual = false; text = path_text (normal text) })
    else Err []

-- the real path under the key `path`
unfoldable pub path_under : Members → Reading PathContent
path_under ms = do
  text ← required_member (codes "path") text_at ms
  real_path text

-- a file gets a text, or is deleted where there is none
unfoldable pub file_event_at : Members → Reading Event
file_event_at ms = do
  path ← path_under ms
  text ← optional_member (codes "text") text_at ms
  Ok (File path text)

-- a file is left out, for good
unfoldable pub exclude_at : Members → Reading Event
exclude_at ms = do
  path ← path_under ms
  Ok (Exclude path)

-- whether a command succeeded, and what it wrote: a missing text is empty
unfoldable pub output_at : Members → Reading Output
output_at ms = do
  ok ← required_member (codes "ok") flag_at ms
  out ← default_member (codes "out") [] text_at ms
  err ← default_member (codes "err") [] text_at ms
  Ok (record { ok = ok; out = out; err = err })

-- the result of a command is recorded; its variables play no part
unfoldable pub answer_at : Members → Reading Event
answer_at ms = do
  program ← required_member (codes "program") text_at ms
  words ← required_member (codes "words") (list_at text_at) ms
  dir ← required_member (codes "dir") text_at ms
  output ← output_at ms
  Ok (Answer (record { program = program; words = words; dir = dir; env = [] }) output)

-- a project is loaded: its path is kept as it is written
unfoldable pub load_at : Members → Reading Event
load_at ms = do
  path ← required_member (codes "path") text_at ms
  Ok (Load path)

-- the project was built: the result of the command that builds it
unfoldable pub build_at : Members → Reading Event
build_at ms = do
  output ← output_at ms
  Ok (Build output)

-- the events by their names
abbrev pub event_named : List ℕ → Members → Reading Event
event_named name ms =
    if bytes_eq name (codes "file") then file_event_at ms
    else if bytes_eq name (codes "exclude") then exclude_at ms
    else if bytes_eq name (codes "answer") then answer_at ms
    else if bytes_eq name (codes "load") then load_at ms
    else if bytes_eq name (codes "build") then build_at ms
    else if bytes_eq name (codes "flush") then Ok Flush
    else Err []

-- the event that a document is
unfoldable pub event_at : Data → Reading Event
event_at d = do
  ms ← members_at d
  name ← required_member (codes "event") text_at ms
  event_named name ms

-- the value that was read, if nothing was missed
abbrev pub value_read : {T : Type 0} → Reading T → Option T
value_read (Ok x) = Some x
value_read (Err place) = None

-- the event that a line is
unfoldable pub event : List ℕ → Option Event
event line = value_read (bytes_document event_at line)

-- an answer is the event, or a refusal where there is none, unless memory ran out
abbrev pub AnswersEvent : Result Event EventError → Option Event → Type 0
AnswersEvent (Ok e) found = found ≡ Some e
AnswersEvent (Err Refused) found = found ≡ None
AnswersEvent (Err OutOfMemory) found = Unit {0}
