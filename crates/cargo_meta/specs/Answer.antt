-- what the answer to a metadata command holds: the document of its first line that begins with `{`
use Rattle.std.specs.Prelude.{◌≡◌, ◌==◌, ℕ, List, ◌∷◌, Bool, if◌then◌else◌, codes, find, slice_index, Option, Some, None, Result, Ok, Err}
use Rattle.std.specs.Str.Lines.{lines}
use Rattle.base_text_outside.specs.declared.command.CommandLine.{CommandLine}
use Rattle.base_text_outside.specs.declared.command.Output.{Output}
use Rattle.json_fields.specs.Document.{document}
use Rattle.json_fields.specs.Outcome.{Reading}
use Rattle.cargo_meta.specs.Command.{joined_text}
use Rattle.cargo_meta.specs.Metadata.{metadata_at}
use Rattle.cargo_meta_values.specs.declared.errors.Error.{Error}
use Rattle.cargo_meta_values.specs.declared.errors.Error.TheVariants.{CargoMetadata, Io, Json, NoJson, OutOfMemory}
use Rattle.cargo_meta.specs.declared.metadata.Metadata.{Metadata}

-- the program and its words, with a space between each two
abbrev pub line_text : CommandLine → List ℕ
line_text line = joined_text (codes " ") (line.program ∷ line.words)

-- the text begins with `{`
abbrev pub begins_an_object : List ℕ → Bool
begins_an_object line = slice_index line 0 == 123

-- the first line that begins with `{`
abbrev pub json_line : List ℕ → Option (List ℕ)
json_line out = find begins_an_object (lines out)

-- what was read, or the field that it misses as an error
abbrev pub as_json : Reading Metadata → Result Metadata Error
as_json (Ok m) = Ok m
as_json (Err field) = Err (Json field)

-- the document of a line, if there is one
abbrev pub of_line : Option (List ℕ) → Result Metadata Error
of_line None = Err NoJson
of_line (Some line) = as_json (document metadata_at line)

-- the document of what a command wrote, where it succeeded
abbrev pub of_output : Output → Result Metadata Error
of_output output = if output.ok then of_line (json_line output.out) else Err (CargoMetadata output.err)

-- what the answer to a command gives, if there is one
abbrev pub of_answer : CommandLine → Option Output → Result Metadata Error
of_answer line None = Err (Io (line_text line))
of_answer line (Some output) = of_output output

-- a call answers exactly that, unless memory ran out
abbrev pub AnswersMetadata : Result Metadata Error → Result Metadata Error → Type 0
AnswersMetadata (Ok m) wanted = wanted ≡ Ok m
AnswersMetadata (Err (CargoMetadata stderr)) wanted = wanted ≡ Err (CargoMetadata stderr)
AnswersMetadata (Err (Io line)) wanted = wanted ≡ Err (Io line)
AnswersMetadata (Err (Json field)) wanted = wanted ≡ Err (Json field)
AnswersMetadata (Err NoJson) wanted = wanted ≡ Err NoJson
AnswersMetadata (Err OutOfMemory) wanted = Unit {0}
