-- debug information, in the words of `cargo`'s messages: a number, a name, or nothing
use Rattle.std.specs.Prelude.{if◌then◌else◌, ℕ, ℤ, pos, List, [], bytes_eq, codes, Ok, Err}
use Rattle.std.specs.Ordering.{int_eq}
use Rattle.std.specs.Fmt.{signed_decimal}
use Rattle.serde_json.specs.Data.{Data, null, boolean, number, string, array, object, unsigned}
use Rattle.json_fields.specs.Fields.{under}
use Rattle.json_fields.specs.Numbers.{i64_at, i64_data}
use Rattle.json_fields.specs.Outcome.{Reading}
use Rattle.cargo_msgs.specs.declared.debuginfo.ArtifactDebuginfo.{ArtifactDebuginfo}
use Rattle.cargo_msgs.specs.declared.debuginfo.ArtifactDebuginfo.TheVariants.{None, LineDirectivesOnly, LineTablesOnly, Limited, Full, UnknownInt, UnknownString}

-- what a number means
unfoldable pub debuginfo_numbered : ℤ → ArtifactDebuginfo
debuginfo_numbered z =
    if int_eq z (pos 0) then None
    else if int_eq z (pos 1) then Limited
    else if int_eq z (pos 2) then Full
    else UnknownInt z

-- what a name means
unfoldable pub debuginfo_named : List ℕ → ArtifactDebuginfo
debuginfo_named name =
    if bytes_eq name (codes "none") then None
    else if bytes_eq name (codes "limited") then Limited
    else if bytes_eq name (codes "full") then Full
    else if bytes_eq name (codes "line-directives-only") then LineDirectivesOnly
    else if bytes_eq name (codes "line-tables-only") then LineTablesOnly
    else UnknownString name

-- a number from -2^63 to 2^63 - 1, a name, or null
abbrev pub debuginfo_at : Data → Reading ArtifactDebuginfo
debuginfo_at null = Ok None
debuginfo_at (boolean b) = Err []
debuginfo_at (number n) = under debuginfo_numbered (i64_at (number n))
debuginfo_at (string s) = Ok (debuginfo_named s)
debuginfo_at (array ds) = Err []
debuginfo_at (object ms) = Err []

-- debug information as it is written
abbrev pub debuginfo_data : ArtifactDebuginfo → Data
debuginfo_data None = number (unsigned 0)
debuginfo_data Limited = number (unsigned 1)
debuginfo_data Full = number (unsigned 2)
debuginfo_data LineDirectivesOnly = string (codes "line-directives-only")
debuginfo_data LineTablesOnly = string (codes "line-tables-only")
debuginfo_data (UnknownInt z) = i64_data z
debuginfo_data (UnknownString name) = string name

-- debug information as it is printed
abbrev pub debuginfo_text : ArtifactDebuginfo → List ℕ
debuginfo_text None = codes "0"
debuginfo_text Limited = codes "1"
debuginfo_text Full = codes "2"
debuginfo_text LineDirectivesOnly = codes "line-directives-only"
debuginfo_text LineTablesOnly = codes "line-tables-only"
debuginfo_text (UnknownInt z) = signed_decimal z
debuginfo_text (UnknownString name) = name
