-- The kind of a target: documents of `cargo metadata` list several kinds, of which the first that is known
-- counts.
use Rattle.std.specs.Prelude.{true, false, List, [], ◌∷◌, Option, Some, None}
use Rattle.cargo_meta_values.specs.declared.kinds.TargetKind as document
use Rattle.cargo_meta_values.specs.declared.kinds.TargetKind.TheVariants as of
use Rattle.crate_graph_values.specs.declared.target_kind.TargetKind.{TargetKind}
use Rattle.crate_graph_values.specs.declared.target_kind.TargetKind.TheVariants.{Bin, Lib, Example, Test, Bench, BuildScript, Other}

-- what a kind of a document is, where it is known
abbrev pub known_kind : document.TargetKind → Option TargetKind
known_kind of.Bench = Some Bench
known_kind of.Bin = Some Bin
known_kind of.CustomBuild = Some BuildScript
known_kind of.CDyLib = Some (Lib false)
known_kind of.DyLib = Some (Lib false)
known_kind of.Example = Some Example
known_kind of.Lib = Some (Lib false)
known_kind of.ProcMacro = Some (Lib true)
known_kind of.RLib = Some (Lib false)
known_kind of.StaticLib = Some (Lib false)
known_kind of.Test = Some Test
known_kind (of.Unknown text) = None

-- the first kind that is known, or other
abbrev pub first_known : Option TargetKind → TargetKind → TargetKind
first_known (Some kind) fallback = kind
first_known None fallback = fallback

-- the kind of a target that has the kinds of a document
abbrev pub target_kind : List document.TargetKind → TargetKind
target_kind [] = Other
target_kind (kind ∷ kinds) = first_known (known_kind kind) (target_kind kinds)
