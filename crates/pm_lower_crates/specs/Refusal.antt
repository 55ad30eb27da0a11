-- Why a project has no graph, and how that is printed.
use Rattle.std.specs.Prelude.{◌≡◌, ℕ, List, codes, Result, Err}
use Rattle.base_text_outside.specs.declared.limits.Limit.TheVariants.{Bytes, Paths, Packages, Targets, Crates}
use Rattle.crate_graph.specs.declared.graph.GraphError.{GraphError}
use Rattle.crate_graph.specs.declared.graph.GraphError.TheVariants as graph
use Rattle.pm_lower_crates.specs.declared.lower_error.LowerError.{LowerError}
use Rattle.pm_lower_crates.specs.declared.lower_error.LowerError.TheVariants.{BadCrateName, TooMany, OutOfMemory}

-- the name of the variant, which is what is printed
abbrev pub lower_error_name : LowerError → List ℕ
lower_error_name (BadCrateName name) = codes "BadCrateName"
lower_error_name (TooMany limit) = codes "TooMany"
lower_error_name OutOfMemory = codes "OutOfMemory"

-- the error for one of a graph
abbrev pub lower_error : GraphError → LowerError
lower_error graph.TooMany = TooMany Crates
lower_error graph.OutOfMemory = OutOfMemory

-- the refusal is this error; running out of memory says nothing of it
abbrev pub Refuses : {T : Type 0} → LowerError → Result T LowerError → Type 0
Refuses (BadCrateName name) wanted = wanted ≡ Err (BadCrateName name)
Refuses (TooMany limit) wanted = wanted ≡ Err (TooMany limit)
Refuses OutOfMemory wanted = Unit {0}

-- what holds of the name of a refusal; out of memory says nothing, and a limit is no cause
abbrev pub IfBadName : LowerError → (List ℕ → Type 0) → Type 0
IfBadName (BadCrateName name) P = P name
IfBadName (TooMany limit) P = ⊥
IfBadName OutOfMemory P = Unit {0}

-- what holds where a refusal is the limit of crates; out of memory says nothing, and nothing else is a cause
abbrev pub IfTooMany : LowerError → Type 0 → Type 0
IfTooMany (BadCrateName name) P = ⊥
IfTooMany (TooMany Crates) P = P
IfTooMany (TooMany Bytes) P = ⊥
IfTooMany (TooMany Paths) P = ⊥
IfTooMany (TooMany Packages) P = ⊥
IfTooMany (TooMany Targets) P = ⊥
IfTooMany OutOfMemory P = Unit {0}
