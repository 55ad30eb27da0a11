-- Why a dependency was not added, and how that is printed.
use Rattle.std.specs.Prelude.{ℕ, List, codes}
use Rattle.crate_graph.specs.Cyclic.{Step}
use Rattle.crate_graph.specs.declared.cyclic.AddDepError.{AddDepError}
use Rattle.crate_graph.specs.declared.cyclic.AddDepError.TheVariants.{Cyclic, OutOfMemory}

-- what holds where a refusal is a cycle; out of memory says nothing
abbrev pub IfCyclic : AddDepError → (List Step → Type 0) → Type 0
IfCyclic (Cyclic path) P = P path
IfCyclic OutOfMemory P = Unit {0}

-- a refusal as it is printed: the name of its variant
abbrev pub add_dep_error_text : AddDepError → List ℕ
add_dep_error_text (Cyclic path) = codes "Cyclic"
add_dep_error_text OutOfMemory = codes "OutOfMemory"
