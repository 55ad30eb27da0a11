-- What is asked of a kind of target, and its names in Cargo's words and output.
use Rattle.std.specs.Prelude.{ℕ, Bool, true, false, List, Option, Some, None, codes}
use Rattle.crate_graph_values.specs.declared.target_kind.TargetKind.{TargetKind}
use Rattle.crate_graph_values.specs.declared.target_kind.TargetKind.TheVariants.{Bin, Lib, Example, Test, Bench, BuildScript, Other}

-- a target that is run as it is
abbrev pub is_executable : TargetKind → Bool
is_executable Bin = true
is_executable (Lib macros) = false
is_executable Example = true
is_executable Test = false
is_executable Bench = false
is_executable BuildScript = false
is_executable Other = false

-- a library of procedural macros
abbrev pub is_proc_macro : TargetKind → Bool
is_proc_macro Bin = false
is_proc_macro (Lib macros) = macros
is_proc_macro Example = false
is_proc_macro Test = false
is_proc_macro Bench = false
is_proc_macro BuildScript = false
is_proc_macro Other = false

-- the name that Cargo gives a kind
abbrev pub cargo_target : TargetKind → Option (List ℕ)
cargo_target Bin = Some (codes "bin")
cargo_target (Lib true) = Some (codes "proc-macro")
cargo_target (Lib false) = Some (codes "lib")
cargo_target Example = Some (codes "example")
cargo_target Test = Some (codes "test")
cargo_target Bench = Some (codes "bench")
cargo_target BuildScript = Some (codes "custom-build")
cargo_target Other = None
