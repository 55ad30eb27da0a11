-- What is asked of a dependency, and dependencies and crates whose numbers are renamed.
use Rattle.std.specs.Prelude.{Bool}
use Rattle.crate_graph_values.specs.declared.crate_data.Dependency.{Dependency}

-- whether the crate's code names the dependency with no `extern crate`
abbrev pub prelude_of : {Id : Type 0} → Dependency Id → Bool
prelude_of dep = dep.prelude

-- whether the dependency comes with the language
abbrev pub is_of_sysroot : {Id : Type 0} → Dependency Id → Bool
is_of_sysroot dep = dep.sysroot
