-- What equality, order and hash of crate data owe, over any type of number.
use Rattle.std.specs.Prelude.{◌≡◌, ◌↔◌, Bool, true, map}
use Rattle.base_text_paths.specs.Paths.{IsClean}
use Rattle.crate_graph_values.specs.declared.crate_data.CrateData.{CrateData}
use Rattle.crate_graph_values.specs.declared.crate_data.Dependency.{Dependency}

-- a test that, of the values that a fact holds of, is true just of equal ones
abbrev pub IsContentEqualityOn : {A : Type 0} → (A → Type 0) → (A → A → Bool) → Type 0
IsContentEqualityOn {A} P eq = (x y : A) → P x → P y → (eq x y ≡ true) ↔ (x ≡ y)

-- the directory in which the crate's procedural macros run is a clean path, as every `AbsPathBuf` is
abbrev pub HasCleanMacroDirectory : {Id : Type 0} → CrateData Id → Type 0
HasCleanMacroDirectory krate = IsClean krate.proc_macro_cwd

-- new names are equal exactly where the old ones are
abbrev pub KeepsEquality : {A B : Type 0} → (A → A → Bool) → (B → B → Bool) → (A → B) → Type 0
KeepsEquality {A} old new f = (x y : A) → new (f x) (f y) ≡ old x y

-- a dependency with a new name for the number
abbrev pub renamed_dependency : {A B : Type 0} → (A → B) → Dependency A → Dependency B
renamed_dependency f dep = record {
  crate_id = f dep.crate_id;
  name = dep.name;
  prelude = dep.prelude;
  sysroot = dep.sysroot;
}

-- a crate with new names for the numbers
abbrev pub renamed_crate : {A B : Type 0} → (A → B) → CrateData A → CrateData B
renamed_crate f krate = record {
  root_file_id = krate.root_file_id;
  edition = krate.edition;
  dependencies = map (renamed_dependency f) krate.dependencies;
  origin = krate.origin;
  crate_attrs = krate.crate_attrs;
  target_kind = krate.target_kind;
  proc_macro_cwd = krate.proc_macro_cwd;
}
