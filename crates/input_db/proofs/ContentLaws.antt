-- Equality of identities is that of their content, by the equality of each part.
use Rattle.std.proofs.Common.{◌≡◌, ℕ, List, Bool, true, ◌&&◌, refl, rules}
use Rattle.std.specs.Bool.{beq}
use Rattle.std.specs.Prelude.{bytes_eq, nat_eq, ◌↔◌}
use Rattle.std.specs.Cmp.Lexicographic.{pointwise, pointwise_decides}
use Rattle.base_values.specs.Equality.{IsContentEquality}
use Rattle.base_text_paths.specs.PathOrder.{path_eq}
use Rattle.base_text_paths.specs.Paths.{IsClean}
use Rattle.base_text_outside.specs.contracts.cfg.CfgAtomPartialEq.TheImpl as atom
use Rattle.base_text_paths.specs.contracts.edition.EditionPartialEq.TheImpl as edition
use Rattle.base_text_outside.specs.declared.cfg.CfgAtom.{CfgAtom}
use Rattle.crate_graph_values.proofs.LawLemmas.{crates_are_equal}
use Rattle.crate_graph_values.specs.contracts.origin.CrateOriginPartialEq.TheImpl as origin
use Rattle.crate_graph_values.specs.contracts.target_kind.TargetKindPartialEq.TheImpl as kind
use Rattle.crate_graph_values.specs.declared.crate_data.CrateData.{CrateData}
use Rattle.crate_graph_values.specs.declared.crate_data.Dependency.{Dependency}
use Rattle.input_db.specs.Identity.{HasCleanIdentity, full_identity, unique_eq}
use Rattle.input_db.specs.declared.crate_input.UniqueCrateData.{UniqueCrateData}
use Rattle.input_db.proofs.Contents.{ComparesCrates, full_parts, identities_compare}
use Rattle.input_db.proofs.Equality.{unique_itself}

editions : IsContentEquality (edition.ghosts).eq
editions = λ x y. search rules

kinds : IsContentEquality (kind.ghosts).eq
kinds = λ x y. search rules

origins : IsContentEquality (origin.ghosts).eq
origins = λ x y. search rules

atoms : IsContentEquality (atom.ghosts).eq
atoms = λ x y. search rules

-- dependencies have the same crate, name and marks
abbrev dep_eq : Dependency ℕ → Dependency ℕ → Bool
dep_eq x y = nat_eq x.crate_id y.crate_id && (bytes_eq x.name y.name && (beq x.prelude y.prelude && beq x.sysroot y.sysroot))

deps : IsContentEquality dep_eq
deps = λ x y. search rules

-- two lists of atoms are equal exactly where they are one
pub atom_lists_equal : IsContentEquality (pointwise (atom.ghosts).eq)
atom_lists_equal = pointwise_decides atoms

-- crate data with clean paths is equal exactly where it is one
pub crates_equal : ComparesCrates (λ x y. nat_eq x.root_file_id y.root_file_id && ((edition.ghosts).eq x.edition y.edition
    && (pointwise dep_eq x.dependencies y.dependencies && ((origin.ghosts).eq x.origin y.origin
    && (pointwise bytes_eq x.crate_attrs y.crate_attrs && ((kind.ghosts).eq x.target_kind y.target_kind
    && path_eq x.proc_macro_cwd y.proc_macro_cwd))))))
crates_equal = crates_are_equal dep_eq (edition.ghosts).eq (origin.ghosts).eq (kind.ghosts).eq deps editions origins kinds

-- equal full identities have the same data and atoms
pub full_identities : (f g : ℕ) (a b : CrateData ℕ) (s t : List CfgAtom) → IsClean a.proc_macro_cwd → IsClean b.proc_macro_cwd
    → unique_eq (full_identity f a s) (full_identity g b t) ≡ true → (a ≡ b) × (s ≡ t)
full_identities f g a b s t clean_a clean_b e =
    let parts = full_parts _ _ (λ f g a b s t. refl) crates_equal atom_lists_equal f g a b s t clean_a clean_b e in
    (parts.1, parts.2)

-- identities with clean paths are equal exactly where they are one
pub identities_equal : (x y : UniqueCrateData) → HasCleanIdentity x → HasCleanIdentity y → (unique_eq x y ≡ true) ↔ (x ≡ y)
identities_equal = identities_compare _ _ (λ f g a b s t. refl) crates_equal atom_lists_equal unique_itself
