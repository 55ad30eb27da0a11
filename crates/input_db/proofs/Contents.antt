-- Equality of identities and of inputs, part by part.
use Rattle.std.proofs.Common.{◌≡◌, ℕ, List, Bool, true, false, ◌&&◌, Option, Some, None, refl, sym, ap, ◌∙◌}
use Rattle.std.specs.Prelude.{nat_eq, ◌↔◌}
use Rattle.std.proofs.lemmas.Bool.{and_parts, eqb-true, false≢true}
use Rattle.base_values.specs.Equality.{IsContentEquality}
use Rattle.base_text_paths.specs.Paths.{IsClean}
use Rattle.base_text_outside.specs.declared.cfg.CfgAtom.{CfgAtom}
use Rattle.crate_graph_values.specs.declared.builder.ExtraCrateData.{ExtraCrateData}
use Rattle.crate_graph_values.specs.declared.crate_data.CrateData.{CrateData}
use Rattle.crate_graph_values.specs.declared.workspace_data.CrateWorkspaceData.{CrateWorkspaceData}
use Rattle.input_db.specs.Identity.{HasCleanIdentity, HasCleanInput, full_identity, input_eq, root_identity, unique_eq}
use Rattle.input_db.specs.declared.crate_input.CrateInput.{CrateInput}
use Rattle.input_db.specs.declared.crate_input.UniqueCrateData.{UniqueCrateData}
use Rattle.input_db_files.specs.declared.durability.Durability.{Durability}

-- the equality of crate data is that of its content, for data with clean paths
abbrev pub ComparesCrates : (CrateData ℕ → CrateData ℕ → Bool) → Type 0
ComparesCrates eq = (x y : CrateData ℕ) → IsClean x.proc_macro_cwd → IsClean y.proc_macro_cwd → (eq x y ≡ true) ↔ (x ≡ y)

module _ (data_eq : CrateData ℕ → CrateData ℕ → Bool) (atoms_eq : List CfgAtom → List CfgAtom → Bool)
    (opens : (f g : ℕ) (a b : CrateData ℕ) (s t : List CfgAtom)
    → unique_eq (full_identity f a s) (full_identity g b t) ≡ (nat_eq f g && (data_eq a b && atoms_eq s t)))
    (datas : ComparesCrates data_eq) (atoms : IsContentEquality atoms_eq) where
  -- equal full identities have the same file, data and atoms
  pub full_parts : (f g : ℕ) (a b : CrateData ℕ) (s t : List CfgAtom) → IsClean a.proc_macro_cwd → IsClean b.proc_macro_cwd
      → unique_eq (full_identity f a s) (full_identity g b t) ≡ true → (f ≡ g) × (a ≡ b) × (s ≡ t)
  full_parts f g a b s t clean_a clean_b e =
      let file = and_parts (nat_eq f g) (data_eq a b && atoms_eq s t) (sym (opens f g a b s t) ∙ e) in
      let parts = and_parts (data_eq a b) (atoms_eq s t) file.1 in
      (eqb-true f g file.0, (datas a b clean_a clean_b).0 parts.0, (atoms s t).0 parts.1)

  -- equal identities have the same content
  one_identity : (f g : ℕ) (d e : Option (CrateData ℕ × List CfgAtom))
      → HasCleanIdentity (record { root_file_id = f; disambiguator = d })
      → HasCleanIdentity (record { root_file_id = g; disambiguator = e })
      → unique_eq (record { root_file_id = f; disambiguator = d }) (record { root_file_id = g; disambiguator = e }) ≡ true
      → ◌≡◌ {A = UniqueCrateData} (record { root_file_id = f; disambiguator = d }) (record { root_file_id = g; disambiguator = e })
  one_identity f g None None clean_d clean_e is =
      let test : (nat_eq f g && true) ≡ true = is in
      ap root_identity (eqb-true f g (and_parts (nat_eq f g) true test).0)
  one_identity f g None (Some q) clean_d clean_e is =
      let test : (nat_eq f g && false) ≡ true = is in
      absurd (false≢true (and_parts (nat_eq f g) false test).1)
  one_identity f g (Some p) None clean_d clean_e is =
      let test : (nat_eq f g && false) ≡ true = is in
      absurd (false≢true (and_parts (nat_eq f g) false test).1)
  one_identity f g (Some (a, s)) (Some (b, t)) clean_d clean_e is =
      let parts = full_parts f g a b s t (clean_d a s refl) (clean_e b t refl) is in
      λ i. full_identity (parts.0 i) (parts.1 i) (parts.2 i)

  -- identities are equal exactly where they have the same content
  pub identities_compare : ((x : UniqueCrateData) → unique_eq x x ≡ true) → (x y : UniqueCrateData) → HasCleanIdentity x
      → HasCleanIdentity y → (unique_eq x y ≡ true) ↔ (x ≡ y)
  identities_compare itself x y clean_x clean_y = (
    one_identity x.root_file_id y.root_file_id x.disambiguator y.disambiguator clean_x clean_y,
    λ same. ap (unique_eq x) (sym same) ∙ itself x,
  )

-- the content of an input, part by part
module _ (data_eq : CrateData ℕ → CrateData ℕ → Bool) (extra_eq : ExtraCrateData → ExtraCrateData → Bool)
    (workspace_eq : CrateWorkspaceData → CrateWorkspaceData → Bool) (atoms_eq : List CfgAtom → List CfgAtom → Bool)
    (env_eq : List (List ℕ × List ℕ) → List (List ℕ × List ℕ) → Bool) (durability_eq : Durability → Durability → Bool)
    (opens : (x y : CrateInput) → input_eq x y ≡ (data_eq x.crate_data y.crate_data && (extra_eq x.extra_data y.extra_data
    && (workspace_eq x.workspace_data y.workspace_data && (atoms_eq x.cfg_options y.cfg_options && (env_eq x.env y.env
    && durability_eq x.durability y.durability))))))
    (datas : ComparesCrates data_eq) (extras : IsContentEquality extra_eq) (workspaces : IsContentEquality workspace_eq)
    (atoms : IsContentEquality atoms_eq) (envs : IsContentEquality env_eq) (durabilities : IsContentEquality durability_eq) where
  one_input : (x y : CrateInput) → HasCleanInput x → HasCleanInput y → input_eq x y ≡ true → x ≡ y
  one_input x y clean_x clean_y e =
      let first = and_parts (data_eq x.crate_data y.crate_data) _ (sym (opens x y) ∙ e) in
      let second = and_parts (extra_eq x.extra_data y.extra_data) _ first.1 in
      let third = and_parts (workspace_eq x.workspace_data y.workspace_data) _ second.1 in
      let fourth = and_parts (atoms_eq x.cfg_options y.cfg_options) _ third.1 in
      let fifth = and_parts (env_eq x.env y.env) (durability_eq x.durability y.durability) fourth.1 in
      let same_data = (datas x.crate_data y.crate_data clean_x clean_y).0 first.0 in
      let same_extra = (extras x.extra_data y.extra_data).0 second.0 in
      let same_workspace = (workspaces x.workspace_data y.workspace_data).0 third.0 in
      let same_atoms = (atoms x.cfg_options y.cfg_options).0 fourth.0 in
      let same_env = (envs x.env y.env).0 fifth.0 in
      let same_durability = (durabilities x.durability y.durability).0 fifth.1 in
      λ i. record {
        crate_data = same_data i;
        extra_data = same_extra i;
        workspace_data = same_workspace i;
        cfg_options = same_atoms i;
        env = same_env i;
        durability = same_durability i;
      }

  -- inputs are equal exactly where they have the same content
  pub inputs_compare : ((x : CrateInput) → input_eq x x ≡ true) → (x y : CrateInput) → HasCleanInput x → HasCleanInput y
      → (input_eq x y ≡ true) ↔ (x ≡ y)
  inputs_compare itself x y clean_x clean_y = (
    one_input x y clean_x clean_y,
    λ same. ap (input_eq x) (sym same) ∙ itself x,
  )
