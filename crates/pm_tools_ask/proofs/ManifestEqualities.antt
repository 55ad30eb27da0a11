-- Equality of contents, for manifests.
use Rattle.std.proofs.Common.{◌≡◌, ◌↔◌, ℕ, List, Bool, true, false, ap, sym, ◌∙◌, arith}
use Rattle.std.proofs.lemmas.Bool.{false≢true}
use Rattle.base_text_paths.proofs.Equalities.{paths}
use Rattle.base_text_paths.specs.PathOrder.{path_eq}
use Rattle.base_text_paths.specs.Paths.{IsClean}
use Rattle.pm_tools_ask.specs.declared.project_manifest.ProjectManifest.{ProjectManifest}
use Rattle.pm_tools_ask.specs.declared.project_manifest.ProjectManifest.TheVariants.{ProjectJson, CargoToml, CargoScript}
use Rattle.pm_tools_ask.specs.Manifest.{kind_place, manifest_path}

-- an equality that compares the paths of manifests of one kind, and finds those of two kinds different
pub record IsByPath (eq : ProjectManifest → ProjectManifest → Bool) : Type 0 where
  pub json : (p q : List ℕ) → eq (ProjectJson p) (ProjectJson q) ≡ path_eq p q
  pub table : (p q : List ℕ) → eq (CargoToml p) (CargoToml q) ≡ path_eq p q
  pub script : (p q : List ℕ) → eq (CargoScript p) (CargoScript q) ≡ path_eq p q
  pub json_table : (p q : List ℕ) → eq (ProjectJson p) (CargoToml q) ≡ false
  pub json_script : (p q : List ℕ) → eq (ProjectJson p) (CargoScript q) ≡ false
  pub table_json : (p q : List ℕ) → eq (CargoToml p) (ProjectJson q) ≡ false
  pub table_script : (p q : List ℕ) → eq (CargoToml p) (CargoScript q) ≡ false
  pub script_json : (p q : List ℕ) → eq (CargoScript p) (ProjectJson q) ≡ false
  pub script_table : (p q : List ℕ) → eq (CargoScript p) (CargoToml q) ≡ false

pub manifests : (eq : ProjectManifest → ProjectManifest → Bool) → IsByPath eq → (x y : ProjectManifest) → IsClean (manifest_path x) → IsClean (manifest_path y) → (eq x y ≡ true) ↔ (x ≡ y)
manifests eq by (ProjectJson p) (ProjectJson q) a b =
    let same = paths p q a b in
    (λ e. ap ProjectJson (same.0 (sym (by.json p q) ∙ e)), λ e. by.json p q ∙ same.1 (ap manifest_path e))
manifests eq by (CargoToml p) (CargoToml q) a b =
    let same = paths p q a b in
    (λ e. ap CargoToml (same.0 (sym (by.table p q) ∙ e)), λ e. by.table p q ∙ same.1 (ap manifest_path e))
manifests eq by (CargoScript p) (CargoScript q) a b =
    let same = paths p q a b in
    (λ e. ap CargoScript (same.0 (sym (by.script p q) ∙ e)), λ e. by.script p q ∙ same.1 (ap manifest_path e))
manifests eq by (ProjectJson p) (CargoToml q) a b = (λ e. absurd (false≢true (sym (by.json_table p q) ∙ e)), λ e. absurd (omega (arith, ap kind_place e)))
manifests eq by (ProjectJson p) (CargoScript q) a b = (λ e. absurd (false≢true (sym (by.json_script p q) ∙ e)), λ e. absurd (omega (arith, ap kind_place e)))
manifests eq by (CargoToml p) (ProjectJson q) a b = (λ e. absurd (false≢true (sym (by.table_json p q) ∙ e)), λ e. absurd (omega (arith, ap kind_place e)))
manifests eq by (CargoToml p) (CargoScript q) a b = (λ e. absurd (false≢true (sym (by.table_script p q) ∙ e)), λ e. absurd (omega (arith, ap kind_place e)))
manifests eq by (CargoScript p) (ProjectJson q) a b = (λ e. absurd (false≢true (sym (by.script_json p q) ∙ e)), λ e. absurd (omega (arith, ap kind_place e)))
manifests eq by (CargoScript p) (CargoToml q) a b = (λ e. absurd (false≢true (sym (by.script_table p q) ∙ e)), λ e. absurd (omega (arith, ap kind_place e)))
