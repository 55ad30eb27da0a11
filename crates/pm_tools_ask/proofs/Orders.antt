-- The order of manifests, kind by kind.
use Rattle.std.proofs.Common.{◌≡◌, ℕ, List}
use Rattle.std.specs.declared.cmp.Ordering.{Ordering}
use Rattle.std.specs.declared.cmp.Ordering.TheVariants.{Less, Greater}
use Rattle.base_text_paths.specs.PathOrder.{path_cmp}
use Rattle.pm_tools_ask.specs.Manifest.{manifest_cmp}
use Rattle.pm_tools_ask.specs.declared.project_manifest.ProjectManifest.{ProjectManifest}
use Rattle.pm_tools_ask.specs.declared.project_manifest.ProjectManifest.TheVariants.{ProjectJson, CargoToml, CargoScript}

-- an order that compares the paths of manifests of one kind, and the kinds of others
pub manifests : (cmp : ProjectManifest → ProjectManifest → Ordering)
    → ((p q : List ℕ) → cmp (ProjectJson p) (ProjectJson q) ≡ path_cmp p q)
    → ((p q : List ℕ) → cmp (CargoToml p) (CargoToml q) ≡ path_cmp p q)
    → ((p q : List ℕ) → cmp (CargoScript p) (CargoScript q) ≡ path_cmp p q)
    → ((p q : List ℕ) → cmp (ProjectJson p) (CargoToml q) ≡ Less)
    → ((p q : List ℕ) → cmp (ProjectJson p) (CargoScript q) ≡ Less)
    → ((p q : List ℕ) → cmp (CargoToml p) (CargoScript q) ≡ Less)
    → ((p q : List ℕ) → cmp (CargoToml p) (ProjectJson q) ≡ Greater)
    → ((p q : List ℕ) → cmp (CargoScript p) (ProjectJson q) ≡ Greater)
    → ((p q : List ℕ) → cmp (CargoScript p) (CargoToml q) ≡ Greater)
    → (x y : ProjectManifest) → cmp x y ≡ manifest_cmp x y
manifests cmp json table script json_table json_script table_script table_json script_json script_table (ProjectJson p) (ProjectJson q) = json p q
manifests cmp json table script json_table json_script table_script table_json script_json script_table (CargoToml p) (CargoToml q) = table p q
manifests cmp json table script json_table json_script table_script table_json script_json script_table (CargoScript p) (CargoScript q) = script p q
manifests cmp json table script json_table json_script table_script table_json script_json script_table (ProjectJson p) (CargoToml q) = json_table p q
manifests cmp json table script json_table json_script table_script table_json script_json script_table (ProjectJson p) (CargoScript q) = json_script p q
manifests cmp json table script json_table json_script table_script table_json script_json script_table (CargoToml p) (CargoScript q) = table_script p q
manifests cmp json table script json_table json_script table_script table_json script_json script_table (CargoToml p) (ProjectJson q) = table_json p q
manifests cmp json table script json_table json_script table_script table_json script_json script_table (CargoScript p) (ProjectJson q) = script_json p q
manifests cmp json table script json_table json_script table_script table_json script_json script_table (CargoScript p) (CargoToml q) = script_table p q
