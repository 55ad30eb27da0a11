-- Whether a target is that of a procedural macro, as a fact and as a test.
use Rattle.std.proofs.Common.{◌≡◌, ◌↔◌, Bool, IsTrue, List, refl}
use Rattle.std.proofs.lemmas.Bool.Decides.{Decides-by_or, same_from_decides}
use Rattle.std.proofs.lemmas.List.Elements.{Decides-contains}
use Rattle.std.specs.Bool.{Decides}
use Rattle.std.specs.List.{Contains, list_any}
use Rattle.cargo_meta_values.specs.declared.kinds.TargetKind.{TargetKind}
use Rattle.cargo_meta_values.specs.declared.kinds.TargetKind.TheVariants as kind
use Rattle.pm_tools.specs.Artifact.{is_macro_kind}

decides_kind : (k : TargetKind) → Decides (is_macro_kind k) (k ≡ kind.ProcMacro)
decides_kind kind.Bench = (λ e. cc, λ e. cc)
decides_kind kind.Bin = (λ e. cc, λ e. cc)
decides_kind kind.CustomBuild = (λ e. cc, λ e. cc)
decides_kind kind.CDyLib = (λ e. cc, λ e. cc)
decides_kind kind.DyLib = (λ e. cc, λ e. cc)
decides_kind kind.Example = (λ e. cc, λ e. cc)
decides_kind kind.Lib = (λ e. cc, λ e. cc)
decides_kind kind.ProcMacro = (λ e. refl, λ e. refl)
decides_kind kind.RLib = (λ e. cc, λ e. cc)
decides_kind kind.StaticLib = (λ e. cc, λ e. cc)
decides_kind kind.Test = (λ e. cc, λ e. cc)
decides_kind (kind.Unknown text) = (λ e. cc, λ e. cc)

-- a test that is true where the kinds have that of a macro is the test of the kinds
pub is_macro_test : (r : Bool) (kinds : List TargetKind) → IsTrue r ↔ Contains kinds kind.ProcMacro → r ≡ list_any is_macro_kind kinds
is_macro_test r kinds h =
    same_from_decides r (list_any is_macro_kind kinds) (h.0, h.1)
    (Decides-contains kinds kind.ProcMacro (list_any is_macro_kind kinds) (Decides-by_or is_macro_kind (λ k. k ≡ kind.ProcMacro) (list_any is_macro_kind) decides_kind refl (λ _ _. refl) kinds))
