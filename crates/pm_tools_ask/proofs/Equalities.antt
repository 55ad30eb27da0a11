-- Equality of contents, for toolchains.
use Rattle.std.proofs.Common.{◌≡◌, ◌↔◌, ℕ, List, Bool, true, ◌&&◌, ap, sym, ◌∙◌, refl, Option, Some, None, unwrap_or}
use Rattle.std.proofs.lemmas.Bool.{false≢true}
use Rattle.std.proofs.lemmas.Bool.Decides.{Decides-and}
use Rattle.std.specs.Option.{option_eq}
use Rattle.std.specs.Prelude.{IfSome}
use Rattle.base_text_paths.proofs.Equalities.{paths}
use Rattle.base_text_paths.specs.PathOrder.{path_eq}
use Rattle.base_text_paths.specs.Paths.{IsClean}
use Rattle.pm_tools_ask.specs.Laws.{HasCleanToolchain}
use Rattle.pm_tools_ask.specs.Toolchain.{Toolchain}
use Rattle.pm_tools_ask.specs.declared.rust_lib_src.RustLibSrcWorkspace.{RustLibSrcWorkspace}
use Rattle.pm_tools_ask.specs.declared.rust_lib_src.RustLibSrcWorkspace.TheVariants.{Empty}

-- there is one value
pub one_workspace : (x y : RustLibSrcWorkspace) → x ≡ y
one_workspace Empty Empty = refl

-- clean paths, where there are any
pub optional_paths : (x y : Option (List ℕ)) → IfSome x IsClean → IfSome y IsClean → (option_eq path_eq x y ≡ true) ↔ (x ≡ y)
optional_paths None None a b = (λ e. refl, λ e. refl)
optional_paths None (Some q) a b = (λ e. absurd (false≢true e), λ e. absurd (cc))
optional_paths (Some p) None a b = (λ e. absurd (false≢true e), λ e. absurd (cc))
optional_paths (Some p) (Some q) a b =
    let same = paths p q a b in
    (λ e. ap Some (same.0 e), λ e. same.1 (ap (λ (o : Option (List ℕ)). unwrap_or o p) e))

-- toolchains that are compared field by field
pub toolchains : (eq : Toolchain → Toolchain → Bool) (same : RustLibSrcWorkspace → RustLibSrcWorkspace → Bool)
    → ((x y : RustLibSrcWorkspace) → same x y ≡ true)
    → ((x y : Toolchain) → eq x y ≡ (option_eq path_eq x.root y.root && (option_eq path_eq x.src y.src && same x.workspace y.workspace)))
    → (x y : Toolchain) → HasCleanToolchain x → HasCleanToolchain y → (eq x y ≡ true) ↔ (x ≡ y)
toolchains eq same always by x y a b =
    let root = optional_paths x.root y.root a.root b.root in
    let src = optional_paths x.src y.src a.src b.src in
    let workspace : (same x.workspace y.workspace ≡ true) ↔ (x.workspace ≡ y.workspace) =
    (λ e. one_workspace x.workspace y.workspace, λ e. always x.workspace y.workspace) in
    let all = Decides-and _ _ root (Decides-and _ _ src workspace) in (
      λ e. let p = all.0 (sym (by x y) ∙ e) in λ i. record { root = p.0 i; src = p.1.0 i; workspace = p.1.1 i },
      λ e. by x y ∙ all.1 (ap (λ (t : Toolchain). t.root) e, (ap (λ (t : Toolchain). t.src) e, ap (λ (t : Toolchain). t.workspace) e)),
    )
