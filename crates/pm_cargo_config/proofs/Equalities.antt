-- Equality of contents, for what is configured.
use Rattle.std.proofs.Common.{◌≡◌, ◌↔◌, ℕ, List, [], Bool, true, false, ◌&&◌, nat_eq, ap, refl, sym, ◌∙◌, arith}
use Rattle.std.specs.Bool.{beq}
use Rattle.std.specs.Cmp.Lexicographic.{pointwise}
use Rattle.std.proofs.lemmas.Bool.{false≢true}
use Rattle.std.proofs.lemmas.Bool.Decides.{Decides-and}
use Rattle.base_values.proofs.Equalities.{lists, texts}
use Rattle.base_values.specs.Equality.{IsContentEquality}
use Rattle.base_text_paths.proofs.Equalities.{paths}
use Rattle.base_text_paths.specs.CfgChange.{CfgChange}
use Rattle.base_text_paths.specs.PathOrder.{path_eq}
use Rattle.pm_cargo_config.specs.Laws.{HasCleanSource}
use Rattle.pm_cargo_config.specs.declared.config.RustLibSource.{RustLibSource}
use Rattle.pm_cargo_config.specs.declared.config.RustLibSource.TheVariants.{Path, Discover}
use Rattle.pm_cargo_config.specs.declared.features.CargoFeatures.{CargoFeatures}
use Rattle.pm_cargo_config.specs.declared.features.CargoFeatures.TheVariants.{All, Selected}
use Rattle.pm_cargo_config.specs.declared.overrides.CfgOverrides.{CfgOverrides}

-- overrides, by their changes
pub overrides : (diff : CfgChange → CfgChange → Bool) (by_name : List (List ℕ × CfgChange) → List (List ℕ × CfgChange) → Bool)
    → IsContentEquality diff → IsContentEquality by_name
    → IsContentEquality {A = CfgOverrides} (λ x y. diff x.global y.global && by_name x.selective y.selective)
overrides diff by_name diffs names x y =
    let both = Decides-and _ _ (diffs x.global y.global) (names x.selective y.selective) in (
      λ h. let parts = both.0 h in λ i. record { global = parts.0 i; selective = parts.1 i },
      λ h. both.1 (ap (λ (o : CfgOverrides). o.global) h, ap (λ (o : CfgOverrides). o.selective) h),
    )

-- flags are one of two
flags : (x y : Bool) → (beq x y ≡ true) ↔ (x ≡ y)
flags true true = (λ e. refl, λ e. refl)
flags true false = (λ e. sym e, λ e. sym e)
flags false true = (λ e. e, λ e. e)
flags false false = (λ e. refl, λ e. refl)

-- a number for each choice of features
choice : CargoFeatures → ℕ
choice All = 0
choice (Selected names without) = 1

-- the features of a choice that names some
names_of : CargoFeatures → List (List ℕ)
names_of All = []
names_of (Selected names without) = names

-- a choice leaves the default features out
leaves_out : CargoFeatures → Bool
leaves_out All = false
leaves_out (Selected names without) = without

-- choices of features, by their names and their flags
pub features : (eq : CargoFeatures → CargoFeatures → Bool)
    → eq All All ≡ true → ((f : List (List ℕ)) (n : Bool) → eq All (Selected f n) ≡ false)
    → ((f : List (List ℕ)) (n : Bool) → eq (Selected f n) All ≡ false)
    → ((f g : List (List ℕ)) (n m : Bool) → eq (Selected f n) (Selected g m) ≡ (pointwise (pointwise nat_eq) f g && beq n m))
    → IsContentEquality eq
unfolding choice names_of leaves_out
features eq all first second both All All = (λ e. λ i. All, λ e. all)
features eq all first second both All (Selected g m) = (λ e. absurd (false≢true (sym (first g m) ∙ e)), λ e. absurd (omega (arith, ap choice e)))
features eq all first second both (Selected f n) All = (λ e. absurd (false≢true (sym (second f n) ∙ e)), λ e. absurd (omega (arith, ap choice e)))
features eq all first second both (Selected f n) (Selected g m) =
    let parts = Decides-and _ _ (lists _ texts f g) (flags n m) in (
      λ e. let h = parts.0 (sym (both f g n m) ∙ e) in λ i. Selected (h.0 i) (h.1 i),
      λ e. both f g n m ∙ parts.1 (ap names_of e, ap leaves_out e),
    )

-- a number for each kind of place
kind : RustLibSource → ℕ
kind (Path path) = 0
kind Discover = 1

-- the path of a place, if it has one
path_of : RustLibSource → List ℕ → List ℕ
path_of (Path path) other = path
path_of Discover other = other

-- places, by their paths
pub sources : (eq : RustLibSource → RustLibSource → Bool)
    → ((p q : List ℕ) → eq (Path p) (Path q) ≡ path_eq p q) → ((p : List ℕ) → eq (Path p) Discover ≡ false)
    → ((q : List ℕ) → eq Discover (Path q) ≡ false) → eq Discover Discover ≡ true
    → (x y : RustLibSource) → HasCleanSource x → HasCleanSource y → (eq x y ≡ true) ↔ (x ≡ y)
unfolding kind path_of
sources eq both first second none (Path p) (Path q) a b =
    let same = paths p q a b in
    (λ e. ap Path (same.0 (sym (both p q) ∙ e)), λ e. both p q ∙ same.1 (ap (λ s. path_of s p) e))
sources eq both first second none (Path p) Discover a b = (λ e. absurd (false≢true (sym (first p) ∙ e)), λ e. absurd (omega (arith, ap kind e)))
sources eq both first second none Discover (Path q) a b = (λ e. absurd (false≢true (sym (second q) ∙ e)), λ e. absurd (omega (arith, ap kind e)))
sources eq both first second none Discover Discover a b = (λ e. λ i. Discover, λ e. none)
