-- Roots that are put into a set in turn are the distinct ones, and a list of the set has them in their order.
use Rattle.std.proofs.Common.{◌≡◌, ℕ, ◌+◌, ◌<◌, List, [], ◌∷◌, ◌++◌, map, take, get_or, length, sym, ap, ◌∙◌, subst}
use Rattle.std.proofs.lemmas.Grind.{fold-append}
use Rattle.std.proofs.lemmas.Iterator.{YieldsList}
use Rattle.std.proofs.lemmas.Iterator.Consumers.{YieldsList-from_shown}
use Rattle.std.proofs.lemmas.List.{map-append, take_more}
use Rattle.std.specs.Map.Iter.{TakesFirst}
use Rattle.pm_json.specs.declared.krate.Crate.{Crate}
use Rattle.pm_lower_load.specs.declared.package_root.PackageRoot.{PackageRoot}
use Rattle.pm_lower_load.specs.JsonRoots.{distinct_roots, json_crate_root, with_distinct_root}

-- one root more
distinct_push : (roots : List PackageRoot) (root : PackageRoot) → distinct_roots (roots ++ root ∷ []) ≡ with_distinct_root (distinct_roots roots) root
distinct_push roots root = fold-append with_distinct_root [] roots (root ∷ [])

-- the root of one crate more
pub distinct_more : (extra : List (List ℕ)) (crates : List Crate) (i : ℕ) (c : Crate) → i < length crates → c ≡ get_or crates i c
    → with_distinct_root (distinct_roots (map (json_crate_root extra) (take i crates))) (json_crate_root extra c) ≡ distinct_roots (map (json_crate_root extra) (take (i + 1) crates))
distinct_more extra crates i c within is =
    sym (distinct_push (map (json_crate_root extra) (take i crates)) (json_crate_root extra c))
    ∙ ap distinct_roots (ap (λ x. map (json_crate_root extra) (take i crates) ++ json_crate_root extra x ∷ []) is ∙ sym (map-append (json_crate_root extra) (take i crates) (get_or crates i c ∷ []))
    ∙ ap (map (json_crate_root extra)) (sym (take_more crates i c within)))

-- the keys of a set, taken one after the other, are its keys
pub gives_all : {X : Type 0} (left keys : List X) → left ≡ keys → YieldsList (TakesFirst (λ (x : X). x)) (λ x. x) left keys
gives_all {X} left keys e =
    subst (YieldsList (TakesFirst (λ (x : X). x)) (λ x. x) left) e
    (YieldsList-from_shown (TakesFirst (λ (x : X). x)) (λ x. x) (λ s. s) (λ s t h. ap length h.0) (λ s x t h. h) left)
