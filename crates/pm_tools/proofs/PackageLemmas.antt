-- Packages under their ids: what one more package in order changes, and that each one found is there.
use Rattle.std.proofs.Common.{◌≡◌, ℕ, suc, ◌+◌, ◌<◌, Bool, true, false, cond, List, [], ◌∷◌, ◌++◌, length, take, get_or, bytes_eq, IfSome, Option, Some, None, Ordering, Less, Equal, Greater, add-one, ap, arith, refl, subst, sym, ◌∙◌, true≢false}
use Rattle.std.proofs.Math.Seq.{take-suc}
use Rattle.std.proofs.lemmas.Bool.Decides.{Decides-like, same_from_decides}
use Rattle.std.proofs.lemmas.List.{length-take, take_all}
use Rattle.std.proofs.lemmas.Map.Text.{is_eq-slice_cmp}
use Rattle.std.proofs.lemmas.Slice.Eq.{bytes_eq-Decides}
use Rattle.std.specs.BTreeMap.{insert_entry, is_at}
use Rattle.std.specs.Map.{lookup}
use Rattle.std.specs.Option.{option_map, option_or}
use Rattle.std.specs.Ordering.{is_eq, match_ordering}
use Rattle.base_text_paths.specs.Arena.{number_of}
use Rattle.base_text_paths.specs.declared.arena.Idx.{Idx}
use Rattle.base_values.specs.ByText.{text_cmp, value_at, with_value}
use Rattle.pm_cargo_packages.specs.declared.package.PackageData.{PackageData}
use Rattle.pm_cargo_packages.specs.declared.package.PackageTag.{PackageTag}
use Rattle.pm_cargo_reading.specs.Nodes.{last_place, place_of_package}
use Rattle.pm_cargo_reading.proofs.PlaceLemmas.{last_place-within}
use Rattle.pm_tools.specs.Packages.{ById, IsIndexOf, place_under}

-- texts that tie are the same
tie : (a b : List ℕ) → is_eq (text_cmp a b) ≡ true → a ≡ b
tie a b e = (bytes_eq-Decides a b).0 (sym (is_eq-slice_cmp a b) ∙ e)

-- a text ties with itself
ties : (a b : List ℕ) → a ≡ b → is_eq (text_cmp a b) ≡ true
ties a b e = is_eq-slice_cmp a b ∙ (bytes_eq-Decides a b).1 e

module _ {V : Type 0} (q : List ℕ) where
  replaced : (x v : V) (rest : Option V) (b c : Bool) → c ≡ b → cond c (Some v) rest ≡ cond b (Some v) (cond c (Some x) rest)
  replaced x v rest true true e = refl
  replaced x v rest false false e = refl
  replaced x v rest true false e = cc
  replaced x v rest false true e = cc

  passed : (x v : V) (rest : Option V) (b c : Bool) → (c ≡ true → b ≡ true → ⊥) → cond c (Some x) (cond b (Some v) rest) ≡ cond b (Some v) (cond c (Some x) rest)
  passed x v rest true true apart = absurd (apart refl refl)
  passed x v rest true false apart = refl
  passed x v rest false true apart = refl
  passed x v rest false false apart = refl

  placed : (k : List ℕ) (v : V) (e : List ℕ × V) (es rest : List (List ℕ × V)) (o : Ordering) → text_cmp k e.0 ≡ o
      → lookup (is_at (text_cmp q)) rest ≡ cond (is_at (text_cmp q) k) (Some v) (lookup (is_at (text_cmp q)) es)
      → lookup (is_at (text_cmp q)) (match_ordering o ((k, v) ∷ e ∷ es) ((e.0, v) ∷ es) (e ∷ rest))
      ≡ cond (is_at (text_cmp q) k) (Some v) (lookup (is_at (text_cmp q)) (e ∷ es))
  placed k v e es rest Less is more = refl
  placed k v e es rest Equal is more =
      replaced e.1 v (lookup (is_at (text_cmp q)) es) (is_at (text_cmp q) k) (is_at (text_cmp q) e.0) (ap (is_at (text_cmp q)) (sym (tie k e.0 (ap is_eq is))))
  placed k v e es rest Greater is more =
      ap (λ r. cond (is_at (text_cmp q) e.0) (Some e.1) r) more
      ∙ passed e.1 v (lookup (is_at (text_cmp q)) es) (is_at (text_cmp q) k) (is_at (text_cmp q) e.0)
      (λ at_e at_k. true≢false (sym (ties k e.0 (sym (tie q k at_k) ∙ tie q e.0 at_e)) ∙ ap is_eq is))

  -- what is found where one value is put at a key
  pub value_at-with_value : (k : List ℕ) (v : V) (es : List (List ℕ × V)) → value_at q (with_value k v es) ≡ cond (is_at (text_cmp q) k) (Some v) (value_at q es)
  value_at-with_value k v [] = refl
  value_at-with_value k v (e ∷ es) = placed k v e es (insert_entry text_cmp es k v) (text_cmp k e.0) refl (value_at-with_value k v es)

module _ {X : Type 0} (p : X → Bool) where
  last_more : (b : Bool) (n : ℕ) (o first : Option ℕ) → option_or (option_map suc (cond b (Some n) o)) first ≡ cond b (Some (suc n)) (option_or (option_map suc o) first)
  last_more true n o first = refl
  last_more false n o first = refl

  -- the last of the items that pass, where one more comes behind them
  pub last_place-more : (xs : List X) (x : X) → last_place p (xs ++ x ∷ []) ≡ cond (p x) (Some (length xs)) (last_place p xs)
  last_place-more [] x = refl
  last_place-more (y ∷ xs) x =
      ap (λ o. option_or (option_map suc o) (cond (p y) (Some 0) None)) (last_place-more xs x)
      ∙ last_more (p x) (length xs) (last_place p xs) (cond (p y) (Some 0) None)

number_cond : (b : Bool) (id : Idx PackageTag) (o : Option (Idx PackageTag)) → option_map number_of (cond b (Some id) o) ≡ cond b (Some (number_of id)) (option_map number_of o)
number_cond true id o = refl
number_cond false id o = refl

-- no packages stand under no ids
pub index-none : (packages : List PackageData) → IsIndexOf (take 0 packages) []
unfolding place_of_package
index-none packages id = refl

-- the next package under its id
pub index-more : (packages : List PackageData) (ids : ById) (n : ℕ) (p : PackageData) (id : Idx PackageTag) → n < length packages → p ≡ get_or packages n p
    → number_of id ≡ n → IsIndexOf (take n packages) ids → IsIndexOf (take (n + 1) packages) (with_value p.id.repr id ids)
unfolding place_of_package
index-more packages ids n p id within here is before q =
    let passes : PackageData → Bool = λ r. bytes_eq r.id.repr q in
    let same : is_at (text_cmp q) p.id.repr ≡ passes p =
    is_eq-slice_cmp q p.id.repr ∙ both q p.id.repr in
    let count : length (take n packages) ≡ n = omega (arith, length-take n packages) in
    let more : take n packages ++ p ∷ [] ≡ take (n + 1) packages =
    ap (λ x. take n packages ++ x ∷ []) here ∙ sym (take-suc packages n p within) ∙ ap (λ k. take k packages) (sym (add-one n)) in
    ap (option_map number_of) (value_at-with_value q p.id.repr id ids)
    ∙ number_cond (is_at (text_cmp q) p.id.repr) id (value_at q ids)
    ∙ ap (λ b. cond b (Some (number_of id)) (place_under ids q)) same
    ∙ ap (λ o. cond (passes p) (Some (number_of id)) o) (before q)
    ∙ ap (λ k. cond (passes p) (Some k) (last_place passes (take n packages))) (is ∙ sym count)
    ∙ sym (last_place-more passes (take n packages) p)
    ∙ ap (last_place passes) more
  where
    both : (a b : List ℕ) → bytes_eq a b ≡ bytes_eq b a
    both a b = same_from_decides (bytes_eq a b) (bytes_eq b a) (bytes_eq-Decides a b) (Decides-like (bytes_eq b a) sym sym (bytes_eq-Decides b a))

-- all packages stand under their ids
pub index-all : (packages : List PackageData) (ids : ById) (n : ℕ) → n ≡ length packages → IsIndexOf (take n packages) ids → IsIndexOf packages ids
index-all packages ids n all is = subst (λ ps. IsIndexOf ps ids) (take_all n packages (omega (arith, all))) is

-- a package that is found is one of the workspace
pub found_within : (packages : List PackageData) (ids : ById) (id : List ℕ) (o : Option (Idx PackageTag)) → IsIndexOf packages ids → value_at id ids ≡ o → IfSome o (λ found. number_of found < length packages)
unfolding place_of_package
found_within packages ids id None is at = tt
found_within packages ids id (Some found) is at =
    last_place-within (λ p. bytes_eq p.id.repr id) packages (number_of found) (sym (is id) ∙ ap (option_map number_of) at)
