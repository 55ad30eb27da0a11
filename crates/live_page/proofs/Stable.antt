-- The identities of crates stay where a graph is set in a database.
use Rattle.std.proofs.Common.{◌≡◌, ℕ, zero, suc, ◌+◌, ◌<◌, Bool, true, false, cond, not, nat_lt, List, [], ◌∷◌, length, position, Option, Some, None, refl, sym, ◌∙◌, ap, subst, arith}
use Rattle.std.specs.Prelude.{slice_get}
use Rattle.std.specs.List.{position_or_len}
use Rattle.std.specs.declared.cmp.Ordering.{Ordering}
use Rattle.std.proofs.lemmas.Bool.Decides.{nat_tests}
use Rattle.std.proofs.lemmas.Map.Entries.{length-keys_of}
use Rattle.std.proofs.lemmas.Option.{slice_get_within}
use Rattle.crate_graph.specs.Graph.{Graph}
use Rattle.crate_graph.specs.Extend.{Id}
use Rattle.input_db.specs.Database.{Database}
use Rattle.input_db.specs.Identity.{Table, crate_in, unique_eq, uniques_in}
use Rattle.input_db.specs.SetInDb.{KeepsOtherEntries}
use Rattle.live_page.specs.Refresh.{GivesCrates, KeepsIdentities}

module _ {X : Type 0} (test : X → Bool) where
  -- the first item that passes is where it was, where the items before keep their places
  kept_or_len : (xs ys : List X) → ((n : ℕ) → n < length xs → slice_get ys n ≡ slice_get xs n) → position_or_len test xs < length xs
      → position_or_len test ys ≡ position_or_len test xs
  kept_or_len [] ys same within = absurd (omega (arith, within))
  kept_or_len (x ∷ xs) [] same within = let none : None ≡ Some x = same 0 (omega arith) in absurd (cc)
  kept_or_len (x ∷ xs) (y ∷ ys) same within =
      let first : y ≡ x = let is : Some y ≡ Some x = same 0 (omega arith) in cc in
      ap (λ z. position_or_len test (z ∷ ys)) first ∙ by (kept_or_len xs ys (λ n low. same (suc n) (omega arith))) (not (test x)) within
    where
      by : (position_or_len test xs < length xs → position_or_len test ys ≡ position_or_len test xs) → (b : Bool)
          → cond b (1 + position_or_len test xs) 0 < suc (length xs) → cond b (1 + position_or_len test ys) 0 ≡ cond b (1 + position_or_len test xs) 0
      by more true low = ap (λ n. 1 + n) (more (omega (arith, low)))
      by more false low = refl

  -- the place of the first item that passes, by whether there is one
  in_range : (xs : List X) (n : ℕ) (b : Bool) → nat_lt (position_or_len test xs) (length xs) ≡ b → cond b (Some (position_or_len test xs)) None ≡ Some n
      → (position_or_len test xs ≡ n) × (n < length xs)
  in_range xs n false low is = cc
  in_range xs n true low is =
      let at : position_or_len test xs ≡ n = cc in
      let here : position_or_len test xs < length xs = grind (arith, nat_tests) in
      (at, subst (λ m. m < length xs) at here)

  -- a place in a list is one in the other
  kept_within : (xs ys : List X) (n : ℕ) → n < length xs → slice_get ys n ≡ slice_get xs n → n < length ys
  kept_within [] ys n low same = absurd (omega (arith, low))
  kept_within (x ∷ xs) [] zero low same = let none : None ≡ Some x = same in absurd (cc)
  kept_within (x ∷ xs) [] (suc n) low same = absurd (omega (arith, kept_within xs [] n (omega (arith, low)) same))
  kept_within (x ∷ xs) (y ∷ ys) zero low same = omega arith
  kept_within (x ∷ xs) (y ∷ ys) (suc n) low same = omega (arith, kept_within xs ys n (omega (arith, low)) same)

  kept_position : (xs ys : List X) → ((n : ℕ) → n < length xs → slice_get ys n ≡ slice_get xs n) → (n : ℕ) → position test xs ≡ Some n → position test ys ≡ Some n
  kept_position xs ys same n is =
      let at = in_range xs n (nat_lt (position_or_len test xs) (length xs)) refl is in
      let place : position_or_len test ys ≡ n = kept_or_len xs ys same (subst (λ m. m < length xs) (sym at.0) at.1) ∙ at.0 in
      let low = kept_within xs ys n at.1 (same n at.1) in
      let here : nat_lt (position_or_len test ys) (length ys) ≡ true = grind (arith, nat_tests) in
      ap (λ b. cond b (Some (position_or_len test ys)) None) here ∙ ap Some place

-- a table that keeps what another had keeps its identities
keeps_others : (order numbers : List ℕ) (old new : Table) → KeepsOtherEntries order numbers old new → KeepsIdentities old new
keeps_others order numbers old new kept = record {
  crates = λ unique. kept_position (unique_eq unique) (uniques_in old) (uniques_in new) same;
  identities = λ krate unique is. same krate (slice_get_within (uniques_in old) krate unique is) ∙ is;
}
  where
    same : (n : ℕ) → n < length (uniques_in old) → slice_get (uniques_in new) n ≡ slice_get (uniques_in old) n
    same n low = kept.identities n (subst (λ count. n < count) (length-keys_of old) low)

-- and so does one that is as it was
pub same_identities : (old new : Table) → new ≡ old → KeepsIdentities old new
same_identities old new same = record {
  crates = λ unique krate is. ap (λ t. crate_in t unique) same ∙ is;
  identities = λ krate unique is. ap (λ t. slice_get (uniques_in t) krate) same ∙ is;
}

-- whether a graph is given or not
pub stable_crates : (cmp : Id → Id → Ordering) (graph : Option Graph) (old new : Database) → GivesCrates cmp graph old new → KeepsIdentities old.crates new.crates
stable_crates cmp None old new kept = same_identities old.crates new.crates kept.crates
stable_crates cmp (Some graph) old new given =
    subst (λ table. KeepsIdentities table new.crates) given.kept.crates (keeps_others given.set.set.order given.set.set.numbers given.before.crates new.crates given.set.set.kept)
