-- The numbers beside encodings, as roots are noted from the last set to the first.
use Rattle.std.proofs.Common.{◌≡◌, ℕ, suc, ◌+◌, ◌<◌, ◌≤◌, Bool, true, false, cond, ◌||◌, List, [], ◌∷◌, Option, Some}
use Rattle.std.proofs.Common.{Result, Ok, Err, Vec, IfOk, vec_items, get_or, drop, length, refl, sym, ◌∙◌, ap}
use Rattle.std.proofs.Common.{arith, add-one, drop-cons, subst}
use Rattle.std.proofs.lemmas.Iterator.{YieldsList}
use Rattle.std.proofs.lemmas.Iterator.Consumers.{YieldsList-from_shown}
use Rattle.std.proofs.lemmas.Map.Text.{is_eq-slice_cmp}
use Rattle.std.specs.BTreeMap.{BTreeMap, Updates, is_at}
use Rattle.std.specs.Cmp.Lexicographic.{nat_list_eq_equiv, slice_cmp}
use Rattle.std.specs.List.{position_from}
use Rattle.std.specs.List.Sorted.{IsStrictlySortedBy}
use Rattle.std.specs.Map.{keys_of, lookup}
use Rattle.std.specs.Map.Iter.{TakesFirst}
use Rattle.std.specs.Ordering.{nat_cmp}
use Rattle.std.specs.Str.{bytes_eq}
use Rattle.vfs_core.specs.VfsPath.{PathContent}
use Rattle.vfs_sets.specs.Placement.{encoding}
use Rattle.vfs_sets.specs.Roots.{AreRoots, PutsRoots, has_encoding, number_beside}
use Rattle.vfs_sets.proofs.PlaceLemmas.{drop_end}

-- a look-up by order is one by the bytes
noted_is : (bytes : List ℕ) (pairs : List (List ℕ × ℕ)) → lookup (is_at (slice_cmp nat_cmp bytes)) pairs ≡ number_beside bytes pairs
noted_is bytes [] = refl
noted_is bytes (pair ∷ pairs) =
    ap (λ (b : Bool). cond b (Some pair.1) (lookup (is_at (slice_cmp nat_cmp bytes)) pairs)) (is_eq-slice_cmp bytes pair.0)
    ∙ ap (λ (n : Option ℕ). cond (bytes_eq bytes pair.0) (Some pair.1) n) (noted_is bytes pairs)

-- what stands beside each encoding after a number was put beside one
noted_after : (old new : BTreeMap (List ℕ) ℕ) (own : List ℕ) (number : ℕ) → Updates (slice_cmp nat_cmp) old new own (Some number)
    → (bytes : List ℕ) → number_beside bytes new.entries ≡ cond (bytes_eq bytes own) (Some number) (number_beside bytes old.entries)
noted_after old new own number updates bytes =
    sym (noted_is bytes new.entries) ∙ updates.0 bytes
    ∙ ap (λ (b : Bool). cond b (Some number) (lookup (is_at (slice_cmp nat_cmp bytes)) old.entries))
    (is_eq-slice_cmp own bytes ∙ nat_list_eq_equiv.symm own bytes)
    ∙ ap (λ (n : Option ℕ). cond (bytes_eq bytes own) (Some number) n) (noted_is bytes old.entries)

-- where roots are still to be noted: with those, each encoding has what it has after all
pub record NotesRest (old now : List (List ℕ × ℕ)) (roots : List PathContent) (number index : ℕ) : Type 0 where
  pub each : (bytes : List ℕ) → cond (has_encoding bytes (drop index roots)) (Some number) (number_beside bytes now)
      ≡ cond (has_encoding bytes roots) (Some number) (number_beside bytes old)

-- before the first root
pub rest_all : (old : List (List ℕ × ℕ)) (roots : List PathContent) (number : ℕ) → NotesRest old old roots number 0
rest_all old roots number = record { each = λ bytes. refl }

-- a number that one of two notes
pub either : (here rest : Bool) (number other : Option ℕ)
    → cond rest number (cond here number other) ≡ cond (here || rest) number other
either true true number other = refl
either true false number other = refl
either false true number other = refl
either false false number other = refl

-- after one root more
pub rest_more : (old : List (List ℕ × ℕ)) (before after : BTreeMap (List ℕ) ℕ) (roots : List PathContent) (root : PathContent)
    → (own : List ℕ) (number index : ℕ)
    → NotesRest old before.entries roots number index → index < length roots → root ≡ get_or roots index root
    → own ≡ encoding root
    → Updates (slice_cmp nat_cmp) before after own (Some number)
    → NotesRest old after.entries roots number (index + 1)
rest_more old before after roots root own number index rest inside is own_is updates =
    let cut : drop index roots ≡ root ∷ drop (index + 1) roots =
    drop-cons roots index root inside ∙ ap (λ r. r ∷ drop (suc index) roots) (sym is)
    ∙ ap (λ n. root ∷ drop n roots) (sym (add-one index)) in
    record {
      each = λ bytes.
          ap (λ (n : Option ℕ). cond (has_encoding bytes (drop (index + 1) roots)) (Some number) n)
          (noted_after before after own number updates bytes
          ∙ ap (λ (o : List ℕ). cond (bytes_eq bytes o) (Some number) (number_beside bytes before.entries)) own_is)
          ∙ either (bytes_eq bytes (encoding root)) (has_encoding bytes (drop (index + 1) roots)) (Some number)
          (number_beside bytes before.entries)
          ∙ ap (λ (rs : List PathContent). cond (has_encoding bytes rs) (Some number) (number_beside bytes before.entries)) (sym cut)
          ∙ rest.each bytes;
    }

-- after the last root
pub rest_none : (old now : List (List ℕ × ℕ)) (roots : List PathContent) (number index : ℕ) → NotesRest old now roots number index
    → index ≡ length roots → PutsRoots old now roots number
rest_none old now roots number index rest e = record {
  each = λ bytes.
      sym (ap (λ (rs : List PathContent). cond (has_encoding bytes rs) (Some number) (number_beside bytes now))
      (ap (λ n. drop n roots) e ∙ drop_end roots))
      ∙ rest.each bytes;
}

-- where the sets from a number on are noted
pub record NotesBehind (sets : List (List PathContent)) (pairs : List (List ℕ × ℕ)) (number : ℕ) : Type 0 where
  pub within : number ≤ length sets
  pub each : (bytes : List ℕ) → number_beside bytes pairs ≡ position_from (has_encoding bytes) number (drop number sets)

-- before the last set
pub behind_none : (sets : List (List PathContent)) (pairs : List (List ℕ × ℕ)) → pairs ≡ [] → NotesBehind sets pairs (length sets)
behind_none sets pairs none = record {
  within = omega arith;
  each = λ bytes.
      ap (λ (ps : List (List ℕ × ℕ)). number_beside bytes ps) none
      ∙ sym (ap (λ (s : List (List PathContent)). position_from (has_encoding bytes) (length sets) s) (drop_end sets));
}

-- after one set more
pub behind_more : (sets : List (List PathContent)) (old new : List (List ℕ × ℕ)) (roots : List PathContent) (before number : ℕ)
    → NotesBehind sets old before → number + 1 ≡ before → roots ≡ get_or sets number roots → PutsRoots old new roots number
    → NotesBehind sets new number
behind_more sets old new roots before number behind next is notes =
    let inside : number < length sets = omega (arith, behind.within) in
    let cut : drop number sets ≡ roots ∷ drop before sets =
    drop-cons sets number roots inside ∙ ap (λ (r : List PathContent). r ∷ drop (suc number) sets) (sym is)
    ∙ ap (λ n. roots ∷ drop n sets) (sym (add-one number) ∙ next) in
    record {
      within = omega (arith, behind.within);
      each = λ bytes.
          notes.each bytes
          ∙ ap (λ (n : Option ℕ). cond (has_encoding bytes roots) (Some number) n)
          (behind.each bytes ∙ ap (λ n. position_from (has_encoding bytes) n (drop before sets)) (sym next))
          ∙ ap (λ (s : List (List PathContent)). position_from (has_encoding bytes) number s) (sym cut);
    }

-- after the first set
pub behind_all : (sets : List (List PathContent)) (pairs : List (List ℕ × ℕ)) (number : ℕ) → NotesBehind sets pairs number → number ≡ 0
    → IsStrictlySortedBy (slice_cmp nat_cmp) (keys_of pairs) → AreRoots sets pairs
behind_all sets pairs number behind none ordered = record {
  ascending = ordered;
  each = λ bytes. behind.each bytes ∙ ap (λ n. position_from (has_encoding bytes) n (drop n sets)) none;
}

-- a map's entries, taken one after the other, are its entries
pub gives_all : {X : Type 0} (left entries : List X) → left ≡ entries
    → YieldsList (TakesFirst (λ (x : X). x)) (λ x. x) left entries
gives_all {X} left entries e =
    subst (YieldsList (TakesFirst (λ (x : X). x)) (λ x. x) left) e
    (YieldsList-from_shown (TakesFirst (λ (x : X). x)) (λ x. x) (λ s. s) (λ s t h. ap length h.0) (λ s x t h. h) left)

-- what was listed is what stood there
pub roots_listed : {Z E : Type 0} (sets : List (List PathContent)) (entries : List (List ℕ × ℕ))
    → (listed : Result (Vec (List ℕ × ℕ) Z) E)
    → AreRoots sets entries → IfOk listed (λ w. vec_items w ≡ entries) → IfOk listed (λ w. AreRoots sets w.items)
roots_listed sets entries (Ok w) all is = subst (AreRoots sets) (sym is) all
roots_listed sets entries (Err e) all is = tt
