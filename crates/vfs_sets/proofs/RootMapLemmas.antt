-- Roots of a kind that are put beside a set's number, from the last set to the first.
use Rattle.std.proofs.Common.{◌≡◌, ℕ, suc, ◌+◌, ◌<◌, ◌≤◌, Bool, true, false, cond, ◌&&◌, List, [], ◌∷◌, Option, Some}
use Rattle.std.proofs.Common.{Vec, get_or, drop, length, refl, sym, ◌∙◌, ap, arith, add-one, drop-cons, subst}
use Rattle.std.specs.Bool.{beq}
use Rattle.std.specs.Cmp.Lexicographic.{bytes_decides, nat_list_eq_equiv}
use Rattle.std.specs.HashMap.{HashMap, Updates}
use Rattle.std.specs.List.{list_any, position_from}
use Rattle.std.specs.Map.{KeepsOthers}
use Rattle.std.specs.Str.{bytes_eq}
use Rattle.vfs_core.specs.VfsPath.{PathContent}
use Rattle.vfs_sets.specs.RootMaps.{MapsRoots, PutsRoot, PutsRootsOf, is_root_of, number_by_text}
use Rattle.vfs_sets.proofs.PlaceLemmas.{drop_end}
use Rattle.vfs_sets.proofs.RootLemmas.{either}

-- a key with one text does not have another
apart : (own text key : List ℕ) → bytes_eq own text ≡ false → bytes_eq own key ≡ true → bytes_eq text key ≡ false
apart own text key differs same =
    nat_list_eq_equiv.symm text key ∙ sym (nat_list_eq_equiv.congr own key text same) ∙ differs

-- other texts keep what stood beside them
others-keep : {Z : Type 0} (own : Vec ℕ Z) (text : List ℕ) (old new : List (Vec ℕ Z × ℕ))
    → KeepsOthers (λ (x y : Vec ℕ Z). bytes_eq x.items y.items) (λ (k : Vec ℕ Z). bytes_eq own.items k.items) old new
    → bytes_eq own.items text ≡ false → number_by_text text new ≡ number_by_text text old
unfolding KeepsOthers
others-keep {Z} own text old new keeps differs =
    keeps (λ (k : Vec ℕ Z). bytes_eq text k.items) (λ x y. nat_list_eq_equiv.congr text x.items y.items)
    (λ k. apart own.items text k.items differs)

-- what stands beside each text after a number was put beside one: the same by whether the text is that one
put-split : {Z S : Type 0} (old new : HashMap (Vec ℕ Z) ℕ S) (own : Vec ℕ Z) (number : ℕ)
    → Updates (λ (x y : Vec ℕ Z). bytes_eq x.items y.items) old new own (Some number)
    → (text : List ℕ) (is_own : Bool) → bytes_eq own.items text ≡ is_own
    → number_by_text text new.entries ≡ cond is_own (Some number) (number_by_text text old.entries)
put-split old new own number updates text true e =
    subst (λ (t : List ℕ). number_by_text t new.entries ≡ Some number) ((bytes_decides own.items text).0 e) updates.1
put-split old new own number updates text false e = others-keep own text old.entries new.entries updates.3 e

put-after : {Z S : Type 0} (old new : HashMap (Vec ℕ Z) ℕ S) (own : Vec ℕ Z) (number : ℕ)
    → Updates (λ (x y : Vec ℕ Z). bytes_eq x.items y.items) old new own (Some number)
    → (text : List ℕ) → number_by_text text new.entries ≡ cond (bytes_eq text own.items) (Some number) (number_by_text text old.entries)
put-after old new own number updates text =
    put-split old new own number updates text (bytes_eq own.items text) refl
    ∙ ap (λ (b : Bool). cond b (Some number) (number_by_text text old.entries)) (nat_list_eq_equiv.symm own.items text)

-- a root of the kind
pub PutsRoot_own : {Z S : Type 0} (old new : HashMap (Vec ℕ Z) ℕ S) (own : Vec ℕ Z) (kind : Bool) (root : PathContent) (number : ℕ)
    → beq root.is_virtual kind ≡ true → own.items ≡ root.text
    → Updates (λ (x y : Vec ℕ Z). bytes_eq x.items y.items) old new own (Some number)
    → PutsRoot kind root number old.entries new.entries
PutsRoot_own old new own kind root number same own_is updates = record {
  each = λ text.
      put-after old new own number updates text
      ∙ ap (λ (t : List ℕ). cond (bytes_eq text t) (Some number) (number_by_text text old.entries)) own_is
      ∙ sym (ap (λ (b : Bool). cond (b && bytes_eq text root.text) (Some number) (number_by_text text old.entries)) same);
}

-- a root of the other
pub PutsRoot_other : {Z : Type 0} (old new : List (Vec ℕ Z × ℕ)) (kind : Bool) (root : PathContent) (number : ℕ)
    → beq root.is_virtual kind ≡ false → new ≡ old → PutsRoot kind root number old new
PutsRoot_other old new kind root number differs same = record {
  each = λ text.
      ap (number_by_text text) same
      ∙ sym (ap (λ (b : Bool). cond (b && bytes_eq text root.text) (Some number) (number_by_text text old)) differs);
}

-- where roots are still to be put: with those, each text has what it has after all
pub record PutsRest {Z : Type 0} (of : Bool × List PathContent) (number index : ℕ) (old now : List (Vec ℕ Z × ℕ)) : Type 0 where
  pub each : (text : List ℕ)
      → cond (list_any (is_root_of of.0 text) (drop index of.1)) (Some number) (number_by_text text now)
      ≡ cond (list_any (is_root_of of.0 text) of.1) (Some number) (number_by_text text old)

-- before the first root
pub puts_rest_all : {Z : Type 0} (kind : Bool) (roots : List PathContent) (number : ℕ) (old : List (Vec ℕ Z × ℕ))
    → PutsRest (kind, roots) number 0 old old
puts_rest_all kind roots number old = record { each = λ text. refl }

-- after one root more
pub puts_rest_more : {Z : Type 0} (kind : Bool) (roots : List PathContent) (root : PathContent) (number index : ℕ)
    → (old before after : List (Vec ℕ Z × ℕ)) → PutsRest (kind, roots) number index old before → index < length roots
    → root ≡ get_or roots index root → PutsRoot kind root number before after
    → PutsRest (kind, roots) number (index + 1) old after
puts_rest_more kind roots root number index old before after rest inside is puts =
    let cut : drop index roots ≡ root ∷ drop (index + 1) roots =
    drop-cons roots index root inside ∙ ap (λ r. r ∷ drop (suc index) roots) (sym is)
    ∙ ap (λ n. root ∷ drop n roots) (sym (add-one index)) in
    record {
      each = λ text.
          ap (λ (n : Option ℕ). cond (list_any (is_root_of kind text) (drop (index + 1) roots)) (Some number) n) (puts.each text)
          ∙ either (is_root_of kind text root) (list_any (is_root_of kind text) (drop (index + 1) roots)) (Some number)
          (number_by_text text before)
          ∙ ap (λ (rs : List PathContent). cond (list_any (is_root_of kind text) rs) (Some number) (number_by_text text before)) (sym cut)
          ∙ rest.each text;
    }

-- after the last root
pub puts_rest_none : {Z : Type 0} (kind : Bool) (roots : List PathContent) (number index : ℕ) (old now : List (Vec ℕ Z × ℕ))
    → PutsRest (kind, roots) number index old now → index ≡ length roots → PutsRootsOf kind roots number old now
puts_rest_none kind roots number index old now rest e = record {
  each = λ text.
      sym (ap (λ (rs : List PathContent). cond (list_any (is_root_of kind text) rs) (Some number) (number_by_text text now))
      (ap (λ n. drop n roots) e ∙ drop_end roots))
      ∙ rest.each text;
}

-- where the sets from a number on are in the map
pub record MapsBehind {Z : Type 0} (kind : Bool) (sets : List (List PathContent)) (number : ℕ) (entries : List (Vec ℕ Z × ℕ)) : Type 0 where
  pub within : number ≤ length sets
  pub each : (text : List ℕ)
      → number_by_text text entries ≡ position_from (list_any (is_root_of kind text)) number (drop number sets)

-- before the last set
pub maps_behind_none : {Z : Type 0} (kind : Bool) (sets : List (List PathContent)) (entries : List (Vec ℕ Z × ℕ)) → entries ≡ []
    → MapsBehind kind sets (length sets) entries
maps_behind_none {Z} kind sets entries none = record {
  within = omega arith;
  each = λ text.
      ap (λ (es : List (Vec ℕ Z × ℕ)). number_by_text text es) none
      ∙ sym (ap (λ (s : List (List PathContent)). position_from (list_any (is_root_of kind text)) (length sets) s) (drop_end sets));
}

-- after one set more
pub maps_behind_more : {Z : Type 0} (kind : Bool) (sets : List (List PathContent)) (roots : List PathContent) (before number : ℕ)
    → (old new : List (Vec ℕ Z × ℕ)) → MapsBehind kind sets before old → number + 1 ≡ before
    → roots ≡ get_or sets number roots → PutsRootsOf kind roots number old new → MapsBehind kind sets number new
maps_behind_more kind sets roots before number old new behind next is puts =
    let inside : number < length sets = omega (arith, behind.within) in
    let cut : drop number sets ≡ roots ∷ drop before sets =
    drop-cons sets number roots inside ∙ ap (λ (r : List PathContent). r ∷ drop (suc number) sets) (sym is)
    ∙ ap (λ n. roots ∷ drop n sets) (sym (add-one number) ∙ next) in
    record {
      within = omega (arith, behind.within);
      each = λ text.
          puts.each text
          ∙ ap (λ (n : Option ℕ). cond (list_any (is_root_of kind text) roots) (Some number) n)
          (behind.each text ∙ ap (λ n. position_from (list_any (is_root_of kind text)) n (drop before sets)) (sym next))
          ∙ ap (λ (s : List (List PathContent)). position_from (list_any (is_root_of kind text)) number s) (sym cut);
    }

-- after the first set
pub maps_behind_all : {Z : Type 0} (kind : Bool) (sets : List (List PathContent)) (number : ℕ) (entries : List (Vec ℕ Z × ℕ))
    → MapsBehind kind sets number entries → number ≡ 0 → MapsRoots kind sets entries
maps_behind_all kind sets number entries behind none = record {
  each = λ text. behind.each text ∙ ap (λ n. position_from (list_any (is_root_of kind text)) n (drop n sets)) none;
}
