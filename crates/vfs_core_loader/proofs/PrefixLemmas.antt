-- Directories above a path: of two of them one lies below the other, so that the longest is found by going through them once.
use Rattle.std.proofs.Common.{◌≡◌, ◌⊎◌, ℕ, Bool, true, false, List, Option, Some, None, MatchOption, if◌then◌else◌, option_map, subst, true≢false, [], ◌∷◌, ◌++◌, length, drop, refl, sym, ap, ◌∙◌, inl, inr, append_assoc, append-nil, lit<}
use Rattle.std.proofs.Math.Seq.{drop-append_seam}
use Rattle.std.proofs.lemmas.List.Elements.{All-contains, All-push, Contains-append_left, Contains-append_right}
use Rattle.std.specs.List.{All}
use Rattle.base_text_paths.specs.Paths.{components, is_prefix}
use Rattle.base_text_paths.proofs.Prefixes.{is_prefix_from, is_prefix_parts}
use Rattle.base_text_paths.specs.AbsPath.{abs_text}
use Rattle.base_text_paths.specs.declared.paths.abs_path.AbsPath.{AbsPath}
use Rattle.vfs_core_loader.specs.Entries.{IsBelow, IsLongest, longer}

-- the front of a list begins it
prefix_of_append : (front rest whole : List (List ℕ)) → whole ≡ front ++ rest → is_prefix front whole ≡ true
prefix_of_append front rest whole e =
    is_prefix_from front whole (e ∙ ap (λ r. front ++ r) (sym (ap (drop (length front)) e ∙ drop-append_seam front rest)))

-- what begins a list begins all that the list begins
prefix_of_prefix : (a b c : List (List ℕ)) → is_prefix a b ≡ true → is_prefix b c ≡ true → is_prefix a c ≡ true
prefix_of_prefix a b c h k =
    let inner = is_prefix_parts a b h in
    let outer = is_prefix_parts b c k in
    prefix_of_append a (drop (length a) b ++ drop (length b) c) c (outer ∙ ap (λ front. front ++ drop (length b) c) inner ∙ append_assoc a (drop (length a) b) (drop (length b) c))

-- of two fronts of a list one begins the other
fronts : (a b as_rest bs_rest : List (List ℕ)) → a ++ as_rest ≡ b ++ bs_rest → ((rest : List (List ℕ)) × (b ≡ a ++ rest)) ⊎ ((rest : List (List ℕ)) × (a ≡ b ++ rest))
fronts [] b as_rest bs_rest e = inl (b, refl)
fronts (x ∷ a) [] as_rest bs_rest e = inr (x ∷ a, refl)
fronts (x ∷ a) (y ∷ b) as_rest bs_rest e =
    let first : x ≡ y = cc in
    let others : a ++ as_rest ≡ b ++ bs_rest = cc in
    elim (fronts a b as_rest bs_rest others) [
      | inl w ↦ inl (w.0, ap (λ z. z ∷ b) (sym first) ∙ ap (λ z. x ∷ z) w.1)
      | inr w ↦ inr (w.0, ap (λ z. z ∷ a) first ∙ ap (λ z. y ∷ z) w.1)
    ]

-- of two directories above a path one lies below the other
one_below_other : (path a b : List ℕ) → IsBelow path a → IsBelow path b → IsBelow b a ⊎ IsBelow a b
one_below_other path a b h k =
    elim (fronts (components a) (components b) (drop (length (components a)) (components path)) (drop (length (components b)) (components path)) (sym (is_prefix_parts (components a) (components path) h) ∙ is_prefix_parts (components b) (components path) k)) [
      | inl w ↦ inl (prefix_of_append (components a) w.0 (components b) w.1)
      | inr w ↦ inr (prefix_of_append (components b) w.0 (components a) w.1)
    ]

below_itself : (path : List ℕ) → IsBelow path path
below_itself path = prefix_of_append (components path) [] (components path) (sym (append-nil (components path)))

-- the first directory above a path is the longest so far
longest_first : (directories : List (List ℕ)) (path next : List ℕ) → All (λ directory. IsBelow path directory → ⊥) directories → IsBelow path next → IsLongest (directories ++ next ∷ []) path next
longest_first directories path next none above = record {
  listed = Contains-append_right directories (next ∷ []) next (0, lit< tt, refl);
  above = above;
  below_each = All-push (λ directory. IsBelow path directory → IsBelow next directory) directories next (λ k d inside h. absurd (none k d inside h)) (λ h. below_itself next);
}

-- one that lies below the longest so far is longer
longest_longer : (directories : List (List ℕ)) (path longest next : List ℕ) → IsLongest directories path longest → IsBelow path next → IsBelow next longest → IsLongest (directories ++ next ∷ []) path next
longest_longer directories path longest next found above longer = record {
  listed = Contains-append_right directories (next ∷ []) next (0, lit< tt, refl);
  above = above;
  below_each = All-push (λ directory. IsBelow path directory → IsBelow next directory) directories next (λ k d inside h. prefix_of_prefix _ (components longest) (components next) (found.below_each k d inside h) longer) (λ h. below_itself next);
}

-- any other leaves the longest so far
longest_stays : (directories : List (List ℕ)) (path longest next : List ℕ) → IsLongest directories path longest → (IsBelow path next → IsBelow next longest → ⊥) → IsLongest (directories ++ next ∷ []) path longest
longest_stays directories path longest next found other = record {
  listed = Contains-append_left directories (next ∷ []) longest found.listed;
  above = found.above;
  below_each = All-push (λ directory. IsBelow path directory → IsBelow longest directory) directories next found.below_each
      (λ h. elim (one_below_other path next longest h found.above) [ inl below ↦ below | inr above ↦ absurd (other h above) ]);
}

-- where the test is the longer one
longest_by : (directories : List (List ℕ)) (path longest next : List ℕ) (test : Bool) → is_prefix (components longest) (components next) ≡ test → IsLongest directories path longest → IsBelow path next → IsLongest (directories ++ next ∷ []) path (if test then next else longest)
longest_by directories path longest next true e found above = longest_longer directories path longest next found above e
longest_by directories path longest next false e found above = longest_stays directories path longest next found (λ h k. true≢false (sym k ∙ e))

-- what is known of the directories above a path after some of them
abbrev pub IsLongestSoFar : List (List ℕ) → List ℕ → Option AbsPath → Type 0
IsLongestSoFar directories path longest = MatchOption longest (All (λ directory. IsBelow path directory → ⊥) directories) (λ it. IsLongest directories path (abs_text it))

-- a directory above the path is longer than the longest so far, or not
pub longest_above-next : (directories : List (List ℕ)) (path next : List ℕ) (old : Option AbsPath) (new : AbsPath) → IsLongestSoFar directories path old → IsBelow path next → abs_text new ≡ longer (option_map abs_text old) next → IsLongestSoFar (directories ++ next ∷ []) path (Some new)
longest_above-next directories path next None new none above e =
    subst (IsLongest (directories ++ next ∷ []) path) (sym e) (longest_first directories path next none above)
longest_above-next directories path next (Some old) new found above e =
    subst (IsLongest (directories ++ next ∷ []) path) (sym e) (longest_by directories path (abs_text old) next (is_prefix (components (abs_text old)) (components next)) refl found above)

-- a directory that is not above the path changes nothing
pub longest_above-other : (directories : List (List ℕ)) (path next : List ℕ) (old : Option AbsPath) → IsLongestSoFar directories path old → (IsBelow path next → ⊥) → IsLongestSoFar (directories ++ next ∷ []) path old
longest_above-other directories path next None none other = All-push (λ directory. IsBelow path directory → ⊥) directories next none other
longest_above-other directories path next (Some old) found other = longest_stays directories path (abs_text old) next found (λ h k. other h)

-- all that lies below the longest lies below each other one
pub below_any_longest : (directories : List (List ℕ)) (path a b exclude : List ℕ) → IsLongest directories path a → IsLongest directories path b → IsBelow exclude a → IsBelow exclude b
below_any_longest directories path a b exclude is_a is_b h =
    prefix_of_prefix (components b) (components a) (components exclude) (All-contains (λ directory. IsBelow path directory → IsBelow a directory) directories b is_a.below_each is_b.listed is_b.above) h
