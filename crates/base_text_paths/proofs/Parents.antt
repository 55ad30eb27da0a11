-- A clean text is cut at its last slash into its parent and its last component, and `/` into nothing and nothing.
use Rattle.std.proofs.Common.{◌≡◌, ℕ, ◌-◌, ◌<◌, ◌==◌, ◌++◌, true, false, List, [], ◌∷◌, length, get_or, take, Some, None, IsUtf8, refl, sym, ap, ◌∙◌, arith, true≢false, length-append}
use Rattle.std.proofs.lemmas.Bool.{cond-true, cond-false, ne_eqb}
use Rattle.std.proofs.lemmas.Str.{IsCharBoundary-after_ascii, IsCharBoundary-before_ascii}
use Rattle.std.proofs.Math.Seq.{get_or-append_seam, take-append_seam}
use Rattle.std.specs.List.{slice_get, slice_range}
use Rattle.std.specs.Prelude.{codes, bytes_eq}
use Rattle.base_text_paths.specs.Paths.{components, file_name, last_component, parent_text, path_text, with_slashes, without_last, IsClean}
use Rattle.base_text_paths.specs.Rows.{IsCutAtLast, IsParentLen, IsRow, Lacks}
use Rattle.base_text_paths.proofs.Cuts.{last_name, names_without_last, slashed_cut, Lacks-not_at}
use Rattle.base_text_paths.proofs.Names.{clean_text, components_are_names, components-path_text, AreNames, IsName}

-- a clean text has a slash
pub clean_has_slash : (text : List ℕ) → IsClean text → Lacks 47 text → ⊥
unfolding path_text with_slashes
clean_has_slash text clean lacks = by (components text) clean
  where
    by : (parts : List (List ℕ)) → text ≡ path_text parts → ⊥
    by [] e = Lacks-not_at 47 [] [] (rw e at lacks)
    by (part ∷ parts) e = Lacks-not_at 47 [] (part ++ with_slashes parts) (rw e at lacks)

-- a name is not empty
name_some : (name : List ℕ) → IsName name → 0 < length name
name_some [] h = absurd (true≢false (sym h.counts))
name_some (b ∷ bs) h = omega arith

-- with nothing behind its last slash a clean text is `/`
pub root_at_cut : (text front back : List ℕ) → IsClean text → IsCutAtLast 47 text front back → length back ≡ 0 → components text ≡ []
unfolding path_text
root_at_cut text front back clean cut none = by (components text) clean (components_are_names text)
  where
    by : (parts : List (List ℕ)) → text ≡ path_text parts → AreNames parts → parts ≡ []
    by [] e h = refl
    by (part ∷ parts) e h =
        let halves = slashed_cut part parts front back h (record { parts = sym e ∙ cut.parts; last = cut.last }) in
        absurd (omega (arith, ap length halves.1, name_some _ (last_name part parts h)))

-- the last of a list, as a look-up
slice_get-last : (part : List ℕ) (parts : List (List ℕ)) → slice_get (part ∷ parts) (length parts) ≡ Some (get_or (part ∷ parts) (length parts) [])
slice_get-last part [] = refl
slice_get-last part (next ∷ parts) = slice_get-last next parts

last_component-cons : (part : List ℕ) (parts : List (List ℕ)) → last_component (part ∷ parts) ≡ Some (get_or (part ∷ parts) (length parts) [])
last_component-cons part parts =
    let others : length (part ∷ parts) - 1 ≡ length parts = omega arith in
    ap (slice_get (part ∷ parts)) others ∙ slice_get-last part parts

-- what a cut with a name behind it says
pub record IsNameCut (text front back : List ℕ) : Type 0 where
  pub some : 0 < length (components text)
  pub front_is : front ≡ with_slashes (without_last (components text))
  pub back_is : last_component (components text) ≡ Some back

-- with something behind its last slash a clean text is cut into its parent and its last component
pub name_at_cut : (text front back : List ℕ) → IsClean text → IsCutAtLast 47 text front back → 0 < length back → IsNameCut text front back
unfolding path_text
name_at_cut text front back clean cut some =
    let found = by (components text) clean (components_are_names text) in
    record { some = found.0; front_is = found.1; back_is = found.2 }
  where
    by : (parts : List (List ℕ)) → text ≡ path_text parts → AreNames parts → (0 < length parts) × (front ≡ with_slashes (without_last parts)) × (last_component parts ≡ Some back)
    by [] e h = absurd (omega (arith, ap length (sym e ∙ cut.parts), length-append front (47 ∷ back)))
    by (part ∷ parts) e h =
        let halves = slashed_cut part parts front back h (record { parts = sym e ∙ cut.parts; last = cut.last }) in
        (omega arith, halves.0, last_component-cons part parts ∙ ap Some (sym halves.1))

-- the text of no names, or of their row
path_text-none : (names : List (List ℕ)) (row : List ℕ) → row ≡ with_slashes names → length row ≡ 0 → path_text names ≡ 47 ∷ []
unfolding path_text with_slashes
path_text-none [] row e none = refl
path_text-none (name ∷ names) row e none = absurd (omega (arith, ap length e))

path_text-some : (names : List (List ℕ)) (row : List ℕ) → row ≡ with_slashes names → 0 < length row → path_text names ≡ row
unfolding path_text with_slashes
path_text-some [] row e some = absurd (omega (arith, ap length e))
path_text-some (name ∷ names) row e some = sym e

-- the first slash ends the parent of a lone component
pub parent_at_root : (text front back : List ℕ) → IsUtf8 text → IsClean text → IsCutAtLast 47 text front back → 0 < length back → length front ≡ 0 → IsParentLen text 1
parent_at_root text front back utf8 clean cut some none = by front none cut.parts
  where
    by : (row : List ℕ) → length row ≡ 0 → text ≡ row ++ 47 ∷ back → IsParentLen text 1
    by (b ∷ bs) more e = absurd (omega arith)
    by [] empty e =
        let name = name_at_cut text front back clean cut some in
        let first : get_or text 0 0 ≡ 47 = ap (λ s. get_or s 0 0) e in
        record {
          some = name.some;
          text_is = ap (take 1) e ∙ sym (path_text-none _ front name.front_is none);
          boundary = IsCharBoundary-after_ascii text 0 utf8 (omega (arith, ap length e)) (omega (arith, first));
        }

-- the last slash ends the parent of a later component
pub parent_at_cut : (text front back : List ℕ) → IsClean text → IsCutAtLast 47 text front back → 0 < length back → 0 < length front → IsParentLen text (length front)
parent_at_cut text front back clean cut some more =
    let name = name_at_cut text front back clean cut some in
    let slash : get_or text (length front) 0 ≡ 47 = ap (λ s. get_or s (length front) 0) cut.parts ∙ get_or-append_seam front 47 back 0 in
    record {
      some = name.some;
      text_is = ap (take (length front)) cut.parts ∙ take-append_seam front (47 ∷ back) ∙ sym (path_text-some _ front name.front_is more);
      boundary = IsCharBoundary-before_ascii text (length front) (omega (arith, ap length cut.parts, length-append front (47 ∷ back))) (omega (arith, slash));
    }

-- the parent's text, as it is cut off the path's
pub parent_cut : (text parent : List ℕ) (end : ℕ) → IsParentLen text end → parent ≡ slice_range text 0 end → parent ≡ path_text (without_last (components text))
parent_cut text parent end found e =
    let same : end - 0 ≡ end = omega arith in
    e ∙ ap (λ n. take n text) same ∙ found.text_is

-- the parent's text is clean, and has the components without the last
pub parent_is_clean : (text parent : List ℕ) → parent ≡ path_text (without_last (components text)) → IsClean parent
parent_is_clean text parent e = clean_text parent _ e (names_without_last text)

pub components-parent : (text parent : List ℕ) → parent ≡ path_text (without_last (components text)) → components parent ≡ without_last (components text)
components-parent text parent e = ap components e ∙ components-path_text _ (names_without_last text)

-- the root has no file name
pub file_name-root : (text : List ℕ) → components text ≡ [] → file_name text ≡ None
unfolding file_name
file_name-root text e = rw e refl

-- the file name is the last component
pub file_name-last : (text name : List ℕ) → last_component (components text) ≡ Some name → bytes_eq name (codes "..") ≡ false → file_name text ≡ Some name
unfolding file_name
file_name-last text name e other = rw e (cond-false _ _ _ other)

-- but for `..`
pub file_name-up : (text name : List ℕ) → last_component (components text) ≡ Some name → bytes_eq name (codes "..") ≡ true → file_name text ≡ None
unfolding file_name
file_name-up text name e up = rw e (cond-true _ _ _ up)

-- the row of `/` is empty
pub row_of_root : (path : List ℕ) → path ≡ 47 ∷ [] → IsRow [] (components path)
unfolding components with_slashes
row_of_root path e = rw e (record { text_is = refl; components_are = refl })

-- every other clean text is a row
pub row_of_clean : (path : List ℕ) → IsClean path → (path ≡ 47 ∷ [] → ⊥) → IsRow path (components path)
unfolding path_text
row_of_clean path clean other = record { text_is = by (components path) clean; components_are = refl }
  where
    by : (parts : List (List ℕ)) → path ≡ path_text parts → path ≡ with_slashes parts
    by [] root = absurd (other root)
    by (part ∷ parts) e = e

-- the parent's text, where the path has a component and where it has none
pub parent_text-none : (text : List ℕ) → components text ≡ [] → parent_text text ≡ None
unfolding parent_text
parent_text-none text e = cond-true _ _ _ (ap (λ parts. length parts == 0) e)

pub parent_text-some : (text parent : List ℕ) → 0 < length (components text) → parent ≡ path_text (without_last (components text)) → parent_text text ≡ Some parent
unfolding parent_text
parent_text-some text parent some e = cond-false _ _ _ (ne_eqb (length (components text)) 0 (λ none. omega arith)) ∙ ap Some (sym e)

-- `/` is the clean text with no components
pub root_components : (text : List ℕ) → text ≡ 47 ∷ [] → components text ≡ []
unfolding components
root_components text e = rw e refl

pub root_text : (text : List ℕ) → IsClean text → components text ≡ [] → text ≡ 47 ∷ []
unfolding path_text
root_text text clean none = clean ∙ ap path_text none
