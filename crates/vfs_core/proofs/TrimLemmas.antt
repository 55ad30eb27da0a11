-- The parts of a virtual path: its components, what follows them, and what is left without slashes at the ends.
use Rattle.std.proofs.Common.{◌≡◌, ℕ, zero, suc, ◌+◌, ◌<◌, ◌≤◌, ◌==◌, Bool, true, false, not, cond, ◌&&◌, List, [], ◌∷◌, ◌++◌, length, take, Option, Some, None, Bor, is_some, refl, sym, ap, ◌∙◌, arith, length-drop, reverse, true≢false, if◌then◌else◌}
use Rattle.std.proofs.lemmas.Bool.{cond-true, cond-false, false_from_ne_true}
use Rattle.std.proofs.lemmas.Slice.Eq.{bytes_eq-Decides}
use Rattle.std.specs.Cmp.Lexicographic.{pointwise}
use Rattle.std.specs.Option.{option_copied}
use Rattle.std.specs.Prelude.{bytes_eq}
use Rattle.std.proofs.lemmas.List.{reverse-append, reverse-reverse}
use Rattle.std.proofs.lemmas.List.Elements.{All-from_recursion}
use Rattle.std.proofs.lemmas.List.Splits.{join_with_byte-slice_split, length-slice_split, slice_split_first, slice_split_none}
use Rattle.std.proofs.lemmas.Str.Pattern.{NoCharPasses-char}
use Rattle.std.specs.List.{after_first, before_first, filter, join_with_byte, onto_first, position_or_len, slice_split}
use Rattle.std.specs.Str.{NoCharPasses}
use Rattle.base_text_paths.specs.Paths.{components, is_component, is_prefix, is_slash}
use Rattle.base_text_paths.specs.Rows.{IsCutAtLast, Lacks}
use Rattle.base_text_paths.proofs.Cuts.{Lacks-from_reads}
use Rattle.vfs_core.specs.RealPath.{is_text_prefix}
use Rattle.vfs_core.specs.VirtualPath.{trim_back, from_component, trim_front, parts_behind, text_behind, virtual_rest, TakesComponent}

-- a text in which a search finds no slash lacks it
pub lacks_slash : (text : List ℕ) → NoCharPasses (λ d. d == 47) text → Lacks 47 text
lacks_slash text h = Lacks-from_reads 47 text (λ k l. NoCharPasses-char 47 text k h (omega arith) l)

-- what the first slash cuts off
pub record IsFirstCut (text part more : List ℕ) : Type 0 where
  pub before : part ≡ before_first is_slash text
  pub after : more ≡ after_first is_slash text
  pub within : position_or_len is_slash text < length text

pub parts_at_cut : (text part more : List ℕ) → IsFirstCut text part more
    → slice_split is_slash text ≡ part ∷ slice_split is_slash more
parts_at_cut text part more cut =
    slice_split_first is_slash text 0 cut.within
    ∙ ap (λ p. p ∷ slice_split is_slash (after_first is_slash text)) (sym cut.before)
    ∙ ap (λ m. part ∷ slice_split is_slash m) (sym cut.after)

-- it leaves less
pub shorter_at_cut : (text part more : List ℕ) → IsFirstCut text part more → length more < length text
shorter_at_cut text part more cut =
    omega (arith, cut.within, ap length cut.after ∙ length-drop (position_or_len is_slash text + 1) text)

-- without a slash there is one part
pub parts_alone : (text : List ℕ) → Lacks 47 text → slice_split is_slash text ≡ text ∷ []
parts_alone text lacks = slice_split_none is_slash text (All-from_recursion (λ b. (b == 47) ≡ false) text lacks)

-- what is left of the search for the first component
pub record IsStillIn (text rest : List ℕ) : Type 0 where
  pub parts : components rest ≡ components text
  pub behind : (count : ℕ) → text_behind rest (suc count) ≡ text_behind text (suc count)
  pub within : length rest ≤ length text

pub still_whole : (text : List ℕ) → IsStillIn text text
still_whole text = record { parts = refl; behind = λ count. refl; within = omega arith }

-- components, by the first part
pub components_yes : (text part more : List ℕ) → slice_split is_slash text ≡ part ∷ slice_split is_slash more
    → is_component part ≡ true → components text ≡ part ∷ components more
unfolding components
components_yes text part more e counts = ap (filter is_component) e ∙ cond-true _ _ _ counts

pub components_no : (text part more : List ℕ) → slice_split is_slash text ≡ part ∷ slice_split is_slash more
    → is_component part ≡ false → components text ≡ components more
unfolding components
components_no text part more e passed = ap (filter is_component) e ∙ cond-false _ _ _ passed

-- a part that is no component is passed over
pub still_past : (text rest part more : List ℕ) → IsStillIn text rest → IsFirstCut rest part more
    → is_component part ≡ false → IsStillIn text more
still_past text rest part more still cut passed =
    let e = parts_at_cut rest part more cut in
    record {
      parts = sym (components_no rest part more e passed) ∙ still.parts;
      behind = λ count.
          sym (ap (λ parts. join_with_byte 47 (parts_behind parts (suc count))) e
          ∙ ap (join_with_byte 47) (cond-false _ _ _ passed))
          ∙ still.behind count;
      within = omega (arith, shorter_at_cut rest part more cut, still.within);
    }

-- the first component behind which a slash stands
pub takes_first : (text rest part more : List ℕ) → IsStillIn text rest → IsFirstCut rest part more
    → is_component part ≡ true → TakesComponent text part more
takes_first text rest part more still cut counts =
    let e = parts_at_cut rest part more cut in
    record {
      parts = sym still.parts ∙ components_yes rest part more e counts;
      shorter = omega (arith, shorter_at_cut rest part more cut, still.within);
      behind = λ count.
          sym (still.behind count)
          ∙ ap (λ parts. join_with_byte 47 (parts_behind parts (suc count))) e
          ∙ ap (join_with_byte 47) (cond-true _ _ _ counts);
    }

-- a component is not empty
component_some : (part : List ℕ) → is_component part ≡ true → 0 < length part
component_some [] counts = absurd (true≢false (sym counts))
component_some (b ∷ part) counts = omega arith

-- nothing follows the last part
behind_last : (count : ℕ) → join_with_byte 47 (parts_behind [] count) ≡ text_behind [] count
behind_last zero = refl
behind_last (suc count) = refl

-- the first component behind which nothing stands
pub takes_last : (text rest : List ℕ) → IsStillIn text rest → Lacks 47 rest → is_component rest ≡ true → TakesComponent text rest []
unfolding components
takes_last text rest still lacks counts =
    let e = parts_alone rest lacks in
    record {
      parts = sym still.parts ∙ ap (filter is_component) e ∙ cond-true _ _ _ counts;
      shorter = omega (arith, component_some rest counts, still.within);
      behind = λ count.
          sym (still.behind count)
          ∙ ap (λ parts. join_with_byte 47 (parts_behind parts (suc count))) e
          ∙ ap (join_with_byte 47) (cond-true _ _ _ counts)
          ∙ behind_last count;
    }

-- no component at all
pub takes_none : (text rest : List ℕ) → IsStillIn text rest → Lacks 47 rest → is_component rest ≡ false → components text ≡ []
unfolding components
takes_none text rest still lacks passed =
    sym still.parts ∙ ap (filter is_component) (parts_alone rest lacks) ∙ cond-false _ _ _ passed

-- the front of a text, by its first part
pub front_past : (text part more : List ℕ) → IsFirstCut text part more → is_component part ≡ false
    → trim_front text ≡ trim_front more
unfolding trim_front
front_past text part more cut passed =
    ap (λ parts. join_with_byte 47 (from_component parts)) (parts_at_cut text part more cut) ∙ ap (join_with_byte 47) (cond-false _ _ _ passed)

pub front_here : (text part more : List ℕ) → IsFirstCut text part more → is_component part ≡ true → trim_front text ≡ text
unfolding trim_front
front_here text part more cut counts =
    let e = parts_at_cut text part more cut in
    ap (λ parts. join_with_byte 47 (from_component parts)) e ∙ ap (join_with_byte 47) (cond-true _ _ _ counts ∙ sym e)
    ∙ join_with_byte-slice_split 47 text

pub front_alone : (text : List ℕ) → Lacks 47 text → is_component text ≡ true → trim_front text ≡ text
unfolding trim_front
front_alone text lacks counts =
    ap (λ parts. join_with_byte 47 (from_component parts)) (parts_alone text lacks) ∙ ap (join_with_byte 47) (cond-true _ _ _ counts)

pub front_none : (text : List ℕ) → Lacks 47 text → is_component text ≡ false → trim_front text ≡ []
unfolding trim_front
front_none text lacks passed =
    ap (λ parts. join_with_byte 47 (from_component parts)) (parts_alone text lacks) ∙ ap (join_with_byte 47) (cond-false _ _ _ passed)

-- a byte goes onto the first part, whatever comes last
onto_first-last : (b : ℕ) (parts : List (List ℕ)) (back : List ℕ) → 0 < length parts
    → onto_first b (parts ++ back ∷ []) ≡ onto_first b parts ++ back ∷ []
onto_first-last b [] back some = absurd (omega arith)
onto_first-last b (part ∷ parts) back some = refl

-- the last slash cuts the last part off
parts_at_last : (front back : List ℕ) → Lacks 47 back
    → slice_split is_slash (front ++ 47 ∷ back) ≡ slice_split is_slash front ++ back ∷ []
parts_at_last [] back lacks = ap (λ parts. [] ∷ parts) (parts_alone back lacks)
parts_at_last (b ∷ front) back lacks =
    let more = parts_at_last front back lacks in
    let some : 0 < length (slice_split is_slash front) = omega (arith, length-slice_split is_slash front) in
    let P : Bool → Type 0 = λ t.
    cond t ([] ∷ slice_split is_slash (front ++ 47 ∷ back)) (onto_first b (slice_split is_slash (front ++ 47 ∷ back)))
    ≡ cond t ([] ∷ slice_split is_slash front) (onto_first b (slice_split is_slash front)) ++ back ∷ [] in
    elim (is_slash b) as (λ t. P t) [
      | true ↦ ap (λ parts. [] ∷ parts) more
      | false ↦ ap (onto_first b) more ∙ onto_first-last b (slice_split is_slash front) back some
    ]

-- the parts from the end, by the last
back_parts : (text more part : List ℕ) → IsCutAtLast 47 text more part
    → reverse (slice_split is_slash text) ≡ part ∷ reverse (slice_split is_slash more)
back_parts text more part cut =
    ap (λ t. reverse (slice_split is_slash t)) cut.parts
    ∙ ap reverse (parts_at_last more part cut.last)
    ∙ reverse-append (slice_split is_slash more) (part ∷ [])

pub back_past : (text more part : List ℕ) → IsCutAtLast 47 text more part → is_component part ≡ false
    → trim_back text ≡ trim_back more
unfolding trim_back
back_past text more part cut passed =
    ap (λ parts. join_with_byte 47 (reverse (from_component parts))) (back_parts text more part cut)
    ∙ ap (λ parts. join_with_byte 47 (reverse parts)) (cond-false _ _ _ passed)

pub back_here : (text more part : List ℕ) → IsCutAtLast 47 text more part → is_component part ≡ true → trim_back text ≡ text
unfolding trim_back
back_here text more part cut counts =
    let e = back_parts text more part cut in
    ap (λ parts. join_with_byte 47 (reverse (from_component parts))) e
    ∙ ap (λ parts. join_with_byte 47 (reverse parts)) (cond-true _ _ _ counts ∙ sym e)
    ∙ ap (join_with_byte 47) (reverse-reverse (slice_split is_slash text))
    ∙ join_with_byte-slice_split 47 text

pub back_alone : (text : List ℕ) → Lacks 47 text → is_component text ≡ true → trim_back text ≡ text
unfolding trim_back
back_alone text lacks counts =
    ap (λ parts. join_with_byte 47 (reverse (from_component (reverse parts)))) (parts_alone text lacks)
    ∙ ap (λ parts. join_with_byte 47 (reverse parts)) (cond-true _ _ _ counts)

pub back_none : (text : List ℕ) → Lacks 47 text → is_component text ≡ false → trim_back text ≡ []
unfolding trim_back
back_none text lacks passed =
    ap (λ parts. join_with_byte 47 (reverse (from_component (reverse parts)))) (parts_alone text lacks)
    ∙ ap (λ parts. join_with_byte 47 (reverse parts)) (cond-false _ _ _ passed)

-- whether components come first, by the first of each
prefix_all : (whole : List (List ℕ)) → is_prefix [] whole ≡ true
unfolding is_prefix
prefix_all whole = refl

prefix_short : (part : List ℕ) (front : List (List ℕ)) → is_prefix (part ∷ front) [] ≡ false
unfolding is_prefix
prefix_short part front = refl

prefix_same : (part : List ℕ) (front whole : List (List ℕ)) → is_prefix (part ∷ front) (part ∷ whole) ≡ is_prefix front whole
unfolding is_prefix
prefix_same part front whole =
    ap (λ t. t && pointwise bytes_eq front (take (length front) whole)) ((bytes_eq-Decides part part).1 refl)

prefix_other : (part first : List ℕ) (front whole : List (List ℕ)) → bytes_eq part first ≡ false
    → is_prefix (part ∷ front) (first ∷ whole) ≡ false
unfolding is_prefix
prefix_other part first front whole e = ap (λ t. t && pointwise bytes_eq front (take (length front) whole)) e

-- the same of texts
pub begins_all : (wanted rest : List ℕ) → components wanted ≡ [] → is_text_prefix wanted rest ≡ true
begins_all wanted rest none = ap (λ f. is_prefix f (components rest)) none ∙ prefix_all (components rest)

pub begins_short : (wanted rest part more : List ℕ) → TakesComponent wanted part more → components rest ≡ []
    → is_text_prefix wanted rest ≡ false
begins_short wanted rest part more takes none =
    ap (λ f. is_prefix f (components rest)) takes.parts ∙ ap (is_prefix (part ∷ components more)) none
    ∙ prefix_short part (components more)

pub begins_other : (wanted rest part more first behind : List ℕ) → TakesComponent wanted part more → TakesComponent rest first behind
    → not (bytes_eq first part) ≡ true → is_text_prefix wanted rest ≡ false
begins_other wanted rest part more first behind takes found differs =
    let apart : bytes_eq part first ≡ false = false_from_ne_true (bytes_eq part first)
    (λ (e : bytes_eq part first ≡ true).
    let same : bytes_eq first part ≡ true = (bytes_eq-Decides first part).1 (sym ((bytes_eq-Decides part first).0 e)) in
    true≢false (sym differs ∙ ap not same)) in
    ap (λ f. is_prefix f (components rest)) takes.parts ∙ ap (is_prefix (part ∷ components more)) found.parts
    ∙ prefix_other part first (components more) (components behind) apart

-- what does not differ is one
pub same_name : (first part : List ℕ) → not (bytes_eq first part) ≡ false → first ≡ part
same_name first part h = (bytes_eq-Decides first part).0 (by (bytes_eq first part) h)
  where
    by : (t : Bool) → not t ≡ false → t ≡ true
    by true h = refl
    by false h = absurd (true≢false h)

-- one more component of both
pub begins_more : (wanted rest part more first behind : List ℕ) → TakesComponent wanted part more → TakesComponent rest first behind
    → first ≡ part → is_text_prefix wanted rest ≡ is_text_prefix more behind
begins_more wanted rest part more first behind takes found same =
    ap (λ f. is_prefix f (components rest)) takes.parts
    ∙ ap (is_prefix (part ∷ components more)) (found.parts ∙ ap (λ p. p ∷ components behind) same)
    ∙ prefix_same part (components more) (components behind)

pub behind_more : (wanted rest part more first behind : List ℕ) → TakesComponent wanted part more → TakesComponent rest first behind
    → text_behind behind (length (components more)) ≡ text_behind rest (length (components wanted))
behind_more wanted rest part more first behind takes found =
    sym (found.behind (length (components more))) ∙ ap (text_behind rest) (sym (ap length takes.parts))

-- what is left, where the front does not begin the text and where it does
pub rest_none : (front whole : List ℕ) → is_text_prefix front whole ≡ false → virtual_rest front whole ≡ None
unfolding virtual_rest
rest_none front whole no_front = cond-false _ _ _ no_front

pub rest_some : (front whole wanted rest : List ℕ) → is_text_prefix front whole ≡ true → components wanted ≡ []
    → text_behind rest (length (components wanted)) ≡ text_behind whole (length (components front))
    → virtual_rest front whole ≡ Some (trim_back (trim_front rest))
unfolding virtual_rest
rest_some front whole wanted rest is none behind =
    let left : text_behind whole (length (components front)) ≡ rest =
    sym behind ∙ ap (λ parts. text_behind rest (length parts)) none ∙ join_with_byte-slice_split 47 rest in
    cond-true _ _ _ is ∙ ap (λ t. Some (trim_back (trim_front t))) left

-- something is left exactly where the front begins the text
found-split : (t : Bool) (rest : List ℕ) → is_some (if t then Some rest else None) ≡ t
found-split true rest = refl
found-split false rest = refl

pub found_rest : (front whole : List ℕ) → is_some (virtual_rest front whole) ≡ is_text_prefix front whole
unfolding virtual_rest
found_rest front whole = found-split (is_text_prefix front whole) _

-- a borrowed text is there where the text is
pub found_copied : (rest : Option (Bor (List ℕ))) → is_some (option_copied rest) ≡ is_some rest
found_copied None = refl
found_copied (Some rest) = refl
