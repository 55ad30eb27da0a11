-- What a scan over a text has still to find, from one byte or character to the next.
use Rattle.std.proofs.Common.{◌≡◌, ◌≢◌, ℕ, ◌+◌, ◌<◌, Bool, true, false, ◌&&◌, ◌==◌, List, [], ◌∷◌, ◌++◌, length, get_or, take, drop, map, Option, Some, None, MatchOption, option_map, Bor, refl, sym, ap, ◌∙◌, arith, encode_utf8, append_assoc, append-nil, ◌≤◌, inl, inr, IfSome, ◌-◌, slice_range}
use Rattle.std.proofs.lemmas.Bool.{ne_eqb, eq-eqb, cases_Bool}
use Rattle.std.proofs.lemmas.List.{at_drop_more, at_drop_all, take_more}
use Rattle.std.proofs.lemmas.Str.{chars_past_char, encodes-chars}
use Rattle.std.specs.List.{onto_first}
use Rattle.std.specs.Option.{option_map_or}
use Rattle.std.specs.Str.{chars, encode_utf8_all, IsUtf8}
use Rattle.pm_tools_ask.specs.Line.{after_run, all_of, behind_byte, drop_run, ends_run, key_of}
use Rattle.pm_tools_ask.specs.Quotes.{after_byte, after_quotes, cut_outside, is_unquoted, parts_outside}
use Rattle.pm_tools_ask.specs.Reader.{keys_left, parts_left, with_keys}
use Rattle.pm_tools_ask.specs.declared.quotes.Quotes.{Quotes}
use Rattle.pm_tools_ask.specs.declared.quotes.Quotes.TheVariants.{Outside, Basic, Escape, Literal}

-- what a prefix of one character leaves
pub behind_is : (c : ℕ) (bs : List ℕ) (r : Option (Bor (List ℕ))) → MatchOption r ((rest : List ℕ) → bs ≢ c ∷ rest) (λ x. bs ≡ c ∷ x.now) → option_map (λ x. x.now) r ≡ behind_byte c bs
behind_is c [] None h = refl
behind_is c (b ∷ bs) None h = rw (ne_eqb b c (λ e. h bs (ap (λ x. x ∷ bs) e))) refl
behind_is c bs (Some x) h = rw (h, eq-eqb c c refl) refl

-- a character that ends the run leaves the text as it is
pub after_run-stop : (bs rest : List ℕ) (c : ℕ) → IsUtf8 bs → bs ≡ encode_utf8 c ++ rest → ends_run c ≡ true → after_run bs ≡ bs
unfolding after_run
after_run-stop bs rest c u is stop =
    let front : chars bs ≡ c ∷ chars rest = chars_past_char bs rest c u is in
    let same : drop_run (chars bs) ≡ chars bs = rw (front, stop) refl in
    ap encode_utf8_all same ∙ encodes-chars bs u

-- another character is passed over
pub after_run-more : (bs rest : List ℕ) (c : ℕ) → IsUtf8 bs → bs ≡ encode_utf8 c ++ rest → ends_run c ≡ false → after_run bs ≡ after_run rest
unfolding after_run
after_run-more bs rest c u is go =
    let front : chars bs ≡ c ∷ chars rest = chars_past_char bs rest c u is in
    rw (front, go) refl

-- only a quote closes quotes
pub closes_ascii : (quotes : Quotes) (b : ℕ) → is_unquoted quotes ≡ false → is_unquoted (after_byte quotes b) ≡ true → b < 128
unfolding after_byte
closes_ascii Outside b inside closes = absurd (grind (arith, inside))
closes_ascii Basic b inside closes = elim (cases_Bool (b == 34)) [
  | inl e ↦ grind (arith, e)
  | inr e ↦ elim (cases_Bool (b == 92)) [
    | inl f ↦ absurd (grind (arith, rw (e, f) at closes))
    | inr f ↦ absurd (grind (arith, rw (e, f) at closes))
  ]
]
closes_ascii Escape b inside closes = absurd (grind (arith, closes))
closes_ascii Literal b inside closes = elim (cases_Bool (b == 39)) [
  | inl e ↦ grind (arith, e)
  | inr e ↦ absurd (grind (arith, rw e at closes))
]

-- one byte further in quotes
pub after_quotes-closes : (quotes : Quotes) (bs : List ℕ) (i : ℕ) → i < length bs → is_unquoted (after_byte quotes (get_or bs i 0)) ≡ true → after_quotes quotes (drop i bs) ≡ Some (drop (i + 1) bs)
unfolding after_quotes
after_quotes-closes quotes bs i l closes = at_drop_more (after_quotes quotes) bs i 0 l ∙ (rw closes refl)

pub after_quotes-more : (quotes : Quotes) (bs : List ℕ) (i : ℕ) → i < length bs → is_unquoted (after_byte quotes (get_or bs i 0)) ≡ false → after_quotes quotes (drop i bs) ≡ after_quotes (after_byte quotes (get_or bs i 0)) (drop (i + 1) bs)
unfolding after_quotes
after_quotes-more quotes bs i l inside = at_drop_more (after_quotes quotes) bs i 0 l ∙ (rw inside refl)

pub after_quotes-end : (quotes : Quotes) (bs : List ℕ) (i : ℕ) → length bs ≤ i → after_quotes quotes (drop i bs) ≡ None
unfolding after_quotes
after_quotes-end quotes bs i l = at_drop_all (after_quotes quotes) bs i l

-- a cut with some bytes before it
abbrev pub with_front : List ℕ → Option (List ℕ × List ℕ) → Option (List ℕ × List ℕ)
with_front front cut = option_map (λ sides. (front ++ sides.0, sides.1)) cut

with_front-more : (front : List ℕ) (b : ℕ) (cut : Option (List ℕ × List ℕ)) → with_front front (option_map (λ sides. (b ∷ sides.0, sides.1)) cut) ≡ with_front (front ++ b ∷ []) cut
with_front-more front b None = refl
with_front-more front b (Some sides) = ap (λ x. Some (x, sides.1)) (sym (append_assoc front (b ∷ []) sides.0))

-- one byte further outside of quotes and in them
pub cut-here : (at : ℕ) (quotes : Quotes) (bs : List ℕ) (i : ℕ) → i < length bs → (is_unquoted quotes && (get_or bs i 0 == at)) ≡ true → with_front (take i bs) (cut_outside at quotes (drop i bs)) ≡ Some (take i bs, drop (i + 1) bs)
unfolding cut_outside
cut-here at quotes bs i l here =
    let step : cut_outside at quotes (drop i bs) ≡ Some ([], drop (i + 1) bs) = at_drop_more (cut_outside at quotes) bs i 0 l ∙ (rw here refl) in
    ap (with_front (take i bs)) step ∙ ap (λ x. Some (x, drop (i + 1) bs)) (append-nil (take i bs))

pub cut-later : (at : ℕ) (quotes : Quotes) (bs : List ℕ) (i : ℕ) → i < length bs → (is_unquoted quotes && (get_or bs i 0 == at)) ≡ false → with_front (take i bs) (cut_outside at quotes (drop i bs)) ≡ with_front (take (i + 1) bs) (cut_outside at (after_byte quotes (get_or bs i 0)) (drop (i + 1) bs))
unfolding cut_outside
cut-later at quotes bs i l later =
    ap (with_front (take i bs)) (at_drop_more (cut_outside at quotes) bs i 0 l ∙ (rw later refl))
    ∙ with_front-more (take i bs) (get_or bs i 0) (cut_outside at (after_byte quotes (get_or bs i 0)) (drop (i + 1) bs))
    ∙ ap (λ front. with_front front (cut_outside at (after_byte quotes (get_or bs i 0)) (drop (i + 1) bs))) (sym (take_more bs i 0 l))

pub cut-end : (at : ℕ) (quotes : Quotes) (bs front : List ℕ) (i : ℕ) → length bs ≤ i → with_front front (cut_outside at quotes (drop i bs)) ≡ None
unfolding cut_outside
cut-end at quotes bs front i l = ap (with_front front) (at_drop_all (cut_outside at quotes) bs i l)

pub and_no : (a b : Bool) → b ≡ false → (a && b) ≡ false
and_no true b h = h
and_no false b h = refl

-- the parts of a text by its first cut
abbrev pub parts_by : ℕ → List ℕ → Option (List ℕ × List ℕ) → List (List ℕ)
parts_by at bs None = bs ∷ []
parts_by at bs (Some sides) = sides.0 ∷ parts_outside at Outside sides.1

parts_by-more : (at b : ℕ) (bs : List ℕ) (cut : Option (List ℕ × List ℕ)) → onto_first b (parts_by at bs cut) ≡ parts_by at (b ∷ bs) (option_map (λ sides. (b ∷ sides.0, sides.1)) cut)
parts_by-more at b bs None = refl
parts_by-more at b bs (Some sides) = refl

pub parts-cut : (at : ℕ) (quotes : Quotes) (bs : List ℕ) → parts_outside at quotes bs ≡ parts_by at bs (cut_outside at quotes bs)
unfolding parts_outside cut_outside
parts-cut at quotes [] = refl
parts-cut at quotes (b ∷ bs) = elim (cases_Bool (is_unquoted quotes && (b == at))) [
  | inl here ↦ rw here refl
  | inr later ↦ rw later (ap (onto_first b) (parts-cut at (after_byte quotes b) bs) ∙ parts_by-more at b bs (cut_outside at (after_byte quotes b) bs))
]

-- what follows a cut is shorter
abbrev IsShorter : List ℕ → Option (List ℕ × List ℕ) → Type 0
IsShorter bs cut = IfSome cut (λ sides. length sides.1 < length bs)

IsShorter-more : (b : ℕ) (bs : List ℕ) (cut : Option (List ℕ × List ℕ)) → IsShorter bs cut → IsShorter (b ∷ bs) (option_map (λ sides. (b ∷ sides.0, sides.1)) cut)
IsShorter-more b bs None h = tt
IsShorter-more b bs (Some sides) h = omega (arith, h)

pub cut-shorter : (at : ℕ) (quotes : Quotes) (bs : List ℕ) → IfSome (cut_outside at quotes bs) (λ sides. length sides.1 < length bs)
unfolding cut_outside
cut-shorter at quotes [] = tt
cut-shorter at quotes (b ∷ bs) = elim (cases_Bool (is_unquoted quotes && (b == at))) [
  | inl here ↦ rw here (omega arith)
  | inr later ↦ rw later (IsShorter-more b bs (cut_outside at (after_byte quotes b) bs) (cut-shorter at (after_byte quotes b) bs))
]

-- the first part of a text and those behind it, by its first cut
pub first_part-cut : (text : List ℕ) (r : Option (Bor (List ℕ) × Bor (List ℕ))) (part rest : Bor (List ℕ)) → option_map (λ cut. (cut.0.now, cut.1.now)) r ≡ cut_outside 46 Outside text → r ≡ Some (part, rest) → (parts_outside 46 Outside text ≡ part.now ∷ parts_outside 46 Outside rest.now) × (length rest.now < length text)
first_part-cut text r part rest cut is =
    let at : cut_outside 46 Outside text ≡ Some (part.now, rest.now) = sym cut ∙ ap (option_map (λ sides. (sides.0.now, sides.1.now))) is in
    (parts-cut 46 Outside text ∙ ap (parts_by 46 text) at, rw at at (cut-shorter 46 Outside text))

pub first_part-whole : (text : List ℕ) (r : Option (Bor (List ℕ) × Bor (List ℕ))) → option_map (λ cut. (cut.0.now, cut.1.now)) r ≡ cut_outside 46 Outside text → r ≡ None → parts_outside 46 Outside text ≡ text ∷ []
first_part-whole text r cut is =
    parts-cut 46 Outside text ∙ ap (parts_by 46 text) (sym cut ∙ ap (option_map (λ sides. (sides.0.now, sides.1.now))) is)

-- keys with one more before those that are left
pub with_keys-more : (before : List (List ℕ)) (key : List ℕ) (later : Option (List (List ℕ))) → with_keys before (option_map (λ ys. key ∷ ys) later) ≡ with_keys (before ++ key ∷ []) later
with_keys-more before key None = refl
with_keys-more before key (Some keys) = ap Some (sym (append_assoc before (key ∷ []) keys))

pub with_keys-none : (keys : Option (List (List ℕ))) → with_keys [] keys ≡ keys
with_keys-none None = refl
with_keys-none (Some keys) = refl

-- one part further: it is a key, or it is none and the text is none of keys
pub key_read : (before more : List (List ℕ)) (rest : Option (Bor (List ℕ))) (text : Bor (List ℕ)) (later : Option (Bor (List ℕ))) (part key : List ℕ) → rest ≡ Some text → parts_outside 46 Outside text.now ≡ part ∷ parts_left later → key_of part ≡ Some key → more ≡ before ++ key ∷ [] → with_keys before (keys_left rest) ≡ with_keys more (keys_left later)
key_read before more rest text later part key is parts there items =
    ap (λ r. with_keys before (keys_left r)) is ∙ ap (λ ps. with_keys before (all_of (map key_of ps))) parts
    ∙ ap (λ k. with_keys before (all_of (k ∷ map key_of (parts_left later)))) there
    ∙ with_keys-more before key (keys_left later) ∙ ap (λ keys. with_keys keys (keys_left later)) (sym items)

pub no_key_read : (before : List (List ℕ)) (rest : Option (Bor (List ℕ))) (text : Bor (List ℕ)) (later : Option (Bor (List ℕ))) (part : List ℕ) → rest ≡ Some text → parts_outside 46 Outside text.now ≡ part ∷ parts_left later → key_of part ≡ None → with_keys before (keys_left rest) ≡ None
no_key_read before rest text later part is parts none =
    ap (λ r. with_keys before (keys_left r)) is ∙ ap (λ ps. with_keys before (all_of (map key_of ps))) parts
    ∙ ap (λ k. with_keys before (all_of (k ∷ map key_of (parts_left later)))) none

-- a range from the first byte on
pub front_range : (bs : List ℕ) (i : ℕ) → slice_range bs 0 i ≡ take i bs
front_range bs i = let same : i - 0 ≡ i = omega arith in ap (λ n. take n bs) same

-- nothing is left of a text without characters
pub after_run-end : (bs : List ℕ) → length bs ≡ 0 → bs ≡ after_run bs
unfolding after_run chars
after_run-end [] e = refl
after_run-end (b ∷ bs) e = absurd (omega (arith, e))

-- what is left of a text behind its first part is shorter
pub shorter_left : (rest later : Option (Bor (List ℕ))) (text : Bor (List ℕ)) → rest ≡ Some text → IfSome later (λ r. length r.now < length text.now) → option_map_or (λ t. length t.now + 1) later 0 < option_map_or (λ t. length t.now + 1) rest 0
shorter_left rest None text is h = rw is (omega arith)
shorter_left rest (Some later) text is h = rw is (omega (arith, h))
