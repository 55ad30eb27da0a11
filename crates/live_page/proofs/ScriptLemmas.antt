-- The generated script: one more package at a time, and lines without floats.
use Rattle.std.proofs.Common.{◌≡◌, ℕ, ◌+◌, false, List, [], ◌∷◌, ◌++◌, ap, append-nil, append_assoc, arith, sym, ◌∙◌}
use Rattle.std.proofs.lemmas.Grind.{flat_map-append}
use Rattle.std.proofs.lemmas.List.{map-id}
use Rattle.std.proofs.lemmas.List.FromFn.{map-range_with_len_more}
use Rattle.std.specs.List.{flat_map, range_with_len}
use Rattle.serde_json.specs.Data.{Data}
use Rattle.serde_json.specs.Written.{has_float}
use Rattle.json_fields.specs.Written.{set_member}
use Rattle.live_page.specs.GeneratedScript.{answer_data, file_data, flush_data, path_event, path_members}

-- ---- one more

-- the next number stands behind those below it
next_number : (n : ℕ) → range_with_len 0 (n + 1) ≡ range_with_len 0 n ++ n ∷ []
next_number n =
    sym (map-id (range_with_len 0 (n + 1))) ∙ map-range_with_len_more (λ (k : ℕ). k) 0 n n (omega arith)
    ∙ ap (λ (ks : List ℕ). ks ++ n ∷ []) (map-id (range_with_len 0 n))

-- what is written of one more number stands behind what was written
pub text_more : (text : ℕ → List ℕ) (n : ℕ) (before old new : List ℕ) → old ≡ before ++ flat_map text (range_with_len 0 n) → new ≡ old ++ text n
    → new ≡ before ++ flat_map text (range_with_len 0 (n + 1))
text_more text n before old new so_far pushed =
    let all : flat_map text (range_with_len 0 (n + 1)) ≡ flat_map text (range_with_len 0 n) ++ text n =
    ap (flat_map text) (next_number n) ∙ flat_map-append text (range_with_len 0 n) (n ∷ []) ∙ ap (λ (end : List ℕ). flat_map text (range_with_len 0 n) ++ end) (append-nil (text n)) in
    pushed ∙ ap (λ (front : List ℕ). front ++ text n) so_far ∙ append_assoc before (flat_map text (range_with_len 0 n)) (text n)
    ∙ ap (λ (end : List ℕ). before ++ end) (sym all)

-- nothing is written before the first number
pub text_none : (text : ℕ → List ℕ) (before : List ℕ) → before ≡ before ++ flat_map text (range_with_len 0 0)
text_none text before = sym (append-nil before)

-- ---- no float

pub file-no_float : (n : ℕ) (d : Data) → d ≡ file_data n → has_float d ≡ false
unfolding file_data path_members set_member
file-no_float n d is = ap has_float is

pub answer-no_float : (count : ℕ) (d : Data) → d ≡ answer_data count → has_float d ≡ false
unfolding answer_data set_member
answer-no_float count d is = ap has_float is

pub flush-no_float : (d : Data) → d ≡ flush_data → has_float d ≡ false
unfolding flush_data set_member
flush-no_float d is = ap has_float is

pub path_event-no_float : (event path : List ℕ) (d : Data) → d ≡ path_event event path → has_float d ≡ false
unfolding path_members set_member
path_event-no_float event path d is = ap has_float is
