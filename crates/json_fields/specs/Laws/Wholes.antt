-- a whole document that was read is read again from what is written of it
use Rattle.std.proofs.Common.{◌≡◌, ◌≤◌, ◌∙◌, ℕ, List, codes, inl, inr, max, false, true≢false, is_err, Result, Ok, Err, ap, sym, subst, refl}
use Rattle.std.specs.Result.{IfOk}
use Rattle.std.specs.Str.{IsUtf8, is_utf8}
use Rattle.std.proofs.lemmas.Bool.{cases_Bool}
use Rattle.std.proofs.lemmas.Str.{IsUtf8-from_is_utf8, is_utf8-from_IsUtf8}
use Rattle.serde_json.specs.Data.{Data, depth}
use Rattle.serde_json.specs.Written.{has_float}
use Rattle.json_fields.specs.Document.{bytes_document, document, whole}
use Rattle.json_fields.specs.Outcome.{Reading}
use Rattle.json_fields.specs.RoundTrip.{IsKept, RoundTrips}

-- what holds of a value holds of the value that a call returns
pub if_both : {T E : Type 0} {P Q : T → Type 0} (r : Result T E) → ((x : T) → P x → Q x) → IfOk r P → IfOk r Q
if_both (Ok x) f h = f x h
if_both (Err e) f h = tt

module _ {T : Type 0} (reads : Data → Reading T) (writes : T → Data) (height : ℕ)
    (kept : RoundTrips reads writes height) (d : Data) (x : T) (clean : has_float d ≡ false)
    (read : reads d ≡ Ok x) where
  kept_at : IsKept reads writes (has_float d) (max height (depth d)) x
  kept_at = subst (λ r. IfOk r (IsKept reads writes (has_float d) (max height (depth d)))) read (kept.keeps d)

  -- a document is read again from what is written of it
  pub whole-again : whole reads (writes x) ≡ Ok x
  unfolding whole
  whole-again = rw (kept_at.clean clean, kept_at.again) refl

  -- what is written nests no deeper than the document or the defaults
  pub whole-nests : depth (writes x) ≤ max height (depth d)
  whole-nests = kept_at.nests

-- a document that is read as a value holds no float
pub whole-has_no_float : {T : Type 0} (reads : Data → Reading T) (d : Data) (x : T) → whole reads d ≡ Ok x
    → has_float d ≡ false
unfolding whole
whole-has_no_float reads d x read = elim (cases_Bool (has_float d)) [
  | inl float ↦
      let refused : whole reads d ≡ Err (codes "float") = rw float refl in
      absurd (true≢false (ap is_err (sym refused ∙ read)))
  | inr no_float ↦ no_float
]

-- a document of bytes is read as its text where they are one
pub bytes_document-text : {T : Type 0} (reads : Data → Reading T) (bytes : List ℕ) → IsUtf8 bytes
    → bytes_document reads bytes ≡ document reads bytes
unfolding bytes_document
bytes_document-text reads bytes h = rw (is_utf8-from_IsUtf8 bytes h) refl

-- bytes that are not UTF-8 are refused as no JSON
pub bytes_document-no_text : {T : Type 0} (reads : Data → Reading T) (bytes : List ℕ) → (IsUtf8 bytes → ⊥)
    → bytes_document reads bytes ≡ Err (codes "syntax")
unfolding bytes_document
bytes_document-no_text reads bytes h = elim (cases_Bool (is_utf8 bytes)) [
  | inl valid ↦ absurd (h (IsUtf8-from_is_utf8 bytes valid))
  | inr other ↦ rw other refl
]
