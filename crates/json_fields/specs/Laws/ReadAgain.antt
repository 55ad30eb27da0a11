-- what was read of a text is read again from the text that is written of it
use Rattle.std.proofs.Common.{◌≡◌, ◌==◌, ◌+◌, ◌||◌, ◌++◌, List, ℕ, Bool, cond, true, false, codes, count_by, Option, Some, None, Result, Ok, Err, ap, sym, ◌∙◌, inl, inr, refl, subst}
use Rattle.std.proofs.lemmas.Bool.{cases_Bool, eqb-true}
use Rattle.std.proofs.lemmas.List.Folds.{find-append}
use Rattle.std.proofs.lemmas.List.Sums.{sum_by-append}
use Rattle.std.specs.Result.{IfOk}
use Rattle.json_fields.specs.declared.bare.BareError.{BareError}
use Rattle.json_fields.specs.declared.bare.BareError.TheVariants.{PreRelease, BuildMetadata}
use Rattle.json_fields.specs.Fields.{under}
use Rattle.json_fields.specs.Outcome.{Reading}
use Rattle.json_fields.specs.Versions.{GivesBare, bare_of, bare_parts, first_mark, full_version_text, or_missed, or_not_version, requirement_of, unless_marked, version_of, version_text}
use Rattle.semver.specs.Identifiers.{parts_text}
use Rattle.semver.specs.Parse.{Parts, req_of, version_parts}
use Rattle.semver.proofs.Grammar.{version_parts-sound}

-- a version's text is the text that it was read from
pub version_parts_again : (text : List ℕ) (p : Parts) → version_parts text ≡ Ok p
    → version_parts (parts_text p) ≡ Ok p
version_parts_again text p h = ap version_parts (version_parts-sound text p h).0 ∙ h

-- a completed text is complete
completed-completed : (text : List ℕ) → full_version_text (full_version_text text) ≡ full_version_text text
completed-completed text = elim (cases_Bool (count_by (λ b. b == 46) text == 1)) [
  | inl once ↦
      let two : count_by (λ b. b == 46) (text ++ codes ".0") ≡ 2 =
      sum_by-append (λ b. cond (b == 46) 1 0) text (codes ".0") ∙ ap (λ n. n + 1) (eqb-true _ 1 once) in
      rw (once, two)
  | inr other ↦ rw (other, other)
]

-- completing a text adds no mark
first_mark-completed : (text : List ℕ) → first_mark text ≡ None → first_mark (full_version_text text) ≡ None
first_mark-completed text none = elim (cases_Bool (count_by (λ b. b == 46) text == 1)) [
  | inl once ↦ rw once (find-append (λ b. (b == 45) || (b == 43)) text (codes ".0") ∙ rw none)
  | inr other ↦ rw other none
]

-- a complete text with no mark is read as the version that it is
bare_parts-complete : (text : List ℕ) (p : Parts) → first_mark text ≡ None → full_version_text text ≡ text
    → or_not_version (version_parts text) ≡ Ok p → bare_parts text ≡ Ok p
unfolding bare_parts
bare_parts-complete text p none complete h =
    ap (λ mark. unless_marked mark (or_not_version (version_parts (full_version_text text)))) none
    ∙ ap (λ whole. or_not_version (version_parts whole)) complete
    ∙ h

read_version : {E : Type 0} (r : Result Parts E) (p : Parts) → or_not_version r ≡ Ok p → r ≡ Ok p
read_version (Ok q) p h = cc
read_version (Err e) p h = cc

-- a bare version's text is the text that it was completed to
pub bare_parts_again : (text : List ℕ) (p : Parts) → first_mark text ≡ None
    → or_not_version (version_parts (full_version_text text)) ≡ Ok p → bare_parts (parts_text p) ≡ Ok p
bare_parts_again text p none h =
    ap bare_parts
    (version_parts-sound (full_version_text text) p (read_version (version_parts (full_version_text text)) p h)).0
    ∙ bare_parts-complete (full_version_text text) p (first_mark-completed text none)
    (completed-completed text) h

-- the same of what a call answers
pub bare_answer_again : (text : List ℕ) (r : Result Parts BareError) → first_mark text ≡ None
    → GivesBare r (or_not_version (version_parts (full_version_text text)))
    → IfOk r (λ p. bare_parts (parts_text p) ≡ Ok p)
bare_answer_again text (Ok p) none h = bare_parts_again text p none h
bare_answer_again text (Err e) none h = tt

-- what holds of whatever is read holds where it is read
pub read-as : {T E : Type 0} {P : T → Type 0} (r : Result T E) → ((x : T) → r ≡ Ok x → P x) → IfOk r P
read-as (Ok x) h = h x refl
read-as (Err e) h = tt

parsed-as : {T E : Type 0} {P : T → Type 0} (r : Result T E) → ((x : T) → r ≡ Ok x → P x)
    → IfOk (or_missed r) P
parsed-as (Ok x) h = h x refl
parsed-as (Err e) h = tt

-- a version is read again from its text
pub version_of-again : (text : List ℕ) → IfOk (version_of text) (λ p. version_of (version_text p) ≡ Ok p)
unfolding version_of version_text
version_of-again text = parsed-as (version_parts text) (λ p h. ap or_missed (version_parts_again text p h))

same_text : {A : Type 0} (text t : List ℕ) (r : Reading A) → under (λ _. text) r ≡ Ok t → t ≡ text
same_text text t (Ok x) h = cc
same_text text t (Err e) h = cc

-- a requirement is read again from its text
pub requirement_of-again : (text : List ℕ) → IfOk (requirement_of text) (λ t. requirement_of t ≡ Ok t)
unfolding requirement_of
requirement_of-again text = read-as (requirement_of text) λ t h.
    let same : t ≡ text = same_text text t (or_missed (req_of text)) h in
    subst (λ u. requirement_of u ≡ Ok u) (sym same) (subst (λ u. requirement_of text ≡ Ok u) same h)

mark_is_none : (mark : Option ℕ) (v : Result Parts BareError) (p : Parts) → unless_marked mark v ≡ Ok p
    → (mark ≡ None) × (v ≡ Ok p)
mark_is_none None v p h = (refl, h)
mark_is_none (Some mark) v p h = absurd (refused (mark == 45) h)
  where
    refused : (dash : Bool)
        → cond {A = Result Parts BareError} dash (Err PreRelease) (Err BuildMetadata) ≡ Ok p → ⊥
    refused true h = cc
    refused false h = cc

-- a bare version is read again from its text
pub bare_of-again : (text : List ℕ) → IfOk (bare_of text) (λ p. bare_of (version_text p) ≡ Ok p)
unfolding bare_of bare_parts version_text
bare_of-again text = parsed-as (bare_parts text) λ p h.
    let both = mark_is_none (first_mark text) (or_not_version (version_parts (full_version_text text))) p h in
    ap or_missed (bare_parts_again text p both.0 both.1)
