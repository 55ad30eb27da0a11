-- Numbers as words say them: a text is the decimal text of one number at most.
use Rattle.std.proofs.Common.{arith, ◌≡◌, ◌≤◌, ◌<◌, ◌^◌, ◌&&◌, ℕ, Bool, true, false, List, Option, Some, None, Result, Ok, Err, refl, sym, ap, subst, ◌∙◌, if◌then◌else◌, true≢false}
use Rattle.std.specs.Prelude.{decimal, nat_le}
use Rattle.std.specs.Str.{bytes_eq}
use Rattle.std.specs.Str.Parse.{ParsesUnsigned, digits_value}
use Rattle.std.proofs.lemmas.Bool.{leb-true, le-leb}
use Rattle.std.proofs.lemmas.Fmt.{decimal_is_IsNumeral, parse-decimal}
use Rattle.std.proofs.lemmas.Slice.Eq.{bytes_eq-Decides}
use Rattle.live_config.specs.Values.{number_up_to}

-- what stands where both tests hold
both_hold : (a b : Bool) (x : Option ℕ) → a ≡ true → b ≡ true → (if a && b then x else None) ≡ x
both_hold true true x p q = refl
both_hold true false x p q = absurd (true≢false (sym q))
both_hold false b x p q = absurd (true≢false (sym p))

-- nothing stands where they do not both hold
not_both : (a b : Bool) (x : Option ℕ) → (a ≡ true → b ≡ true → ⊥) → (if a && b then x else None) ≡ None
not_both true true x h = absurd (h refl refl)
not_both true false x h = refl
not_both false b x h = refl

-- a decimal text says its number
pub says : (most n : ℕ) (text : List ℕ) → n < 2 ^ 64 → text ≡ decimal n → n ≤ most → number_up_to most text ≡ Some n
unfolding number_up_to
says most n text small is within =
    let value : digits_value 10 text ≡ n = ap (digits_value 10) is ∙ (decimal_is_IsNumeral n small).1 in
    subst (λ v. (if bytes_eq text (decimal v) && nat_le v most then Some v else None) ≡ Some n) (sym value)
    (both_hold (bytes_eq text (decimal n)) (nat_le n most) (Some n) ((bytes_eq-Decides text (decimal n)).1 is) (le-leb n most within))

-- a text that is the decimal text of no number up to the greatest says none
pub says_none : (most : ℕ) (text : List ℕ) → ((n : ℕ) → text ≡ decimal n → n ≤ most → ⊥) → number_up_to most text ≡ None
unfolding number_up_to
says_none most text none = not_both (bytes_eq text (decimal (digits_value 10 text))) (nat_le (digits_value 10 text) most) (Some (digits_value 10 text))
    (λ p q. none (digits_value 10 text) ((bytes_eq-Decides text (decimal (digits_value 10 text))).0 p) (leb-true (digits_value 10 text) most q))

-- a text that no parser reads says no number
pub refused_none : {E : Type 0} (most : ℕ) (text : List ℕ) (r : Result ℕ E) (e : E) → most < 2 ^ 64 → ParsesUnsigned 64 10 text r → r ≡ Err e → number_up_to most text ≡ None
refused_none {E} most text r e small parses refused = says_none most text
    (λ n is within. let both : ◌≡◌ {A = Result ℕ E} (Ok n) (Err e) = sym (parse-decimal 64 n text r (omega (arith, small, within)) (omega (arith, small, within)) is parses) ∙ refused in cc)

-- a text that a parser reads as a number says that one, or none
pub other_none : {E : Type 0} (most number : ℕ) (text : List ℕ) (r : Result ℕ E) → most < 2 ^ 64 → ParsesUnsigned 64 10 text r → r ≡ Ok number
    → (text ≡ decimal number → number ≤ most → ⊥) → number_up_to most text ≡ None
other_none {E} most number text r small parses read other = says_none most text
    (λ n is within.
    let both : ◌≡◌ {A = Result ℕ E} (Ok n) (Ok number) = sym (parse-decimal 64 n text r (omega (arith, small, within)) (omega (arith, small, within)) is parses) ∙ read in
    let same : n ≡ number = cc in
    other (is ∙ ap decimal same) (subst (λ m. m ≤ most) same within))
