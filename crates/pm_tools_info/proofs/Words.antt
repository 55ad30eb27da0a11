-- The first word that `split_whitespace` gives, as a function of the characters.
use Rattle.std.proofs.Common.{◌≡◌, ℕ, true, false, cond, ◌<◌, List, [], ◌∷◌, ◌++◌, length, Option, Some, None, Bor, refl, sym, ap, ◌∙◌, arith, append-nil, ◌&&◌}
use Rattle.std.specs.Char.{encode_utf8, is_whitespace, is_not_whitespace}
use Rattle.std.specs.Option.{MatchOption, unwrap_or}
use Rattle.std.specs.Str.{IsUtf8, NonePass, NoCharPasses, EmptyOrStartsWithPassing, chars, encode_utf8_all, skip_leading_whitespace}
use Rattle.std.proofs.Math.Utf8.{scalar, scalars, low_scalar}
use Rattle.std.proofs.lemmas.Str.{IsUtf8-encode, chars-append, chars-encodes, chars-nil, chars_from_encodes}
use Rattle.pm_tools_info.specs.Version.{before_whitespace, first_word}

white : (c : ℕ) → is_not_whitespace c ≡ false → is_whitespace c ≡ true
white c e = grind arith

white_scalar : (c : ℕ) → is_whitespace c ≡ true → scalar c ≡ true
white_scalar c e = low_scalar c (grind arith)

-- white space is UTF-8
whites : (ws : List ℕ) → NonePass is_not_whitespace ws → scalars ws ≡ true
whites [] f = refl
whites (w ∷ ws) f = λ i. white_scalar w (white w f.0) i && whites ws f.1 i

-- white space is passed over
passed : (ws cs : List ℕ) → NonePass is_not_whitespace ws → skip_leading_whitespace (ws ++ cs) ≡ skip_leading_whitespace cs
passed [] cs f = refl
passed (w ∷ ws) cs f = ap (λ b. cond b (skip_leading_whitespace (ws ++ cs)) (w ∷ (ws ++ cs))) (white w f.0) ∙ passed ws cs f.1

-- a word stops before white space, and before the end
stopped : (cs more : List ℕ) → NonePass is_whitespace cs → before_whitespace more ≡ [] → before_whitespace (cs ++ more) ≡ cs
stopped [] more f e = e
stopped (c ∷ cs) more f e = ap (λ b. cond b [] (c ∷ before_whitespace (cs ++ more))) f.0 ∙ ap (λ l. c ∷ l) (stopped cs more f.1 e)

-- a word begins where it stands
begun : (cs more : List ℕ) → 0 < length cs → NonePass is_whitespace cs → skip_leading_whitespace (cs ++ more) ≡ cs ++ more
begun [] more l f = absurd (omega arith)
begun (c ∷ cs) more l f = ap (λ b. cond b (skip_leading_whitespace (cs ++ more)) (c ∷ (cs ++ more))) f.0

-- nothing of what is left behind a word belongs to it
ended : (left more : List ℕ) → EmptyOrStartsWithPassing is_whitespace left more → before_whitespace (chars left) ≡ []
ended [] more o = ap before_whitespace chars-nil
ended (b ∷ left) more o =
    let p = o (omega arith) in
    let one : chars (encode_utf8 p.0) ≡ p.0 ∷ [] =
    ap chars (sym (append-nil (encode_utf8 p.0))) ∙ chars-encodes (p.0 ∷ []) (λ i. p.3 i && true) in
    let all : chars (b ∷ left) ≡ p.0 ∷ chars more =
    ap chars p.2 ∙ chars-append (encode_utf8 p.0) more (IsUtf8-encode p.0 p.3) ∙ ap (λ l. l ++ chars more) one in
    ap before_whitespace all ∙ ap (λ t. cond t [] (p.0 ∷ before_whitespace (chars more))) p.1

some_chars : (cs : List ℕ) → 0 < length (encode_utf8_all cs) → 0 < length cs
some_chars [] l = l
some_chars (c ∷ cs) l = omega arith

-- what `next` gives, and the empty text where it gives nothing
pub first_word_is : (P : Type 0) (r : Option (Bor (List ℕ))) (none : Bor (List ℕ)) (text left word : List ℕ)
    → MatchOption r (P × NoCharPasses is_not_whitespace text) (λ x. (gap : List ℕ) × (text ≡ gap ++ (x.now ++ left)) × (0 < length x.now) × NoCharPasses is_not_whitespace gap × NoCharPasses is_whitespace x.now × ((more : List ℕ) × EmptyOrStartsWithPassing is_whitespace left more))
    → word ≡ (unwrap_or r none).now → none.now ≡ [] → IsUtf8 word → word ≡ first_word text
unfolding first_word
first_word_is P None none text left word h is empty u =
    let gap = h.1 in
    is ∙ empty ∙ sym (ap (λ l. encode_utf8_all (before_whitespace (skip_leading_whitespace l))) (ap chars (sym gap.1) ∙ chars-encodes gap.0 (whites gap.0 gap.2) ∙ sym (append-nil gap.0))
    ∙ ap (λ l. encode_utf8_all (before_whitespace l)) (passed gap.0 [] gap.2))
first_word_is P (Some x) none text left word h is empty u =
    let gap = h.3 in
    let inner = h.4 in
    let own : inner.0 ≡ chars word = chars_from_encodes inner.0 word u (inner.1 ∙ sym is) in
    let before : chars h.0 ≡ gap.0 = ap chars (sym gap.1) ∙ chars-encodes gap.0 (whites gap.0 gap.2) in
    let all : chars text ≡ gap.0 ++ (inner.0 ++ chars left) =
    ap chars (h.1 ∙ ap (λ w. h.0 ++ (w ++ left)) (sym is))
    ∙ chars-append h.0 (word ++ left) (gap.0, (whites gap.0 gap.2, gap.1))
    ∙ ap (λ l. chars h.0 ++ l) (chars-append word left u)
    ∙ ap (λ l. l ++ (chars word ++ chars left)) before
    ∙ ap (λ l. gap.0 ++ (l ++ chars left)) (sym own) in
    let some : 0 < length inner.0 = some_chars inner.0 (omega (arith, ap length inner.1, h.2)) in
    is ∙ sym inner.1 ∙ sym (ap encode_utf8_all
    (ap (λ l. before_whitespace (skip_leading_whitespace l)) all
    ∙ ap before_whitespace (passed gap.0 (inner.0 ++ chars left) gap.2 ∙ begun inner.0 (chars left) some inner.2)
    ∙ stopped inner.0 (chars left) inner.2 (ended left h.5.0 h.5.1)))
