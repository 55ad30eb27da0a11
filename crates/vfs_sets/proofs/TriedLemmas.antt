-- The prefixes that are tried: which they are, how many are tried down to a length, and the most there can be.
use Rattle.std.proofs.Common.{◌≡◌, ℕ, zero, suc, ◌+◌, ◌-◌, ◌*◌, ◌<◌, ◌≤◌, Bool, true, false, ◌&&◌, ◌||◌, ◌==◌, List, [], ◌∷◌}
use Rattle.std.proofs.Common.{add-one, add-zero, ap, arith, cond, Contains, get_or, length, nat_le, nat_lt, refl, subst, sym, take, zero-add, ◌∙◌}
use Rattle.std.proofs.lemmas.Bool.{le-leb, lt-leb, ltb-false, ltb-true, ne_eqb, true≢false}
use Rattle.std.proofs.lemmas.List.Elements.{All-contains, All-contains_itself, All-filter, filter_passes}
use Rattle.std.proofs.lemmas.List.Sums.{count_by-le-length, length-filter, sum_by-take-le, sum_by_more}
use Rattle.std.specs.List.{count_by, filter}
use Rattle.base_text_paths.specs.Paths.{is_slash}
use Rattle.vfs_sets.specs.Placement.{begins_text}
use Rattle.vfs_sets.specs.Probes.{most_tries, numbers_down, prefixes_tried, tries_down_to}
use Rattle.vfs_sets.proofs.ComponentLemmas.{begins_text-is, is_after_slash}

-- whether the first bytes of a text begin it by whole components
abbrev is_tried : List ℕ → ℕ → Bool
is_tried text size = begins_text (take size text) text

-- from a number down to 0
numbers_down-length : (n : ℕ) → length (numbers_down n) ≡ n + 1
numbers_down-length zero = refl
numbers_down-length (suc n) = let more = numbers_down-length n in omega (arith, more)

-- one number more, where it is kept
kept-more : (n : ℕ) (rest : List ℕ) (is_kept : Bool) → length (cond is_kept (n ∷ rest) rest) ≡ length rest + cond is_kept 1 0
kept-more n rest true = omega arith
kept-more n rest false = omega arith

-- the same of those from another number on
kept-from : (stop n : ℕ) (rest : List ℕ) (is_kept : Bool)
    → length (filter (nat_le stop) (cond is_kept (n ∷ rest) rest))
    ≡ length (filter (nat_le stop) rest) + cond (is_kept && nat_le stop n) 1 0
kept-from stop n rest true = kept-more n (filter (nat_le stop) rest) (nat_le stop n)
kept-from stop n rest false = omega arith

-- whether a number is kept and is one of those
kept-below : (is_kept is_from : Bool) → is_from ≡ false → cond {A = ℕ} (is_kept && is_from) 1 0 ≡ 0
kept-below true is_from below = ap (λ (b : Bool). cond {A = ℕ} b 1 0) below
kept-below false is_from below = refl

kept-above : (is_kept is_from : Bool) → is_from ≡ true → cond {A = ℕ} (is_kept && is_from) 1 0 ≡ cond is_kept 1 0
kept-above true is_from above = ap (λ (b : Bool). cond {A = ℕ} b 1 0) above
kept-above false is_from above = refl

-- how many of the numbers that pass are not below another
tries : (ℕ → Bool) → ℕ → ℕ → ℕ
tries test stop n = length (filter (nat_le stop) (filter test (numbers_down n)))

-- one more where the greatest is such a number
tries-zero : (test : ℕ → Bool) (stop : ℕ) → tries test stop zero ≡ cond (test zero && nat_le stop zero) 1 0
unfolding tries
tries-zero test stop =
    kept-from stop zero [] (test zero) ∙ zero-add (cond (test zero && nat_le stop zero) 1 0)

tries-suc : (test : ℕ → Bool) (stop n : ℕ)
    → tries test stop (suc n) ≡ tries test stop n + cond (test (suc n) && nat_le stop (suc n)) 1 0
unfolding tries
tries-suc test stop n = kept-from stop (suc n) (filter test (numbers_down n)) (test (suc n))

-- none of them is above all
tries-none : (test : ℕ → Bool) (stop n : ℕ) → n < stop → tries test stop n ≡ 0
tries-none test stop zero above =
    tries-zero test stop ∙ kept-below (test zero) (nat_le stop zero) (lt-leb stop zero above)
tries-none test stop (suc n) above =
    let more = tries-none test stop n (omega (arith, above)) in
    let step = tries-suc test stop n in
    let below = kept-below (test (suc n)) (nat_le stop (suc n)) (lt-leb stop (suc n) above) in
    omega (arith, more, step, below)

-- with one number less to stop at, that one is counted where it passes: the same by whether it is the first
tries-split : (test : ℕ → Bool) (stop n : ℕ) (is_below : Bool) → nat_lt stop (suc n) ≡ is_below → stop ≤ suc n
    → (stop ≤ n → tries test stop n ≡ tries test (stop + 1) n + cond (test stop) 1 0)
    → tries test stop (suc n) ≡ tries test (stop + 1) (suc n) + cond (test stop) 1 0
tries-split test stop n true h within more =
    let less = ltb-true stop (suc n) h in
    let behind = more (omega (arith, less)) in
    let here = tries-suc test stop n in
    let there = tries-suc test (stop + 1) n in
    let counts = kept-above (test (suc n)) (nat_le stop (suc n)) (le-leb stop (suc n) within) in
    let counts_too = kept-above (test (suc n)) (nat_le (stop + 1) (suc n)) (le-leb (stop + 1) (suc n) (omega (arith, less))) in
    omega (arith, behind, here, there, counts, counts_too)
tries-split test stop n false h within more =
    let same : stop ≡ suc n = let most = ltb-false stop (suc n) h in omega (arith, most, within) in
    let here = tries-suc test stop n in
    let counts = kept-above (test (suc n)) (nat_le stop (suc n)) (le-leb stop (suc n) within) in
    let behind = tries-none test stop n (omega (arith, same)) in
    let there = tries-none test (stop + 1) (suc n) (omega (arith, same)) in
    let passes : cond {A = ℕ} (test stop) 1 0 ≡ cond (test (suc n)) 1 0 = ap (λ (k : ℕ). cond {A = ℕ} (test k) 1 0) same in
    omega (arith, here, counts, behind, there, passes)

tries-next : (test : ℕ → Bool) (n stop : ℕ) → stop ≤ n → tries test stop n ≡ tries test (stop + 1) n + cond (test stop) 1 0
tries-next test zero zero within =
    let here = tries-zero test zero in
    let counts = kept-above (test zero) (nat_le zero zero) (le-leb zero zero within) in
    let there = tries-none test (zero + 1) zero (omega arith) in
    omega (arith, here, counts, there)
tries-next test zero (suc stop) within = absurd (omega (arith, within))
tries-next test (suc n) stop within =
    tries-split test stop n (nat_lt stop (suc n)) refl within (tries-next test n stop)

-- the tries down to a length are those down to one more, and one where that length is tried
tries-step : (text : List ℕ) (size : ℕ) → size ≤ length text
    → tries_down_to size text ≡ tries_down_to (size + 1) text + cond (is_tried text size) 1 0
unfolding tries
tries-step text size within = tries-next (is_tried text) (length text) size within

pub tries_more : (text : List ℕ) (size : ℕ) → size ≤ length text → begins_text (take size text) text ≡ true
    → tries_down_to size text ≡ tries_down_to (size + 1) text + 1
tries_more text size within is =
    tries-step text size within ∙ ap (λ (b : Bool). tries_down_to (size + 1) text + cond b 1 0) is

pub tries_same : (text : List ℕ) (size : ℕ) → size ≤ length text → begins_text (take size text) text ≡ false
    → tries_down_to size text ≡ tries_down_to (size + 1) text
tries_same text size within is =
    tries-step text size within
    ∙ ap (λ (b : Bool). tries_down_to (size + 1) text + cond b 1 0) is
    ∙ add-zero (tries_down_to (size + 1) text)

-- none is longer than the text
pub tries_none : (text : List ℕ) → tries_down_to (length text + 1) text ≡ 0
unfolding tries
tries_none text = tries-none (is_tried text) (length text + 1) (length text) (omega arith)

-- down to 0 all are tried
from_zero : (numbers : List ℕ) → filter (nat_le 0) numbers ≡ numbers
from_zero [] = refl
from_zero (n ∷ numbers) =
    ap (λ (b : Bool). cond b (n ∷ filter (nat_le 0) numbers) (filter (nat_le 0) numbers)) (le-leb 0 n (omega arith))
    ∙ ap (λ (ns : List ℕ). n ∷ ns) (from_zero numbers)

pub tries_all : (text : List ℕ) → tries_down_to 0 text ≡ length (prefixes_tried text)
tries_all text = ap length (from_zero (prefixes_tried text))

-- a length is tried where the text has so many bytes, and they begin it by whole components
kept-behind : (first : ℕ) (rest : List ℕ) (x : ℕ) (is_kept : Bool) → Contains rest x → Contains (cond is_kept (first ∷ rest) rest) x
kept-behind first rest x true there = (suc there.0, omega (arith, there.1), there.2)
kept-behind first rest x false there = there

kept-item : (test : ℕ → Bool) (numbers : List ℕ) (x k : ℕ) → k < length numbers → get_or numbers k x ≡ x → test x ≡ true
    → Contains (filter test numbers) x
kept-item test [] x k within at passes = absurd (omega (arith, within))
kept-item test (first ∷ rest) x zero within at passes =
    let same : test first ≡ true = ap test at ∙ passes in
    subst (λ (b : Bool). Contains (cond b (first ∷ filter test rest) (filter test rest)) x) (sym same) (0, omega arith, at)
kept-item test (first ∷ rest) x (suc k) within at passes =
    kept-behind first (filter test rest) x (test first) (kept-item test rest x k (omega (arith, within)) at passes)

numbers_down-item : (n below k : ℕ) → below + k ≡ n → Contains (numbers_down n) k
numbers_down-item zero below k sum = (0, omega arith, omega (arith, sum))
numbers_down-item (suc n) zero k sum = (0, omega arith, omega (arith, sum))
numbers_down-item (suc n) (suc below) k sum =
    let later = numbers_down-item n below k (omega (arith, sum)) in (suc later.0, omega (arith, later.1), later.2)

pub prefixes_tried-each : (text : List ℕ) (size : ℕ) → size ≤ length text → begins_text (take size text) text ≡ true
    → Contains (prefixes_tried text) size
prefixes_tried-each text size within is =
    let at = numbers_down-item (length text) (length text - size) size (omega (arith, within)) in
    kept-item (is_tried text) (numbers_down (length text)) size at.0 at.1 at.2 is

-- and no other
pub prefixes_tried-begin : (text : List ℕ) (size : ℕ) → Contains (prefixes_tried text) size → begins_text (take size text) text ≡ true
prefixes_tried-begin text size there =
    All-contains (λ n. is_tried text n ≡ true) (prefixes_tried text) size
    (filter_passes (is_tried text) (numbers_down (length text))) there

numbers_down-within : (n k size : ℕ) → k ≤ n → get_or (numbers_down n) k size ≡ size → size ≤ n
numbers_down-within zero zero size inside at = omega (arith, at)
numbers_down-within zero (suc k) size inside at = absurd (omega (arith, inside))
numbers_down-within (suc n) zero size inside at = omega (arith, at)
numbers_down-within (suc n) (suc k) size inside at =
    let more = numbers_down-within n k size (omega (arith, inside)) at in omega (arith, more)

pub prefixes_tried-within : (text : List ℕ) (size : ℕ) → Contains (prefixes_tried text) size → size ≤ length text
prefixes_tried-within text size there =
    let numbers = numbers_down (length text) in
    let all = numbers_down-length (length text) in
    let at = All-contains (Contains numbers) (filter (is_tried text) numbers) size
    (All-filter (is_tried text) (Contains numbers) numbers (All-contains_itself numbers)) there in
    numbers_down-within (length text) at.0 size (omega (arith, all, at.1)) at.2

-- a filter keeps no more than there are
kept-most : (test : ℕ → Bool) (numbers : List ℕ) → length (filter test numbers) ≤ length numbers
kept-most test numbers =
    let kept = length-filter test numbers in
    let most = count_by-le-length test numbers in
    omega (arith, kept, most)

-- how many of the first bytes of a text are slashes
slashes : List ℕ → ℕ → ℕ
slashes text size = count_by is_slash (take size text)

slashes-more : (text : List ℕ) (size : ℕ) → size < length text
    → slashes text (suc size) ≡ slashes text size + cond (is_slash (get_or text size 0)) 1 0
unfolding slashes
slashes-more text size within =
    ap (λ (n : ℕ). count_by is_slash (take n text)) (sym (add-one size))
    ∙ sum_by_more (λ (b : ℕ). cond (is_slash b) 1 0) text size 0 within

slashes-within : (text : List ℕ) (size : ℕ) → slashes text size ≤ count_by is_slash text
unfolding slashes
slashes-within text size = sum_by-take-le (λ (b : ℕ). cond (is_slash b) 1 0) text size

-- a length that is no text's end counts no more than the slashes at both sides of it
ends-most : (is_end is_after is_before : Bool) → is_end ≡ false
    → cond (is_end || is_after || is_before) 1 0 ≤ cond is_after 1 0 + cond is_before 1 0
ends-most true is_after is_before inside = absurd (true≢false inside)
ends-most false true true inside = omega arith
ends-most false true false inside = omega arith
ends-most false false true inside = omega arith
ends-most false false false inside = omega arith

tried-most : (text : List ℕ) (size : ℕ) → size < length text
    → cond (is_tried text size) 1 0 ≤ cond (is_after_slash text size) 1 0 + cond (is_slash (get_or text size 0)) 1 0
tried-most text size within =
    let inside : (size == length text) ≡ false = ne_eqb size (length text) (λ e. omega (arith, within, e)) in
    let most = ends-most (size == length text) (is_after_slash text size) (is_slash (get_or text size 0)) inside in
    let is : cond {A = ℕ} (is_tried text size) 1 0
    ≡ cond (size == length text || is_after_slash text size || is_slash (get_or text size 0)) 1 0 =
    ap (λ (b : Bool). cond {A = ℕ} b 1 0) (begins_text-is text size (omega (arith, within))) in
    omega (arith, most, is)

-- before the end of a text no more are tried than twice its slashes
inside-most : (text : List ℕ) (size : ℕ) → size < length text
    → length (filter (is_tried text) (numbers_down size)) ≤ slashes text (suc size) + slashes text size
inside-most text zero within =
    let first = kept-more zero [] (is_tried text zero) in
    let most = tried-most text zero within in
    let more = slashes-more text zero within in
    omega (arith, first, most, more)
inside-most text (suc size) within =
    let behind = inside-most text size (omega (arith, within)) in
    let first = kept-more (suc size) (filter (is_tried text) (numbers_down size)) (is_tried text (suc size)) in
    let most = tried-most text (suc size) within in
    let more = slashes-more text (suc size) within in
    let before = slashes-more text size (omega (arith, within)) in
    omega (arith, behind, first, most, more, before)

one-most : (b : Bool) → cond b 1 0 ≤ 1
one-most true = omega arith
one-most false = omega arith

slashes-most : (text : List ℕ) (size : ℕ) → size ≡ length text
    → length (filter (is_tried text) (numbers_down size)) ≤ 2 * count_by is_slash text + 1
slashes-most text zero end =
    let first = kept-more zero [] (is_tried text zero) in
    let one = one-most (is_tried text zero) in
    omega (arith, first, one)
slashes-most text (suc size) end =
    let behind = inside-most text size (omega (arith, end)) in
    let first = kept-more (suc size) (filter (is_tried text) (numbers_down size)) (is_tried text (suc size)) in
    let one = one-most (is_tried text (suc size)) in
    let up_to = slashes-within text (suc size) in
    let before = slashes-within text size in
    omega (arith, behind, first, one, up_to, before)

-- the most prefixes that are tried
pub prefixes_tried-most : (text : List ℕ) → length (prefixes_tried text) ≤ most_tries text
prefixes_tried-most text =
    let kept : length (prefixes_tried text) ≤ length (numbers_down (length text)) =
    kept-most (is_tried text) (numbers_down (length text)) in
    let all = numbers_down-length (length text) in
    let twice : length (prefixes_tried text) ≤ 2 * count_by is_slash text + 1 = slashes-most text (length text) refl in
    omega (arith, kept, all, twice)

pub tries_down_to-most : (size : ℕ) (text : List ℕ) → tries_down_to size text ≤ most_tries text
tries_down_to-most size text =
    let kept = kept-most (nat_le size) (prefixes_tried text) in
    let most = prefixes_tried-most text in
    omega (arith, kept, most)
