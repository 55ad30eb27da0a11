-- The search for the longest prefix of a text that has a number: which prefixes were tried, and what it finds.
use Rattle.std.proofs.Common.{◌≡◌, ℕ, suc, ◌+◌, ◌-◌, ◌<◌, ◌≤◌, Bool, true, false, List, Option, Some, None, Vec}
use Rattle.std.proofs.Common.{ap, arith, Contains, length, nat_le, refl, subst, sym, take, ◌∙◌}
use Rattle.std.proofs.lemmas.Bool.{both_ways, leb-false, leb-true}
use Rattle.base_text_outside.specs.Causes.{next_count, raised_by}
use Rattle.vfs_sets.specs.Placement.{begins_text}
use Rattle.vfs_sets.specs.Probes.{prefixes_tried, tries_down_to}
use Rattle.vfs_sets.specs.RootMaps.{HasNoPrefix, IsOfLongestPrefix, number_by_text}
use Rattle.vfs_sets.proofs.TriedLemmas.{prefixes_tried-begin, prefixes_tried-each, prefixes_tried-within, tries_all, tries_more, tries_none, tries_same}

-- no prefix from a length on has a number, and each was counted
pub record HasTriedDownTo {Z : Type 0} (entries : List (Vec ℕ Z × ℕ)) (text : List ℕ) (untried before now : ℕ) : Type 0 where
  pub within : untried ≤ length text + 1
  pub none : (longer : ℕ) → Contains (prefixes_tried text) longer → untried ≤ longer
      → number_by_text (take longer text) entries ≡ None
  pub counts : now ≡ raised_by (tries_down_to untried text) before

-- at first none was tried
pub tried_none : {Z : Type 0} (entries : List (Vec ℕ Z × ℕ)) (text : List ℕ) (untried count : ℕ) → untried ≡ length text + 1
    → HasTriedDownTo entries text untried count count
tried_none entries text untried count all = record {
  within = omega (arith, all);
  none = λ longer there above.
      let within = prefixes_tried-within text longer there in absurd (omega (arith, all, above, within));
  counts = sym (ap (λ n. raised_by n count) (ap (λ n. tries_down_to n text) all ∙ tries_none text));
}

-- one length more: the same by whether another is longer
more-split : (look : ℕ → Option ℕ) (text : List ℕ) (untried longer : ℕ) (is_tried : Bool) → nat_le untried longer ≡ is_tried
    → (Contains (prefixes_tried text) longer → untried ≤ longer → look longer ≡ None)
    → (begins_text (take (untried - 1) text) text ≡ true → look (untried - 1) ≡ None)
    → Contains (prefixes_tried text) longer → untried - 1 ≤ longer → look longer ≡ None
more-split look text untried longer true h tried none there above = tried there (leb-true untried longer h)
more-split look text untried longer false h tried none there above =
    let less = leb-false untried longer h in
    let same : longer ≡ untried - 1 = omega (arith, above, less) in
    subst (λ n. look n ≡ None) (sym same)
    (none (subst (λ n. begins_text (take n text) text ≡ true) same (prefixes_tried-begin text longer there)))

-- a prefix that does not end with a component is passed over
pub tried_over : {Z : Type 0} (entries : List (Vec ℕ Z × ℕ)) (text : List ℕ) (untried before now : ℕ)
    → HasTriedDownTo entries text untried before now → 0 < untried → begins_text (take (untried - 1) text) text ≡ false
    → HasTriedDownTo entries text (untried - 1) before now
tried_over entries text untried before now tried some is =
    let next : untried - 1 + 1 ≡ untried = omega (arith, some) in
    record {
      within = omega (arith, tried.within);
      none = λ longer.
          more-split (λ n. number_by_text (take n text) entries) text untried longer (nat_le untried longer) refl
          (tried.none longer) (λ begins. absurd (both_ways _ is begins));
      counts = tried.counts
          ∙ sym (ap (λ n. raised_by n before) (tries_same text (untried - 1) (omega (arith, tried.within)) is
          ∙ ap (λ n. tries_down_to n text) next));
    }

-- and one that has no number was counted
counts_more : (text : List ℕ) (untried before now after : ℕ) → 0 < untried → untried ≤ length text + 1
    → begins_text (take (untried - 1) text) text ≡ true → now ≡ raised_by (tries_down_to untried text) before
    → after ≡ next_count now → after ≡ raised_by (tries_down_to (untried - 1) text) before
counts_more text untried before now after some within is counts ticks =
    let next : untried - 1 + 1 ≡ untried = omega (arith, some) in
    let tries = tries_more text (untried - 1) (omega (arith, within)) is in
    let same : tries_down_to (untried - 1 + 1) text ≡ tries_down_to untried text = ap (λ n. tries_down_to n text) next in
    let more : tries_down_to (untried - 1) text ≡ suc (tries_down_to untried text) = omega (arith, tries, same) in
    ticks ∙ ap next_count counts ∙ sym (ap (λ n. raised_by n before) more)

pub tried_more : {Z : Type 0} (entries : List (Vec ℕ Z × ℕ)) (text : List ℕ) (untried before now after : ℕ)
    → HasTriedDownTo entries text untried before now → 0 < untried → begins_text (take (untried - 1) text) text ≡ true
    → after ≡ next_count now → number_by_text (take (untried - 1) text) entries ≡ None
    → HasTriedDownTo entries text (untried - 1) before after
tried_more entries text untried before now after tried some is ticks none = record {
  within = omega (arith, tried.within);
  none = λ longer.
      more-split (λ n. number_by_text (take n text) entries) text untried longer (nat_le untried longer) refl
      (tried.none longer) (λ begins. none);
  counts = counts_more text untried before now after some tried.within is tried.counts ticks;
}

-- the first that has a number is the longest
pub tried_found : {Z : Type 0} (entries : List (Vec ℕ Z × ℕ)) (text : List ℕ) (untried number before now after : ℕ)
    → HasTriedDownTo entries text untried before now → 0 < untried → begins_text (take (untried - 1) text) text ≡ true
    → after ≡ next_count now → number_by_text (take (untried - 1) text) entries ≡ Some number
    → IsOfLongestPrefix entries text number before after
tried_found entries text untried number before now after tried some is ticks has = record {
  size = untried - 1;
  counts = counts_more text untried before now after some tried.within is tried.counts ticks;
  tried = prefixes_tried-each text (untried - 1) (omega (arith, tried.within, some)) is;
  has = has;
  none_longer = λ longer there above. tried.none longer there (omega (arith, above));
}

-- and where all were tried there is none
pub tried_all : {Z : Type 0} (entries : List (Vec ℕ Z × ℕ)) (text : List ℕ) (untried before now : ℕ)
    → HasTriedDownTo entries text untried before now → untried ≡ 0 → HasNoPrefix entries text before now
tried_all entries text untried before now tried end = record {
  counts = tried.counts ∙ ap (λ n. raised_by n before) (ap (λ n. tries_down_to n text) end ∙ tries_all text);
  none = λ size there. tried.none size there (omega (arith, end));
}
