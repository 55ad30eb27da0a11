-- How a line is taken from a piece, and what is given of a line.
use Rattle.std.proofs.Common.{◌≡◌, ℕ, ◌+◌, ◌<◌, ◌≤◌, true, false, [], List, ◌∷◌, ◌++◌, Option, Some, None, length, take, drop, nat_le, refl, sym, ap, subst, arith}
use Rattle.std.proofs.lemmas.Bool.Decides.{nat_tests}
use Rattle.base_text.specs.Part.{IsHeld, IsHeldAs, Part, item_of, last_item_of}
use Rattle.base_text.specs.Pieces.{IsFirstNewline, Moves}
use Rattle.base_text.proofs.Bytes.{IsFirstNewline-cut}

-- a line that ends at the first newline
pub Moves-found : (piece : List ℕ) (at : ℕ) (held held' : Part) → IsFirstNewline piece at → ((line : List ℕ) → IsHeld line held → IsHeld (line ++ take at piece) held')
    → held'.max_line ≡ held.max_line → length held'.bytes ≤ held'.max_line → Moves true piece (drop (at + 1) piece) held held'
Moves-found piece at held held' first adds bound few = record {
  part = take at piece;
  uncut = first.before;
  piece_is = IsFirstNewline-cut piece at first;
  adds = adds;
  bound = bound;
  few = few;
  whole = λ e. absurd (cc);
}

-- what is given of a line that is too long
pub item-long : (held : Part) (line : List ℕ) → IsHeld line held → held.is_long ≡ true → None ≡ item_of held.max_line line
unfolding item_of
item-long held line h long =
    let said : IsHeldAs true line held = subst (λ b. IsHeldAs b line held) long h in
    let many : held.max_line < length line = said.1 in
    let over : nat_le (length line) held.max_line ≡ false = grind (arith, nat_tests) in
    rw over refl

-- and of one that is not
pub item-whole : (held : Part) (line : List ℕ) → IsHeld line held → held.is_long ≡ false → Some held.bytes ≡ item_of held.max_line line
unfolding item_of
item-whole held line h short =
    let said : IsHeldAs false line held = subst (λ b. IsHeldAs b line held) short h in
    let few : length line ≤ held.max_line = said.1 in
    let under : nat_le (length line) held.max_line ≡ true = grind (arith, nat_tests) in
    rw under (ap Some (sym said.0))

-- where nothing is held there is no last line
pub last_item-none : (held : Part) (line : List ℕ) → IsHeld line held → held.is_long ≡ false → held.bytes ≡ [] → None ≡ last_item_of held.max_line line
unfolding last_item_of
last_item-none held line h short empty =
    let said : IsHeldAs false line held = subst (λ b. IsHeldAs b line held) short h in
    rw (said.0, empty) refl

-- where something is, its item is the last
pub last_item-some : (held : Part) (line : List ℕ) → IsHeld line held → (held.is_long ≡ false → held.bytes ≡ [] → ⊥) → Some (item_of held.max_line line) ≡ last_item_of held.max_line line
unfolding last_item_of
last_item-some held (b ∷ line) h some = refl
last_item-some held [] h some =
    elim held.is_long as (λ v. held.is_long ≡ v → IsHeldAs v [] held → ◌≡◌ {A = Option (Option (List ℕ))} (Some (item_of held.max_line [])) None) [
      | true ↦ λ e said. absurd (omega (arith, said.1))
      | false ↦ λ e said. absurd (some e (sym said.0))
    ] refl h
