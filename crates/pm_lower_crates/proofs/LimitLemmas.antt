-- The limit that refuses the crates of a project is that of crates.
use Rattle.std.proofs.Common.{◌≡◌, ℕ, ◌+◌, Bool, true, false, cond, List, [], ◌∷◌, Option, Some, None, Err, length}
use Rattle.std.specs.Option.{option_or}
use Rattle.std.specs.Prelude.{nat_lt}
use Rattle.base_text_outside.specs.declared.limits.Limit.{Limit}
use Rattle.base_text_outside.specs.declared.limits.Limit.TheVariants.{Crates}
use Rattle.pm_lower_crates.specs.Lowering.{ProjectPart, bad_name, both, crates_from, lowered, part_refusal, refusal, unless_refused}
use Rattle.pm_lower_crates.specs.declared.lower_error.LowerError.{LowerError}
use Rattle.pm_lower_crates.specs.declared.lower_error.LowerError.TheVariants.{TooMany}

-- a name names no limit
named-limit : (names : List (List ℕ)) (limit : Limit) → bad_name names ≡ Some (TooMany limit) → limit ≡ Crates
named-limit [] limit is = cc
named-limit (name ∷ names) limit is = cc

-- the same by whether there are too many
counted-limit : (is_more : Bool) (names : List (List ℕ)) (limit : Limit) → option_or (cond is_more (Some (TooMany Crates)) None) (bad_name names) ≡ Some (TooMany limit) → limit ≡ Crates
counted-limit true names limit is = cc
counted-limit false names limit is = named-limit names limit is

part-limit : (most shown : ℕ) (part : ProjectPart) (limit : Limit) → part_refusal most shown part ≡ Some (TooMany limit) → limit ≡ Crates
unfolding part_refusal
part-limit most shown part limit is = counted-limit (nat_lt most (shown + length part.rows)) part.bad_names limit is

first-limit : (first second : Option LowerError) (limit : Limit) → (first ≡ Some (TooMany limit) → limit ≡ Crates) → (second ≡ Some (TooMany limit) → limit ≡ Crates)
    → option_or first second ≡ Some (TooMany limit) → limit ≡ Crates
first-limit None second limit one two is = two is
first-limit (Some e) second limit one two is = one is

refused-by : {T : Type 0} (refused : Option LowerError) (x : T) (e : LowerError) → unless_refused refused x ≡ Err e → refused ≡ Some e
refused-by None x e is = cc
refused-by (Some r) x e is = cc

-- a project whose rows are refused by a limit is refused by that of crates
pub rows-limit : (most shown : ℕ) (libraries project : ProjectPart) (limit : Limit) → lowered most libraries shown project ≡ Err (TooMany limit) → limit ≡ Crates
unfolding lowered
rows-limit most shown libraries project limit is =
    first-limit (part_refusal most 0 libraries) (part_refusal most shown project) limit (part-limit most 0 libraries limit) (part-limit most shown project limit)
    (refused-by (refusal most libraries shown project) (crates_from 0 (both libraries project)) (TooMany limit) is)
