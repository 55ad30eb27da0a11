-- The numbers that a source gives one after another, none of them twice.
use Rattle.std.specs.Prelude.{ℕ, ◌==◌, ◌-◌, ◌^◌, if◌then◌else◌, Option, Some, None}

-- what a source gives whose next number is n: none where that is the greatest u64
abbrev pub nonce_of : ℕ → Option ℕ
nonce_of n = if n == 2 ^ 64 - 1 then None else Some n
