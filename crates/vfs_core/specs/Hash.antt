-- The content hash: FNV-1a of 64 bits, by the parameters that its authors publish.
use Rattle.std.specs.Prelude.{ℕ, ◌*◌, ◌%◌, ◌^◌, List, bit_xor, fold}

-- one byte more: mixed in by XOR, then multiplied by the prime, wrapping
abbrev pub fnv_step : ℕ → ℕ → ℕ
fnv_step hash byte = (bit_xor hash byte * 1099511628211) % 2 ^ 64

-- the hash of no bytes
abbrev pub fnv_basis : ℕ
fnv_basis = 14695981039346656037

-- the hash of some bytes, taken one after the other
unfoldable pub content_hash : List ℕ → ℕ
content_hash bytes = fold fnv_step fnv_basis bytes
