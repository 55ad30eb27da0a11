-- Readers and writers of std as sources and sinks, by the contracts of Rust's `Read` and `Write`.
use Rattle.std.specs.Prelude.{◌≡◌, ℕ, ◌≤◌, List, Option, Result, IfOk, length, take}
use Rattle.std.specs.Io.KnownBytes.{Appends}

-- a reader or a writer of std, and how often it failed
pub record Adapter (T : Type 0) : Type 0 where
  pub stream : T
  pub faults : ℕ

-- a write put a front of the piece into what a writer holds, and it is as long as the answer says, where
-- there is one
pub record WritesFront {E : Type 0} (old new : Option (List ℕ)) (result : Result ℕ E) (piece : List ℕ)
    : Type 0 where
  pub count : ℕ
  pub within : count ≤ length piece
  pub front : Appends old new (take count piece)
  pub answer : IfOk result (λ n. n ≡ count)
