-- What many writes in a row leave in a sink, where the last of them may have been refused.
use Rattle.std.specs.Prelude.{ℕ, ◌+◌, ◌<◌, List, ◌++◌, length, take, drop, Option, codes}
use Rattle.std.proofs.Math.Seq.{take-add}
use Rattle.std.proofs.Common.{sym, subst}
use Rattle.std.specs.Io.KnownBytes.{Appends}
use Rattle.base_text_outside.specs.declared.sink.SinkError.{SinkError}
use Rattle.base_text_outside.specs.declared.sink.SinkError.TheVariants.{Failed, OutOfMemory}
pub use Rattle.std.proofs.KnownBytes.{Appends-nil, Appends-trans, Appends-kept}

-- an error prints its name
abbrev pub sink_error_text : SinkError → List ℕ
sink_error_text Failed = codes "Failed"
sink_error_text OutOfMemory = codes "OutOfMemory"

-- the sink took the front of a piece, and not all of it
pub record AppendsPart (old new : Option (List ℕ)) (piece : List ℕ) : Type 0 where
  pub count : ℕ
  pub short : count < length piece
  pub front : Appends old new (take count piece)

-- the front of a piece and the next part of it are a longer front
pub Appends-next : (a b c : Option (List ℕ)) (piece : List ℕ) (n m : ℕ)
    → Appends a b (take n piece) → Appends b c (take m (drop n piece)) → Appends a c (take (n + m) piece)
Appends-next a b c piece n m first next =
    subst (Appends a c) (sym (take-add n m piece)) (Appends-trans a b c _ _ first next)

-- what was taken whole before a part stays
pub AppendsPart-after : (a b c : Option (List ℕ)) (front piece : List ℕ)
    → Appends a b front → (part : AppendsPart b c piece) → Appends a c (front ++ take part.count piece)
AppendsPart-after a b c front piece whole part = Appends-trans a b c _ _ whole part.front
