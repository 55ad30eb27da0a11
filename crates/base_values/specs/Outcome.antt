-- What may be refused, whatever the refusal is: the next part counts where this one is not refused.
use Rattle.std.specs.Prelude.{List, [], ◌∷◌, Result, Ok, Err}

infixl 10 ◌>>=◌
-- a part, and what is made with its value
abbrev pub ◌>>=◌ : {E A B : Type 0} → Result A E → (A → Result B E) → Result B E
Ok x >>= f = f x
Err e >>= f = Err e

-- each item is taken in turn, up to the first that is refused
unfoldable pub take_each : {E S X : Type 0} → (S → X → Result S E) → S → List X → Result S E
take_each step s [] = Ok s
take_each step s (x ∷ xs) = step s x >>= λ next. take_each step next xs
