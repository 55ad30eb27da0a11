-- How a path's text is built and cut: as a row, in which each component follows a slash.
use Rattle.std.specs.Prelude.{◌≡◌, ℕ, ◌<◌, false, ◌==◌, List, ◌∷◌, ◌++◌, length, take}
use Rattle.std.specs.List.{AllByRecursion}
use Rattle.std.specs.Str.{IsCharBoundary}
use Rattle.base_text_paths.specs.Paths.{components, path_text, with_slashes, without_last}

-- the text is a row of names, each behind a slash
abbrev pub IsSlashed : List ℕ → Type 0
IsSlashed text = text ≡ with_slashes (components text)

-- the text is the row of these components, each behind a slash
pub record IsRow (text : List ℕ) (parts : List (List ℕ)) : Type 0 where
  pub text_is : text ≡ with_slashes parts
  pub components_are : components text ≡ parts

-- no byte is `at`
abbrev pub Lacks : ℕ → List ℕ → Type 0
Lacks at text = AllByRecursion (λ b. (b == at) ≡ false) text

-- the text is cut at its last `at` into what stands before it and behind it
pub record IsCutAtLast (at : ℕ) (text front back : List ℕ) : Type 0 where
  pub parts : text ≡ front ++ at ∷ back
  pub last : Lacks at back

-- the text of the parent is the first `end` bytes, and the text may be cut there
pub record IsParentLen (text : List ℕ) (end : ℕ) : Type 0 where
  pub some : 0 < length (components text)
  pub text_is : take end text ≡ path_text (without_last (components text))
  pub boundary : IsCharBoundary text end
