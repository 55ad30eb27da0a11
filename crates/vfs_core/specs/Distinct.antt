-- Lists in which no item comes twice.
use Rattle.std.specs.Prelude.{Bool, List, [], ◌∷◌, ◌++◌, if◌then◌else◌}
use Rattle.std.specs.List.{list_any}

-- items, with one more at the end where no equal one is among them
abbrev pub with_item : {A : Type 0} → (A → A → Bool) → A → List A → List A
with_item eq item items = if list_any (eq item) items then items else items ++ item ∷ []
