-- Real paths: their texts are normal, and their calls are functions of components.
use Rattle.std.specs.Prelude.{◌≡◌, ℕ, Bool, List, Option}
use Rattle.std.specs.Borrow.{Bor}
use Rattle.std.specs.Option.{option_copied, option_map}
use Rattle.base_text_paths.specs.FileName.{extension_of, stem_of}
use Rattle.base_text_paths.specs.Paths.{components, components_with_tail, file_name, is_prefix, normal, path_text, resolved_components, text_below, IsClean}

-- the text is that of its components, and resolving them changes nothing
pub record IsNormal (text : List ℕ) : Type 0 where
  pub clean : IsClean text
  pub resolved : normal text ≡ components text

-- the text of a real path joined with a tail: no `..` of either is left
abbrev pub real_joined_text : List ℕ → List ℕ → List ℕ
real_joined_text text tail = path_text (resolved_components (components_with_tail text tail))

-- whether the components of a front come first in a text
abbrev pub is_text_prefix : List ℕ → List ℕ → Bool
is_text_prefix front text = is_prefix (components front) (components text)

-- what follows the components of a front in a real path
abbrev pub real_rest : List ℕ → List ℕ → Option (List ℕ)
real_rest front text = text_below (components front) (components text)

-- the file name of a real path as a stem and an extension, if it has one
abbrev pub stem_and_extension : List ℕ → Option (List ℕ × Option (List ℕ))
stem_and_extension text = option_map (λ name. (stem_of name, extension_of name)) (file_name text)

-- the texts of a borrowed stem and extension
abbrev pub name_texts : Bor (List ℕ) × Option (Bor (List ℕ)) → List ℕ × Option (List ℕ)
name_texts name = (name.0.now, option_copied name.1)
