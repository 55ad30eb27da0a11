-- the files that a manifest names: they lie beside it, at the place of its last component
use Rattle.std.specs.Prelude.{ℕ, Bool, not, ◌==◌, ◌||◌, ◌-◌, if◌then◌else◌, List, ◌++◌, bytes_eq, length, take}
use Rattle.std.specs.List.{suffix_len}
use Rattle.std.specs.Path.{root_dir, trim_trailing}
use Rattle.base_text_paths.specs.Paths.{is_absolute, is_slash}

-- the text without what follows its last slash
abbrev pub up_to_slash : List ℕ → List ℕ
up_to_slash text = take (length text - suffix_len (λ b. not (is_slash b)) text) text

-- the path has no component: it is empty or the root, once slashes and lone dots are taken off its end
abbrev pub has_no_component : List ℕ → Bool
has_no_component path = (length (trim_trailing path) == 0) || bytes_eq (trim_trailing path) root_dir

-- the path's text before its last component, with the slash that stands there, and the whole text where it
-- has none
unfoldable pub folder : List ℕ → List ℕ
folder path = if has_no_component path then path else up_to_slash (trim_trailing path)

-- the file in the manifest's folder, and an absolute file alone
unfoldable pub beside : List ℕ → List ℕ → List ℕ
beside manifest file = if is_absolute file then file else folder manifest ++ file
