-- What contracts see of the borrowed paths: the text that each holds.
use Rattle.std.specs.Prelude.{ℕ, List}
use Rattle.base_text_paths.specs.declared.paths.abs_path.AbsPath.{AbsPath}
use Rattle.base_text_paths.specs.declared.paths.rel_path.RelPath.{RelPath}

-- the text of a borrowed absolute path, which is clean
abbrev pub abs_text : AbsPath → List ℕ
abs_text path = path.text.now

-- the text of a relative path
abbrev pub rel_text : RelPath → List ℕ
rel_text path = path.text.now
