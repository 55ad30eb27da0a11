-- Which files are libraries that a process loads: by their extension, as Rust's `Path::extension` finds it.
use Rattle.std.specs.Prelude.{ℕ, Bool, ◌||◌, false, List, Option, codes}
use Rattle.std.specs.Option.{option_and_then, option_map_or}
use Rattle.std.specs.Str.{str_eq_ignore_ascii_case}
use Rattle.base_text_paths.specs.FileName.{extension_of}
use Rattle.base_text_paths.specs.Paths.{file_name}

-- the extension of a library on Windows, on macOS or on Linux, in any case of its letters
abbrev pub is_library_extension : List ℕ → Bool
is_library_extension extension =
    str_eq_ignore_ascii_case extension (codes "dll")
    || str_eq_ignore_ascii_case extension (codes "dylib")
    || str_eq_ignore_ascii_case extension (codes "so")

-- the extension of the last component of a text
abbrev pub extension_in : List ℕ → Option (List ℕ)
extension_in text = option_and_then extension_of (file_name text)

-- a file that has such an extension; its text need not be absolute
unfoldable pub is_library : List ℕ → Bool
is_library file = option_map_or is_library_extension (extension_in file) false
