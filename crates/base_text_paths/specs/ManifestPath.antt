-- Paths of manifests: absolute paths that have a directory above them. A manifest is a `Cargo.toml`, or a
-- script that holds its own manifest.
use Rattle.std.specs.Prelude.{ℕ, ◌<◌, Bool, false, List, length, bytes_eq, codes}
use Rattle.std.specs.Option.{option_and_then, option_map_or, unwrap_or}
use Rattle.base_text_paths.specs.FileName.{extension_of}
use Rattle.base_text_paths.specs.Paths.{components, file_name, parent_text}

-- the path has a component, so that it has a directory above it
abbrev pub HasParent : List ℕ → Type 0
HasParent text = 0 < length (components text)

-- the directory that a manifest lies in; no manifest is `/`
abbrev pub directory_of : List ℕ → List ℕ
directory_of manifest = unwrap_or (parent_text manifest) (codes "/")

-- the extension of the file name is `rs`
unfoldable pub is_rust_manifest : List ℕ → Bool
is_rust_manifest text =
    option_map_or (λ extension. bytes_eq extension (codes "rs"))
    (option_and_then extension_of (file_name text)) false
