-- Where a build writes. Paths are joined as `Path::join` joins them, with one slash between.
use Rattle.std.specs.Prelude.{ℕ, Bool, ◌==◌, ◌||◌, ◌-◌, if◌then◌else◌, List, [], ◌++◌, length, slice_index, codes, Option, Some, None}
use Rattle.std.specs.Option.{option_map}
use Rattle.pm_cargo_config.specs.declared.target_dir.TargetDirectoryConfig.{TargetDirectoryConfig}
use Rattle.pm_cargo_config.specs.declared.target_dir.TargetDirectoryConfig.TheVariants as of

-- a name can stand right behind the text: it is empty, or its last byte is a slash
abbrev pub takes_name : List ℕ → Bool
takes_name dir = length dir == 0 || slice_index dir (length dir - 1) == 47

-- a name below a directory
abbrev pub name_below : List ℕ → List ℕ → List ℕ
name_below dir name = dir ++ (if takes_name dir then [] else codes "/") ++ name

-- the directory that a build is to write into, by the directory of the workspace's other builds
abbrev pub target_dir : TargetDirectoryConfig → Option (List ℕ) → Option (List ℕ)
target_dir of.None dir = None
target_dir of.UseSubdirectory dir = option_map (λ d. name_below d (codes "rust-analyzer")) dir
target_dir (of.Directory given) dir = Some given
