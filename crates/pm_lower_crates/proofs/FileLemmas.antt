-- Which file is found once one more is put in.
use Rattle.std.proofs.Common.{◌≡◌, ℕ, cond, List, Some, ap, ◌∙◌, if◌then◌else◌}
use Rattle.std.specs.Map.{lookup}
use Rattle.base_text_paths.specs.PathOrder.{path_eq}
use Rattle.pm_lower_crates.specs.Loader.{FileNumbers, file_number, path_key}

-- the file that was put in is found at its path, and others at theirs
pub later_file : (before old now : FileNumbers) (path key : List ℕ) (file : ℕ) (asked : List ℕ) → key ≡ path_key path → before ≡ old
    → lookup (path_eq (path_key asked)) now ≡ cond (path_eq key (path_key asked)) (Some file) (lookup (path_eq (path_key asked)) before)
    → file_number now asked ≡ (if path_eq (path_key path) (path_key asked) then Some file else file_number old asked)
later_file before old now path key file asked key_is same_before found =
    found
    ∙ ap (λ k. cond (path_eq k (path_key asked)) (Some file) (file_number before asked)) key_is
    ∙ ap (λ es. cond (path_eq (path_key path) (path_key asked)) (Some file) (file_number es asked)) same_before
