-- Platforms that no JSON file describes.
use Rattle.std.proofs.Common.{◌≡◌, ℕ, false, List, Option, Some, None, refl}
use Rattle.pm_cargo_config.specs.Versions.{is_json_target}
use Rattle.pm_tools_info.specs.StatedTargets.{joined_target}

-- such a platform stays as it is
pub left_alone : (root : Option (List ℕ)) (target : List ℕ) → is_json_target target ≡ false → joined_target root target ≡ target
left_alone None target is = refl
left_alone (Some root) target is = rw is
