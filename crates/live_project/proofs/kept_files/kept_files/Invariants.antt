use Rattle.std.proofs.Common.{◌≡◌, ◌++◌, map}
use Rattle.vfs_core.specs.Files.{existing_files, numbered_path}
use Rattle.live_project.specs.LiveTexts.{kept_by}
use Rattle.live_project.proofs.kept_files.kept_files.Given as goal

abbrev pub invariant-loop-id : goal.invariant-loop-id
invariant-loop-id l =
    (l.tree ≡ kept_by l.fn.texts (map numbered_path l.yielded))
    × (map numbered_path l.yielded ++ l.id-iterator ≡ existing_files l.fn.files)
