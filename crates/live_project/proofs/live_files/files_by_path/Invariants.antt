use Rattle.std.proofs.Common.{◌≡◌, ◌++◌, map}
use Rattle.vfs_core.specs.Files.{existing_files, numbered_path}
use Rattle.live_project.specs.Crates.{files_by_path}
use Rattle.live_project.proofs.live_files.files_by_path.Given as goal

abbrev pub invariant-loop-id : goal.invariant-loop-id
invariant-loop-id l =
    (l.loader ≡ files_by_path (map numbered_path l.yielded))
    × (map numbered_path l.yielded ++ l.id-iterator ≡ existing_files l.fn.files)
