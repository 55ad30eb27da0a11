-- What the calls of the file system do to paths and states, and to the marks, the calls and the texts that
-- are followed.
use Rattle.std.specs.Prelude.{◌≡◌, ℕ, List, [], Option}
use Rattle.vfs_core.specs.Files.{Files, Excludes, Gathers, KeepsMarks, KeepsNumbers, SetsState, TakesCall, TakesMark, TakesOut, paths_of}
use Rattle.vfs_core.specs.Marks.{with_path}
use Rattle.vfs_core.specs.Texts.{BringsMark, BringsOut, BringsTaken, KeepsPassing}
use Rattle.vfs_core.specs.VfsPath.{PathContent}

-- contents, or a deletion where there are none, came for a path
pub record SetsContents (old new : Files) (path : PathContent) (contents : Option (List ℕ)) : Type 0 where
  pub every_path : SetsState old new path contents
  pub paths : paths_of new ≡ with_path path (paths_of old)
  pub follows : TakesMark old new path contents
  pub gathers : TakesCall old new path contents
  pub brings : BringsMark old new path contents
  pub passing : KeepsPassing old new contents

-- a path was left out
pub record LeavesOut (old new : Files) (path : PathContent) : Type 0 where
  pub every_path : Excludes old new path
  pub paths : paths_of new ≡ with_path path (paths_of old)
  pub follows : TakesOut old new path
  pub brings : BringsOut old new path

-- the batch was taken
pub record TakesBatch (old new : Files) : Type 0 where
  pub stable : KeepsNumbers old new
  pub follows : KeepsMarks old new
  pub gathers : Gathers new []
  pub brings : BringsTaken old new
