-- What the calls of the file system do, from what they make of the paths, the states and the batch.
use Rattle.std.proofs.Common.{◌≡◌, ℕ, List, [], Option, ◌∙◌, ap, position, slice_get}
use Rattle.std.specs.Map.{keys_of, lookup}
use Rattle.std.specs.Option.{unwrap_or}
use Rattle.vfs_core.specs.declared.file_state.FileState.{FileState}
use Rattle.vfs_core.specs.declared.file_state.FileState.TheVariants.{Deleted}
use Rattle.vfs_core.specs.Batch.{with_changed_file}
use Rattle.vfs_core.specs.Calls.{LeavesOut, SetsContents, TakesBatch}
use Rattle.vfs_core.specs.Files.{Excludes, Files, SetsState, call_made, paths_of}
use Rattle.vfs_core.specs.Marks.{with_path}
use Rattle.vfs_core.specs.VfsPath.{PathContent, vfs_path_eq}
use Rattle.vfs_core.proofs.BatchLemmas.{IsBatch_called, batch_of_none}
use Rattle.vfs_core.proofs.FileLemmas.{Follows_mark, Follows_out}
use Rattle.vfs_core.proofs.TextLemmas.{BringsTo_mark, BringsTo_out, BringsTo_taken}
use Rattle.vfs_core.proofs.PassLemmas.{KeepsPassing_call}

-- contents came for a path
pub SetsContents_from : (old new : Files) (path : PathContent) (contents : Option (List ℕ))
    → paths_of new ≡ with_path path (paths_of old) → SetsState old new path contents
    → new.batch ≡ with_changed_file (call_made old path contents) old.batch → SetsContents old new path contents
SetsContents_from old new path contents paths states batch = record {
  every_path = states;
  paths = paths;
  follows = λ marks before. Follows_mark old new path contents marks paths states before;
  gathers = λ calls before. IsBatch_called old.batch new.batch (call_made old path contents) batch calls before;
  brings = λ known marks follows before. BringsTo_mark old new path contents paths batch known marks follows before;
  passing = KeepsPassing_call old new path contents batch;
}

-- a path was left out
pub LeavesOut_from : (old new : Files) (path : PathContent)
    → paths_of new ≡ with_path path (paths_of old) → Excludes old new path → new.batch ≡ old.batch → LeavesOut old new path
LeavesOut_from old new path paths states batch = record {
  every_path = states;
  paths = paths;
  follows = λ marks before. Follows_out old new path marks paths states before;
  brings = λ known marks before. BringsTo_out old new path paths batch known marks before;
}

-- the batch was taken, and the paths and their states stay
pub TakesBatch_from : (old new : Files) → new.entries ≡ old.entries → new.batch ≡ [] → TakesBatch old new
TakesBatch_from old new entries batch = record {
  stable = record {
    numbers = λ path number h. ap (λ (es : List (PathContent × FileState)). position (vfs_path_eq path) (keys_of es)) entries ∙ h;
    paths = λ path number h. ap (λ (es : List (PathContent × FileState)). slice_get (keys_of es) number) entries ∙ h;
  };
  follows = λ marks before. record {
    numbers = ap keys_of entries ∙ before.numbers;
    states = λ path. ap (λ (es : List (PathContent × FileState)). unwrap_or (lookup (vfs_path_eq path) es) Deleted) entries
        ∙ before.states path;
  };
  gathers = rw batch batch_of_none;
  brings = λ known marks before. BringsTo_taken old new (ap keys_of entries) batch known marks before;
}
