use Rattle.std.proofs.Common.{◌≡◌, ◌∙◌, ap, length}
use Rattle.std.proofs.iter.runs.Sources.{from_front}
use Rattle.std.specs.List.{IsDistinct}
use Rattle.std.specs.Map.Iter.{TakesFirst}
use Rattle.vfs_core.specs.Files.{existing_files, existing_files_from, numbered_path, paths_of}
use Rattle.vfs_core.specs.VfsPath.{vfs_path_eq}
use Rattle.vfs_core.proofs.LiveLemmas.{existing_live}
use Rattle.vfs_core.proofs.vfs.Vfs.iter.Goals as goal

pub returns-clause-runs : goal.returns-clause-runs
returns-clause-runs c =
    from_front (TakesFirst numbered_path) numbered_path (λ s. s) (λ s t h. ap length h.0) (λ s x t h. h)

pub returns-clause-live : goal.returns-clause-live
returns-clause-live c = λ marks follows.
    let rest : c.new.result ≡ existing_files c.args.self.now =
    c.new.ensures ∙ ap (existing_files_from 0) c.iter.ensures.rest ∙ ap existing_files c.self.view_is in
    let distinct : IsDistinct vfs_path_eq (paths_of c.args.self.now) =
    rw (← c.self.view_is) c.self.invariant.distinct in
    rw rest (existing_live c.args.self.now marks distinct follows)
