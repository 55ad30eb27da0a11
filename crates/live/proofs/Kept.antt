-- What a session keeps of the files of its last flush.
use Rattle.std.proofs.Common.{◌≡◌, Bool, true, false, List, [], ◌∷◌, ◌++◌, Option, Some, None, refl, sym, ap, subst, ◌∙◌, arith, length-append, if◌then◌else◌}
use Rattle.std.specs.List.{list_any}
use Rattle.std.proofs.lemmas.List.{append-nil}
use Rattle.vfs_core.specs.declared.marks.Mark.{Mark}
use Rattle.vfs_core.specs.Files.{Files, Follows, paths_of}
use Rattle.vfs_core.specs.Marks.{mentioned_paths}
use Rattle.vfs_core.specs.VfsPath.{PathContent, vfs_path_eq}
use Rattle.live.specs.declared.last_flush.LastFlush.{LastFlush}
use Rattle.live.specs.Page.{Flushed}
use Rattle.live.specs.Turn.{KeepsFlush}
use Rattle.live_project.proofs.TextRows.{kept_more}

-- the paths of the marks with one more are those before, and maybe that of the mark
rest-split : (path : PathContent) (places : List PathContent) (is_known : Bool) → (more : List PathContent) × ((if is_known then places else places ++ path ∷ []) ≡ places ++ more)
rest-split path places true = ([], sym (append-nil places))
rest-split path places false = (path ∷ [], refl)

paths-more : (old new : Files) (mark : Mark) (marks : List Mark) → Follows old marks → Follows new (mark ∷ marks) → (more : List PathContent) × (paths_of new ≡ paths_of old ++ more)
paths-more old new mark marks before after =
    let rest = rest-split mark.path (mentioned_paths marks) (list_any (vfs_path_eq mark.path) (mentioned_paths marks)) in
    (rest.0, after.numbers ∙ rest.1 ∙ ap (λ places. places ++ rest.0) (sym before.numbers))

-- more paths leave what is kept of the last flush
flush-more : (paths more : List PathContent) (last : Option LastFlush) (flushed : Option Flushed) → KeepsFlush paths last flushed → KeepsFlush (paths ++ more) last flushed
flush-more paths more None None keeps = tt
flush-more paths more None (Some done) keeps = keeps
flush-more paths more (Some last) None keeps = keeps
flush-more paths more (Some last) (Some done) keeps =
    let long = length-append paths more in record {
      within = omega (arith, keeps.within, long);
      files = kept_more 0 paths more last.texts keeps.within ∙ keeps.files;
      project = keeps.project;
    }

-- and so does a mark
pub flush_mark : (old new : Files) (mark : Mark) (marks : List Mark) (last : Option LastFlush) (flushed : Option Flushed) → Follows old marks → Follows new (mark ∷ marks)
    → KeepsFlush (paths_of old) last flushed → KeepsFlush (paths_of new) last flushed
flush_mark old new mark marks last flushed before after keeps =
    let more = paths-more old new mark marks before after in
    subst (λ paths. KeepsFlush paths last flushed) (sym more.1) (flush-more (paths_of old) more.0 last flushed keeps)
