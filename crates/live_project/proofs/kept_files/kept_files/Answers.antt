use Rattle.std.proofs.Common.{◌≡◌, ◌++◌, ◌∷◌, ◌∙◌, [], ℕ, List, ap, map, sym}
use Rattle.std.proofs.lemmas.List.{map-append}
use Rattle.vfs_core.specs.Files.{numbered_path}
use Rattle.vfs_core.specs.VfsPath.{PathContent}
use Rattle.vfs_sets.proofs.CountLemmas.{shown_more}
use Rattle.live_project.specs.LiveTexts.{kept_by, row_text, with_row}
use Rattle.live_project.proofs.KeptTree.{kept_by-more}
use Rattle.live_project.proofs.kept_files.kept_files.Goals as goal

pub loop-id-preserved : goal.loop-id-preserved
loop-id-preserved c =
    let files = map numbered_path c.loop-id.yielded in
    let file : ℕ × PathContent = (c.in-Some.id, c.in-Some.path.now) in
    let all : map numbered_path (c.loop-id.yielded ++ (c.in-Some.id, c.in-Some.path) ∷ []) ≡ files ++ file ∷ [] =
    map-append numbered_path c.loop-id.yielded ((c.in-Some.id, c.in-Some.path) ∷ []) in (
      c.in_ok-keep_file.ensures ∙ ap (with_row c.loop-id.tree c.in-Some.path.now) c.text.ensures
          ∙ ap (λ kept. with_row kept c.in-Some.path.now (row_text c.args.texts.now c.in-Some.id)) c.loop-id.invariant.0
          ∙ sym (ap (kept_by c.args.texts.now) all ∙ kept_by-more c.args.texts.now files file),
      ap (λ (shown : List (ℕ × PathContent)). shown ++ c.next.new.self) all
          ∙ shown_more files c.loop-id.id-iterator _ file c.next.new.self c.loop-id.invariant.1 c.in-Some.ensures.steps,
    )
