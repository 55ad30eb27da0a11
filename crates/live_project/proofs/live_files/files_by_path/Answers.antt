use Rattle.std.proofs.Common.{◌≡◌, ◌++◌, ◌∷◌, ◌∙◌, [], ℕ, List, ap, map, sym}
use Rattle.std.proofs.lemmas.List.{map-append}
use Rattle.vfs_core.specs.Files.{numbered_path}
use Rattle.vfs_core.specs.VfsPath.{PathContent}
use Rattle.vfs_sets.proofs.CountLemmas.{shown_more}
use Rattle.live_project.specs.Crates.{files_by_path, with_live_file}
use Rattle.live_project.proofs.LiveFileLemmas.{files_by_path-more}
use Rattle.live_project.proofs.live_files.files_by_path.Goals as goal

pub loop-id-preserved : goal.loop-id-preserved
loop-id-preserved c =
    let files = map numbered_path c.loop-id.yielded in
    let file : ℕ × PathContent = (c.in-Some.id, c.in-Some.path.now) in
    let all : map numbered_path (c.loop-id.yielded ++ (c.in-Some.id, c.in-Some.path) ∷ []) ≡ files ++ file ∷ [] =
    map-append numbered_path c.loop-id.yielded ((c.in-Some.id, c.in-Some.path) ∷ []) in (
      c.in_ok-put_file.ensures ∙ ap (λ l. with_live_file l file) c.loop-id.invariant.0 ∙ sym (ap files_by_path all ∙ files_by_path-more files file),
      ap (λ (shown : List (ℕ × PathContent)). shown ++ c.next.new.self) all
          ∙ shown_more files c.loop-id.id-iterator _ file c.next.new.self c.loop-id.invariant.1 c.in-Some.ensures.steps,
    )
