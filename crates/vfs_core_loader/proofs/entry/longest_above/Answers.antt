use Rattle.std.proofs.Common.{◌≡◌, ◌∙◌, ◌+◌, ◌++◌, [], ◌∷◌, true, ap, subst, sym, take, true≢false}
use Rattle.std.proofs.lemmas.List.{take_more}
use Rattle.base_text_paths.specs.AbsPath.{abs_text}
use Rattle.base_text_paths.specs.Paths.{components, is_prefix}
use Rattle.vfs_core_loader.specs.Entries.{longer}
use Rattle.vfs_core_loader.proofs.PrefixLemmas.{IsLongestSoFar, longest_above-next, longest_above-other}
use Rattle.vfs_core_loader.proofs.entry.longest_above.Goals as goal
use Rattle.vfs_core_loader.proofs.entry.longest_above.Goals.{then-starts_with, else-starts_with}

pub loop-directory-preserved : goal.loop-directory-preserved
loop-directory-preserved c =
    let front = take c.loop-directory.directory-index c.args.directories.now in
    let path = abs_text c.args.path in
    let next = c.directory-item.result in
    let more = take_more c.args.directories.now c.loop-directory.directory-index next c.loop-directory-test.true ∙ ap (λ x. front ++ x ∷ []) (sym c.directory-item.is) in
    let tested : c.starts_with.result ≡ is_prefix (components next) (components path) =
    c.starts_with.ensures ∙ ap (λ text. is_prefix (components text) (components path)) c.as_path-directory.ensures in
    subst (λ directories. IsLongestSoFar directories path c.if-starts_with.longest) (sym more)
    (elim c.if-starts_with.branch [
      | then-starts_with w ↦ subst (IsLongestSoFar (front ++ next ∷ []) path) (sym w.longest-is)
          (longest_above-next front path next c.loop-directory.longest w.longer.result c.loop-directory.invariant (sym tested ∙ w.if-starts_with.true) (w.longer.ensures ∙ ap (longer _) c.as_path-directory.ensures))
      | else-starts_with w ↦ subst (IsLongestSoFar (front ++ next ∷ []) path) (sym w.longest-is)
          (longest_above-other front path next c.loop-directory.longest c.loop-directory.invariant (λ h. true≢false (sym h ∙ sym tested ∙ w.if-starts_with.false)))
    ])
