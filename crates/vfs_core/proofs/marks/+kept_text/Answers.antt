use Rattle.std.proofs.Common.{◌≡◌, true, false, sym, ◌∙◌}
use Rattle.vfs_core.specs.VfsPath.{vfs_path_eq}
use Rattle.vfs_core.proofs.MarkLemmas.{kept_text_split}
use Rattle.vfs_core.proofs.marks.+kept_text.Goals as goal

pub returns-then-eq : goal.returns-then-eq
returns-then-eq t c =
    let split = kept_text_split c.args.marks.now c.args.path.now c.mark-item.result
    c.in-len1-up.len_at_least c.mark-item.is in
    let own : vfs_path_eq c.args.path.now c.mark-item.result.path ≡ true = sym c.eq.ensures ∙ c.if-eq.true in
    rw (c.text_after_mark.ensures, c.kept_text-before.ensures, split, own)

pub returns-else-eq : goal.returns-else-eq
returns-else-eq t c =
    let split = kept_text_split c.args.marks.now c.args.path.now c.mark-item.result
    c.in-len1-up.len_at_least c.mark-item.is in
    let other : vfs_path_eq c.args.path.now c.mark-item.result.path ≡ false = sym c.eq.ensures ∙ c.if-eq.false in
    rw (c.kept_text-before.ensures, split, other)
