use Rattle.std.proofs.Common.{ap, sym, ◌∙◌, ◌&&◌, []}
use Rattle.std.proofs.lemmas.List.{at_drop_all}
use Rattle.std.specs.Map.Iter.{deref_pair}
use Rattle.vfs_core.specs.VfsPath.{vfs_path_eq}
use Rattle.std.specs.Prelude.{nat_eq}
use Rattle.vfs_sets.specs.FileSet.{FileSetContent, files_eq}
use Rattle.vfs_sets.specs.Rows.{entries_eq, rows_content}
use Rattle.vfs_sets.proofs.RowLemmas.{ended, other_file, other_path, same_row}
use Rattle.vfs_sets.proofs.file_maps.FileMaps.equal_rows.Goals as goal

pub loop-file-init : goal.loop-file-init
loop-file-init c =
    ap (λ (set : FileSetContent). files_eq set (rows_content c.args.rows.now)) (sym c.self.view_is)
    ∙ (λ i. files_eq (record { files = sym c.iter-files.ensures.rest i; paths = sym c.iter-paths.ensures.rest i }) (rows_content c.args.rows.now))

pub loop-file-preserved-whole : goal.loop-file-preserved-whole
loop-file-preserved-whole c = (
  (tt, tt),
  same_row _ (record { files = c.loop-file.files; paths = c.loop-file.paths }) c.args.rows.now c.loop-file.file-index
      c.loop-file-item.result c.loop-file-test.true c.loop-file-item.is c.loop-file.invariant _ _ _ _ c.is_next.ensures
      c.is_next-in-loop-file.ensures c.if-not-is_next.false c.if-not-is_next-2.false,
)

pub returns-then-not-is_next : goal.returns-then-not-is_next
returns-then-not-is_next c =
    other_file _ (record { files = c.loop-file.files; paths = c.loop-file.paths }) c.args.rows.now c.loop-file.file-index c.loop-file-item.result
    c.loop-file-test.true c.loop-file-item.is c.loop-file.invariant _ _ c.is_next.ensures c.if-not-is_next.true

pub returns-then-not-is_next-2 : goal.returns-then-not-is_next-2
returns-then-not-is_next-2 c =
    other_path _ (record { files = c.loop-file.files; paths = c.loop-file.paths }) c.args.rows.now c.loop-file.file-index c.loop-file-item.result
    c.loop-file-test.true c.loop-file-item.is c.loop-file.invariant _ _ c.is_next-in-loop-file.ensures c.if-not-is_next-2.true

pub returns-then-is_none : goal.returns-then-is_none
returns-then-is_none c =
    let left : FileSetContent = record { files = c.loop-file.files; paths = c.loop-file.paths } in
    let at_end = c.loop-file.invariant
    ∙ at_drop_all (λ rest. files_eq left (rows_content rest)) c.args.rows.now c.loop-file.file-index c.loop-file-test.false in
    let no_file = ended vfs_path_eq nat_eq deref_pair left.files _ c.next.result c.is_none.result c.next.ensures.steps c.is_none.ensures in
    let no_path = ended nat_eq vfs_path_eq deref_pair left.paths _ c.next-then-is_none.result c.is_none-then-is_none.result
    c.next-then-is_none.ensures.steps c.is_none-then-is_none.ensures in
    no_path ∙ ap (λ b. b && entries_eq nat_eq vfs_path_eq left.paths []) (sym c.if-is_none.true ∙ no_file) ∙ sym at_end

pub returns-else-is_none : goal.returns-else-is_none
returns-else-is_none c =
    let left : FileSetContent = record { files = c.loop-file.files; paths = c.loop-file.paths } in
    let at_end = c.loop-file.invariant
    ∙ at_drop_all (λ rest. files_eq left (rows_content rest)) c.args.rows.now c.loop-file.file-index c.loop-file-test.false in
    let no_file = ended vfs_path_eq nat_eq deref_pair left.files _ c.next.result c.is_none.result c.next.ensures.steps c.is_none.ensures in
    c.if-is_none.false ∙ ap (λ b. b && entries_eq nat_eq vfs_path_eq left.paths []) (sym c.if-is_none.false ∙ no_file) ∙ sym at_end
