use Rattle.std.proofs.Common.{◌≡◌, ◌<◌, length, arith, sym, Some}
use Rattle.base_text_paths.specs.FileName.{extension_of, stem_of}
use Rattle.base_text_paths.proofs.Dots.{extension_at_cut, stem_at_cut}
use Rattle.vfs_core.proofs.PartLemmas.{named_first_dot, named_no_dot}
use Rattle.vfs_core.proofs.virtual_parts.stem_and_extension.Goals as goal
use Rattle.vfs_core.proofs.virtual_parts.stem_and_extension.Goals.{in_default-via-in-Some+else-not-is_empty, in_default-via-in_default}

pub returns-in-Some : goal.returns-in-Some
returns-in-Some c =
    let some : 0 < length c.in-Some.stem.now = grind (arith, c.if-not-is_empty.ensures) in
    let stem : c.in-Some.stem.now ≡ stem_of c.args.name.now = sym (stem_at_cut _ _ _ c.in-Some.ensures some) in
    let extension : Some c.in-Some.extension.now ≡ extension_of c.args.name.now =
    sym (extension_at_cut _ _ _ c.in-Some.ensures some) in
    λ i. (stem i, extension i)

pub returns-in_default : goal.returns-in_default
returns-in_default c =
    elim c.in_default.branch [
      | in_default-via-in-Some+else-not-is_empty w ↦
          let none : length w.in-Some.stem.now ≡ 0 = grind (arith, w.is_empty.ensures) in
          let whole = named_first_dot c.args.name.now w.in-Some.stem.now w.in-Some.extension.now w.in-Some.ensures none in
          λ i. (sym whole.0 i, sym whole.1 i)
      | in_default-via-in_default w ↦
          let whole = named_no_dot c.args.name.now (rw w.in_default.is at c.split_last.ensures) in
          λ i. (sym whole.0 i, sym whole.1 i)
    ]
