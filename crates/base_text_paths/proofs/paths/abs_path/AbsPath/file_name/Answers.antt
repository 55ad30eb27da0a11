use Rattle.std.proofs.Common.{◌≡◌, ◌<◌, length, arith, ◌∙◌, sym}
use Rattle.std.proofs.lemmas.Bool.{both_ways}
use Rattle.base_text_paths.proofs.Parents.{clean_has_slash, file_name-last, file_name-root, file_name-up, name_at_cut, root_at_cut}
use Rattle.base_text_paths.proofs.paths.abs_path.AbsPath.file_name.Goals as goal
use Rattle.base_text_paths.proofs.paths.abs_path.AbsPath.file_name.Goals.{then-is_empty, else-is_empty}

pub returns-in_err-name : goal.returns-in_err-name
returns-in_err-name c = absurd (clean_has_slash _ c.as_str.ensures.clean c.in_err-name.ensures)

pub returns-then-eq : goal.returns-then-eq
returns-then-eq c =
    let clean = rw c.as_str.ensures.text at c.as_str.ensures.clean in
    let cut = rw c.as_str.ensures.text at c.in_ok-name.ensures in
    elim c.if-is_empty.branch [
      | then-is_empty w ↦
          let none : length c.in_ok-name.name.now ≡ 0 = grind (arith, w.if-is_empty.ensures) in
          sym (file_name-root _ (root_at_cut _ _ _ clean cut none))
      | else-is_empty w ↦
          let some : 0 < length c.in_ok-name.name.now = grind (arith, w.if-is_empty.ensures) in
          sym (file_name-up _ _ (name_at_cut _ _ _ clean cut some).back_is (sym w.eq.ensures ∙ sym w.value-is ∙ c.if-eq.true))
    ]

pub returns-else-eq : goal.returns-else-eq
returns-else-eq c =
    let clean = rw c.as_str.ensures.text at c.as_str.ensures.clean in
    let cut = rw c.as_str.ensures.text at c.in_ok-name.ensures in
    elim c.if-is_empty.branch [
      | then-is_empty w ↦ absurd (both_ways _ c.if-eq.false (w.value-is ∙ w.if-is_empty.true))
      | else-is_empty w ↦
          let some : 0 < length c.in_ok-name.name.now = grind (arith, w.if-is_empty.ensures) in
          sym (file_name-last _ _ (name_at_cut _ _ _ clean cut some).back_is (sym w.eq.ensures ∙ sym w.value-is ∙ c.if-eq.false))
    ]
