use Rattle.std.proofs.Common.{◌≡◌, ◌<◌, length, arith}
use Rattle.base_text_paths.proofs.Parents.{clean_has_slash, parent_at_cut, parent_at_root, root_at_cut}
use Rattle.base_text_paths.proofs.paths.clean.parent_len.Goals as goal

pub returns-in_err-front : goal.returns-in_err-front
returns-in_err-front c = absurd (clean_has_slash _ c.requires c.in_err-front.ensures)

pub returns-then-is_empty : goal.returns-then-is_empty
returns-then-is_empty c =
    let none : length c.in_ok-front.name.now ≡ 0 = grind arith in
    root_at_cut _ _ _ c.requires c.in_ok-front.ensures none

pub returns-then-is_empty-2 : goal.returns-then-is_empty-2
returns-then-is_empty-2 c =
    let some : 0 < length c.in_ok-front.name.now = grind arith in
    let none : length c.in_ok-front.front.now ≡ 0 = grind arith in
    parent_at_root _ _ _ c.utf8.path c.requires c.in_ok-front.ensures some none

pub returns-else-is_empty-2 : goal.returns-else-is_empty-2
returns-else-is_empty-2 c =
    let some : 0 < length c.in_ok-front.name.now = grind arith in
    let more : 0 < length c.in_ok-front.front.now = grind arith in
    parent_at_cut _ _ _ c.requires c.in_ok-front.ensures some more
