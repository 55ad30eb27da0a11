use Rattle.base_text_paths.proofs.Cuts.{short_at_cut, none_at_cut}
use Rattle.base_text_paths.proofs.paths.clean.pop_component.Goals as goal

pub returns-in-Some : goal.returns-in-Some
returns-in-Some c =
    let cut = rw c.as_str.ensures.value at c.in-Some.ensures in
    short_at_cut _ _ _ _ c.requires cut c.truncate.ensures.bytes

pub returns-in_default : goal.returns-in_default
returns-in_default c =
    let lacks = rw c.as_str.ensures.value at c.in_default.ensures in
    none_at_cut _ c.requires lacks
