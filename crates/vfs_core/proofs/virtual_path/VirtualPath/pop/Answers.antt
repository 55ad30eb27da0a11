use Rattle.std.proofs.Common.{◌≡◌, ◌∙◌, ◌∷◌, ap, length, string_bytes, take, refl, Some, None}
use Rattle.std.proofs.Math.Seq.{take-append_seam}
use Rattle.vfs_core.specs.VirtualPath.{virtual_parent}
use Rattle.vfs_core.proofs.PartLemmas.{virtual_parent_at_cut, virtual_parent_lacking}
use Rattle.vfs_core.proofs.virtual_path.VirtualPath.pop.Goals as goal

pub returns-in-Some-clause-path : goal.returns-in-Some-clause-path
returns-in-Some-clause-path c =
    let cut = rw c.as_str.ensures.value at c.in-Some.ensures in
    let above : virtual_parent (string_bytes c.self.inside.text) ≡ Some c.in-Some.above.now = virtual_parent_at_cut _ _ _ cut in
    let left : string_bytes c.truncate.new.self ≡ c.in-Some.above.now =
    c.truncate.ensures.bytes ∙ ap (take (length c.in-Some.above.now)) cut.parts
    ∙ take-append_seam c.in-Some.above.now (47 ∷ c.in-Some.field-0-1.now) in
    rw (← c.self.view_is, above) left

pub returns-in-Some-clause-cut : goal.returns-in-Some-clause-cut
returns-in-Some-clause-cut c =
    let cut = rw c.as_str.ensures.value at c.in-Some.ensures in
    let above : virtual_parent (string_bytes c.self.inside.text) ≡ Some c.in-Some.above.now = virtual_parent_at_cut _ _ _ cut in
    rw (← c.self.view_is, above) refl

pub returns-in-None-clause-path : goal.returns-in-None-clause-path
returns-in-None-clause-path c =
    let none : virtual_parent (string_bytes c.self.inside.text) ≡ None =
    virtual_parent_lacking _ (rw c.as_str.ensures.value at c.in-None.ensures) in
    rw (← c.self.view_is, none) refl

pub returns-in-None-clause-cut : goal.returns-in-None-clause-cut
returns-in-None-clause-cut c =
    let none : virtual_parent (string_bytes c.self.inside.text) ≡ None =
    virtual_parent_lacking _ (rw c.as_str.ensures.value at c.in-None.ensures) in
    rw (← c.self.view_is, none) refl
