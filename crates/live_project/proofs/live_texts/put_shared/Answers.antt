use Rattle.std.proofs.Common.{◌≡◌, ap, inl, inr}
use Rattle.std.specs.Result.{is_ok}
use Rattle.live_project.proofs.SharedRows.{AddsMark-shared, on_ok_both, put_adds}
use Rattle.live_project.proofs.live_texts.put_shared.Goals as goal

pub returns-clause-ok : goal.returns-clause-ok
returns-clause-ok c =
    let same : c.in_ok-rows.rows.now ≡ c.args.rows.now.value = elim c.in_ok-rows.ensures.value [ inl e ↦ e | inr e ↦ e ] in
    let held : (c.make_mut.follows.lender c.put.new.self).value ≡ c.put.new.self = c.make_mut.follows.holds c.put.new.self (ap is_ok c.in_ok-rows.was) in
    on_ok_both c.put.result c.put.ensures.rows c.put.ensures.files (λ rows files.
    AddsMark-shared _ _ _ _ _ _ _ same held
    (put_adds _ _ _ _ _ _ _ _ c.contents_of.ensures.same c.in_ok-shared.ensures rows files c.contents_of.ensures.valid))
