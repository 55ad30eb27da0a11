use Rattle.std.proofs.Common.{◌≡◌, ap, inl, inr}
use Rattle.std.specs.Result.{is_ok}
use Rattle.live_project.proofs.SharedRows.{AddsMark-shared, exclude_adds, on_ok_both}
use Rattle.live_project.proofs.live_texts.exclude_shared.Goals as goal

pub returns-clause-ok : goal.returns-clause-ok
returns-clause-ok c =
    let same : c.in_ok-rows.rows.now ≡ c.args.rows.now.value = elim c.in_ok-rows.ensures.value [ inl e ↦ e | inr e ↦ e ] in
    let held : (c.make_mut.follows.lender c.exclude.new.self).value ≡ c.exclude.new.self = c.make_mut.follows.holds c.exclude.new.self (ap is_ok c.in_ok-rows.was) in
    on_ok_both c.exclude.result c.exclude.ensures.rows c.exclude.ensures.files (λ rows files.
    AddsMark-shared _ _ _ _ _ _ _ same held (exclude_adds _ _ _ _ _ rows files))
