-- One more crate, which has an entry or none.
use Rattle.std.proofs.Common.{◌∙◌, ap, sym}
use Rattle.live_page.specs.Entries.{entry_in, path_in}
use Rattle.live_page.proofs.Shown.{taken_none, taken_some}
use Rattle.live_page.proofs.entries.listed_entries.Goals as goal
use Rattle.live_page.proofs.entries.listed_entries.Goals.{in-Some+in_ok-push, in_default}

pub loop-krate-preserved : goal.loop-krate-preserved
loop-krate-preserved c =
    let entry = entry_in (path_in c.args.db.now.files) c.args.db.now.crates in
    let krates = c.all_crates_list-krate-items.result.now in
    let place = c.loop-krate.krate-index in
    elim c.match-branch-2.branch [
      | in-Some+in_ok-push w ↦
          ap (λ v. v.items) w.entries-is
          ∙ taken_some entry krates place c.krate-item.result c.loop-krate-test.true c.krate-item.is w.in-Some.entry
          c.loop-krate.entries.items w.push.new.self.items (sym c.in_ok-entry.ensures ∙ w.in-Some.is) c.loop-krate.invariant
          w.in_ok-push.ensures.items
      | in_default w ↦
          ap (λ v. v.items) w.entries-is
          ∙ taken_none entry krates place c.krate-item.result c.loop-krate-test.true c.krate-item.is
          c.loop-krate.entries.items (sym c.in_ok-entry.ensures ∙ w.in_default.is) c.loop-krate.invariant
    ]
