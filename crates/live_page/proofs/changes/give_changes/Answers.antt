use Rattle.live_page.proofs.Taken.{taken_fits}
use Rattle.live_page.proofs.Both.{gives_changes}
use Rattle.live_page.proofs.changes.give_changes.Goals as goal

pub apply-requires-clause-fits : goal.apply-requires-clause-fits
apply-requires-clause-fits c =
    taken_fits c.args.db.now.files c.in_ok-change.change _ c.in_ok-change.ensures.roots c.in_ok-change.ensures.taken

pub returns-clause-ok : goal.returns-clause-ok
returns-clause-ok c =
    gives_changes _ c.in_ok-change.change c.args.db.now c.apply.new.db _ c.args.changes.entries
    c.in_ok-change.ensures.roots c.in_ok-change.ensures.taken c.in_ok-change.ensures.crates
    c.in_ok-apply.ensures.ok c.in_ok-apply.ensures.steps
