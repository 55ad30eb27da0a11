use Rattle.std.proofs.Common.{ap, ◌∙◌}
use Rattle.input_db.specs.declared.change.FileChange.{FileChange}
use Rattle.live_page.proofs.Both.{gives_roots}
use Rattle.live_page.proofs.Taken.{none_fits}
use Rattle.live_page.proofs.changes.give_roots.Goals as goal

pub apply-requires-clause-fits : goal.apply-requires-clause-fits
apply-requires-clause-fits c =
    none_fits c.args.db.now.files c.set_roots.new.self
    (ap (λ (d : FileChange). d.files_changed) c.set_roots.ensures ∙ c.new-change.ensures.files_changed)

pub returns : goal.returns
returns c =
    gives_roots _ c.set_roots.new.self c.args.db.now c.apply.new.db _ c.args.roots.items
    (ap (λ (d : FileChange). d.roots) c.set_roots.ensures)
    (ap (λ (d : FileChange). d.files_changed) c.set_roots.ensures ∙ c.new-change.ensures.files_changed)
    (ap (λ (d : FileChange). d.crate_graph) c.set_roots.ensures ∙ c.new-change.ensures.crate_graph)
    c.in_ok-apply.ensures.ok c.in_ok-apply.ensures.steps
