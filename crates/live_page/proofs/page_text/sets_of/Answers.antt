use Rattle.std.proofs.Common.{◌∙◌, ap, is_some, sym}
use Rattle.input_db_files.specs.Files.{source_root_at}
use Rattle.live_page.proofs.Shown.{root_more, root_none}
use Rattle.live_page.proofs.page_text.sets_of.Goals as goal

pub loop-id-preserved-in_ok-push : goal.loop-id-preserved-in_ok-push
loop-id-preserved-in_ok-push c =
    root_more c.args.db.now c.loop-id.yielded c.in-Some.id c.source_root.result.now c.loop-id.sets.items _ _
    c.source_root.ensures c.in_ok-set_of.ensures c.loop-id.invariant c.in_ok-push.ensures.items

pub loop-id-preserved : goal.loop-id-preserved
loop-id-preserved c =
    root_none c.args.db.now c.loop-id.yielded c.in-Some.id c.loop-id.sets.items
    (ap (λ f. is_some (source_root_at f c.in-Some.id)) (sym c.files.ensures) ∙ sym c.has_root.ensures ∙ c.if-has_root.false) c.loop-id.invariant
