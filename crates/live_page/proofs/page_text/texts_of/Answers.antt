use Rattle.std.proofs.Common.{◌∙◌}
use Rattle.live_page.proofs.Shown.{path_more, path_none}
use Rattle.live_page.proofs.page_text.texts_of.Goals as goal

pub loop-file-preserved-in_ok-push : goal.loop-file-preserved-in_ok-push
loop-file-preserved-in_ok-push c =
    path_more c.args.root.now c.loop-file.yielded c.in-Some.file c.in-Some-path_for_file.path.now c.loop-file.texts.items _ _
    c.in-Some-path_for_file.ensures (c.in_ok-of_str.ensures ∙ c.as_str.ensures.text) c.loop-file.invariant c.in_ok-push.ensures.items

pub loop-file-preserved : goal.loop-file-preserved
loop-file-preserved c = path_none c.args.root.now c.loop-file.yielded c.in-Some.file c.loop-file.texts.items c.in_default.ensures c.loop-file.invariant
