use Rattle.std.proofs.Common.{◌∙◌, ◌++◌, ap, append_assoc, codes}
use Rattle.std.proofs.lemmas.Result.{on_ok_weaker}
use Rattle.base_text_outside.specs.CommandWords.{flag_word}
use Rattle.pm_tools.specs.Words.{selected_words}
use Rattle.pm_tools.proofs.features.push_features.Goals as goal

-- the flag stands before the features
pub returns-in_ok-push_flag-in-Selected : goal.returns-in_ok-push_flag-in-Selected
returns-in_ok-push_flag-in-Selected c =
    let words = c.args.words.now.items in
    let flag = flag_word c.in-Selected.no_default_features (codes "--no-default-features") in
    let selected = selected_words c.args.workspace.now in
    on_ok_weaker c.push_selected.result
    (λ pushed. rw c.in-Selected.is (pushed ∙ ap (λ l. l ++ selected c.as_slice.result.now) c.in_ok-push_flag-in-Selected.ensures.ok
    ∙ append_assoc words flag (selected c.as_slice.result.now) ∙ ap (λ f. words ++ (flag ++ selected f)) c.as_slice.ensures))
    c.push_selected.ensures
