use Rattle.std.proofs.Common.{◌∙◌, codes, filter, rules}
use Rattle.std.proofs.lemmas.Result.{on_ok_weaker}
use Rattle.cargo_meta.proofs.Joins.{pushed-both}
use Rattle.cargo_meta.specs.Command.{joined_text}
use Rattle.pm_cargo.specs.Queries.{is_feature}
use Rattle.pm_tools.proofs.FeatureLemmas.{selected_words-some}
use Rattle.pm_tools.proofs.features.push_selected.Goals as goal

-- the word and the names follow the others
pub returns : goal.returns
returns c =
    let features = c.args.features.now in let w = c.args.workspace.now in
    let some = selected_words-some w features (search rules) in
    on_ok_weaker c.push_word-2.result
    (λ pushed. rw some (pushed-both c.args.words.now.items c.push_word.new.words.items c.push_word-2.new.words.items
    (codes "--features") (joined_text (codes ",") (filter (is_feature w) features)) c.as_str.result.now
    c.in_ok-push_word.ensures.ok (c.as_str.ensures.value ∙ c.in_ok-names.ensures) pushed)) c.push_word-2.ensures.ok
