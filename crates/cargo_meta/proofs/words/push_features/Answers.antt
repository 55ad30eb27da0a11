use Rattle.std.proofs.Common.{◌∙◌, codes, rules}
use Rattle.std.proofs.lemmas.Result.{on_ok_weaker}
use Rattle.cargo_meta.specs.Command.{joined_text}
use Rattle.cargo_meta.proofs.Joins.{feature_words-some, pushed-both}
use Rattle.cargo_meta.proofs.words.push_features.Goals as goal

-- the word and the names follow the others
pub returns : goal.returns
returns c =
    let features = c.args.features.now in
    let some = feature_words-some features (search rules) in
    on_ok_weaker c.push_word-2.result
    (λ pushed. rw some (pushed-both c.args.words.now.items c.push_word.new.words.items c.push_word-2.new.words.items
    (codes "--features") (joined_text (codes ",") features) c.as_str.result.now
    c.in_ok-push_word.ensures.ok (c.as_str.ensures.value ∙ c.in_ok-names.ensures) pushed)) c.push_word-2.ensures.ok
