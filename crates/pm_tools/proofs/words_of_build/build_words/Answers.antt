use Rattle.std.proofs.Common.{◌≡◌, ◌∙◌, [], ◌∷◌, ◌++◌, ap, codes, option_copied}
use Rattle.base_text_outside.specs.CommandWords.{flag_word}
use Rattle.base_text_paths.specs.ManifestPath.{is_rust_manifest}
use Rattle.pm_tools.specs.Words.{build_words, coverage_words, build_feature_words, is_unstable, place_words, platform_words}
use Rattle.pm_tools.proofs.words_of_build.build_words.Goals as goal

-- the parts, one after another
pub returns : goal.returns
unfolding build_words
returns c =
    let config = c.args.config.now in let w = c.args.workspace.now in let version = option_copied c.args.version in
    let zero = c.in_ok-words.words.items in let four = c.push_features.new.words.items in let seven = c.push_coverage.new.words.items in
    let script = flag_word (is_rust_manifest w.manifest_path) (codes "-Zscript") in
    let unstable = flag_word (is_unstable w.manifest_path version) (codes "-Zunstable-options") in
    let extra : c.push_words.new.words.items ≡ zero ++ config.extra_args
    = c.in_ok-push_words.ensures.ok ∙ ap (λ l. zero ++ l) c.as_slice.ensures in
    let scripted : c.push_flag.new.words.items ≡ four ++ script
    = c.in_ok-push_flag.ensures.ok
    ∙ ap (λ b. four ++ flag_word b (codes "-Zscript")) (c.is_rust_manifest.ensures ∙ ap is_rust_manifest c.manifest_path-manifest.ensures) in
    let allowed : c.push_flag-2.new.words.items ≡ seven ++ unstable
    = c.in_ok-push_flag-2.ensures.ok
    ∙ ap (λ b. seven ++ flag_word b (codes "-Zunstable-options"))
    (c.is_unstable-is_unstable.ensures ∙ ap (λ m. is_unstable m version) c.manifest_path-manifest.ensures) in
    let first = extra ∙ ap (λ l. l ++ config.extra_args) c.in_ok-words.ensures in
    let places = c.in_ok-push_places.ensures ∙ ap (λ l. l ++ place_words config w) first in
    let platform = c.in_ok-push_platform.ensures ∙ ap (λ l. l ++ platform_words version config.target) places in
    let features = c.in_ok-push_features.ensures ∙ ap (λ l. l ++ build_feature_words w config.features) platform in
    let with_script = scripted ∙ ap (λ l. l ++ script) features in
    let going = c.in_ok-push_word.ensures.ok ∙ ap (λ l. l ++ codes "--keep-going" ∷ []) with_script in
    let coverage = c.in_ok-push_coverage.ensures ∙ ap (λ l. l ++ coverage_words config.all_targets version) going in
    allowed ∙ ap (λ l. l ++ unstable) coverage
