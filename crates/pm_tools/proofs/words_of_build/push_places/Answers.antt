use Rattle.std.proofs.Common.{◌≡◌, ◌∙◌, [], ◌∷◌, ◌++◌, ap, append_assoc, codes, Some}
use Rattle.std.proofs.lemmas.Result.{on_ok_weaker}
use Rattle.cargo_meta.proofs.Joins.{pushed-both}
use Rattle.base_text_outside.specs.CommandWords.{option_words}
use Rattle.pm_cargo_config.specs.TargetDir.{target_dir}
use Rattle.pm_tools.proofs.words_of_build.push_places.Goals as goal

-- the configuration file, the manifest and the directory, one after another
pub returns : goal.returns
returns c =
    let config = c.args.config.now in let w = c.args.workspace.now in let words = c.args.words.now.items in
    let one = c.push_path.new.words.items in let two = c.push_word.new.words.items in let three = c.push_word-2.new.words.items in
    let file = option_words (codes "--config") config.config_path in
    let manifest = codes "--manifest-path" ∷ w.manifest_path ∷ [] in
    let dir = target_dir config.target_dir_config (Some w.target_directory) in
    let after = option_words (codes "--target-dir") dir in
    let both : three ≡ one ++ manifest
    = pushed-both one two three (codes "--manifest-path") w.manifest_path c.as_str.result.now c.in_ok-push_word.ensures.ok
    (c.as_str.ensures.text ∙ c.as_path.ensures ∙ c.manifest_path.ensures) c.in_ok-push_word-2.ensures.ok in
    let written : c.in_ok-directory.directory ≡ dir
    = c.in_ok-directory.ensures
    ∙ ap (λ d. target_dir config.target_dir_config (Some d)) (c.as_str-2.ensures.text ∙ c.target_directory.ensures) in
    on_ok_weaker c.push_option.result
    (λ pushed. pushed ∙ ap (λ d. three ++ option_words (codes "--target-dir") d) written ∙ ap (λ l. l ++ after) both
    ∙ ap (λ l. (l ++ manifest) ++ after) c.in_ok-push_path.ensures ∙ ap (λ l. l ++ after) (append_assoc words file manifest)
    ∙ append_assoc words (file ++ manifest) after)
    c.push_option.ensures
