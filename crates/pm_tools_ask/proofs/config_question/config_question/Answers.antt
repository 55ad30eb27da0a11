use Rattle.std.proofs.Common.{◌≡◌, ◌∙◌, List, ℕ, Option, ap, codes, subst}
use Rattle.std.specs.Option.{option_map, unwrap_or}
use Rattle.std.specs.Result.{IfOk}
use Rattle.base_text_paths.specs.AbsPath.{abs_text}
use Rattle.base_text_outside.specs.declared.command.CommandLine.{CommandLine}
use Rattle.base_text.specs.declared.tool.Tool.TheVariants.{Cargo}
use Rattle.pm_tools_ask.specs.Ask.{means_of}
use Rattle.pm_cargo_config.specs.Variables.{with_last_variable}
use Rattle.pm_tools_ask.specs.Questions.{question}
use Rattle.pm_tools_ask.specs.ConfigQuestion.{config_words}
use Rattle.base_text_paths.specs.ManifestPath.{directory_of}
use Rattle.pm_tools_ask.proofs.config_question.config_question.Goals as goal

pub returns : goal.returns
returns g c =
    let means = means_of g.R.Runner.answers g.T.Tree.files c.args.ask.now in
    let path = option_map abs_text c.args.config_path in
    let sysroot = c.args.sysroot.now in
    let manifest = c.args.manifest.now in
    let dir_is : c.as_str.result.now ≡ directory_of manifest =
    c.as_str.ensures.text ∙ ap (λ (o : Option (List ℕ)). unwrap_or o (codes "/")) c.parent.ensures in
    let line_is : c.in_ok-line.line ≡ question sysroot.root Cargo (directory_of manifest) (config_words manifest path) means =
    c.in_ok-line.ensures
    ∙ ap (λ (dir : List ℕ). question sysroot.root Cargo dir c.in_ok-words.words.items means) dir_is
    ∙ ap (λ (words : List (List ℕ)). question sysroot.root Cargo (directory_of manifest) words means) c.in_ok-words.ensures in
    subst (λ (x : CommandLine). IfOk c.set_variable.result (λ line. line ≡ with_last_variable (codes "RUSTC_BOOTSTRAP") (codes "1") x)) line_is c.set_variable.ensures
