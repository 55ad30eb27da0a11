-- the command lines of the two questions, the options that stand for platforms, and what is ready to be fetched
use Rattle.std.proofs.Common.{◌≡◌, ◌∙◌, ℕ, suc, ◌+◌, ◌<◌, true, List, [], ◌∷◌, ◌++◌, codes, length, drop, get_or, ap, sym, refl, append_assoc}
use Rattle.std.proofs.Math.Numerals.{add-one}
use Rattle.std.proofs.Math.Seq.{drop-cons}
use Rattle.std.specs.Prelude.{Bool, Result}
use Rattle.base_text_outside.specs.Runner.{answer_of}
use Rattle.base_text_outside.specs.declared.command.CommandLine.{CommandLine}
use Rattle.base_text_outside.specs.declared.command.Output.{Output}
use Rattle.base_text_outside.specs.declared.command.Question.{Question}
use Rattle.cargo_meta.specs.Answer.{of_answer}
use Rattle.cargo_meta.specs.Command.{Settings, metadata_command, words_of}
use Rattle.cargo_meta_values.specs.declared.errors.Error.{Error}
use Rattle.cargo_meta.specs.declared.metadata.Metadata.{Metadata}
use Rattle.pm_cargo_config.specs.Variables.{with_channel}
use Rattle.pm_cargo_config.specs.declared.metadata_config.CargoMetadataConfig.{CargoMetadataConfig}
use Rattle.base_text.specs.declared.tool_root.ToolRoot.{ToolRoot}
use Rattle.pm_cargo_fetch.specs.Fetch.{Fetch, fetch_by, fetch_of, full_line}
use Rattle.pm_cargo_fetch.specs.Options.{full_options, has_unstable, options_of, filter_words}
use Rattle.pm_cargo_fetch.specs.Questions.{full_question, metadata_question}
use Rattle.pm_cargo_fetch.specs.Settings.{settings_of}

-- the command with its options asks the full question
pub full_is : (manifest dir : List ℕ) (config : CargoMetadataConfig) (root : ToolRoot) (options : List (List ℕ))
    → metadata_command (record (settings_of manifest dir config root) { other_options = options }) ≡ metadata_question [] options manifest dir config root
unfolding words_of
full_is manifest dir config root options = refl

-- and for members alone the light one
pub light_is : (manifest dir : List ℕ) (config : CargoMetadataConfig) (root : ToolRoot) (options : List (List ℕ))
    → metadata_command (record (settings_of manifest dir config root) { other_options = options; no_deps = true })
    ≡ metadata_question (codes "--no-deps" ∷ []) options manifest dir config root
unfolding words_of
light_is manifest dir config root options = refl

-- the words of one platform more
pub next_platform : (options one two targets : List (List ℕ)) (i : ℕ) (target : List ℕ) → target ≡ get_or targets i target → i < length targets
    → one ≡ options ++ codes "--filter-platform" ∷ [] → two ≡ one ++ target ∷ []
    → two ++ filter_words (drop (i + 1) targets) ≡ options ++ filter_words (drop i targets)
next_platform options one two targets i target is within first second =
    let word = codes "--filter-platform" in let rest = drop (suc i) targets in
    let split : drop i targets ≡ target ∷ rest = drop-cons targets i target within ∙ ap (λ x. x ∷ rest) (sym is) in
    ap (λ k. two ++ filter_words (drop k targets)) (add-one i)
    ∙ ap (λ x. x ++ filter_words rest) (second ∙ ap (λ x. x ++ target ∷ []) first)
    ∙ append_assoc (options ++ word ∷ []) (target ∷ []) (filter_words rest)
    ∙ append_assoc options (word ∷ []) (target ∷ filter_words rest)
    ∙ ap (λ x. options ++ filter_words x) (sym split)

-- a question with its light answer
abbrev the_fetch : CommandLine → Bool → Result Metadata Error → Fetch
the_fetch full no_deps light = record { full = full; no_deps = no_deps; light = light }

-- what is ready to be fetched, by the command that was set and then limited
pub prepared : (set between limited : Settings) (options : List (List ℕ)) (no_deps : Bool) (answers : List (Question × Output)) (full : CommandLine) (light : Result Metadata Error)
    → full ≡ full_line set options
    → between ≡ record set { other_options = full_options options }
    → limited ≡ record between { other_options = options; no_deps = true }
    → light ≡ of_answer (metadata_command limited) (answer_of answers (metadata_command limited))
    → ◌≡◌ {A = Fetch} (record { full = full; no_deps = no_deps; light = light }) (fetch_by set options no_deps answers)
prepared set between limited options no_deps answers full light is_full is_between is_limited is_light =
    let line : metadata_command limited ≡ metadata_command (record set { other_options = options; no_deps = true }) =
    ap metadata_command is_limited ∙ ap (λ (s : Settings). metadata_command (record s { other_options = options; no_deps = true })) is_between in
    let answer = is_light ∙ ap (λ (l : CommandLine). of_answer l (answer_of answers l)) line in
    ap (λ (f : CommandLine). the_fetch f no_deps light) is_full
    ∙ ap (λ (l : Result Metadata Error). the_fetch (full_line set options) no_deps l) answer

-- and by the manifest and the configuration
pub by_settings : (manifest dir : List ℕ) (config : CargoMetadataConfig) (root : ToolRoot) (no_deps : Bool) (answers : List (Question × Output))
    (set : Settings) (options : List (List ℕ)) → set ≡ settings_of manifest dir config root → options ≡ options_of manifest config
    → fetch_by set options no_deps answers ≡ fetch_of manifest dir config root no_deps answers
by_settings manifest dir config root no_deps answers set options is_set is_options =
    let all = options_of manifest config in
    ap (λ (s : Settings). fetch_by s options no_deps answers) is_set
    ∙ ap (λ (o : List (List ℕ)). fetch_by (settings_of manifest dir config root) o no_deps answers) is_options
    ∙ ap (λ (f : CommandLine). the_fetch f no_deps (fetch_by (settings_of manifest dir config root) all no_deps answers).light) (ap (with_channel (has_unstable all)) (full_is manifest dir config root (full_options all)))
    ∙ ap (λ (l : CommandLine). the_fetch (full_question manifest dir config root) no_deps (of_answer l (answer_of answers l))) (light_is manifest dir config root all)
