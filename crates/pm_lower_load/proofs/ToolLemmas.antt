-- What the tools say of a project: each answer is that of the definition, whatever they are asked of.
use Rattle.std.proofs.Common.{◌≡◌, ℕ, List, Option, Result, sym, ap, ◌∙◌}
use Rattle.std.specs.Borrow.{Bor}
use Rattle.std.specs.Option.{option_copied}
use Rattle.base_text_outside.specs.declared.cfg.CfgAtom.{CfgAtom}
use Rattle.base_values.specs.Version.{Parts}
use Rattle.crate_graph_values.specs.declared.target.TargetData.{TargetData}
use Rattle.crate_graph_values.specs.declared.target.TargetLoadError.{TargetLoadError}
use Rattle.pm_cargo_config.specs.declared.config.CargoConfig.{CargoConfig}
use Rattle.pm_lower_load.specs.ToolAnswers.{answers_to, platform_asked, target_result, targets_or_none, tool_answers, version_or_none, with_targets}
use Rattle.pm_lower_load.specs.declared.tool_answers.PlatformAsked.{PlatformAsked}
use Rattle.pm_lower_load.specs.declared.tool_answers.ToolAnswers.{ToolAnswers}
use Rattle.pm_tools_ask.specs.Ask.{Means}
use Rattle.pm_tools_ask.specs.Toolchain.{Toolchain}
use Rattle.pm_tools_ask.specs.ConfigQuestion.{printed_config}
use Rattle.pm_tools_info.specs.Config.{Query, manifest_query, query_of}
use Rattle.pm_tools_info.specs.Queries.{cfg_answer, data_answer, target_answer, version_answer}
use Rattle.pm_tools_info.specs.declared.query_config.QueryConfig.{QueryConfig}
use Rattle.pm_tools_info.specs.declared.query_config.QueryConfig.TheVariants.{Cargo}

-- answers that were asked one after the other are those of the definition
pub answers_made : (platform : PlatformAsked) (query : Query) (target : Option (List ℕ)) (means : Means) (targets : List (List ℕ)) (version copy : Option Parts) (first : Option (List ℕ))
    (atoms : List CfgAtom) (machine : Result TargetData TargetLoadError) → targets ≡ targets_or_none (target_answer query target means)
    → version ≡ version_or_none (version_answer query means) → copy ≡ version → first ≡ platform_asked platform targets → atoms ≡ cfg_answer query first means
    → machine ≡ target_result (data_answer query first copy means)
    → ◌≡◌ {A = ToolAnswers} (record { config_file = query.printed; targets = targets; toolchain = version; rustc_cfg = atoms; target = machine })
    (answers_to platform query target means)
answers_made platform query target means targets version copy first atoms machine is_targets is_version is_copy is_first is_atoms is_machine =
    let answered : Option (List ℕ) → ToolAnswers = λ place. record {
      config_file = query.printed;
      targets = targets;
      toolchain = version;
      rustc_cfg = cfg_answer query place means;
      target = target_result (data_answer query place version means);
    } in
    let machines : machine ≡ target_result (data_answer query first version means) =
    is_machine ∙ ap (λ (v : Option Parts). target_result (data_answer query first v means)) is_copy in
    (λ i. record { config_file = query.printed; targets = targets; toolchain = version; rustc_cfg = is_atoms i; target = machines i })
    ∙ ap answered is_first ∙ (λ i. with_targets platform query (is_targets i) (is_version i) means)

module _ (sysroot : Bor Toolchain) (manifest : Bor (List ℕ)) (file : Option (Bor (List ℕ))) (means : Means) where
  -- what the tools say of the project of a manifest, with the configuration that was printed for it
  pub answers_are : (platform : PlatformAsked) (config : CargoConfig) (query : QueryConfig) (path printed : Option (List ℕ)) (targets : List (List ℕ)) (version copy : Option Parts) (first : Option (List ℕ))
      (atoms : List CfgAtom) (machine : Result TargetData TargetLoadError) → path ≡ config.config_path → printed ≡ printed_config manifest.now sysroot.now path means
      → option_copied file ≡ printed → query ≡ Cargo sysroot manifest file → targets ≡ targets_or_none (target_answer (query_of query) config.target means)
      → version ≡ version_or_none (version_answer (query_of query) means) → copy ≡ version → first ≡ platform_asked platform targets → atoms ≡ cfg_answer (query_of query) first means
      → machine ≡ target_result (data_answer (query_of query) first copy means)
      → ◌≡◌ {A = ToolAnswers} (record { config_file = printed; targets = targets; toolchain = version; rustc_cfg = atoms; target = machine })
      (tool_answers sysroot.now manifest.now platform config means)
  unfolding tool_answers
  answers_are platform config query path printed targets version copy first atoms machine is_path is_printed is_file is_query is_targets is_version is_copy is_first is_atoms is_machine =
      let asked : Option (List ℕ) → Query = manifest_query sysroot.now manifest.now in
      let same : query_of query ≡ asked printed = ap query_of is_query ∙ ap asked is_file in
      let with_file : Option (List ℕ) → ToolAnswers = λ file. record { config_file = file; targets = targets; toolchain = version; rustc_cfg = atoms; target = machine } in
      let all : printed ≡ printed_config manifest.now sysroot.now config.config_path means =
      is_printed ∙ ap (λ (p : Option (List ℕ)). printed_config manifest.now sysroot.now p means) is_path in
      ap with_file (sym (ap (λ (q : Query). q.printed) same))
      ∙ answers_made platform (query_of query) config.target means targets version copy first atoms machine is_targets is_version is_copy is_first is_atoms is_machine
      ∙ ap (λ (q : Query). answers_to platform q config.target means) (same ∙ ap asked all)
