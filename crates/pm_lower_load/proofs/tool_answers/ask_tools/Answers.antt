use Rattle.pm_lower_load.proofs.ToolLemmas.{answers_are}
use Rattle.pm_tools_ask.specs.Ask.{means_of}
use Rattle.pm_lower_load.proofs.tool_answers.ask_tools.Goals as goal

pub returns : goal.returns
returns g c =
    answers_are c.args.sysroot c.args.manifest c.as_ref.result (means_of g.R.Runner.answers g.T.Tree.files c.args.ask.now) c.args.platform c.args.config.now c.query_of-query.result _
    c.in_ok-config_file.config_file c.in_ok-targets.targets c.in_ok-toolchain.toolchain _ _ c.in_ok-rustc_cfg.rustc_cfg c.in_ok-machine.machine
    c.config_path-path.ensures c.in_ok-config_file.ensures c.as_ref.ensures.value c.query_of-query.ensures c.in_ok-targets.ensures c.in_ok-toolchain.ensures
    c.as_ref-2.ensures.value c.platform_asked-target.ensures c.in_ok-rustc_cfg.ensures c.in_ok-machine.ensures
