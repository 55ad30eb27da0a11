use Rattle.base_text_paths.specs.AbsPath.{abs_text}
use Rattle.pm_lower_load.proofs.ToolLemmas.{answers_made}
use Rattle.pm_lower_load.specs.ToolAnswers.{compiler_answers}
use Rattle.pm_lower_load.specs.declared.tool_answers.PlatformAsked.TheVariants.{FirstTarget}
use Rattle.pm_tools_ask.specs.Ask.{means_of}
use Rattle.pm_tools_info.specs.Config.{compiler_query}
use Rattle.pm_lower_load.proofs.tool_answers.ask_compiler.Goals as goal

pub returns : goal.returns
unfolding compiler_answers
returns g c =
    answers_made FirstTarget (compiler_query c.args.sysroot.now (abs_text c.args.dir)) c.args.config.now.target (means_of g.R.Runner.answers g.T.Tree.files c.args.ask.now)
    c.in_ok-targets.targets c.in_ok-toolchain.toolchain _ _ c.in_ok-rustc_cfg.rustc_cfg c.in_ok-machine.machine c.in_ok-targets.ensures c.in_ok-toolchain.ensures
    c.as_ref.ensures.value c.first_target-target.ensures c.in_ok-rustc_cfg.ensures c.in_ok-machine.ensures
