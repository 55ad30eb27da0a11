use Rattle.std.proofs.Common.{◌∙◌}
use Rattle.std.proofs.lemmas.Result.{IfOk-weaker}
use Rattle.base_text_paths.specs.AbsPath.{abs_text}
use Rattle.pm_cargo_fetch.proofs.Asked.{by_settings}
use Rattle.pm_cargo_fetch.proofs.fetch_metadata.FetchMetadata.new.Goals as goal

pub returns : goal.returns
returns g c =
    IfOk-weaker c.prepare.result _ _ (λ fetch is. is
    ∙ by_settings c.args.cargo_toml.now (abs_text c.args.dir) c.args.config.now c.args.tool_root.now c.args.no_deps (g.R.Runner.answers c.args.runner.now)
    c.in_ok-command.command c.in_ok-options.options c.in_ok-command.ensures c.in_ok-options.ensures)
    c.prepare.ensures
