use Rattle.pm_cargo_fetch.proofs.Asked.{prepared}
use Rattle.pm_cargo_fetch.proofs.fetch_metadata.prepare.Goals as goal

pub returns : goal.returns
returns g c =
    prepared c.args.command.now c.full_line.new.command c.limit_to_members.new.command c.args.options c.args.no_deps (g.R.Runner.answers c.args.runner.now)
    c.in_ok-full.full c.in_ok-light.light
    c.in_ok-full.ensures.line c.in_ok-full.ensures.options c.limit_to_members.ensures c.in_ok-light.ensures
