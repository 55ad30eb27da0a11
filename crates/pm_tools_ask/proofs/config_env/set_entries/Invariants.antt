use Rattle.std.proofs.Common.{◌≡◌}
use Rattle.toml.specs.View.{members_view}
use Rattle.pm_tools_ask.specs.Ask.{means_of}
use Rattle.pm_tools_ask.specs.ConfigEnv.{with_entries}
use Rattle.pm_tools_ask.proofs.config_env.set_entries.Given as goal

-- the entries that are left are still to be taken
abbrev pub invariant-loop-name : goal.invariant-loop-name
invariant-loop-name g l =
    with_entries l.text (means_of g.R.Runner.answers g.T.Tree.files l.ask) l.env (members_view l.name-iterator)
    ≡ with_entries l.text (means_of g.R.Runner.answers g.T.Tree.files l.ask) l.initial.env (members_view l.initial.name-iterator)
