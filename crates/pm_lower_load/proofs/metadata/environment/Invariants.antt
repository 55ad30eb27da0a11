use Rattle.std.proofs.Common.{◌≡◌, fold}
use Rattle.base_values.specs.ByText.{text_entries}
use Rattle.pm_tools_ask.specs.ConfigEnv.{with_variable}
use Rattle.pm_lower_load.proofs.metadata.environment.Given as goal

-- the variables that are left are still to be set
abbrev pub invariant-loop-name : goal.invariant-loop-name
invariant-loop-name g l =
    (goal.iterator-loop-name g).can_next l.name-iterator ×
    (goal.iterator-loop-name g).is_finite l.name-iterator ×
    (fold (λ env variable. with_variable variable.0 variable.1 env) l.env (text_entries l.name-iterator)
    ≡ fold (λ env variable. with_variable variable.0 variable.1 env) l.initial.env (text_entries l.initial.name-iterator))
