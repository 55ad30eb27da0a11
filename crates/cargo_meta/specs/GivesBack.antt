-- what a command is after a call that gives it back, or that is refused where memory runs out
use Rattle.std.specs.Prelude.{◌≡◌, Result}
use Rattle.std.specs.Borrow.{Fml, MutBor, RestsIfErr}
use Rattle.cargo_meta.specs.Command.{Settings}
use Rattle.cargo_meta.specs.contracts.command.MetadataCommand.{the_row}

-- after an error the command is as it was; else it ends as the caller leaves what is given back
abbrev pub unchanged_if_refused : {E : Type 0} → MutBor Settings → Result (MutBor Settings) E → Fml
unchanged_if_refused command result =
    RestsIfErr the_row command (λ given. given.ghost_name) result (λ after. after ≡ command.now)
