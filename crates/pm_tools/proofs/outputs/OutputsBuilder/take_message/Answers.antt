use Rattle.std.proofs.Common.{[], ◌∷◌}
use Rattle.pm_cargo_fetch.proofs.Lines.{TakesLines-whole}
use Rattle.pm_tools.specs.Lines.{compiler_line}
use Rattle.pm_tools.proofs.outputs.OutputsBuilder.take_message.Goals as goal

pub returns-in-CompilerMessage-clause-lines : goal.returns-in-CompilerMessage-clause-lines
returns-in-CompilerMessage-clause-lines g c =
    rw c.in-CompilerMessage.is
    (TakesLines-whole (g.P.Progress.lines c.args.progress.now) (g.P.Progress.lines c.take_compiler_message.new.progress) (compiler_line c.in-CompilerMessage.message.target.name ∷ [])
    (c.in_ok-take_compiler_message-in-CompilerMessage.ensures.lines.all (λ e. cc)))
