use Rattle.std.proofs.Common.{◌≡◌, rules}
use Rattle.base_text_outside.specs.Command.{asks_same}
use Rattle.base_text_outside.proofs.Questions.{asks_same_tells}
use Rattle.base_text_outside.proofs.command.CommandLine.asks_same.Goals as goal

pub returns-then-eq-2-clause-fact : goal.returns-then-eq-2-clause-fact
returns-then-eq-2-clause-fact c =
    let test : c.eq-then-eq-2.result ≡ asks_same c.args.self.now c.args.other.now = search rules in
    asks_same_tells _ _ _ test

pub returns-else-eq-2-clause-fact : goal.returns-else-eq-2-clause-fact
returns-else-eq-2-clause-fact c =
    let test : c.if-eq.value ≡ asks_same c.args.self.now c.args.other.now = search rules in
    asks_same_tells _ _ _ test
