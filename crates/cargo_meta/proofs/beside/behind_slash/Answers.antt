use Rattle.std.proofs.Common.{rules, arith}
use Rattle.std.proofs.lemmas.Grind.{common_steps}
use Rattle.cargo_meta.proofs.Folders.{up_to_slash-cut, up_to_slash-lacking}
use Rattle.cargo_meta.proofs.beside.behind_slash.Goals as goal

pub returns-in_ok-whole-in-Some : goal.returns-in_ok-whole-in-Some
returns-in_ok-whole-in-Some c = rw (up_to_slash-cut _ _ _ c.in-Some.ensures) (grind (arith, common_steps))

pub returns-in-None : goal.returns-in-None
returns-in-None c = rw (up_to_slash-lacking _ c.in-None.ensures) (search rules)
