use Rattle.std.proofs.Common.{sym}
use Rattle.pm_cargo_reading.proofs.NodeLemmas.{known_place-none, known_place-some}
use Rattle.pm_cargo_reading.proofs.nodes.known_place.Goals as goal

pub returns-in-Some : goal.returns-in-Some
returns-in-Some c = known_place-some c.args.packages.now c.args.id.now.repr c.in-Some.place (sym c.in-Some.ensures)

pub returns-in_ok-try_clone-in-None : goal.returns-in_ok-try_clone-in-None
returns-in_ok-try_clone-in-None c = known_place-none c.args.packages.now c.args.id.now.repr _ (sym c.in-None.ensures) c.in_ok-try_clone-in-None.ensures
