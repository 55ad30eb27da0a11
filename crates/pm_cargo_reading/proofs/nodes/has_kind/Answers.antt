use Rattle.std.proofs.Common.{◌<◌, ◌∙◌, arith, length}
use Rattle.pm_cargo_reading.proofs.KindLemmas.{has_kind-some}
use Rattle.pm_cargo_reading.proofs.nodes.has_kind.Goals as goal

pub returns : goal.returns
returns c =
    let some : 0 < length c.args.infos.now = grind (arith, c.if-is_empty.ensures) in
    c.names_kind.ensures ∙ has_kind-some c.args.infos.now c.args.kind some
