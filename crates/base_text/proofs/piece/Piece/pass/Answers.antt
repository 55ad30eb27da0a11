use Rattle.std.proofs.Common.{◌+◌, ◌-◌, ◌≤◌, drop, length, length-take, sym, arith}
use Rattle.std.specs.List.{slice_range}
use Rattle.base_text.proofs.Bytes.{range_after}
use Rattle.base_text.proofs.piece.Piece.pass.Goals as goal

pub returns : goal.returns
returns c =
    let bytes = c.self.inside.bytes.items in
    let start = c.self.inside.start in
    let end = c.self.inside.end in
    let few : c.args.count ≤ length (slice_range bytes start end) = rw c.self.view_is c.requires in
    let within : start + c.args.count ≤ end = omega (arith, few, c.self.invariant.0, length-take (end - start) (drop start bytes)) in
    rw (← c.self.view_is) (sym (range_after bytes start end c.args.count within))
