use Rattle.std.proofs.Common.{◌≡◌, ◌++◌, map, reverse}
use Rattle.std.specs.Borrow.{Bor}
use Rattle.std.specs.List.{flat_map}
use Rattle.std.specs.Fmt.{HasWritten, IsPlainFormatter}
use Rattle.crate_graph.specs.Cyclic.{Step}
use Rattle.crate_graph.proofs.CyclicLemmas.{arrow_text}
use Rattle.crate_graph.proofs.cyclic.write_back.Given as goal

abbrev pub invariant-loop-step : goal.invariant-loop-step
invariant-loop-step g l = record {
  left : reverse l.initial.step-iterator.iter.rest.now ≡ map (λ (s : Bor Step). s.now) l.yielded ++ reverse l.step-iterator.iter.rest.now;
  wrote : IsPlainFormatter l.initial.f → HasWritten g.W.Write.write_str_gives l.initial.f (flat_map arrow_text l.yielded) l.f;
}
