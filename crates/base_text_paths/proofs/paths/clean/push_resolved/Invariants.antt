use Rattle.std.proofs.Common.{map, string_bytes}
use Rattle.base_text_paths.specs.Paths.{components}
use Rattle.base_text_paths.proofs.Resolving.{HasTaken}
use Rattle.base_text_paths.proofs.paths.clean.push_resolved.Given as goal

abbrev pub invariant-loop-part : goal.invariant-loop-part
invariant-loop-part l =
    HasTaken (string_bytes l.text) (components (string_bytes l.initial.text)) (map (λ x. x.now) l.yielded)
