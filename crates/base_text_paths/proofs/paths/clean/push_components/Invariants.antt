use Rattle.std.proofs.Common.{◌≡◌, ◌++◌, map, string_bytes}
use Rattle.std.specs.List.{filter}
use Rattle.base_text_paths.specs.Paths.{is_component, with_slashes}
use Rattle.base_text_paths.proofs.paths.clean.push_components.Given as goal

abbrev pub invariant-loop-part : goal.invariant-loop-part
invariant-loop-part l =
    string_bytes l.text ≡ string_bytes l.initial.text ++ with_slashes (filter is_component (map (λ x. x.now) l.yielded))
