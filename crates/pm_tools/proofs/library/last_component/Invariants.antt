use Rattle.std.proofs.Common.{◌≡◌, map}
use Rattle.std.specs.List.{filter}
use Rattle.std.specs.Option.{option_copied}
use Rattle.base_text_paths.specs.Paths.{is_component, last_component}
use Rattle.pm_tools.proofs.library.last_component.Given as goal

abbrev pub invariant-loop-part : goal.invariant-loop-part
invariant-loop-part l = option_copied l.last ≡ last_component (filter is_component (map (λ part. part.now) l.yielded))
