use Rattle.std.proofs.Common.{◌≡◌, ◌++◌}
use Rattle.base_text_paths.specs.AbsPath.{abs_text}
use Rattle.pm_json.specs.Crates.{crates_on_base}
use Rattle.pm_json.specs.Refusals.{under}
use Rattle.pm_json.proofs.reading.read_crates.Given as goal

abbrev pub invariant-loop-krate : goal.invariant-loop-krate
invariant-loop-krate l =
    crates_on_base (abs_text l.base) l.groups l.initial.krate-iterator.rest.items
    ≡ under (λ xs. l.crates.items ++ xs) (crates_on_base (abs_text l.base) l.groups l.krate-iterator.rest.items)
