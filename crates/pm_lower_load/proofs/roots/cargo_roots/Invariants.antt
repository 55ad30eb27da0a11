use Rattle.std.proofs.Common.{◌≡◌, ◌++◌, length, map, take}
use Rattle.std.specs.List.{enumerate_from, range_with_len}
use Rattle.base_text_paths.specs.Arena.{number_of}
use Rattle.pm_lower_load.specs.Roots.{out_dir_in, package_root}
use Rattle.pm_lower_load.proofs.roots.cargo_roots.Given as goal

abbrev pub invariant-loop-id : goal.invariant-loop-id
invariant-loop-id g l =
    (goal.iterator-loop-id g).can_next l.id-iterator ×
    (goal.iterator-loop-id g).is_finite l.id-iterator ×
    record {
      all : range_with_len 0 (length l.workspace.packages) ≡ map number_of l.yielded ++ l.id-iterator;
      done : l.roots.items ≡ map (λ p. package_root l.workspace (out_dir_in (g.O.BuildOutputs.output_at l.outputs) p.0) l.extra_includes p.1)
          (take (length l.yielded) (enumerate_from 0 l.workspace.packages));
    }
