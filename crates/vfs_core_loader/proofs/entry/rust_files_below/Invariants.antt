use Rattle.std.proofs.Common.{◌≡◌, map, take}
use Rattle.base_text_paths.specs.Paths.{components_with_tail, path_text}
use Rattle.vfs_core_loader.proofs.entry.rust_files_below.Given as goal

abbrev pub invariant-loop-tail : goal.invariant-loop-tail
invariant-loop-tail l =
    l.exclude.items ≡ map (λ tail. path_text (components_with_tail l.fn.base tail)) (map (λ tail. tail.now) (take l.tail-index l.tails))
