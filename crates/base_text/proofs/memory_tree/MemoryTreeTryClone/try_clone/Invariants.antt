use Rattle.std.proofs.Common.{◌≡◌, ◌++◌}
use Rattle.base_text.proofs.memory_tree.MemoryTreeTryClone.try_clone.Given as goal

-- the files that are copied, with those that are left, are all of them
abbrev pub invariant-loop-path : goal.invariant-loop-path
invariant-loop-path l = l.files.entries ++ l.path-iterator ≡ l.self
