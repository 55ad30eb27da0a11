use Rattle.std.proofs.Common.{◌≡◌, ◌++◌, length, string_bytes}
use denote.Text.{Utf8}
use denote.Shadow.{shadow}
use Rattle.base_text_paths.specs.Paths.{components}
use Rattle.base_text_paths.specs.Rows.{Lacks}
use Rattle.base_text.specs.Tree.{entry_names}
use Rattle.base_text.proofs.Listing.{names_after}
use Rattle.base_text.proofs.memory_tree.MemoryTreeTree.lists.Given as goal

-- the names so far, with those behind the last one, are all names of the directory
abbrev pub invariant-loop-names : goal.invariant-loop-names
invariant-loop-names l = shadow (Utf8 l.last) × (l.names.items ++ names_after l.last (entry_names l.self (components (string_bytes l.directory-inside.text))) ≡ entry_names l.self (components (string_bytes l.directory-inside.text))) × Lacks 47 l.last

abbrev pub decreases-loop-names : goal.decreases-loop-names
decreases-loop-names l = length (names_after l.last (entry_names l.self (components (string_bytes l.directory-inside.text))))
