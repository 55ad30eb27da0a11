use Rattle.std.proofs.Common.{◌≡◌, drop}
use Rattle.pm_tools.specs.Script.{named_atoms}
use Rattle.pm_tools.proofs.ScriptLemmas.{with_before}
use Rattle.pm_tools.proofs.script.atoms_of.Given as goal

abbrev pub invariant-loop-text : goal.invariant-loop-text
invariant-loop-text l = named_atoms l.texts ≡ with_before l.atoms.items (named_atoms (drop l.text-index l.texts))
