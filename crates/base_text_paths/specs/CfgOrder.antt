-- The order of atoms, flags before keys and then by the bytes of the names, and lists in that order.
use Rattle.std.specs.Prelude.{List, [], filter, fold, not}
use Rattle.std.specs.List.{list_any}
use Rattle.std.specs.Ordering.{eq_by_cmp}
use Rattle.std.specs.BTreeSet.{insert_key}
use Rattle.std.specs.declared.cmp.Ordering.{Ordering}
use Rattle.base_text_outside.specs.declared.cfg.CfgAtom.{CfgAtom}
use Rattle.base_text_outside.specs.contracts.cfg.CfgAtomOrd.TheImpl as atom_ord

-- how two atoms compare
abbrev pub atom_cmp : CfgAtom → CfgAtom → Ordering
atom_cmp = (atom_ord.ghosts).cmp

-- atoms in order with one more in its place, or as they are where it is among them
abbrev pub with_atom : List CfgAtom → CfgAtom → List CfgAtom
with_atom atoms atom = insert_key atom_cmp atoms atom

-- atoms in order with each of a list in its place
abbrev pub with_atoms : List CfgAtom → List CfgAtom → List CfgAtom
with_atoms atoms added = fold with_atom atoms added

-- the atoms that are not among some others
abbrev pub without_atoms : List CfgAtom → List CfgAtom → List CfgAtom
without_atoms atoms others = filter (λ atom. not (list_any (eq_by_cmp atom_cmp atom) others)) atoms

-- the atoms of a list, in order and each once, that are not among some others
abbrev pub atoms_only_in : List CfgAtom → List CfgAtom → List CfgAtom
atoms_only_in atoms others = without_atoms (with_atoms [] atoms) others

-- atoms in order after a change: some were put in, and others taken out
abbrev pub atoms_after_change : List CfgAtom → List CfgAtom → List CfgAtom → List CfgAtom
atoms_after_change atoms enabled disabled = without_atoms (with_atoms atoms enabled) disabled
