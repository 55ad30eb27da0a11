-- Changes of the conditional compilation that a user makes: one for all crates, and one for the crates of
-- each name.
use Rattle.std.specs.Prelude.{ℕ, ◌+◌, ◌-◌, ◌^◌, min, List, [], length, map, sum, Option, Some, None}
use Rattle.base_values.specs.ByText.{value_at}
use Rattle.base_text_paths.specs.CfgChange.{CfgChange}
use Rattle.base_text_paths.specs.CfgOrder.{atoms_after_change}
use Rattle.base_text_outside.specs.declared.cfg.CfgAtom.{CfgAtom}
use Rattle.pm_cargo_config.specs.declared.overrides.CfgOverrides.{CfgOverrides}

-- no changes
abbrev pub no_overrides : CfgOverrides
no_overrides = record { global = record { enabled = []; disabled = [] }; selective = [] }

-- how many atoms a change names
abbrev pub diff_count : CfgChange → ℕ
diff_count diff = length diff.enabled + length diff.disabled

-- how many atoms all the changes name, or the greatest count where they are more
abbrev pub count_of : CfgOverrides → ℕ
count_of overrides =
    min (diff_count overrides.global + sum (map (λ e. diff_count e.1) overrides.selective)) (2 ^ 64 - 1)

-- the atoms after a change
abbrev pub with_diff : CfgChange → List CfgAtom → List CfgAtom
with_diff diff atoms = atoms_after_change atoms diff.enabled diff.disabled

-- the atoms after a change, if there is one
abbrev pub with_optional : Option CfgChange → List CfgAtom → List CfgAtom
with_optional None atoms = atoms
with_optional (Some diff) atoms = with_diff diff atoms

-- the atoms of a crate of the name: the change for all crates comes first
abbrev pub atoms_with_overrides : CfgOverrides → List ℕ → List CfgAtom → List CfgAtom
atoms_with_overrides overrides name atoms =
    with_optional (value_at name overrides.selective) (with_diff overrides.global atoms)
