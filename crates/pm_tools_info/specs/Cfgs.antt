-- The atoms of conditional compilation that hold for a platform, as `rustc --print cfg` prints them, one a
-- line.
use Rattle.std.specs.Prelude.{ℕ, List, [], ◌∷◌, ◌++◌, codes, map, Option, Some}
use Rattle.std.specs.Option.{option_and_then, option_map, option_map_or}
use Rattle.std.specs.Str.Lines.{lines}
use Rattle.base_text_outside.specs.Cfg.{atom_of}
use Rattle.base_text_outside.specs.declared.cfg.CfgAtom.{CfgAtom}
use Rattle.base_text_outside.specs.declared.cfg.CfgAtom.TheVariants.{Flag, KeyValue}

-- the atoms that some lines name, where each names one
abbrev pub atoms_in : List (List ℕ) → Option (List CfgAtom)
atoms_in [] = Some []
atoms_in (line ∷ more) =
    option_and_then (λ atom. option_map (λ atoms. atom ∷ atoms) (atoms_in more)) (atom_of line)

-- a key with the width of each atomic value
abbrev pub for_widths : List ℕ → List CfgAtom
for_widths key =
    map (λ width. KeyValue key width)
    (codes "8" ∷ codes "16" ∷ codes "32" ∷ codes "64" ∷ codes "128" ∷ codes "ptr" ∷ [])

-- the atoms that the sources of the standard library ask for and that no compiler prints
unfoldable pub constant_atoms : List CfgAtom
constant_atoms =
    for_widths (codes "target_has_atomic_equal_alignment")
    ++ Flag (codes "target_has_atomic_load_store") ∷ []
    ++ for_widths (codes "target_has_atomic_load_store")
    ++ Flag (codes "target_thread_local") ∷ []
    ++ Flag (codes "target_has_atomic") ∷ []

-- the atoms that hold: those of the lines and then the constant ones, or none where a line names no atom
unfoldable pub atoms_of : List ℕ → List CfgAtom
atoms_of text = option_map_or (λ atoms. atoms ++ constant_atoms) (atoms_in (lines text)) []
