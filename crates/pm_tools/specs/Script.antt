-- What a build script says of its package: atoms of conditional compilation, variables, and the directory of
-- its output.
use Rattle.std.specs.Prelude.{◌≡◌, ℕ, if◌then◌else◌, List, [], ◌∷◌, ◌++◌, bytes_eq, codes, Option, Some, None, Result, Ok, Err}
use Rattle.base_text_outside.specs.Cfg.{atom_of}
use Rattle.base_text_outside.specs.declared.cfg.CfgAtom.{CfgAtom}
use Rattle.base_values.specs.ByText.{with_value}
use Rattle.crate_graph_values.specs.Env.{with_pairs}
use Rattle.cargo_msgs.specs.declared.build.BuildScript.{BuildScript}
use Rattle.pm_tools.specs.Artifact.{absolute_output_path}
use Rattle.base_values.specs.Outcome.{◌>>=◌}
use Rattle.pm_tools.specs.Reading.{Reading}
use Rattle.pm_cargo.specs.declared.output.BuildScriptOutput.{BuildScriptOutput}
use Rattle.pm_tools.specs.declared.script.AtomsError.{AtomsError}
use Rattle.pm_tools.specs.declared.script.AtomsError.TheVariants.{Invalid, OutOfMemory}

-- an atom before others, if it is one; else the text
abbrev pub with_first : List ℕ → Option CfgAtom → Result (List CfgAtom) (List ℕ)
    → Result (List CfgAtom) (List ℕ)
with_first text None rest = Err text
with_first text (Some atom) (Ok atoms) = Ok (atom ∷ atoms)
with_first text (Some atom) (Err invalid) = Err invalid

-- the atoms that some texts name, or the first text that names none
unfoldable pub named_atoms : List (List ℕ) → Result (List CfgAtom) (List ℕ)
named_atoms [] = Ok []
named_atoms (text ∷ texts) = with_first text (atom_of text) (named_atoms texts)

-- a call returns the atom of a text, or the text where it names none, unless it runs out of memory
abbrev pub GivesAtom : Result CfgAtom AtomsError → List ℕ → Type 0
GivesAtom (Ok atom) text = atom_of text ≡ Some atom
GivesAtom (Err (Invalid invalid)) text = (atom_of text ≡ None) × (invalid ≡ text)
GivesAtom (Err OutOfMemory) text = Unit {0}

-- a call returns these atoms, or the text that is none, unless it runs out of memory
abbrev pub GivesAtoms : Result (List CfgAtom) AtomsError → Result (List CfgAtom) (List ℕ) → Type 0
GivesAtoms (Ok atoms) wanted = wanted ≡ Ok atoms
GivesAtoms (Err (Invalid invalid)) wanted = wanted ≡ Err invalid
GivesAtoms (Err OutOfMemory) wanted = Unit {0}

-- the line that stands for a script with an invalid atom
abbrev pub invalid_cfg_line : List ℕ → List ℕ
invalid_cfg_line text = codes "invalid cfg from cargo-metadata: " ++ text

-- the output with a directory: the package is built with it in `OUT_DIR`, and with the script's atoms
abbrev pub output_with_dir : List CfgAtom → BuildScriptOutput → List ℕ → BuildScriptOutput
output_with_dir atoms output dir = record output {
  cfgs = atoms;
  envs = with_value (codes "OUT_DIR") dir output.envs;
  out_dir = Some dir;
}

-- the output after a script with its atoms: its variables are set, and its directory, where it has one, must
-- be absolute; without one its atoms play no part
unfoldable pub output_after_script : BuildScript → List CfgAtom → BuildScriptOutput
    → Reading BuildScriptOutput
output_after_script script atoms output =
    let with_envs = record output { envs = with_pairs output.envs script.env } in
    if bytes_eq script.out_dir [] then Ok with_envs
    else absolute_output_path script.out_dir >>= λ dir. Ok (output_with_dir atoms with_envs dir)
