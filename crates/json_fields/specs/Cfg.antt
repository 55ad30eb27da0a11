-- an atom of conditional compilation as tables read and write it: a text that `parse_cfg` reads
use Rattle.std.specs.Prelude.{ℕ, List, [], Option, Some, None, Ok, Err}
use Rattle.serde_json.specs.Data.{Data}
use Rattle.base_text_outside.specs.Cfg.{atom_of, atom_text}
use Rattle.base_text_outside.specs.declared.cfg.CfgAtom.{CfgAtom}
use Rattle.json_fields.specs.Outcome.{Reading}
use Rattle.json_fields.specs.TextJson.{text_form_at, text_form_data}

-- the atom that a text names, or a miss of this place
abbrev pub named_or_missed : Option CfgAtom → Reading CfgAtom
named_or_missed None = Err []
named_or_missed (Some atom) = Ok atom

-- the atom that a text is
unfoldable pub cfg_of : List ℕ → Reading CfgAtom
cfg_of text = named_or_missed (atom_of text)

-- a text that is an atom
abbrev pub cfg_at : Data → Reading CfgAtom
cfg_at = text_form_at cfg_of

-- an atom as its text
abbrev pub cfg_data : CfgAtom → Data
cfg_data = text_form_data atom_text
