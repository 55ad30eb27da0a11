-- How an atom of conditional compilation is written, as `rustc --print cfg` writes it.
use Rattle.std.specs.Prelude.{ℕ, Bool, Option, Some, None, List, ◌++◌, ◌-◌, ◌==◌, ◌&&◌}
use Rattle.std.specs.Prelude.{length, nat_le, slice_index, slice_range, if◌then◌else◌, codes}
use Rattle.std.specs.List.{before_first, after_first, list_any}
use Rattle.std.specs.Option.{option_map}
use Rattle.base_text_outside.specs.declared.cfg.CfgAtom.{CfgAtom}
use Rattle.base_text_outside.specs.declared.cfg.CfgAtom.TheVariants.{Flag, KeyValue}
use Rattle.base_text_outside.specs.declared.cfg.CfgError.{CfgError}
use Rattle.base_text_outside.specs.declared.cfg.CfgError.TheVariants.{BadCfg, OutOfMemory}

-- whether a byte is `=`
abbrev pub is_equals : ℕ → Bool
is_equals b = b == 61

-- whether a byte is `"`
abbrev pub is_quote : ℕ → Bool
is_quote b = b == 34

-- what stands between the two quotes at the ends of a text
unfoldable pub unquote : List ℕ → Option (List ℕ)
unquote text =
    if nat_le 2 (length text) && is_quote (slice_index text 0)
    && is_quote (slice_index text (length text - 1))
    then Some (slice_range text 1 (length text - 1)) else None

-- the atom that a text names: a flag, or a key and after the first `=` a value in quotes
unfoldable pub atom_of : List ℕ → Option CfgAtom
atom_of text =
    if list_any is_equals text
    then option_map (λ value. KeyValue (before_first is_equals text) value)
    (unquote (after_first is_equals text))
    else Some (Flag text)

-- the text that names an atom
unfoldable pub atom_text : CfgAtom → List ℕ
atom_text (Flag name) = name
atom_text (KeyValue key value) = key ++ codes "=\"" ++ value ++ codes "\""

-- an error prints its name
abbrev pub cfg_error_text : CfgError → List ℕ
cfg_error_text BadCfg = codes "BadCfg"
cfg_error_text OutOfMemory = codes "OutOfMemory"
