-- Variables that a command sets beside those of the user: each stands last, so that its value counts.
use Rattle.std.specs.Prelude.{ℕ, Bool, if◌then◌else◌, List, [], ◌∷◌, ◌++◌, Some, codes}
use Rattle.base_text_outside.specs.declared.command.CommandLine.{CommandLine}

-- a command that sets a variable last, so that this value counts
abbrev pub with_last_variable : List ℕ → List ℕ → CommandLine → CommandLine
with_last_variable name value line = record line { env = line.env ++ (name, Some value) ∷ [] }

-- a command whose `cargo` takes itself for one of the nightly channel, where that is wanted: that channel
-- alone has unstable options
abbrev pub with_channel : Bool → CommandLine → CommandLine
with_channel is_wanted line =
    if is_wanted then with_last_variable (codes "__CARGO_TEST_CHANNEL_OVERRIDE_DO_NOT_USE_THIS") (codes "nightly") line
    else line
