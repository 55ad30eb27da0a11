-- The channels as the pre-release part of a toolchain's version names them.
use Rattle.std.specs.Prelude.{ℕ, List, [], Option, Some, None, codes, if◌then◌else◌, ◌||◌, nat_eq}
use Rattle.std.specs.List.{starts_with}
use Rattle.std.specs.Str.{bytes_eq}
use Rattle.crate_graph_values.specs.declared.release_channel.ReleaseChannel.{ReleaseChannel}
use Rattle.crate_graph_values.specs.declared.release_channel.ReleaseChannel.TheVariants.{Stable, Beta, Nightly}

-- the name of a channel
abbrev pub channel_text : ReleaseChannel → List ℕ
channel_text Stable = codes "stable"
channel_text Beta = codes "beta"
channel_text Nightly = codes "nightly"

-- the channel that a pre-release names: a beta has a number behind the word
abbrev pub channel_of : List ℕ → Option ReleaseChannel
channel_of text =
    if bytes_eq text [] || bytes_eq text (codes "stable") then Some Stable
    else if bytes_eq text (codes "nightly") then Some Nightly
    else if starts_with nat_eq text (codes "beta") then Some Beta
    else None
