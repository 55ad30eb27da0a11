-- The channel that a crate's toolchain was released on.
use Rattle.std.specs.Prelude.{ℕ, List, Option}
use Rattle.std.specs.Option.{option_and_then, option_map}
use Rattle.base_values.specs.Version.{Parts}
use Rattle.crate_graph_values.specs.ReleaseChannel.{channel_of}
use Rattle.crate_graph_values.specs.declared.release_channel.ReleaseChannel.{ReleaseChannel}
use Rattle.input_db.specs.Identity.{Table, input_in}

-- the pre-release part of a version
abbrev pub pre_release : Parts → List ℕ
pre_release version = version.3

-- the channel that the pre-release of a crate's toolchain names, where the crate has one
abbrev pub channel_in : Table → ℕ → Option ReleaseChannel
channel_in crates krate =
    option_and_then
    (λ workspace. option_and_then (λ version. channel_of (pre_release version)) workspace.toolchain)
    (option_map (λ input. input.workspace_data) (input_in crates krate))
