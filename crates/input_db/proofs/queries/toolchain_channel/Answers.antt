use Rattle.std.proofs.Common.{◌∙◌, ap, rules, sym}
use Rattle.std.specs.Option.{option_and_then}
use Rattle.crate_graph_values.specs.ReleaseChannel.{channel_of}
use Rattle.input_db.specs.Channel.{pre_release}
use Rattle.input_db.proofs.queries.toolchain_channel.Goals as goal

pub returns : goal.returns
returns g c =
    c.from_text.ensures
    ∙ sym (ap (option_and_then (λ workspace. option_and_then (λ version. channel_of (pre_release version)) workspace.toolchain))
    c.workspace_data.ensures ∙ search (rules))
