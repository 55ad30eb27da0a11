use Rattle.std.proofs.Common.{◌∙◌, ap}
use Rattle.serde_json.specs.Data.{object}
use Rattle.serde_json.proofs.Views.{view-Object}
use Rattle.cargo_meta.specs.Metadata.{metadata_data, metadata_members}
use Rattle.cargo_meta.proofs.metadata.MetadataJson.write.Goals as goal

pub returns : goal.returns
unfolding metadata_data metadata_members
returns c =
    view-Object c.set-7.new.members
    ∙ ap object (rw (c.in_ok-set-7.ensures.set, c.in_ok-set_unless_null-2.ensures.set, c.in_ok-set-6.ensures.set, c.in_ok-set-5.ensures.set, c.in_ok-set-4.ensures.set, c.in_ok-set-3.ensures.set, c.in_ok-set_unless_null.ensures.set, c.in_ok-set-2.ensures.set, c.in_ok-set.ensures.set, c.new-fields.ensures.empty))
