use Rattle.std.proofs.Common.{refl}
use Rattle.pm_json.specs.CrateData.{crate_head_from}
use Rattle.pm_json.proofs.crate_rows.read_head.Goals as goal
use Rattle.json_fields.proofs.Steps.{read_rows, read_on}

pub returns : goal.returns
unfolding crate_head_from
returns c = record {
  exact = read_rows _ _
      (read_on _ c.in_ok-display_name.ensures.exact
      (read_on _ c.in_ok-root_module.ensures.exact
      (read_on _ c.in_ok-edition.ensures.exact
      (read_on _ c.in_ok-version.ensures.exact
      (read_on _ c.in_ok-deps.ensures.exact
      (read_on _ c.in_ok-cfg_groups.ensures.exact
      (read_on _ c.in_ok-cfg.ensures.exact
      (read_on _ c.in_ok-target.ensures.exact
      (record { is = refl })))))))));
}
