use Rattle.pm_cargo_config.proofs.Equalities.{overrides}
use Rattle.pm_cargo_config.proofs.laws.equality_of_overrides_is_content.Goals as goal

pub returns : goal.returns
returns c =
    let diffs = c.equality_of_cfgs_is_content.ensures.diffs in
    overrides _ _ diffs (c.equality_of_holders_is_content.ensures.by_text diffs)
