use Rattle.std.proofs.Common.{◌∙◌}
use Rattle.std.proofs.lemmas.List.Filters.{dedup_is}
use Rattle.base_text_paths.proofs.CfgSets.{settled}
use Rattle.base_text_paths.proofs.cfg_options.settle.Goals as goal

pub returns : goal.returns
returns c =
    let kept = settled _ _ c.sort_unstable.ensures.permutation c.sort_unstable.ensures.sorted in
    let is = dedup_is _ _ _ c.dedup.ensures.filtered in
    record { sorted = rw is kept.0; same = is ∙ kept.1 }
