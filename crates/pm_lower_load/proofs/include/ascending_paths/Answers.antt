use Rattle.std.proofs.Common.{◌∙◌, ap}
use Rattle.std.proofs.lemmas.List.Filters.{dedup_is}
use Rattle.std.specs.List.{dedup}
use Rattle.base_text_paths.specs.PathOrder.{path_eq}
use Rattle.pm_lower_load.proofs.include.ascending_paths.Goals as goal

pub returns : goal.returns
returns c =
    c.new.ensures
    ∙ dedup_is path_eq c.sort_all.new.items.items c.dedup.new.self.items c.dedup.ensures.filtered
    ∙ ap (dedup path_eq) c.in_ok-sort_all.ensures.sorted
