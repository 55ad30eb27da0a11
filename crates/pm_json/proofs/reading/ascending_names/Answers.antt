use Rattle.std.proofs.Common.{◌∙◌, ap}
use Rattle.std.proofs.lemmas.List.Filters.{dedup_is}
use Rattle.std.specs.Cmp.Lexicographic.{pointwise}
use Rattle.std.specs.List.{dedup}
use Rattle.std.specs.Prelude.{nat_eq}
use Rattle.base_values.specs.ByText.{text_cmp}
use Rattle.base_values.specs.Sorted.{sorted}
use Rattle.pm_json.proofs.reading.ascending_names.Goals as goal

pub returns : goal.returns
returns c =
    dedup_is (pointwise nat_eq) c.sort_all.new.items.items c.dedup.new.self.items c.dedup.ensures.filtered
    ∙ ap (dedup (pointwise nat_eq)) (c.in_ok-sort_all.ensures.sorted ∙ ap (sorted text_cmp) c.into_inner-names.ensures)
