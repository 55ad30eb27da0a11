-- The list is sorted, and entries are equal where they tie.
use Rattle.std.proofs.Common.{◌∙◌, ap}
use Rattle.std.proofs.lemmas.List.Filters.{dedup_is}
use Rattle.std.specs.List.{dedup}
use Rattle.std.specs.Ordering.{eq_by_cmp}
use Rattle.live_page.specs.Entries.{distinct_entries, entry_cmp}
use Rattle.live_page.specs.contracts.crate_entry.CrateEntryPartialEq.TheImpl as equality
use Rattle.live_page.specs.contracts.crate_entry.CrateEntryOrd.TheImpl.Laws as order
use Rattle.live_page.proofs.entries.crate_entries.Goals as goal

pub returns : goal.returns
returns c =
    dedup_is (equality.ghosts).eq c.sort_all.new.items.items c.dedup.new.self.items c.dedup.ensures.filtered
    ∙ ap (λ eq. dedup eq c.sort_all.new.items.items) (λ i x y. order.matches_eq-law x y i)
    ∙ ap (dedup (eq_by_cmp entry_cmp)) c.in_ok-sort_all.ensures.sorted
    ∙ ap distinct_entries c.in_ok-entries.ensures
