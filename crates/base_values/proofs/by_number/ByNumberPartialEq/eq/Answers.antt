use Rattle.std.proofs.Common.{◌≡◌, ◌∙◌, false, sym, ◌&&◌, nat_eq}
use Rattle.std.specs.Cmp.Lexicographic.{pointwise}
use Rattle.base_values.proofs.MapEntries.{entries-from_entries, nat_eq-differ, pointwise-lengths}
use Rattle.base_values.proofs.by_number.ByNumberPartialEq.eq.Goals as goal

pub returns-then-len : goal.returns-then-len
returns-then-len g c =
    rw (← c.self.view_is, ← c.other.view_is, entries-from_entries _ c.len.ensures.ordered, entries-from_entries _ c.len-2.ensures.ordered)
    c.eq.ensures

pub returns-else-len : goal.returns-else-len
returns-else-len g c =
    let mine = c.self.inside.values.entries in
    let theirs = c.other.inside.values.entries in
    let differ : pointwise (λ p q. nat_eq p.0 q.0 && g.V.PartialEq.eq p.1 q.1) mine theirs ≡ false =
    pointwise-lengths _ mine theirs
    (λ same. c.if-len.false (c.len.ensures.len ∙ same ∙ sym c.len-2.ensures.len)) in
    rw (← c.self.view_is, ← c.other.view_is, entries-from_entries mine c.len.ensures.ordered, entries-from_entries theirs c.len-2.ensures.ordered)
    (nat_eq-differ c.len.result c.len-2.result c.if-len.false ∙ sym differ)
