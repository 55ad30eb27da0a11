use Rattle.std.proofs.Common.{◌≡◌, ◌∙◌, ◌+◌, [], ◌∷◌, ◌++◌, ◌<◌, ℕ, List, ap, arith, length, get_or, subst, sym}
use Rattle.std.proofs.lemmas.List.{get_or_default}
use Rattle.std.specs.Prelude.{slice_index, slice_set}
use Rattle.graph_base.specs.Ring.{lower}
use Rattle.graph_base.specs.Spreading.{KeepsOrder}
use Rattle.graph_base.proofs.PushingLemmas.{adds_then, ring_then}
use Rattle.graph_base.proofs.RingLemmas.{prev_in}
use Rattle.graph_base.proofs.pushing.push_position.Goals as goal

pub returns-clause-ring : goal.returns-clause-ring
returns-clause-ring c =
    let prev_same : c.reserve-3.new.self.items ≡ c.args.prev.now.items = c.in_ok-reserve-3.ensures.items in
    let prev_some : 0 < length c.reserve-3.new.self.items =
    omega (arith, ap length prev_same, c.requires.ring.back.long, c.requires.ring.rising.long, c.requires.ring.rising.some) in
    let keeps : KeepsOrder c.args.labels.now.items c.make_room_on_top-low.new.labels.items =
    subst (λ (ls : List ℕ). KeepsOrder ls c.make_room_on_top-low.new.labels.items) c.in_ok-reserve.ensures.items c.make_room_on_top-low.ensures.keeps in
    let low_is : c.make_room_on_top-low.result ≡ lower c.make_room_on_top-low.new.labels.items (slice_index c.args.prev.now.items 0) =
    c.make_room_on_top-low.ensures.low ∙ ap (λ (ps : List ℕ). lower c.make_room_on_top-low.new.labels.items (slice_index ps 0)) (c.as_slice-2.ensures.value ∙ prev_same) in
    let new_is : c.len-new.result ≡ length c.make_room_on_top-low.new.labels.items = omega (arith, c.len-new.ensures, c.make_room_on_top-low.new.labels.ok.0) in
    let last_is : c.index-last.result.now ≡ slice_index c.args.prev.now.items 0 =
    c.index-last.ensures ∙ get_or_default c.reserve-3.new.self.items 0 c.index-last.result.now 0 prev_some ∙ ap (λ (ps : List ℕ). slice_index ps 0) prev_same in
    let three : c.push_reserved-3.new.self.items ≡ c.args.prev.now.items ++ c.index-last.result.now ∷ [] =
    c.push_reserved-3.ensures.items ∙ ap (λ (ps : List ℕ). ps ++ c.index-last.result.now ∷ []) prev_same in
    let one : c.push_reserved-2.new.self.items ≡ c.args.next.now.items ++ 0 ∷ [] =
    c.push_reserved-2.ensures.items ∙ ap (λ (ps : List ℕ). ps ++ 0 ∷ []) c.in_ok-reserve-2.ensures.items in
    ring_then c.args.labels.now.items c.make_room_on_top-low.new.labels.items c.push_reserved.new.self.items c.args.next.now.items c.push_reserved-2.new.self.items c.tie_last.new.next.items
    c.args.prev.now.items c.push_reserved-3.new.self.items c.tie_last.new.prev.items c.make_room_on_top-low.result c.top_label-label.result c.index-last.result.now c.len-new.result
    c.requires.ring keeps low_is c.top_label-label.ensures.above c.top_label-label.ensures.below c.requires.short new_is last_is c.push_reserved.ensures.items one c.tie_last.ensures.next three
    c.tie_last.ensures.prev

pub returns-clause-ok : goal.returns-clause-ok
returns-clause-ok c =
    let keeps : KeepsOrder c.args.labels.now.items c.make_room_on_top-low.new.labels.items =
    subst (λ (ls : List ℕ). KeepsOrder ls c.make_room_on_top-low.new.labels.items) c.in_ok-reserve.ensures.items c.make_room_on_top-low.ensures.keeps in
    let low_is : c.make_room_on_top-low.result ≡ lower c.make_room_on_top-low.new.labels.items (slice_index c.args.prev.now.items 0) =
    c.make_room_on_top-low.ensures.low ∙ ap (λ (ps : List ℕ). lower c.make_room_on_top-low.new.labels.items (slice_index ps 0)) (c.as_slice-2.ensures.value ∙ c.in_ok-reserve-3.ensures.items) in
    adds_then c.args.labels.now.items c.make_room_on_top-low.new.labels.items c.push_reserved.new.self.items c.args.next.now.items c.args.prev.now.items c.make_room_on_top-low.result c.top_label-label.result
    c.requires.ring keeps low_is c.top_label-label.ensures.above c.top_label-label.ensures.below c.requires.short c.push_reserved.ensures.items
