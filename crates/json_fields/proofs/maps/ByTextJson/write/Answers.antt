use Rattle.std.proofs.Common.{◌≡◌, ◌++◌, ◌∷◌, [], List, ℕ, string_bytes, sym, ap, ◌∙◌, subst, append_assoc}
use Rattle.base_values.specs.ByText.{HasAscendingKeys, text_entries}
use Rattle.base_values.proofs.TextMaps.{IsAboveKeys-middle, text_entries-ascending}
use Rattle.json_fields.proofs.Entries.{set_member-last}
use Rattle.json_fields.proofs.maps.ByTextJson.write.Goals as goal

pub loop-key-preserved : goal.loop-key-preserved
loop-key-preserved g c =
    let done = c.loop-key.invariant.0 in
    let e : List ℕ × g.row.T.Denot = (string_bytes c.in-Some.key.now, c.in-Some.value.now) in
    let left = text_entries c.next.new.self in
    let whole : done ++ e ∷ left ≡ c.args.self.now = ap (λ l. done ++ text_entries l) (sym c.in-Some.ensures.steps) ∙ c.loop-key.invariant.1 in
    let ascending : HasAscendingKeys c.args.self.now = rw c.as_map.ensures at (text_entries-ascending c.as_map.result.now.entries c.iter-key-items.ensures.ordered) in
    let P : List (List ℕ × g.row.T.Denot) → Type 0 = λ es. HasAscendingKeys es in
    let above = IsAboveKeys-middle done e left (subst P (sym whole) ascending) in
    let last = set_member-last g.T.Json.writes done e.0 e.1 above in
    (done ++ e ∷ [], append_assoc done (e ∷ []) left ∙ whole, c.in_ok-set.ensures.set ∙ rw (c.as_str.ensures.value, c.loop-key.invariant.2) last)
