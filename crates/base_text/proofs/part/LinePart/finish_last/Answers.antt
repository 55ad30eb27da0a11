use Rattle.std.proofs.Common.{◌≡◌, ◌==◌, ◌∙◌, Some, false, [], true≢false, ap, sym, subst}
use Rattle.base_text.specs.Part.{Part}
use Rattle.base_text.proofs.Bytes.{empty_from, some_from}
use Rattle.base_text.proofs.Parts.{last_item-none, last_item-some}
use Rattle.base_text.proofs.part.LinePart.finish_last.Goals.{else-not-self-via-then-not-self+else-is_empty, else-not-self-via-else-not-self}
use Rattle.base_text.proofs.part.LinePart.finish_last.Goals as goal

pub returns-then-is_empty-clause-line : goal.returns-then-is_empty-clause-line
returns-then-is_empty-clause-line c =
    let empty : c.self.inside.bytes.items ≡ [] = empty_from c.self.inside.bytes.items (sym c.if-is_empty.true ∙ c.is_empty.ensures ∙ ap (λ n. n == 0) c.self.inside.bytes.ok.0) in
    rw (← c.self.view_is) (λ part h. last_item-none _ part h c.if-not-self.true empty)

pub returns-clause-line : goal.returns-clause-line
returns-clause-line c =
    let some : c.self.inside.is_long ≡ false → c.self.inside.bytes.items ≡ [] → ⊥ = elim c.else-not-self.branch [
      | else-not-self-via-then-not-self+else-is_empty w ↦ λ short. some_from c.self.inside.bytes.items (sym w.if-is_empty.false ∙ w.is_empty.ensures ∙ ap (λ n. n == 0) c.self.inside.bytes.ok.0)
      | else-not-self-via-else-not-self w ↦ λ short empty. true≢false (sym w.if-not-self.false ∙ short)
    ] in
    λ part h. ap Some (c.finish.ensures.line part h) ∙ last_item-some c.args.self.now part h (subst (λ (v : Part). v.is_long ≡ false → v.bytes ≡ [] → ⊥) c.self.view_is some)
