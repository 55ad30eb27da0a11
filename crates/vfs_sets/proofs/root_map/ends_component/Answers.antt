use Rattle.std.proofs.Common.{◌∙◌, arith, sym}
use Rattle.std.proofs.lemmas.Bool.{both_ways, eq-eqb, le-ltb}
use Rattle.vfs_sets.proofs.ComponentLemmas.{ends_after, ends_at_end, ends_at_none, ends_before_slash}
use Rattle.vfs_sets.proofs.root_map.ends_component.Goals as goal
use Rattle.vfs_sets.proofs.root_map.ends_component.Goals.{then-size-text, else-size-text}

pub returns-then-text-size-eq47 : goal.returns-then-text-size-eq47
returns-then-text-size-eq47 c =
    elim c.if-size-text.branch [
      | then-size-text w ↦
          c.if-text-size-eq47.true ∙ sym (ends_at_end c.args.text.now c.args.size c.requires w.if-size-text.true)
      | else-size-text w ↦
          c.if-text-size-eq47.true
          ∙ sym (ends_before_slash c.args.text.now c.args.size c.requires (sym w.value-is ∙ c.if-text-size-eq47.true))
    ]

pub returns-then-size-gt0 : goal.returns-then-size-gt0
returns-then-size-gt0 c =
    elim c.if-size-text.branch [
      | then-size-text w ↦
          absurd (both_ways _ c.if-text-size-eq47.false (w.value-is ∙ eq-eqb _ _ w.if-size-text.true))
      | else-size-text w ↦
          sym (ends_after c.args.text.now c.args.size c.requires w.if-size-text.false
          (sym w.value-is ∙ c.if-text-size-eq47.false) (omega arith))
    ]

pub returns-else-size-gt0 : goal.returns-else-size-gt0
returns-else-size-gt0 c =
    elim c.if-size-text.branch [
      | then-size-text w ↦
          absurd (both_ways _ c.if-text-size-eq47.false (w.value-is ∙ eq-eqb _ _ w.if-size-text.true))
      | else-size-text w ↦
          le-ltb 0 c.args.size (omega arith)
          ∙ sym (ends_at_none c.args.text.now c.args.size c.requires w.if-size-text.false
          (sym w.value-is ∙ c.if-text-size-eq47.false) (omega arith))
    ]
