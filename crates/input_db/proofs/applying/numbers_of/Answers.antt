use Rattle.std.proofs.Common.{ℕ, List, ◌∙◌, ap, sym}
use Rattle.std.proofs.lemmas.Bool.{cond-false, cond-true}
use Rattle.std.specs.BTreeSet.{insert_key}
use Rattle.std.specs.Ordering.{nat_cmp}
use Rattle.input_db.proofs.Numbers.{numbers_more}
use Rattle.input_db.proofs.applying.numbers_of.Goals.{then-root-is_library+in_ok-insert, else-root-is_library}
use Rattle.input_db.proofs.applying.numbers_of.Goals as goal

pub loop-number-preserved : goal.loop-number-preserved
loop-number-preserved c =
    let root = c.index-roots-number in
    let more =
    numbers_more c.args.is_library c.args.roots.now c.loop-number.number root.result c.loop-number-test.true
    root.is in
    elim c.if-root-is_library.branch [
      | then-root-is_library+in_ok-insert w ↦
          ap (λ s. s.keys) w.numbers-is ∙ w.in_ok-insert.ensures.keys
          ∙ ap (λ (ks : List ℕ). insert_key nat_cmp ks c.loop-number.number) c.loop-number.invariant
          ∙ sym (more ∙ cond-true _ _ _ w.if-root-is_library.true)
      | else-root-is_library w ↦
          ap (λ s. s.keys) w.numbers-is ∙ c.loop-number.invariant
          ∙ sym (more ∙ cond-false _ _ _ w.if-root-is_library.false)
    ]
