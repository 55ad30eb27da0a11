use Rattle.std.proofs.Common.{◌≡◌, ℕ, suc, ◌+◌, ◌-◌, ◌<◌, List, ◌∷◌, length, sym, ap, ◌∙◌, arith}
use Rattle.std.specs.List.{range_with_len}
use Rattle.crate_graph.proofs.graph.CrateIdsIterator.next.Goals as goal

-- the first of the numbers from `next` up to `end`
first_of : (next end n : ℕ) → next < end → n ≡ next → range_with_len next (end - next) ≡ n ∷ range_with_len (next + 1) (end - (next + 1))
first_of next end n below is =
    let long : end - next ≡ suc (end - (next + 1)) = omega arith in
    ap (range_with_len next) long ∙ ap (λ m. m ∷ range_with_len (next + 1) (end - (next + 1))) (sym is)

fewer : (n : ℕ) (xs ys : List ℕ) → xs ≡ n ∷ ys → length ys < length xs
fewer n xs ys is = omega (arith, ap length is)

pub returns-clause-steps : goal.returns-clause-steps
returns-clause-steps c =
    sym c.self.view_is ∙ first_of c.self.inside.next c.self.inside.end _ c.if-self.false c.from_raw-id.ensures

pub returns-clause-goes : goal.returns-clause-goes
returns-clause-goes c =
    let steps = sym c.self.view_is ∙ first_of c.self.inside.next c.self.inside.end _ c.if-self.false c.from_raw-id.ensures in
    record { on = λ finite. (tt, tt, fewer _ _ _ steps); keeps = tt; rests = λ finite. tt }
