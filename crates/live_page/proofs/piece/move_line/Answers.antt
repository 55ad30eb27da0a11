use Rattle.std.proofs.Common.{arith, ap, ◌∙◌, ◌≡◌, ◌++◌, take}
use Rattle.base_text.specs.Pieces.{IsFirstNewline}
use Rattle.live_page.proofs.Parts.{Moves-found}
use Rattle.live_page.proofs.piece.move_line.Goals as goal

pub returns-in_ok-extend_from_slice-in-Some-clause-ok :
    goal.returns-in_ok-extend_from_slice-in-Some-clause-ok
returns-in_ok-extend_from_slice-in-Some-clause-ok c =
    let bytes : c.rest-rest.result.now ≡ c.args.piece.now = c.rest-rest.ensures in
    let first : IsFirstNewline c.args.piece.now c.in-Some.at = rw bytes at c.in-Some.ensures in
    let line : c.extend_from_slice.new.self.items ≡ c.args.line.now.items ++ take c.in-Some.at c.args.piece.now =
    (rw bytes at c.in_ok-extend_from_slice-in-Some.ensures.items) ∙ ap (λ n. c.args.line.now.items ++ take n c.args.piece.now) (omega arith) in
    rw c.pass.ensures (Moves-found _ _ _ _ first line)
