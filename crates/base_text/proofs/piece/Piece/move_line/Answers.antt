use Rattle.std.proofs.Common.{ℕ, List, ◌++◌, ◌≡◌, take}
use Rattle.base_text.specs.Part.{IsHeld}
use Rattle.base_text.specs.Pieces.{IsFirstNewline}
use Rattle.base_text.proofs.Parts.{Moves-found}
use Rattle.base_text.proofs.piece.Piece.move_line.Goals as goal

pub returns-in_ok-extend-in-Some-clause-ok : goal.returns-in_ok-extend-in-Some-clause-ok
returns-in_ok-extend-in-Some-clause-ok c =
    let bytes : c.rest-rest.result.now ≡ c.args.self.now = c.rest-rest.ensures in
    let first : IsFirstNewline c.args.self.now c.in-Some.at = rw bytes at c.in-Some.ensures in
    let adds : (line : List ℕ) → IsHeld line c.args.line.now → IsHeld (line ++ take c.in-Some.at c.args.self.now) c.extend.new.self = rw bytes at c.in_ok-extend-in-Some.ensures.ok in
    rw c.pass.ensures (Moves-found _ _ _ _ first adds c.in_ok-extend-in-Some.ensures.bound.0 c.in_ok-extend-in-Some.ensures.bound.1)
