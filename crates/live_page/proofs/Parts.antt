-- How a line is taken from a piece.
use Rattle.std.proofs.Common.{ℕ, ◌+◌, ◌≡◌, true, List, ◌++◌, take, drop}
use Rattle.base_text.specs.Pieces.{IsFirstNewline}
use Rattle.base_text.proofs.Bytes.{IsFirstNewline-cut}
use Rattle.live_page.specs.Pieces.{MovesToLine}

-- a line that ends at the first newline
pub Moves-found : (piece : List ℕ) (at : ℕ) (line line' : List ℕ) → IsFirstNewline piece at → line' ≡ line ++ take at piece → MovesToLine true piece (drop (at + 1) piece) line line'
Moves-found piece at line line' first is = record {
  part = take at piece;
  uncut = first.before;
  piece_is = IsFirstNewline-cut piece at first;
  line_is = is;
  whole = λ e. absurd (cc);
}
