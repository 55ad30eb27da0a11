-- What a reader gives is the front of the source's lines, and at the end all of them.
use Rattle.std.proofs.Common.{◌≡◌, ℕ, ◌<◌, ◌^◌, length, length-append, true, false, List, [], ◌++◌, Option, Some, map, refl, sym, ap, subst, ◌∙◌, append_assoc, append-nil, arith}
use Rattle.std.proofs.lemmas.List.{map-append}
use Rattle.std.specs.Io.KnownBytes.{Consumes}
use Rattle.std.proofs.KnownBytes.{Consumes-nil}
use Rattle.base_text_outside.specs.Source.{SourceShows-after, SourceShows-all}
use Rattle.base_text.specs.Lines.{last_line, lines_of, partial_line, whole_lines}
use Rattle.base_text.specs.Part.{item_of}
use Rattle.base_text.specs.Reader.{GaveLines, IsCut, IsFrontOf, Reader, new_reader}
use Rattle.base_text.proofs.Cuts.{partial_line-nil, whole_lines-append}
use Rattle.base_text.proofs.LineEnds.{lines_of-nil, lines_of-whole}

-- nothing was given before the first read
pub Gave-fresh : (max : ℕ) (left : Option (List ℕ)) → GaveLines left left [] (new_reader max)
Gave-fresh max left = record {
  front = [];
  line = [];
  taken = Consumes-nil left;
  items = ap (map (item_of max)) lines_of-nil;
  held = (refl, omega arith);
  uncut = refl;
  within = omega arith;
  cut = partial_line-nil;
}

-- the bytes that were taken are fewer than 2^64
pub Gave-within : (first left : Option (List ℕ)) (given : List (Option (List ℕ))) (reader : Reader) → GaveLines first left given reader
    → (taken : List ℕ) × Consumes first left taken × (length taken < 2 ^ 64)
Gave-within first left given reader gave = (
  gave.front ++ (gave.line ++ reader.piece),
  gave.taken,
  omega (arith, gave.within, length-append gave.front (gave.line ++ reader.piece), length-append gave.line reader.piece),
)

-- more bytes give more lines, where the first end in a newline
lines_of-front : (front rest : List ℕ) → partial_line front ≡ [] → IsFrontOf (lines_of front) (lines_of (front ++ rest))
unfolding lines_of
lines_of-front front rest cut =
    let more = whole_lines-append front rest in
    record {
      rest = more.rest ++ last_line (partial_line (front ++ rest));
      is = ap (λ ls. ls ++ last_line (partial_line (front ++ rest))) more.is ∙ append_assoc (whole_lines front) more.rest (last_line (partial_line (front ++ rest)))
          ∙ ap (λ ls. ls ++ (more.rest ++ last_line (partial_line (front ++ rest)))) (sym (lines_of-whole front cut));
    }

module _ (bytes : List ℕ) (left : Option (List ℕ)) (given : List (Option (List ℕ))) (reader : Reader) (gave : GaveLines (Some bytes) left given reader) where
  -- all lines at the end
  pub Gave-all : reader.is_done ≡ true → given ≡ map (item_of reader.part.max_line) (lines_of bytes)
  Gave-all done =
      let cut : IsCut true gave.front (gave.line ++ reader.piece) left = subst (λ d. IsCut d gave.front (gave.line ++ reader.piece) left) done gave.cut in
      let taken : Consumes (Some bytes) left gave.front = subst (Consumes (Some bytes) left) (ap (λ r. gave.front ++ r) cut.0 ∙ append-nil gave.front) gave.taken in
      let all : bytes ≡ gave.front = SourceShows-all (Some bytes) left bytes gave.front refl taken cut.1 in
      sym gave.items ∙ ap (λ bs. map (item_of reader.part.max_line) (lines_of bs)) (sym all)

  -- the first of them before that
  pub Gave-front : IsFrontOf given (map (item_of reader.part.max_line) (lines_of bytes))
  Gave-front =
      elim reader.is_done as (λ d. reader.is_done ≡ d → IsCut d gave.front (gave.line ++ reader.piece) left → IsFrontOf given (map (item_of reader.part.max_line) (lines_of bytes))) [
        | true ↦ λ done cut. record { rest = []; is = sym (Gave-all done) ∙ sym (append-nil given) }
        | false ↦ λ done cut.
            let after = SourceShows-after (Some bytes) left bytes _ refl gave.taken in
            let rest = (gave.line ++ reader.piece) ++ after.0 in
            let whole : bytes ≡ gave.front ++ rest = after.1 ∙ append_assoc gave.front (gave.line ++ reader.piece) after.0 in
            let more = lines_of-front gave.front rest cut in
            record {
              rest = map (item_of reader.part.max_line) more.rest;
              is = ap (λ bs. map (item_of reader.part.max_line) (lines_of bs)) whole ∙ ap (map (item_of reader.part.max_line)) more.is ∙ map-append (item_of reader.part.max_line) (lines_of gave.front) more.rest
                  ∙ ap (λ is. is ++ map (item_of reader.part.max_line) more.rest) gave.items;
            }
      ] refl gave.cut
