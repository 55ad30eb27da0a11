-- The lines of an error stream that are reported one after another, those of an output, and those of a whole question.
use Rattle.std.proofs.Common.{◌≡◌, ◌∙◌, ℕ, ◌+◌, ◌<◌, Bool, true, false, ◌||◌, arith, List, [], ◌∷◌, ◌++◌, codes, length, drop, get_or, Option, cond, ap, sym, refl, append_assoc, append-nil}
use Rattle.std.proofs.lemmas.List.{at_drop_all, at_drop_more}
use Rattle.std.specs.Str.Lines.{lines}
use Rattle.base_text_outside.specs.Runner.{answer_of}
use Rattle.base_text_outside.specs.declared.command.Output.{Output}
use Rattle.base_text_outside.specs.declared.command.Question.{Question}
use Rattle.base_text.specs.Progress.{TakesFront, TakesFront-after, TakesFront-more, TakesFront-none, with_lines, with_lines-next, with_lines-none}
use Rattle.pm_cargo_fetch.specs.Fetch.{Fetch}
use Rattle.pm_cargo_fetch.specs.Lines.{TakesLines}
use Rattle.pm_cargo_fetch.specs.Questions.{locked_question}
use Rattle.pm_cargo_fetch.specs.Reports.{answer_lines, begins_error, failure_lines, fetch_lines, output_lines, question_lines, reported_line, stream_lines}
use Rattle.pm_cargo_fetch.proofs.Lines.{TakesLines-cut, TakesLines-same, TakesLines-whole}

-- ---- an error stream

-- the next line of it
next_line : (before : Bool) (line : List ℕ) (more : List (List ℕ))
    → stream_lines before (line ∷ more) ≡ reported_line (before || begins_error line) line ∷ stream_lines (before || begins_error line) more
unfolding stream_lines
next_line before line more = refl

-- nothing is left of no lines
nothing_left : (hidden : Bool) → stream_lines hidden [] ≡ []
unfolding stream_lines
nothing_left hidden = refl

-- some lines have come, and the rest is still to come
pub record IsUnderWay (old now : Option (List (List ℕ))) (rest all : List (List ℕ)) : Type 0 where
  pub front : List (List ℕ)
  pub whole : front ++ rest ≡ all
  pub taken : now ≡ with_lines front old

-- no line has come
pub begun : (old : Option (List (List ℕ))) (all : List (List ℕ)) → IsUnderWay old old all all
begun old all = record { front = []; whole = refl; taken = sym (with_lines-none old) }

-- a line of a stream comes
pub line_came : (old now next : Option (List (List ℕ))) (before hidden : Bool) (line : List ℕ) (ls all : List (List ℕ)) (n m : ℕ)
    → n < length ls → line ≡ get_or ls n line → m ≡ n + 1 → hidden ≡ (before || begins_error line)
    → IsUnderWay old now (stream_lines before (drop n ls)) all → next ≡ with_lines (reported_line hidden line ∷ []) now
    → IsUnderWay old next (stream_lines hidden (drop m ls)) all
line_came old now next before hidden line ls all n m within is count hides way put =
    let split : stream_lines before (drop n ls) ≡ reported_line hidden line ∷ stream_lines hidden (drop m ls)
    = at_drop_more (stream_lines before) ls n line within
    ∙ ap (λ (x : List ℕ). stream_lines before (x ∷ drop (n + 1) ls)) (sym is)
    ∙ next_line before line (drop (n + 1) ls)
    ∙ ap (λ (b : Bool). reported_line b line ∷ stream_lines b (drop (n + 1) ls)) (sym hides)
    ∙ ap (λ (k : ℕ). reported_line hidden line ∷ stream_lines hidden (drop k ls)) (sym count) in
    record {
      front = way.front ++ reported_line hidden line ∷ [];
      whole = append_assoc way.front (reported_line hidden line ∷ []) (stream_lines hidden (drop m ls)) ∙ ap (λ (r : List (List ℕ)). way.front ++ r) (sym split) ∙ way.whole;
      taken = put ∙ ap (with_lines (reported_line hidden line ∷ [])) way.taken ∙ with_lines-next old way.front (reported_line hidden line ∷ []);
    }

-- the stream ends
pub all_came : (old now : Option (List (List ℕ))) (hidden : Bool) (ls all : List (List ℕ)) (n : ℕ) → n ≡ length ls
    → IsUnderWay old now (stream_lines hidden (drop n ls)) all → now ≡ with_lines all old
all_came old now hidden ls all n end way =
    let none : stream_lines hidden (drop n ls) ≡ [] = at_drop_all (stream_lines hidden) ls n (omega (arith, end)) ∙ nothing_left hidden in
    way.taken ∙ ap (λ (f : List (List ℕ)). with_lines f old) (sym (append-nil way.front) ∙ ap (λ (r : List (List ℕ)). way.front ++ r) (sym none) ∙ way.whole)

-- no more of it comes
pub some_came : (old now last : Option (List (List ℕ))) (rest all : List (List ℕ)) → last ≡ now → IsUnderWay old now rest all → TakesFront old last all
some_came old now last rest all same way = record { front = way.front; missing = rest; whole = way.whole; taken = same ∙ way.taken }

-- ---- an output

module _ (output : Output) (text : List ℕ) (is : text ≡ output.err) where
  -- the lines of its stream are those of the text
  stream_is : stream_lines false (lines text) ++ failure_lines output.ok ≡ output_lines output
  stream_is = ap (λ (e : List ℕ). stream_lines false (lines e) ++ failure_lines output.ok) is

  -- the stream was cut off
  pub stream_cut : {before now : Type 0} {old new : Option (List (List ℕ))} → TakesLines before old new (stream_lines false (lines text)) → now → TakesLines now old new (output_lines output)
  stream_cut taken stopped = TakesLines-same (TakesLines-cut (failure_lines output.ok) taken stopped) stream_is

  -- all of it came, and the command did not fail
  pub stream_ended : {gave_up : Type 0} (old new : Option (List (List ℕ))) → output.ok ≡ true → new ≡ with_lines (stream_lines false (lines text)) old → TakesLines gave_up old new (output_lines output)
  stream_ended old new ok all =
      TakesLines-whole old new (output_lines output)
      (all ∙ ap (λ (ls : List (List ℕ)). with_lines ls old)
      (sym (append-nil (stream_lines false (lines text))) ∙ ap (λ (b : Bool). stream_lines false (lines text) ++ failure_lines b) (sym ok) ∙ stream_is))

  -- all of it came, and that the command failed
  pub failure_came : {gave_up : Type 0} (old between new : Option (List (List ℕ))) → output.ok ≡ false → between ≡ with_lines (stream_lines false (lines text)) old
      → new ≡ with_lines (codes "cargo metadata: failed" ∷ []) between → TakesLines gave_up old new (output_lines output)
  failure_came old between new failed all last =
      TakesLines-whole old new (output_lines output)
      (last ∙ ap (with_lines (codes "cargo metadata: failed" ∷ [])) all ∙ with_lines-next old (stream_lines false (lines text)) (codes "cargo metadata: failed" ∷ [])
      ∙ ap (λ (ls : List (List ℕ)). with_lines ls old) (ap (λ (b : Bool). stream_lines false (lines text) ++ failure_lines b) (sym failed) ∙ stream_is))

-- ---- a question

module _ (old started : Option (List (List ℕ))) (answer : Option Output) (first : started ≡ with_lines (codes "cargo metadata: started" ∷ []) old) where
  -- its last line
  abbrev the_end : List (List ℕ)
  the_end = codes "cargo metadata: finished" ∷ []

  -- it was asked
  pub question_begun : TakesFront old started (question_lines answer)
  question_begun = TakesFront-after old started started (codes "cargo metadata: started" ∷ []) (answer_lines answer ++ the_end) first (TakesFront-none started (answer_lines answer ++ the_end))

  -- a part of its answer was reported
  pub question_part : (reported : Option (List (List ℕ))) → TakesFront started reported (answer_lines answer) → TakesFront old reported (question_lines answer)
  question_part reported part =
      TakesFront-after old started reported (codes "cargo metadata: started" ∷ []) (answer_lines answer ++ the_end) first (TakesFront-more started reported (answer_lines answer) the_end part)

  -- it is at its end
  pub question_whole : (reported last : Option (List (List ℕ))) → reported ≡ with_lines (answer_lines answer) started → last ≡ with_lines the_end reported → last ≡ with_lines (question_lines answer) old
  question_whole reported last middle final =
      final ∙ ap (with_lines the_end) middle ∙ with_lines-next started (answer_lines answer) the_end ∙ ap (with_lines (answer_lines answer ++ the_end)) first
      ∙ with_lines-next old (codes "cargo metadata: started" ∷ []) (answer_lines answer ++ the_end)

-- ---- what is fetched

module _ (whole fetch : Fetch) (same : fetch ≡ whole) (locked : Bool) (answers : List (Question × Output)) where
  -- the full question is asked
  pub lines_asked : fetch.no_deps ≡ false → question_lines (answer_of answers (locked_question fetch.full locked)) ≡ fetch_lines whole locked answers
  lines_asked asks =
      ap (λ (b : Bool). cond b [] (question_lines (answer_of answers (locked_question fetch.full locked)))) (sym asks) ∙ ap (λ (f : Fetch). fetch_lines f locked answers) same

  -- the light answer is enough
  pub lines_light : fetch.no_deps ≡ true → [] ≡ fetch_lines whole locked answers
  lines_light light =
      ap (λ (b : Bool). cond b [] (question_lines (answer_of answers (locked_question fetch.full locked)))) (sym light) ∙ ap (λ (f : Fetch). fetch_lines f locked answers) same
