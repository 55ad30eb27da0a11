use Rattle.std.proofs.Common.{◌≡◌, ◌++◌, codes, drop, string_bytes}
use Rattle.std.specs.List.{flat_map}
use Rattle.cargo_meta.specs.Answer as answer
use Rattle.pm_cargo_fetch.proofs.words.line_text.Given as goal

-- the text so far, with the words that are left, each behind a space
abbrev pub invariant-loop-word : goal.invariant-loop-word
invariant-loop-word l =
    string_bytes l.text ++ flat_map (λ word. codes " " ++ word) (drop l.word-index l.line.words) ≡ answer.line_text l.line
