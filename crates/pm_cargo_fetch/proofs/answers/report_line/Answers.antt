use Rattle.std.proofs.Common.{◌≡◌, ◌∙◌, ◌++◌, [], ◌∷◌, Bool, List, ap, arith, codes, string_bytes, sym, ℕ}
use Rattle.std.proofs.lemmas.Grind.{common_steps}
use Rattle.base_text.specs.Progress.{with_lines}
use Rattle.pm_cargo_fetch.specs.Reports.{reported_line}
use Rattle.pm_cargo_fetch.proofs.answers.report_line.Goals as goal

pub returns-then-is_hidden-clause-ok : goal.returns-then-is_hidden-clause-ok
returns-then-is_hidden-clause-ok g c =
    c.line.ensures ∙ ap (λ (b : Bool). with_lines (reported_line b c.args.line.now ∷ []) (g.P.Progress.lines c.args.progress.now)) (sym c.if-is_hidden.true)

pub returns-clause-ok : goal.returns-clause-ok
returns-clause-ok g c =
    let shown : string_bytes c.in_ok-text.text ≡ codes "cargo metadata: " ++ c.args.line.now = grind (arith, common_steps, c.in_ok-text.ensures.ok) in
    c.line-2.ensures
    ∙ ap (λ (text : List ℕ). with_lines (text ∷ []) (g.P.Progress.lines c.args.progress.now)) (c.as_str.ensures.value ∙ shown)
    ∙ ap (λ (b : Bool). with_lines (reported_line b c.args.line.now ∷ []) (g.P.Progress.lines c.args.progress.now)) (sym c.if-is_hidden.false)
