use Rattle.std.proofs.Common.{◌≡◌, ◌∙◌, [], ◌∷◌, List, ap, arith, string_bytes, ℕ}
use Rattle.std.proofs.lemmas.Grind.{common_steps}
use Rattle.base_text.specs.Progress.{with_lines}
use Rattle.pm_tools.specs.Lines.{compiler_line}
use Rattle.pm_tools.proofs.lines.report_message.Goals as goal

pub returns-clause-ok : goal.returns-clause-ok
returns-clause-ok g c =
    let shown : string_bytes c.in_ok-text.text ≡ compiler_line c.args.target.now = grind (arith, common_steps, c.in_ok-text.ensures.ok) in
    c.line.ensures ∙ ap (λ (text : List ℕ). with_lines (text ∷ []) (g.P.Progress.lines c.args.progress.now)) (c.as_str.ensures.value ∙ shown)
