use Rattle.std.proofs.Common.{◌≡◌, ◌∙◌, [], ◌∷◌, List, Option, ap, arith, string_bytes, sym, ℕ}
use Rattle.std.proofs.lemmas.Grind.{common_steps}
use Rattle.std.specs.Option.{unwrap_or}
use Rattle.base_text_paths.specs.Arena.{number_of}
use Rattle.base_text.specs.Progress.{with_lines}
use Rattle.pm_tools.specs.Lines.{script_line, name_at}
use Rattle.pm_tools.specs.Packages.{lent_packages}
use Rattle.pm_tools.proofs.lines.report_script.Goals as goal

pub returns-clause-ok : goal.returns-clause-ok
returns-clause-ok g c =
    let name : c.name.result.now ≡ name_at (lent_packages c.args.packages.now.packages) (number_of c.args.«package») = ap (λ (o : Option (List ℕ)). unwrap_or o []) (sym c.name.ensures) in
    let shown : string_bytes c.in_ok-text.text ≡ script_line c.name.result.now = grind (arith, common_steps, c.in_ok-text.ensures.ok) in
    c.line.ensures ∙ ap (λ (text : List ℕ). with_lines (text ∷ []) (g.P.Progress.lines c.args.progress.now)) (c.as_str.ensures.value ∙ shown ∙ ap script_line name)
