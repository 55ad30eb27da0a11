use Rattle.std.proofs.Common.{◌≡◌, ◌++◌, sym, ap, ◌∙◌}
use Rattle.std.proofs.lemmas.Bool.{both_ways, eq-eqb, eqb-true}
use Rattle.base_text_paths.proofs.Prefixes.{prefix_broken, prefix_found, prefix_missing}
use Rattle.base_text_paths.proofs.paths.clean.rest_below.Goals as goal

pub returns-in_err-rest-clause-is : goal.returns-in_err-rest-clause-is
returns-in_err-rest-clause-is c = rw c.from_residual.ensures (sym (prefix_missing _ _ c.requires.front c.requires.whole c.in_err-rest.ensures.cases))

pub returns-then-is_row_end-clause-is : goal.returns-then-is_row_end-clause-is
returns-then-is_row_end-clause-is c =
    let cut = c.in_ok-rest.ensures.cases in
    let whole : c.args.whole.now ≡ c.args.front.now ++ c.in_ok-rest.rest.now = cut.1.1 ∙ ap (λ s. c.args.front.now ++ s) (sym cut.2) in
    sym (prefix_found _ _ _ c.requires.front c.requires.whole whole (eqb-true _ 47 (sym c.if-is_row_end.ensures))).0

pub returns-then-is_row_end-clause-rest : goal.returns-then-is_row_end-clause-rest
returns-then-is_row_end-clause-rest c =
    let cut = c.in_ok-rest.ensures.cases in
    let whole : c.args.whole.now ≡ c.args.front.now ++ c.in_ok-rest.rest.now = cut.1.1 ∙ ap (λ s. c.args.front.now ++ s) (sym cut.2) in
    (prefix_found _ _ _ c.requires.front c.requires.whole whole (eqb-true _ 47 (sym c.if-is_row_end.ensures))).1

pub returns-else-is_row_end-clause-is : goal.returns-else-is_row_end-clause-is
returns-else-is_row_end-clause-is c =
    let cut = c.in_ok-rest.ensures.cases in
    let whole : c.args.whole.now ≡ c.args.front.now ++ c.in_ok-rest.rest.now = cut.1.1 ∙ ap (λ s. c.args.front.now ++ s) (sym cut.2) in
    sym (prefix_broken _ _ _ c.requires.front c.requires.whole whole (λ e. both_ways _ (sym c.if-is_row_end.ensures) (eq-eqb _ 47 e)))
