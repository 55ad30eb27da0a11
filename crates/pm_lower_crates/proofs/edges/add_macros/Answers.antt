use Rattle.std.proofs.Common.{◌≡◌, ◌∙◌, ◌++◌, None, Some, ap, append-nil, sym}
use Rattle.std.specs.Option.{option_map}
use Rattle.base_text_paths.specs.Arena.{number_of}
use Rattle.pm_lower_crates.specs.Rows.{is_macro_row}
use Rattle.pm_lower_crates.specs.WantedEdges.{to_macros}
use Rattle.pm_lower_crates.proofs.edges.add_macros.Goals as goal

pub returns-in_ok-push : goal.returns-in_ok-push
returns-in_ok-push c =
    let public = c.args.public.now in
    let row = c.args.row.now in
    let old = c.args.edges.now.items in
    let there : Some (number_of c.in-Some.macros) ≡ public.macros = ap (option_map number_of) (sym c.in-Some.is) ∙ c.macros.ensures in
    let names_it : c.is_macro.result ≡ is_macro_row row.target.kind = c.is_macro.ensures ∙ ap (λ t. is_macro_row t.kind) c.target.ensures in
    c.in_ok-push.ensures.items
    ∙ ap (λ es. old ++ es) (sym c.in_ok-edge.ensures ∙ (λ i. to_macros (there i) (c.number.ensures i) (names_it i)))

pub returns-in_default : goal.returns-in_default
returns-in_default c =
    let row = c.args.row.now in
    let old = c.args.edges.now.items in
    let none : None ≡ c.args.public.now.macros = ap (option_map number_of) (sym c.in_default.is) ∙ c.macros.ensures in
    sym (append-nil old) ∙ ap (λ o. old ++ to_macros o row.number (is_macro_row row.target.kind)) none
