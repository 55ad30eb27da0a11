use Rattle.std.proofs.Common.{◌≡◌, ◌∙◌, ◌++◌, None, Some, ap, append-nil, append_assoc, map, sym}
use Rattle.std.specs.Option.{option_map}
use Rattle.base_text_paths.specs.Arena.{number_of}
use Rattle.pm_lower_crates.specs.WantedEdges.{to_macros, to_public}
use Rattle.pm_lower_crates.proofs.json_edges.add_libraries.Goals as goal

pub returns-in_ok-push : goal.returns-in_ok-push
returns-in_ok-push c =
    let public = c.args.public.now in
    let row = c.args.row.now in
    let old = c.args.edges.now.items in
    let mid = c.add_public.new.edges.items in
    let first : mid ≡ old ++ map (to_public row.number) public.rows = c.in_ok-add_public.ensures ∙ ap (λ n. old ++ map (to_public n) public.rows) c.number-source.ensures in
    let there : Some (number_of c.in-Some.macros) ≡ public.macros = ap (option_map number_of) (sym c.in-Some.is) ∙ c.macros.ensures in
    c.in_ok-push.ensures.items
    ∙ ap (λ es. mid ++ es) (sym c.in_ok-edge.ensures ∙ (λ i. to_macros (there i) (c.number-source.ensures i) (c.of.ensures i).is_proc_macro))
    ∙ ap (λ es. es ++ to_macros public.macros row.number row.of.is_proc_macro) first
    ∙ append_assoc old (map (to_public row.number) public.rows) (to_macros public.macros row.number row.of.is_proc_macro)

pub returns-in_default : goal.returns-in_default
returns-in_default c =
    let public = c.args.public.now in
    let row = c.args.row.now in
    let old = c.args.edges.now.items in
    let mid = c.add_public.new.edges.items in
    let first : mid ≡ old ++ map (to_public row.number) public.rows = c.in_ok-add_public.ensures ∙ ap (λ n. old ++ map (to_public n) public.rows) c.number-source.ensures in
    let none : None ≡ public.macros = ap (option_map number_of) (sym c.in_default.is) ∙ c.macros.ensures in
    sym (append-nil mid) ∙ ap (λ o. mid ++ to_macros o row.number row.of.is_proc_macro) none
    ∙ ap (λ es. es ++ to_macros public.macros row.number row.of.is_proc_macro) first
    ∙ append_assoc old (map (to_public row.number) public.rows) (to_macros public.macros row.number row.of.is_proc_macro)
