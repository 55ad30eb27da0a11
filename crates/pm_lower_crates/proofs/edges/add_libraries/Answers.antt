use Rattle.std.proofs.Common.{◌≡◌, ◌∙◌, ◌++◌, None, Some, ap, append-nil, map, refl, sym}
use Rattle.std.specs.Option.{option_copied}
use Rattle.pm_lower_crates.specs.Gathering.{libraries_of}
use Rattle.pm_lower_crates.specs.WantedEdges.{to_public}
use Rattle.pm_lower_crates.proofs.EdgeLemmas.{libraries_are, row_with_library, row_without_library}
use Rattle.pm_lower_crates.proofs.edges.add_libraries.Goals as goal

pub returns-in_ok-push : goal.returns-in_ok-push
returns-in_ok-push c =
    let public = c.args.public.now in
    let row = c.args.row.now in
    let lib = c.in-Some.library.now in
    let old = c.args.edges.now.items in
    let mid = c.add_public.new.edges.items in
    let first : mid ≡ old ++ map (to_public row.number) public.rows = c.in_ok-add_public.ensures ∙ ap (λ n. old ++ map (to_public n) public.rows) c.number-source.ensures in
    let uses = row_with_library lib row c.new.result (sym c.uses_library.ensures ∙ c.if-uses_library.true)
    (rw (c.new.ensures, c.in_ok-name.ensures, c.as_str.ensures, c.target.ensures, c.number-source.ensures, c.number.ensures) refl) in
    libraries_are public (Some lib) row old mid c.push.new.self.items first (c.in_ok-push.ensures.items ∙ ap (λ es. mid ++ es) uses)
    ∙ ap (λ l. old ++ libraries_of public l row) (sym (ap option_copied c.in-Some.is))

pub returns-else-uses_library : goal.returns-else-uses_library
returns-else-uses_library c =
    let public = c.args.public.now in
    let row = c.args.row.now in
    let lib = c.in-Some.library.now in
    let old = c.args.edges.now.items in
    let mid = c.add_public.new.edges.items in
    let first : mid ≡ old ++ map (to_public row.number) public.rows = c.in_ok-add_public.ensures ∙ ap (λ n. old ++ map (to_public n) public.rows) c.number-source.ensures in
    libraries_are public (Some lib) row old mid mid first
    (sym (append-nil mid) ∙ ap (λ es. mid ++ es) (row_without_library lib row (sym c.uses_library.ensures ∙ c.if-uses_library.false)))
    ∙ ap (λ l. old ++ libraries_of public l row) (sym (ap option_copied c.in-Some.is))

pub returns-in_default : goal.returns-in_default
returns-in_default c =
    let public = c.args.public.now in
    let row = c.args.row.now in
    let old = c.args.edges.now.items in
    let mid = c.add_public.new.edges.items in
    let first : mid ≡ old ++ map (to_public row.number) public.rows = c.in_ok-add_public.ensures ∙ ap (λ n. old ++ map (to_public n) public.rows) c.number-source.ensures in
    libraries_are public None row old mid mid first (sym (append-nil mid)) ∙ ap (λ l. old ++ libraries_of public l row) (sym (ap option_copied c.in_default.is))
