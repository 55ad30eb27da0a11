-- The plain name comes before the hidden one.
use Rattle.std.proofs.Common.{◌≡◌, ℕ, List, Option, ap, codes, subst, sym, ◌∙◌}
use Rattle.std.specs.Option.{option_or}
use Rattle.std.specs.Result.{IfOk}
use Rattle.base_text_paths.specs.AbsPath.{abs_text}
use Rattle.pm_tools_ask.specs.ManifestDiscovery.{json_above, manifest_named}
use Rattle.pm_tools_ask.proofs.ManifestSearch.{json_name_counts}
use Rattle.pm_tools_ask.proofs.manifest_discovery.json_above.Goals as goal

pub manifest_named-requires : goal.manifest_named-requires
manifest_named-requires g c = json_name_counts

pub returns-in-Some : goal.returns-in-Some
unfolding json_above
returns-in-Some g c =
    let hidden = manifest_named (g.T.Tree.files c.args.tree.now) (codes ".rust-project.json") (abs_text c.args.path) in
    ap (λ (plain : Option (List ℕ)). option_or plain hidden) (sym c.in-Some.is ∙ c.in_ok-manifest.ensures)

pub returns-in-None : goal.returns-in-None
unfolding json_above
returns-in-None g c =
    let files = g.T.Tree.files c.args.tree.now in
    let hidden = manifest_named files (codes ".rust-project.json") (abs_text c.args.path) in
    let passed : hidden ≡ json_above files (abs_text c.args.path) = ap (λ (plain : Option (List ℕ)). option_or plain hidden) (sym c.in-None.is ∙ c.in_ok-manifest.ensures) in
    subst (λ (found : Option (List ℕ)). IfOk c.manifest_named-in-None.result (λ f. f ≡ found)) passed c.manifest_named-in-None.ensures
