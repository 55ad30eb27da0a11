use Rattle.std.proofs.Common.{◌≤◌, ◌∙◌, ap, arith, length, map}
use Rattle.std.specs.Option.{option_map}
use Rattle.std.proofs.lemmas.List.{take_all}
use Rattle.pm_lower_crates.specs.Gathering.{files_of}
use Rattle.pm_lower_crates.specs.Rows.{live_target}
use Rattle.pm_lower_crates.proofs.root_files.files_of_package.Goals as goal

pub returns-clause-files : goal.returns-clause-files
unfolding files_of
returns-clause-files g c =
    let targets = c.args.of.now.targets in
    let past : length targets ≤ c.loop-id.id-index = omega (arith, c.loop-id-test.false, ap length c.as_slice-id-items.ensures) in
    c.new.ensures ∙ c.loop-id.invariant.found
    ∙ ap (map (λ id. option_map (λ t. t.1) (live_target (g.L.Loader.files c.args.loader.now) c.args.workspace.now c.args.of.now id))) (take_all c.loop-id.id-index targets past)
