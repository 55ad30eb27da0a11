use Rattle.std.proofs.Common.{◌≡◌, map, take}
use Rattle.std.specs.Option.{option_map}
use Rattle.pm_lower_crates.specs.Rows.{live_target}
use Rattle.pm_lower_crates.proofs.root_files.files_of_package.Given as goal

abbrev pub invariant-loop-id : goal.invariant-loop-id
invariant-loop-id g l = record {
  found : l.files.items ≡ map (λ id. option_map (λ t. t.1) (live_target (g.L.Loader.files l.initial.loader) l.workspace l.of id)) (take l.id-index l.of.targets);
  loader : g.L.Loader.files l.loader ≡ g.L.Loader.files l.initial.loader;
}
