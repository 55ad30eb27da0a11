use Rattle.std.proofs.Common.{◌≡◌, length, map, take}
use Rattle.pm_lower_crates.specs.Gathering.{files_of}
use Rattle.pm_lower_crates.proofs.root_files.root_files.Given as goal

abbrev pub invariant-loop-id : goal.invariant-loop-id
invariant-loop-id g l = record {
  found : l.files.items ≡ map (files_of (g.L.Loader.files l.initial.loader) l.workspace) (take (length l.yielded) l.workspace.packages);
  loader : g.L.Loader.files l.loader ≡ g.L.Loader.files l.initial.loader;
}
