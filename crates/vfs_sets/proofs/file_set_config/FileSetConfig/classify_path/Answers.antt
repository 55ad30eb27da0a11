use Rattle.std.proofs.Common.{◌≡◌, ◌<◌, arith, length, subst, sym}
use Rattle.std.proofs.lemmas.Grind.{common_steps}
use Rattle.vfs_sets.specs.Placement.{place_of, IsPlaceOf}
use Rattle.vfs_sets.proofs.FitLemmas.{fits_no_root, place_of_is}
use Rattle.vfs_sets.proofs.file_set_config.FileSetConfig.classify_path.Goals as goal

pub returns-then-place-len-clause-none : goal.returns-then-place-len-clause-none
returns-then-place-len-clause-none c =
    fits_no_root c.args.self.now c.args.path.now (grind (arith, common_steps))

pub returns-else-place-len-clause-found : goal.returns-else-place-len-clause-found
returns-else-place-len-clause-found c =
    let place : c.classify_counted-place.result ≡ place_of c.args.self.now c.args.path.now = grind (arith, common_steps) in
    let less : place_of c.args.self.now c.args.path.now < length c.args.self.now = grind (arith, common_steps) in
    subst (IsPlaceOf c.args.self.now c.args.path.now) (sym place) (place_of_is c.args.self.now c.args.path.now less)
