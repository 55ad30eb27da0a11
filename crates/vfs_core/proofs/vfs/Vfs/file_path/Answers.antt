use Rattle.std.proofs.Common.{◌≡◌, Some, slice_get, sym, ap, ◌∙◌}
use Rattle.std.specs.Map.{keys_of}
use Rattle.std.specs.Map.Iter.{deref_pair}
use Rattle.std.specs.Option.{option_map}
use Rattle.vfs_core.proofs.NumberLemmas.{keys_at, number_of_path}
use Rattle.vfs_core.proofs.vfs.Vfs.file_path.Goals as goal

pub returns-clause-number : goal.returns-clause-number
returns-clause-number c =
    let entries = c.self.inside.entries.entries in
    let path = c.unwrap.result.0.now in
    let entry : slice_get entries c.index.result ≡ Some (path, c.unwrap.result.1.now) =
    sym c.get_index.ensures.entry ∙ ap (option_map deref_pair) c.unwrap.ensures in
    let at : slice_get (keys_of entries) c.args.id ≡ Some path =
    ap (slice_get (keys_of entries)) (sym c.index.ensures.number)
    ∙ keys_at entries c.index.result path c.unwrap.result.1.now entry in
    rw (← c.self.view_is) (number_of_path (keys_of entries) c.args.id path c.self.invariant.distinct at)
