use Rattle.std.proofs.Common.{◌≡◌, ◌∙◌, ap, sym, Option, Some, None}
use Rattle.std.specs.List.{position_or_len}
use Rattle.std.specs.Map.{keys_of, lookup}
use Rattle.std.specs.Option.{option_map, unwrap_or}
use Rattle.vfs_core.specs.declared.file_state.FileState.{FileState}
use Rattle.vfs_core.specs.declared.file_state.FileState.TheVariants.{Deleted}
use Rattle.vfs_core.specs.VfsPath.{vfs_path_eq}
use Rattle.vfs_core.proofs.RoomLemmas.{first_absent, room_known}
use Rattle.vfs_core.proofs.vfs.Vfs.file_for.Goals as goal

pub returns-in-Some-clause-fits : goal.returns-in-Some-clause-fits
returns-in-Some-clause-fits c =
    let entries = c.self.inside.entries.entries in
    let known : lookup (vfs_path_eq c.args.path.now) entries ≡ Some c.in-Some.state.now =
    sym c.get_full.ensures.value ∙ ap (option_map (λ p. p.2.now)) c.in-Some.is in
    rw (← c.self.view_is) (room_known entries c.args.path.now c.in-Some.state.now known c.self.invariant.numbers_fit)

pub returns-in-None-2-clause-file : goal.returns-in-None-2-clause-file
returns-in-None-2-clause-file c =
    let entries = c.self.inside.entries.entries in
    let none : lookup (vfs_path_eq c.args.path.now) entries ≡ None =
    sym c.get_full.ensures.value ∙ ap (option_map (λ p. p.2.now)) c.in-None-2.is in
    let number : c.from_raw-in-None-2.result ≡ position_or_len (vfs_path_eq c.args.path.now) (keys_of entries) =
    c.from_raw-in-None-2.ensures ∙ c.len-next.ensures.len ∙ sym (first_absent entries c.args.path.now none) in
    let state : Deleted ≡ unwrap_or (lookup (vfs_path_eq c.args.path.now) entries) Deleted =
    sym (ap (λ (s : Option FileState). unwrap_or s Deleted) none) in
    rw (← c.self.view_is) (λ i. (number i, state i))
