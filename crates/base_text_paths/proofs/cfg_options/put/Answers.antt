use Rattle.std.proofs.Common.{◌∙◌, Ok, Err}
use Rattle.base_text_paths.proofs.CfgSets.{atom_cmp-total, atom_cmp-IsAntisymmetric}
use Rattle.base_values.proofs.SortedLists.{searched, insert_key_there, sorted-insert_key}
use Rattle.base_text_paths.proofs.cfg_options.put.Goals as goal

pub returns-in-Ok-clause-ok : goal.returns-in-Ok-clause-ok
returns-in-Ok-clause-ok c =
    let value = c.deref.ensures.value in
    let found = searched atom_cmp-total c.args.atom c.deref.result.now (Ok c.in-Ok.field-0) (rw value c.requires) c.in-Ok.ensures.bound c.in-Ok.ensures.position in
    insert_key_there atom_cmp-total atom_cmp-IsAntisymmetric _ _ c.requires (rw value at found)

pub returns-in_ok-insert-in-Err : goal.returns-in_ok-insert-in-Err
returns-in_ok-insert-in-Err c =
    let value = c.deref.ensures.value in
    let placed = searched atom_cmp-total c.args.atom c.deref.result.now (Err c.in-Err.place) (rw value c.requires) c.in-Err.ensures.bound c.in-Err.ensures.position in
    let is = c.in_ok-insert-in-Err.ensures.items ∙ (rw value at placed).1 in
    record {
      sorted = rw is (sorted-insert_key atom_cmp-total _ _ c.requires);
      ok = is;
      unchanged = tt;
    }
