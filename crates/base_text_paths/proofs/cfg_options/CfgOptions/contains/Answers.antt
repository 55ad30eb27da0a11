use Rattle.base_text_paths.proofs.CfgSets.{searched_contains}
use Rattle.base_text_paths.proofs.cfg_options.CfgOptions.contains.Goals as goal

pub returns : goal.returns
returns c =
    let value = c.deref.ensures.value in
    rw (← c.self.view_is, ← value)
    (searched_contains c.args.atom.now c.deref.result.now c.binary_search.result (rw value c.self.invariant) c.binary_search.ensures.bound c.binary_search.ensures.position c.is_ok.result c.is_ok.ensures.value)
