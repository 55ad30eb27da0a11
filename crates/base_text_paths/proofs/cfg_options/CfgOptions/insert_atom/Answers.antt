use Rattle.base_text_paths.proofs.CfgSets.{contains-with_atom}
use Rattle.base_text_paths.proofs.cfg_options.CfgOptions.insert_atom.Goals as goal

pub returns-clause-members : goal.returns-clause-members
returns-clause-members c = λ x.
    rw (c.in_ok-put.ensures.ok, ← c.self.view_is) (contains-with_atom c.self.inside.atoms.items c.args.atom x)
