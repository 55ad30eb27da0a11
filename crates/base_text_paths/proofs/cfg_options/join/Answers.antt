use Rattle.std.proofs.Common.{[], ◌∙◌, ap}
use Rattle.std.proofs.lemmas.List.Sums.{fold-append}
use Rattle.base_text_paths.specs.CfgOrder.{with_atom, with_atoms}
use Rattle.base_text_paths.proofs.CfgSets.{with_atoms-again}
use Rattle.base_text_paths.proofs.cfg_options.join.Goals as goal

pub returns-clause-ok : goal.returns-clause-ok
returns-clause-ok c =
    c.settle.ensures.same ∙ ap (with_atoms []) c.in_ok-append.ensures.items
    ∙ fold-append with_atom [] c.args.atoms.now.items c.args.added.items
    ∙ ap (λ atoms. with_atoms atoms c.args.added.items) (with_atoms-again _ c.requires)
