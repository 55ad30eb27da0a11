use Rattle.std.proofs.Common.{◌∙◌, not, rules, ap}
use Rattle.std.specs.List.{list_any}
use Rattle.std.specs.Ordering.{eq_by_cmp}
use Rattle.std.proofs.lemmas.Fn.{filter_same}
use Rattle.std.proofs.lemmas.List.Kept.{IsStrictlySortedBy-filter}
use Rattle.base_text_outside.specs.declared.cfg.CfgAtom.{CfgAtom}
use Rattle.base_text_paths.specs.CfgOrder.{atom_cmp, with_atoms, without_atoms}
use Rattle.base_text_paths.proofs.cfg_options.apply.Goals as goal

pub returns : goal.returns
returns c =
    let gone = c.args.disabled.now in
    let kept = filter_same _ (λ (atom : CfgAtom). not (list_any (eq_by_cmp atom_cmp atom) gone)) _ (λ x b f h. search rules) _ _ c.retain.ensures.filtered in
    record {
      sorted = rw kept (IsStrictlySortedBy-filter atom_cmp _ _ c.in_ok-join.ensures.sorted);
      ok = kept ∙ ap (λ atoms. without_atoms atoms gone) (c.in_ok-join.ensures.ok ∙ ap (with_atoms c.args.atoms.now.items) c.in_ok-added.ensures);
      unchanged = tt;
    }
