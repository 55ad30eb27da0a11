use Rattle.std.proofs.Common.{refl, sym, true≢false}
use Rattle.base_text_paths.proofs.ManifestLemmas.{has_parent, no_parent_at_root, root_has_none}
use Rattle.base_text_paths.proofs.manifest_path.ManifestPath.new.Goals as goal

pub returns-then-is_none-clause-root : goal.returns-then-is_none-clause-root
returns-then-is_none-clause-root c =
    (λ _. no_parent_at_root c.args.file c.as_path.result c.parent.result c.as_path.ensures c.parent.ensures.text c.is_none.result (sym c.is_none.ensures) c.if-is_none.true, λ _. refl)

pub invariant_of-result : goal.invariant_of-result
invariant_of-result c = has_parent c.args.file c.as_path.result c.parent.result c.as_path.ensures c.parent.ensures.text c.is_none.result (sym c.is_none.ensures) c.if-is_none.false

pub returns-clause-root : goal.returns-clause-root
returns-clause-root c =
    (λ e. absurd (true≢false (sym e)), λ root. absurd (root_has_none c.args.file (has_parent c.args.file c.as_path.result c.parent.result c.as_path.ensures c.parent.ensures.text c.is_none.result (sym c.is_none.ensures) c.if-is_none.false) root))
