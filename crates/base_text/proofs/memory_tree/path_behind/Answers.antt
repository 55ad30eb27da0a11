use Rattle.std.proofs.Common.{◌≡◌, ◌∷◌, ◌++◌, [], ◌∙◌, lit<}
use Rattle.std.proofs.lemmas.Result.{IfOk-weaker}
use Rattle.base_text_paths.specs.AbsPath.{abs_text}
use Rattle.base_text.proofs.Fronts.{components_behind}
use Rattle.base_text.proofs.memory_tree.path_behind.Goals as goal

pub returns : goal.returns
returns c =
    let tail : c.as_str.result.now ≡ c.args.name.now ++ 0 ∷ [] =
    c.as_str.ensures.value ∙ c.in_ok-push.ensures.bytes ∙ (λ i. c.in_ok-tail.ensures.ok i ++ c.in_ok-push.ensures.ascii (lit< tt) i) in
    IfOk-weaker c.join.result _ _ (λ path e. e ∙ components_behind (abs_text c.args.directory) c.args.name.now c.as_str.result.now c.requires tail) c.join.ensures.same_components
