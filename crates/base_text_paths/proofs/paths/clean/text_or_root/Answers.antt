use Rattle.std.proofs.Common.{◌≡◌, ◌++◌, ◌<◌, length, string_bytes, arith, ap, ◌∙◌, lit<}
use Rattle.base_text_paths.proofs.Names.{path_text-root, path_text-slashed}
use Rattle.base_text_paths.proofs.paths.clean.text_or_root.Goals as goal

pub returns-in_ok-push : goal.returns-in_ok-push
returns-in_ok-push c =
    let none : length (string_bytes c.args.text) ≡ 0 = grind (arith, c.args.text.bytes.ok) in
    path_text-root _ _ none (c.in_ok-push.ensures.bytes ∙ ap (λ s. string_bytes c.args.text ++ s) (c.in_ok-push.ensures.ascii (lit< tt)))

pub returns-else-is_empty : goal.returns-else-is_empty
returns-else-is_empty c =
    let some : 0 < length (string_bytes c.args.text) = grind (arith, c.args.text.bytes.ok) in
    path_text-slashed _ some c.requires
