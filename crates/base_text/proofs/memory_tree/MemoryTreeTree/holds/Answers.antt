use Rattle.std.proofs.Common.{◌∙◌, sym, ap, false}
use Rattle.std.specs.Option.{option_map_or}
use Rattle.base_text_paths.specs.AbsPath.{abs_text}
use Rattle.base_text_paths.specs.Paths.{components, is_prefix}
use Rattle.base_text.proofs.Ordered.{holds_path-first}
use Rattle.base_text.proofs.memory_tree.MemoryTreeTree.holds.Goals as goal

pub returns-in-Some : goal.returns-in-Some
returns-in-Some c =
    c.starts_with.ensures ∙ ap (λ text. is_prefix (components text) (components (abs_text c.in-Some.file))) c.as_path.ensures
    ∙ sym (holds_path-first c.args.self.now _ c.in_ok-path.path c.in_ok-path.ensures.same_components c.first_from.ensures.ordered
    ∙ ap (λ first. option_map_or (λ file. is_prefix (components c.in_ok-path.path) (components file)) first false) (sym c.in-Some.ensures.first))

pub returns : goal.returns
returns c =
    sym (holds_path-first c.args.self.now _ c.in_ok-path.path c.in_ok-path.ensures.same_components c.first_from.ensures.ordered
    ∙ ap (λ first. option_map_or (λ file. is_prefix (components c.in_ok-path.path) (components file)) first false) (sym c.in-None.ensures.first))
