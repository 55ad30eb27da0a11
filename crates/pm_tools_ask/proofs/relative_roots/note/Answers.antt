use Rattle.std.proofs.Common.{◌≡◌, ◌∙◌, None, ap, rules}
use Rattle.base_values.specs.ByText.{value_at, with_value}
use Rattle.pm_tools_ask.proofs.RelativeRoots.{noted}
use Rattle.pm_tools_ask.proofs.relative_roots.note.Goals as goal

pub returns-in_ok-insert : goal.returns-in_ok-insert
returns-in_ok-insert c = λ other.
    let none : value_at c.args.name.now c.args.roots.now ≡ None = search rules in
    let changed : c.insert.new.self ≡ with_value c.args.name.now c.args.root c.args.roots.now = search rules in
    ap (value_at other) changed ∙ noted other c.args.name.now c.args.root c.args.roots.now none
