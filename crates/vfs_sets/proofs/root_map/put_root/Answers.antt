use Rattle.std.proofs.Common.{◌∙◌, ap, rules, sym}
use Rattle.std.specs.Bool.{beq}
use Rattle.vfs_sets.proofs.RootMapLemmas.{PutsRoot_own}
use Rattle.vfs_sets.proofs.root_map.put_root.Goals as goal

pub returns-in_ok-insert : goal.returns-in_ok-insert
returns-in_ok-insert c =
    PutsRoot_own c.args.map.now c.insert.new.self c.in_ok-text.text c.args.is_virtual c.args.root.now c.args.number
    (ap (λ b. beq b c.args.is_virtual) (sym c.is_virtual.ensures) ∙ c.if-is_virtual.true) (search rules) c.in_ok-insert.ensures.updates
