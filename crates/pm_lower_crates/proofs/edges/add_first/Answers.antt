use Rattle.std.proofs.Common.{◌∙◌, ◌++◌, ap}
use Rattle.pm_lower_crates.specs.Gathering.{libraries_of, macros_of}
use Rattle.pm_lower_crates.specs.Rows.{library}
use Rattle.pm_lower_crates.proofs.EdgeLemmas.{first_are, part_all, part_more}
use Rattle.pm_lower_crates.proofs.edges.add_first.Goals as goal

pub loop-row-preserved : goal.loop-row-preserved
loop-row-preserved c =
    part_more (macros_of c.args.public.now) c.args.edges.now.items c.loop-row.edges.items c.add_macros.new.edges.items c.rows-row-items.result.now c.loop-row.row-index c.row-item.result c.loop-row-test.true
    c.row-item.is c.loop-row.invariant c.in_ok-add_macros.ensures

pub loop-from-preserved : goal.loop-from-preserved
loop-from-preserved c =
    let public = c.args.public.now in
    part_more (libraries_of public (library c.args.owner.now.rows)) c.loop-row.edges.items c.loop-from.edges.items c.add_libraries.new.edges.items c.rows-from-items.result.now c.loop-from.from-index
    c.from-item.result c.loop-from-test.true c.from-item.is c.loop-from.invariant
    (c.in_ok-add_libraries.ensures ∙ ap (λ l. c.loop-from.edges.items ++ libraries_of public l c.from-item.result) c.library.ensures)

pub returns : goal.returns
returns c =
    let public = c.args.public.now in
    let owner = c.args.owner.now in
    let old = c.args.edges.now.items in
    let mid = c.loop-row.edges.items in
    let new = c.loop-from.edges.items in
    let rows = c.rows-row-items.result.now in
    let again = c.rows-from-items.result.now in
    first_are public owner rows again old mid new c.rows-row-items.ensures c.rows-from-items.ensures
    (part_all (macros_of public) old mid rows c.loop-row.row-index c.loop-row-test.false c.loop-row.invariant)
    (part_all (libraries_of public (library owner.rows)) mid new again c.loop-from.from-index c.loop-from-test.false c.loop-from.invariant)
