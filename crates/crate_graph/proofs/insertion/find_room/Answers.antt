use Rattle.std.proofs.Common.{◌≡◌, ◌∙◌, ℕ, List, ap, length}
use Rattle.base_text_outside.specs.Causes.{raised_by}
use Rattle.crate_graph.proofs.VisitLemmas.{IsSearch, marks_count, nodes_in, not_reached, path_is, room_placed, steps_most, visits}
use Rattle.crate_graph.proofs.insertion.find_room.Goals as goal

pub returns-in_err-path-in-Some-clause-steps : goal.returns-in_err-path-in-Some-clause-steps
returns-in_err-path-in-Some-clause-steps g c =
    let rows = g.G.Graph.rows c.args.graph.now in
    let s : IsSearch (g.G.Graph.rows c.args.graph.now) c.args.table.now c.args.from c.args.to =
    record { kept = c.requires.kept; count = c.requires.count; in_range = c.requires.in_range; down = c.requires.descends; from_in = c.requires.nodes.0; to_in = c.requires.nodes.1; up = c.requires.up } in
    let trail = c.search_above.new.trail in
    let whole = c.in_ok-search_above.ensures.ok in
    steps_most rows c.args.table.now c.args.from c.args.to s trail whole _ _ (c.count_steps.ensures ∙ ap (λ (ns : List ℕ). raised_by (length ns) (g.L.Ledger.count c.args.steps.now.ledger)) c.nodes.ensures)

pub returns-in_err-placement-in-None-clause-steps : goal.returns-in_err-placement-in-None-clause-steps
returns-in_err-placement-in-None-clause-steps g c =
    let rows = g.G.Graph.rows c.args.graph.now in
    let s : IsSearch (g.G.Graph.rows c.args.graph.now) c.args.table.now c.args.from c.args.to =
    record { kept = c.requires.kept; count = c.requires.count; in_range = c.requires.in_range; down = c.requires.descends; from_in = c.requires.nodes.0; to_in = c.requires.nodes.1; up = c.requires.up } in
    let trail = c.search_above.new.trail in
    let whole = c.in_ok-search_above.ensures.ok in
    steps_most rows c.args.table.now c.args.from c.args.to s trail whole _ _ (c.count_steps.ensures ∙ ap (λ (ns : List ℕ). raised_by (length ns) (g.L.Ledger.count c.args.steps.now.ledger)) c.nodes.ensures)

pub returns-in_ok-path-in-Some-clause-steps : goal.returns-in_ok-path-in-Some-clause-steps
returns-in_ok-path-in-Some-clause-steps g c =
    let rows = g.G.Graph.rows c.args.graph.now in
    let s : IsSearch (g.G.Graph.rows c.args.graph.now) c.args.table.now c.args.from c.args.to =
    record { kept = c.requires.kept; count = c.requires.count; in_range = c.requires.in_range; down = c.requires.descends; from_in = c.requires.nodes.0; to_in = c.requires.nodes.1; up = c.requires.up } in
    let trail = c.search_above.new.trail in
    let whole = c.in_ok-search_above.ensures.ok in
    steps_most rows c.args.table.now c.args.from c.args.to s trail whole _ _ (c.count_steps.ensures ∙ ap (λ (ns : List ℕ). raised_by (length ns) (g.L.Ledger.count c.args.steps.now.ledger)) c.nodes.ensures)

pub returns-in_ok-placement-in-None-clause-steps : goal.returns-in_ok-placement-in-None-clause-steps
returns-in_ok-placement-in-None-clause-steps g c =
    let rows = g.G.Graph.rows c.args.graph.now in
    let s : IsSearch (g.G.Graph.rows c.args.graph.now) c.args.table.now c.args.from c.args.to =
    record { kept = c.requires.kept; count = c.requires.count; in_range = c.requires.in_range; down = c.requires.descends; from_in = c.requires.nodes.0; to_in = c.requires.nodes.1; up = c.requires.up } in
    let trail = c.search_above.new.trail in
    let whole = c.in_ok-search_above.ensures.ok in
    steps_most rows c.args.table.now c.args.from c.args.to s trail whole _ _ (c.count_steps.ensures ∙ ap (λ (ns : List ℕ). raised_by (length ns) (g.L.Ledger.count c.args.steps.now.ledger)) c.nodes.ensures)

pub returns-in_ok-path-in-Some-clause-visits : goal.returns-in_ok-path-in-Some-clause-visits
returns-in_ok-path-in-Some-clause-visits g c =
    let rows = g.G.Graph.rows c.args.graph.now in
    let s : IsSearch (g.G.Graph.rows c.args.graph.now) c.args.table.now c.args.from c.args.to =
    record { kept = c.requires.kept; count = c.requires.count; in_range = c.requires.in_range; down = c.requires.descends; from_in = c.requires.nodes.0; to_in = c.requires.nodes.1; up = c.requires.up } in
    let trail = c.search_above.new.trail in
    let whole = c.in_ok-search_above.ensures.ok in
    record { nodes = trail.nodes; visits = visits rows c.args.table.now c.args.from c.args.to s trail whole; counted = (c.count_steps.ensures ∙ ap (λ (ns : List ℕ). raised_by (length ns) (g.L.Ledger.count c.args.steps.now.ledger)) c.nodes.ensures) }

pub returns-in_ok-placement-in-None-clause-visits : goal.returns-in_ok-placement-in-None-clause-visits
returns-in_ok-placement-in-None-clause-visits g c =
    let rows = g.G.Graph.rows c.args.graph.now in
    let s : IsSearch (g.G.Graph.rows c.args.graph.now) c.args.table.now c.args.from c.args.to =
    record { kept = c.requires.kept; count = c.requires.count; in_range = c.requires.in_range; down = c.requires.descends; from_in = c.requires.nodes.0; to_in = c.requires.nodes.1; up = c.requires.up } in
    let trail = c.search_above.new.trail in
    let whole = c.in_ok-search_above.ensures.ok in
    record { nodes = trail.nodes; visits = visits rows c.args.table.now c.args.from c.args.to s trail whole; counted = (c.count_steps.ensures ∙ ap (λ (ns : List ℕ). raised_by (length ns) (g.L.Ledger.count c.args.steps.now.ledger)) c.nodes.ensures) }

pub place-requires-clause-marks : goal.place-requires-clause-marks
place-requires-clause-marks g c =
    let rows = g.G.Graph.rows c.args.graph.now in
    let s : IsSearch (g.G.Graph.rows c.args.graph.now) c.args.table.now c.args.from c.args.to =
    record { kept = c.requires.kept; count = c.requires.count; in_range = c.requires.in_range; down = c.requires.descends; from_in = c.requires.nodes.0; to_in = c.requires.nodes.1; up = c.requires.up } in
    let trail = c.search_above.new.trail in
    let whole = c.in_ok-search_above.ensures.ok in
    marks_count rows c.args.table.now c.args.from c.args.to s trail whole

pub place-requires-clause-found : goal.place-requires-clause-found
place-requires-clause-found g c =
    let rows = g.G.Graph.rows c.args.graph.now in
    let s : IsSearch (g.G.Graph.rows c.args.graph.now) c.args.table.now c.args.from c.args.to =
    record { kept = c.requires.kept; count = c.requires.count; in_range = c.requires.in_range; down = c.requires.descends; from_in = c.requires.nodes.0; to_in = c.requires.nodes.1; up = c.requires.up } in
    let trail = c.search_above.new.trail in
    let whole = c.in_ok-search_above.ensures.ok in
    nodes_in rows c.args.table.now c.args.from c.args.to s trail whole

pub returns-in_ok-path-in-Some-clause-path : goal.returns-in_ok-path-in-Some-clause-path
returns-in_ok-path-in-Some-clause-path g c =
    let rows = g.G.Graph.rows c.args.graph.now in
    let s : IsSearch (g.G.Graph.rows c.args.graph.now) c.args.table.now c.args.from c.args.to =
    record { kept = c.requires.kept; count = c.requires.count; in_range = c.requires.in_range; down = c.requires.descends; from_in = c.requires.nodes.0; to_in = c.requires.nodes.1; up = c.requires.up } in
    let trail = c.search_above.new.trail in
    let whole = c.in_ok-search_above.ensures.ok in
    path_is rows c.args.table.now c.args.from c.args.to s trail whole c.in_ok-path-in-Some.path.items c.in-Some.place c.in-Some.ensures.0 c.in-Some.ensures.1 c.in_ok-path-in-Some.ensures

pub returns-in_ok-placement-in-None-clause-room : goal.returns-in_ok-placement-in-None-clause-room
returns-in_ok-placement-in-None-clause-room g c =
    let rows = g.G.Graph.rows c.args.graph.now in
    let s : IsSearch (g.G.Graph.rows c.args.graph.now) c.args.table.now c.args.from c.args.to =
    record { kept = c.requires.kept; count = c.requires.count; in_range = c.requires.in_range; down = c.requires.descends; from_in = c.requires.nodes.0; to_in = c.requires.nodes.1; up = c.requires.up } in
    let trail = c.search_above.new.trail in
    let whole = c.in_ok-search_above.ensures.ok in
    room_placed rows c.args.table.now c.args.from c.args.to s trail whole c.in-None.ensures c.in_ok-placement-in-None.placement c.in_ok-placement-in-None.ensures

pub returns-in_ok-placement-in-None-clause-apart : goal.returns-in_ok-placement-in-None-clause-apart
returns-in_ok-placement-in-None-clause-apart g c =
    let rows = g.G.Graph.rows c.args.graph.now in
    let s : IsSearch (g.G.Graph.rows c.args.graph.now) c.args.table.now c.args.from c.args.to =
    record { kept = c.requires.kept; count = c.requires.count; in_range = c.requires.in_range; down = c.requires.descends; from_in = c.requires.nodes.0; to_in = c.requires.nodes.1; up = c.requires.up } in
    let trail = c.search_above.new.trail in
    let whole = c.in_ok-search_above.ensures.ok in
    not_reached rows c.args.table.now c.args.from c.args.to s trail whole c.in-None.ensures
