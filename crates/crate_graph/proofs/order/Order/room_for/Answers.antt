use Rattle.std.proofs.Common.{◌≡◌, ◌∙◌, ◌+◌, ◌<◌, ◌≤◌, [], ℕ, List, Option, ap, arith, length, subst, sym}
use Rattle.std.specs.Prelude.{IfErr, IfOk, OnOk, slice_index}
use Rattle.graph_base.specs.Reach.{Reaches}
use Rattle.graph_base.specs.Ranks.{AreRanks}
use Rattle.crate_graph.specs.Insertion.{CountsVisits, GivesRoom, most_visits}
use Rattle.crate_graph.specs.Order.{AreKeptRanks, Descends, Ranking, ranking, ranks_in}
use Rattle.crate_graph.specs.Placing.{placement_below}
use Rattle.crate_graph.proofs.RoomLemmas.{apart_already}
use Rattle.crate_graph.proofs.TableLemmas.{is_order, node_count, none_kept, same_ranks}
use Rattle.crate_graph.proofs.VisitLemmas.{none_visited, room_fits}
use Rattle.crate_graph.proofs.order.Order.room_for.Goals as goal

pub unreachable-requires : goal.unreachable-requires
unreachable-requires g c =
    omega (arith, c.requires.nodes.0, node_count [] c.args.self.now (ap (λ (o : Option (List ℕ)). ranking (ranks_in o)) (sym c.in_default.is) ∙ c.self.view_is) none_kept)

pub is_below-requires : goal.is_below-requires
is_below-requires g c =
    record { nodes = (omega (arith, c.requires.nodes.1, (node_count c.in-Some.table c.args.self.now (ap (λ (o : Option (List ℕ)). ranking (ranks_in o)) (sym c.in-Some.is) ∙ c.self.view_is) (subst (λ (o : Option (List ℕ)). AreKeptRanks (ranks_in o)) c.in-Some.is c.self.invariant))), omega (arith, c.requires.nodes.0, (node_count c.in-Some.table c.args.self.now (ap (λ (o : Option (List ℕ)). ranking (ranks_in o)) (sym c.in-Some.is) ∙ c.self.view_is) (subst (λ (o : Option (List ℕ)). AreKeptRanks (ranks_in o)) c.in-Some.is c.self.invariant)))) }

pub returns-then-is_below-clause-room : goal.returns-then-is_below-clause-room
returns-then-is_below-clause-room g c =
    let kept = (subst (λ (o : Option (List ℕ)). AreKeptRanks (ranks_in o)) c.in-Some.is c.self.invariant) in
    room_fits (g.G.Graph.rows c.args.graph.now) c.args.self.now c.args.from c.args.to (is_order c.in-Some.table c.args.self.now (ap (λ (o : Option (List ℕ)). ranking (ranks_in o)) (sym c.in-Some.is) ∙ c.self.view_is) kept) (subst AreRanks (sym (same_ranks c.in-Some.table c.args.self.now (ap (λ (o : Option (List ℕ)). ranking (ranks_in o)) (sym c.in-Some.is) ∙ c.self.view_is) (subst (λ (o : Option (List ℕ)). AreKeptRanks (ranks_in o)) c.in-Some.is c.self.invariant))) kept.ranked) c.requires.in_range c.requires.count c.requires.descends
    c.requires.nodes.0 c.requires.nodes.1 (subst (λ (rs : List ℕ). slice_index rs c.args.to < slice_index rs c.args.from) (sym (same_ranks c.in-Some.table c.args.self.now (ap (λ (o : Option (List ℕ)). ranking (ranks_in o)) (sym c.in-Some.is) ∙ c.self.view_is) (subst (λ (o : Option (List ℕ)). AreKeptRanks (ranks_in o)) c.in-Some.is c.self.invariant))) (c.is_below.ensures.0 c.if-is_below.true)) c.below.result (c.below.ensures ∙ ap (placement_below c.args.from) c.new.ensures.items)

pub returns-then-is_below-clause-apart : goal.returns-then-is_below-clause-apart
returns-then-is_below-clause-apart g c =
    apart_already (g.G.Graph.rows c.args.graph.now) c.args.self.now c.args.from c.args.to c.requires.descends (subst (λ (rs : List ℕ). slice_index rs c.args.to < slice_index rs c.args.from) (sym (same_ranks c.in-Some.table c.args.self.now (ap (λ (o : Option (List ℕ)). ranking (ranks_in o)) (sym c.in-Some.is) ∙ c.self.view_is) (subst (λ (o : Option (List ℕ)). AreKeptRanks (ranks_in o)) c.in-Some.is c.self.invariant))) (c.is_below.ensures.0 c.if-is_below.true))

pub returns-then-is_below-clause-visits : goal.returns-then-is_below-clause-visits
returns-then-is_below-clause-visits g c =
    none_visited (g.G.Graph.rows c.args.graph.now) c.args.self.now c.args.from c.args.to (g.L.Ledger.count c.args.steps.now.ledger) (subst (λ (rs : List ℕ). slice_index rs c.args.to < slice_index rs c.args.from) (sym (same_ranks c.in-Some.table c.args.self.now (ap (λ (o : Option (List ℕ)). ranking (ranks_in o)) (sym c.in-Some.is) ∙ c.self.view_is) (subst (λ (o : Option (List ℕ)). AreKeptRanks (ranks_in o)) c.in-Some.is c.self.invariant))) (c.is_below.ensures.0 c.if-is_below.true))

pub find_room-answer-requires-clause-kept : goal.find_room-answer-requires-clause-kept
find_room-answer-requires-clause-kept g c =
    (subst (λ (o : Option (List ℕ)). AreKeptRanks (ranks_in o)) c.in-Some.is c.self.invariant)

pub find_room-answer-requires-clause-count : goal.find_room-answer-requires-clause-count
find_room-answer-requires-clause-count g c =
    sym (node_count c.in-Some.table c.args.self.now (ap (λ (o : Option (List ℕ)). ranking (ranks_in o)) (sym c.in-Some.is) ∙ c.self.view_is) (subst (λ (o : Option (List ℕ)). AreKeptRanks (ranks_in o)) c.in-Some.is c.self.invariant)) ∙ c.requires.count

pub find_room-answer-requires-clause-descends : goal.find_room-answer-requires-clause-descends
find_room-answer-requires-clause-descends g c =
    subst (λ (rs : List ℕ). Descends rs (g.G.Graph.rows c.args.graph.now)) (same_ranks c.in-Some.table c.args.self.now (ap (λ (o : Option (List ℕ)). ranking (ranks_in o)) (sym c.in-Some.is) ∙ c.self.view_is) (subst (λ (o : Option (List ℕ)). AreKeptRanks (ranks_in o)) c.in-Some.is c.self.invariant)) c.requires.descends

pub find_room-answer-requires-clause-nodes : goal.find_room-answer-requires-clause-nodes
find_room-answer-requires-clause-nodes g c =
    (omega (arith, c.requires.nodes.0, (node_count c.in-Some.table c.args.self.now (ap (λ (o : Option (List ℕ)). ranking (ranks_in o)) (sym c.in-Some.is) ∙ c.self.view_is) (subst (λ (o : Option (List ℕ)). AreKeptRanks (ranks_in o)) c.in-Some.is c.self.invariant))), omega (arith, c.requires.nodes.1, (node_count c.in-Some.table c.args.self.now (ap (λ (o : Option (List ℕ)). ranking (ranks_in o)) (sym c.in-Some.is) ∙ c.self.view_is) (subst (λ (o : Option (List ℕ)). AreKeptRanks (ranks_in o)) c.in-Some.is c.self.invariant))))

pub returns-clause-room : goal.returns-clause-room
returns-clause-room g c =
    subst (λ (o : Ranking). IfOk c.find_room-answer.result (λ answer. IfOk answer (GivesRoom (g.G.Graph.rows c.args.graph.now) c.args.from c.args.to o))) (ap (λ (o : Option (List ℕ)). ranking (ranks_in o)) (sym c.in-Some.is) ∙ c.self.view_is) c.find_room-answer.ensures.room

pub returns-clause-visits : goal.returns-clause-visits
returns-clause-visits g c =
    subst (λ (o : Ranking). OnOk c.find_room-answer.result (CountsVisits (g.G.Graph.rows c.args.graph.now) c.args.from c.args.to o (g.L.Ledger.count c.args.steps.now.ledger) (g.L.Ledger.count c.find_room-answer.new.steps.ledger))) (ap (λ (o : Option (List ℕ)). ranking (ranks_in o)) (sym c.in-Some.is) ∙ c.self.view_is) c.find_room-answer.ensures.visits

pub returns-clause-steps : goal.returns-clause-steps
returns-clause-steps g c =
    subst (λ (o : Ranking). g.L.Ledger.count c.find_room-answer.new.steps.ledger ≤ g.L.Ledger.count c.args.steps.now.ledger + most_visits o c.args.from c.args.to) (ap (λ (o : Option (List ℕ)). ranking (ranks_in o)) (sym c.in-Some.is) ∙ c.self.view_is) c.find_room-answer.ensures.steps
