use Rattle.std.proofs.Common.{◌≡◌, ◌<◌, ap, arith, get_or, length, subst, sym, ◌∙◌}
use Rattle.std.specs.List.{All}
use Rattle.std.proofs.lemmas.List.{get_or_default}
use Rattle.std.proofs.lemmas.List.Elements.{Contains-get_or}
use Rattle.std.proofs.lemmas.Result.{on_ok_weaker}
use Rattle.graph_base.specs.Reach.{Reaches}
use Rattle.graph_base.specs.Trail.{IsWhole, empty_trail, trail_after_clear}
use Rattle.graph_base.proofs.ClearLemmas.{cleared_trail, found_reached, nodes_marked}
use Rattle.pm_cargo_members.proofs.GraphLemmas.{reversed_in_range}
use Rattle.pm_cargo_members.proofs.closure.Graph.find_reaching.Goals as goal

pub search_into-requires-clause-empty : goal.search_into-requires-clause-empty
search_into-requires-clause-empty c =
    c.requires.empty ∙ ap empty_trail (sym (c.self.invariant.leads_back.nodes ∙ ap length c.self.view_is))

pub search_into-requires-clause-start : goal.search_into-requires-clause-start
search_into-requires-clause-start c =
    subst (λ n. c.args.target < n) (sym (c.self.invariant.leads_back.nodes ∙ ap length c.self.view_is)) c.requires.target

pub search_into-requires-clause-in_range : goal.search_into-requires-clause-in_range
search_into-requires-clause-in_range c =
    reversed_in_range c.self.inside.back c.self.inside.rows c.self.invariant.leads_back

pub returns-clause-reach : goal.returns-clause-reach
returns-clause-reach c =
    let back = c.self.inside.back in
    let nodes = c.search_into.new.trail.nodes in
    let reach : IsWhole back c.args.target c.search_into.new.trail → All (λ node. Reaches c.args.self.now node c.args.target) nodes =
    λ whole. λ k d below.
    subst (λ g. Reaches g (get_or nodes k d) c.args.target) c.self.view_is
    ((c.self.invariant.reaches_back (get_or nodes k d) c.args.target).0
    (found_reached back c.args.target c.search_into.new.trail whole.trail (get_or nodes k d) (Contains-get_or nodes k d below))) in
    on_ok_weaker c.search_into.result reach c.search_into.ensures.ok

pub returns-clause-within : goal.returns-clause-within
returns-clause-within c =
    let back = c.self.inside.back in
    let nodes = c.search_into.new.trail.nodes in
    let long : length back ≡ length c.args.self.now = c.self.invariant.leads_back.nodes ∙ ap length c.self.view_is in
    let within : IsWhole back c.args.target c.search_into.new.trail → All (λ node. node < length c.args.self.now) nodes =
    λ whole. λ k d below.
    subst (λ z. z < length c.args.self.now) (get_or_default nodes k 0 d below) (omega (arith, whole.trail.within k below, long)) in
    on_ok_weaker c.search_into.result within c.search_into.ensures.ok

pub returns-clause-marks : goal.returns-clause-marks
returns-clause-marks c =
    let back = c.self.inside.back in
    let trail = c.search_into.new.trail in
    let marks : IsWhole back c.args.target trail → All (λ node. node < length trail.marks) trail.nodes =
    λ whole. nodes_marked back c.args.target trail whole.trail in
    on_ok_weaker c.search_into.result marks c.search_into.ensures.ok

pub returns-clause-cleared : goal.returns-clause-cleared
returns-clause-cleared c =
    let back = c.self.inside.back in
    let trail = c.search_into.new.trail in
    let long : length back ≡ length c.args.self.now = c.self.invariant.leads_back.nodes ∙ ap length c.self.view_is in
    let empty : IsWhole back c.args.target trail → trail_after_clear trail ≡ empty_trail (length c.args.self.now) =
    λ whole. cleared_trail back c.args.target trail whole.trail ∙ ap empty_trail long in
    on_ok_weaker c.search_into.result empty c.search_into.ensures.ok
