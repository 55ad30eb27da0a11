use Rattle.std.proofs.Common.{◌≡◌, ◌∙◌, [], ap, arith, false, length, rules, sym}
use Rattle.std.specs.Prelude.{replicate}
use Rattle.graph_base.specs.Trail.{Trail, empty_trail}
use Rattle.graph_base.proofs.ClearLemmas.{resized}
use Rattle.graph_base.proofs.trail.Trail.resize.Goals as goal

pub returns-clause-ok : goal.returns-clause-ok
returns-clause-ok c =
    let was = c.self.view_is ∙ c.requires in
    let none : c.self.inside.marks.items ≡ replicate (length c.self.inside.marks.items) false =
    ap (λ (t : Trail). t.marks) was ∙ ap (λ (t : Trail). replicate (length t.marks) false) (sym c.self.view_is) in
    let marks : c.resize.new.self.items ≡ replicate c.args.count false =
    resized c.self.inside.marks.items c.resize.new.self.items c.args.count none
    (omega (arith, c.in_ok-resize.ensures.len, c.resize.new.self.ok.0))
    (λ k below early. c.in_ok-resize.ensures.by_index.0 k false below (omega (arith, early, c.self.inside.marks.ok.0)))
    (λ k from below. c.in_ok-resize.ensures.by_index.1 k false (search rules) (omega (arith, from, c.self.inside.marks.ok.0)) below) in
    let nodes : c.self.inside.nodes.items ≡ [] = ap (λ (t : Trail). t.nodes) was in
    let links : c.self.inside.links.items ≡ [] = ap (λ (t : Trail). t.links) was in
    λ i. record { marks = marks i; nodes = nodes i; links = links i }
