use Rattle.std.proofs.Common.{List, [], ◌∷◌, ◌++◌, ap, append_assoc, refl, sym, ◌∙◌}
use Rattle.pm_cargo_reading.specs.Links.{with_link}
use Rattle.pm_cargo_reading.specs.declared.nodes.Link.{Link}
use Rattle.pm_cargo_reading.proofs.LinkLemmas.{with_links-more, with_links-none}
use Rattle.pm_cargo_reading.proofs.linking.give_links.Goals as goal

pub loop-link-init : goal.loop-link-init
loop-link-init c = record { done = sym (with_links-none c.args.packages.now); all = refl }

pub loop-link-preserved : goal.loop-link-preserved
loop-link-preserved c =
    let before = c.loop-link.invariant in
    record {
      done = c.in_ok-give_link.ensures ∙ ap (λ packages. with_link packages c.in-Some.link) before.done
          ∙ sym (with_links-more c.loop-link.yielded c.in-Some.link c.args.packages.now);
      all = before.all
          ∙ ap (λ (items : List Link). c.loop-link.yielded ++ items) c.in-Some.ensures.steps.0
          ∙ sym (append_assoc c.loop-link.yielded (c.in-Some.link ∷ []) c.next.new.self.rest.items);
    }
