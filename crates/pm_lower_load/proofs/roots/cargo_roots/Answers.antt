use Rattle.std.proofs.Common.{◌++◌, ◌∷◌, [], length, map, ap, ◌∙◌}
use Rattle.base_text_paths.specs.Arena.{number_of}
use Rattle.pm_lower_load.specs.Roots.{out_dir_in, package_root}
use Rattle.pm_lower_load.proofs.RootLemmas.{length_seen, map-enumerate_all, map-seen_more, next_number, roots_more}
use Rattle.pm_lower_load.proofs.roots.cargo_roots.Goals as goal

pub index-package-requires : goal.index-package-requires
index-package-requires g c =
    let all = c.loop-id.invariant.2.all ∙ ap (λ rest. map number_of c.loop-id.yielded ++ rest) c.in-Some.ensures.steps in
    (next_number number_of (length c.args.workspace.now.packages) c.loop-id.yielded c.next.new.self (number_of c.in-Some.id) all).1

pub loop-id-preserved : goal.loop-id-preserved
loop-id-preserved g c =
    let w = c.args.workspace.now in
    let out_dir = out_dir_in (g.O.BuildOutputs.output_at c.args.outputs.now) in
    let extra = c.args.extra_includes.now in
    let id = c.in-Some.id in
    let found = c.index-package.result.now in
    let seen = c.loop-id.yielded in
    let all = c.loop-id.invariant.2.all ∙ ap (λ rest. map number_of seen ++ rest) c.in-Some.ensures.steps in
    let next = next_number number_of (length w.packages) seen c.next.new.self (number_of id) all in
    let root = c.in_ok-root_of_package.ensures ∙ ap (λ dir. package_root w dir extra found) c.out_dir_of-out_dir.ensures in
    let pushed = c.in_ok-push.ensures.items ∙ ap (λ r. c.loop-id.roots.items ++ r ∷ []) root in (
      record {},
      record {},
      record {
        all = all ∙ map-seen_more number_of seen id c.next.new.self;
        done = roots_more (λ p. package_root w (out_dir p.0) extra p.1) w.packages c.loop-id.roots.items c.push.new.self.items seen id (number_of id) found
            c.loop-id.invariant.2.done next.0 c.index-package.ensures pushed;
      },
    )

pub returns : goal.returns
returns g c =
    let w = c.args.workspace.now in
    let all = length_seen number_of (length w.packages) c.loop-id.yielded c.loop-id.id-iterator c.loop-id.invariant.2.all c.in-None.ensures.steps.0 in
    c.new.ensures ∙ c.loop-id.invariant.2.done ∙ map-enumerate_all (λ p. package_root w (out_dir_in (g.O.BuildOutputs.output_at c.args.outputs.now) p.0) c.args.extra_includes.now p.1) 0 w.packages (length c.loop-id.yielded) all
