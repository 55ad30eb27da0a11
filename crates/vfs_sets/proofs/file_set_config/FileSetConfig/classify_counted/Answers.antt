use Rattle.std.proofs.Common.{◌≡◌, ◌≤◌, ◌∙◌, ap, arith, length, subst, sym}
use Rattle.std.proofs.lemmas.Grind.{common_steps}
use Rattle.vfs_sets.specs.RootMaps.{longest_text_of_all}
use Rattle.vfs_sets.proofs.LengthLemmas.{texts_up_to}
use Rattle.vfs_sets.proofs.PlaceLemmas.{place_within}
use Rattle.vfs_sets.proofs.ProbeLemmas.{found_none, found_place}
use Rattle.vfs_sets.proofs.file_set_config.FileSetConfig.classify_counted.Goals as goal

pub number_of_longest_prefix-requires : goal.number_of_longest_prefix-requires
number_of_longest_prefix-requires g c =
    texts_up_to _ c.args.self.now _ c.self.inside.longest c.roots_of_kind-roots.ensures
    (c.self.invariant.1 ∙ ap longest_text_of_all c.self.view_is)

pub returns-in-Some-clause-place : goal.returns-in-Some-clause-place
returns-in-Some-clause-place g c =
    (found_place c.args.self.now c.args.path.now c.is_virtual.result c.as_bytes-text.result.now
    c.roots_of_kind-roots.result.now.entries c.in-Some.number _ _ c.is_virtual.ensures
    (c.as_bytes-text.ensures.value ∙ c.placed_text.ensures) c.roots_of_kind-roots.ensures c.in-Some.ensures).0

pub returns-in-Some-clause-within : goal.returns-in-Some-clause-within
returns-in-Some-clause-within g c =
    let found = found_place c.args.self.now c.args.path.now c.is_virtual.result c.as_bytes-text.result.now
    c.roots_of_kind-roots.result.now.entries c.in-Some.number _ _ c.is_virtual.ensures
    (c.as_bytes-text.ensures.value ∙ c.placed_text.ensures) c.roots_of_kind-roots.ensures c.in-Some.ensures in
    subst (λ n. n ≤ length c.args.self.now) (sym found.0) (place_within c.args.self.now c.args.path.now)

pub returns-in-Some-clause-counts : goal.returns-in-Some-clause-counts
returns-in-Some-clause-counts g c =
    (found_place c.args.self.now c.args.path.now c.is_virtual.result c.as_bytes-text.result.now
    c.roots_of_kind-roots.result.now.entries c.in-Some.number _ _ c.is_virtual.ensures
    (c.as_bytes-text.ensures.value ∙ c.placed_text.ensures) c.roots_of_kind-roots.ensures c.in-Some.ensures).1

pub returns-in-None-clause-place : goal.returns-in-None-clause-place
returns-in-None-clause-place g c =
    let count : c.len.result ≡ length c.args.self.now = grind (arith, common_steps) in
    count
    ∙ (found_none c.args.self.now c.args.path.now c.is_virtual.result c.as_bytes-text.result.now
    c.roots_of_kind-roots.result.now.entries _ _ c.is_virtual.ensures
    (c.as_bytes-text.ensures.value ∙ c.placed_text.ensures) c.roots_of_kind-roots.ensures c.in-None.ensures).0

pub returns-in-None-clause-counts : goal.returns-in-None-clause-counts
returns-in-None-clause-counts g c =
    (found_none c.args.self.now c.args.path.now c.is_virtual.result c.as_bytes-text.result.now
    c.roots_of_kind-roots.result.now.entries _ _ c.is_virtual.ensures
    (c.as_bytes-text.ensures.value ∙ c.placed_text.ensures) c.roots_of_kind-roots.ensures c.in-None.ensures).1
