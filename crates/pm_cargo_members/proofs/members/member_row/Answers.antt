use Rattle.std.proofs.Common.{List, ap, map, ◌∙◌}
use Rattle.std.specs.List.{filter}
use Rattle.std.proofs.lemmas.List.{take_all}
use Rattle.pm_cargo_packages.specs.declared.package.PackageDependency.{PackageDependency}
use Rattle.pm_cargo_members.specs.Members.{is_member_at, place_of_dependency}
use Rattle.pm_cargo_members.proofs.MemberLemmas.{member_row-member, member_row-none}
use Rattle.pm_cargo_members.proofs.members.member_row.Goals.{then-owner+else-loop-dependency-test, else-owner}
use Rattle.pm_cargo_members.proofs.members.member_row.Goals as goal

pub returns : goal.returns
returns c = elim c.if-owner.branch [
  | then-owner+else-loop-dependency-test w ↦
      let packages = c.args.packages.now in
      let items = w.as_slice-dependency-items.result.now in
      let places : List PackageDependency → _ = λ ds. filter (is_member_at packages) (map place_of_dependency ds) in
      let all = take_all w.loop-dependency.dependency-index items w.loop-dependency-test.false in
      ap (λ v. v.items) w.row-is ∙ w.loop-dependency.invariant ∙ ap places (all ∙ w.as_slice-dependency-items.ensures)
      ∙ member_row-member packages c.args.owner.now w.if-owner.true
  | else-owner w ↦ ap (λ v. v.items) w.row-is ∙ c.new-row.ensures.items ∙ member_row-none c.args.packages.now c.args.owner.now w.if-owner.false
]
