use Rattle.std.proofs.Common.{◌-◌, ap, arith, rules, sym, ◌∙◌}
use Rattle.std.specs.Cmp.Lexicographic.{texts_ties}
use Rattle.std.specs.Ordering.{is_eq, is_le}
use Rattle.std.proofs.lemmas.List.Sorted.{IsPartitionPoint-from_clause}
use Rattle.base_values.specs.ByText.{text_cmp}
use Rattle.pm_cargo_packages.specs.declared.package.PackageData.{PackageData}
use Rattle.pm_cargo_reading.proofs.NodeLemmas.{package_at, packages_split, place_of_package-last, place_of_package-none}
use Rattle.pm_cargo_reading.proofs.nodes.place_of_package.Goals as goal

pub returns-then-end-eq0 : goal.returns-then-end-eq0
returns-then-end-eq0 c =
    let id = c.args.id.now.repr in
    let split = IsPartitionPoint-from_clause (λ (p : PackageData). is_le (text_cmp p.id.repr id)) c.args.packages.now c.partition_point-end.result c.partition_point-end.ensures.partitioned
    (packages_split c.args.packages.now id c.requires) (λ a r f k. search rules) in
    sym (place_of_package-none c.args.packages.now id c.requires c.partition_point-end.result c.partition_point-end.ensures.bound split
    (λ some d. absurd (omega (arith, some, c.if-end-eq0.true))))

pub returns-then-has_id : goal.returns-then-has_id
returns-then-has_id c =
    let id = c.args.id.now.repr in
    let split = IsPartitionPoint-from_clause (λ (p : PackageData). is_le (text_cmp p.id.repr id)) c.args.packages.now c.partition_point-end.result c.partition_point-end.ensures.partitioned
    (packages_split c.args.packages.now id c.requires) (λ a r f k. search rules) in
    sym (place_of_package-last c.args.packages.now id c.requires c.partition_point-end.result c.partition_point-end.ensures.bound split (omega (arith, c.if-end-eq0.false))
    (λ d. ap (λ (p : PackageData). is_eq (text_cmp p.id.repr id)) (package_at c.args.packages.now (c.partition_point-end.result - 1) c.index-packages-last.result d (omega (arith, c.if-end-eq0.false, c.partition_point-end.ensures.bound)) c.index-packages-last.is) ∙ sym (texts_ties c.index-packages-last.result.id.repr id) ∙ sym c.has_id.ensures ∙ c.if-has_id.true))

pub returns-else-has_id : goal.returns-else-has_id
returns-else-has_id c =
    let id = c.args.id.now.repr in
    let split = IsPartitionPoint-from_clause (λ (p : PackageData). is_le (text_cmp p.id.repr id)) c.args.packages.now c.partition_point-end.result c.partition_point-end.ensures.partitioned
    (packages_split c.args.packages.now id c.requires) (λ a r f k. search rules) in
    sym (place_of_package-none c.args.packages.now id c.requires c.partition_point-end.result c.partition_point-end.ensures.bound split
    (λ some d. ap (λ (p : PackageData). is_eq (text_cmp p.id.repr id)) (package_at c.args.packages.now (c.partition_point-end.result - 1) c.index-packages-last.result d (omega (arith, c.if-end-eq0.false, c.partition_point-end.ensures.bound)) c.index-packages-last.is) ∙ sym (texts_ties c.index-packages-last.result.id.repr id) ∙ sym c.has_id.ensures ∙ c.if-has_id.false))
