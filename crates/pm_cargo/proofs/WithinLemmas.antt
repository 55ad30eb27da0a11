-- Every id that a workspace holds is present in it: the lists of members are of its packages, and nothing else changes with them.
use Rattle.std.proofs.Common.{◌≡◌, ℕ, ◌<◌, List, length, get_or, Bool, true, false, cond, Some, subst, sym, arith}
use Rattle.std.specs.List.{All}
use Rattle.std.proofs.lemmas.List.{length-map}
use Rattle.std.proofs.lemmas.List.Elements.{All-map, Contains-get_or}
use Rattle.base_text_paths.specs.Arena.{number_of}
use Rattle.base_text_paths.specs.declared.arena.Idx.{Idx}
use Rattle.pm_cargo_packages.specs.Ids.{package_id}
use Rattle.pm_cargo_packages.specs.declared.package.PackageData.{PackageData}
use Rattle.pm_cargo_packages.specs.declared.package.PackageTag.{PackageTag}
use Rattle.pm_cargo_packages.specs.declared.target.TargetData.{TargetData}
use Rattle.pm_cargo_reading.specs.Presence.{HoldsIds, HoldsItsIds}
use Rattle.pm_cargo_members.specs.Closure.{closure}
use Rattle.pm_cargo_members.specs.Members.{member_graph, member_row, package_ids, with_all_member_deps, with_member_deps}
use Rattle.pm_cargo_members.proofs.ClosureLemmas.{closure_below}
use Rattle.pm_cargo_packages.proofs.UpdateLemmas.{changed-each, length-changed}

module _ (packages : List PackageData) (targets : List TargetData) where
  length-members : length (with_all_member_deps packages) ≡ length packages
  unfolding with_all_member_deps
  length-members = length-changed (with_member_deps (member_graph packages)) 0 packages

  -- a package with its members' list holds ids of packages
  member_holds : (k : ℕ) (p : PackageData) → HoldsIds (length packages) (length targets) p → (b : Bool)
      → HoldsIds (length packages) (length targets) (cond b (record p { all_member_deps = Some (package_ids (closure (member_graph packages) k)) }) p)
  member_holds k p h true =
      let graph = member_graph packages in
      let size : length graph ≡ length packages = length-map packages (member_row packages) in
      record {
        targets = h.targets;
        dependencies = h.dependencies;
        member_deps = All-map (λ (id : Idx PackageTag). number_of id < length packages) package_id (closure graph k)
            (λ i d within. omega (arith, closure_below graph k (get_or (closure graph k) i d) (Contains-get_or (closure graph k) i d within), size));
      }
  member_holds k p h false = h

  members_hold : All (HoldsIds (length packages) (length targets)) packages → All (HoldsIds (length packages) (length targets)) (with_all_member_deps packages)
  unfolding with_all_member_deps
  members_hold all =
      changed-each (with_member_deps (member_graph packages)) (HoldsIds (length packages) (length targets)) (HoldsIds (length packages) (length targets))
      (λ k p h. member_holds k p h p.is_member) 0 packages all

  -- with those lists, what is within stays within
  pub members-within : HoldsItsIds (record { packages = packages; targets = targets }) → HoldsItsIds (record { packages = with_all_member_deps packages; targets = targets })
  members-within h = record {
    short = omega (arith, h.short, length-members);
    packages = subst (λ n. All (HoldsIds n (length targets)) (with_all_member_deps packages)) (sym length-members) (members_hold h.packages);
    targets = subst (λ n. All (λ t. number_of t.package < n) targets) (sym length-members) h.targets;
  }
