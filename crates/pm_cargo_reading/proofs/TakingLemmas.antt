-- One more target, and one more package, of a document: where each is refused, and what it adds.
use Rattle.std.proofs.Common.{◌≡◌, ℕ, ◌<◌, ◌≤◌, List, [], ◌∷◌, ◌++◌, length, true, false, Ok, Err, refl, ap, subst, cond}
use Rattle.std.proofs.lemmas.Bool.{le-ltb, lt-ltb}
use Rattle.base_text_outside.specs.declared.limits.Limit.TheVariants.{Packages, Targets}
use Rattle.base_text_outside.specs.declared.limits.Limits.{Limits}
use Rattle.cargo_meta_values.specs.declared.names.PackageId.{PackageId}
use Rattle.cargo_meta.specs.declared.package.Package.{Package}
use Rattle.cargo_meta_values.specs.declared.target.Target.{Target}
use Rattle.pm_cargo_packages.specs.declared.target.TargetData.{TargetData}
use Rattle.pm_cargo_reading.specs.declared.contents.Contents.{Contents}
use Rattle.pm_cargo_reading.specs.Packages.{absolute_path, is_script, absolute_manifest, target_root, take_package, take_target, target_with_root, with_package}
use Rattle.base_values.specs.Outcome.{take_each}
use Rattle.pm_cargo_reading.specs.Reading.{Refuses}
use Rattle.pm_cargo_reading.specs.declared.workspace_error.WorkspaceError.{WorkspaceError}
use Rattle.pm_cargo_reading.specs.declared.workspace_error.WorkspaceError.TheVariants.{TooMany}
use Rattle.pm_cargo_reading.proofs.ReadingLemmas.{refuses_bind}

module _ (limit place : ℕ) (manifest : List ℕ) (before : List TargetData) (t : Target) where
  -- there are as many targets as the limit
  pub target-too_many : limit ≤ length before → take_target limit place manifest before t ≡ Err (TooMany Targets)
  unfolding take_target
  target-too_many full = rw (le-ltb (length before) limit full) refl

  -- the target's root is refused
  pub target-refused : (e : WorkspaceError) → length before < limit → Refuses e (target_root manifest t) → Refuses e (take_target limit place manifest before t)
  unfolding take_target
  target-refused e room h = rw (lt-ltb (length before) limit room) (refuses_bind e (target_root manifest t) (λ root. Ok (before ++ target_with_root place t root ∷ [])) h)

  -- the target is taken
  pub target-added : (root : List ℕ) → length before < limit → target_root manifest t ≡ Ok root
      → take_target limit place manifest before t ≡ Ok (before ++ target_with_root place t root ∷ [])
  unfolding take_target
  target-added root room is = rw (lt-ltb (length before) limit room) (rw is refl)

-- the place of a target's package plays no part in whether it is refused
pub target-moved : (e : WorkspaceError) (limit p q : ℕ) (manifest : List ℕ) (before : List TargetData) (t : Target) → p ≡ q
    → Refuses e (take_target limit p manifest before t) → Refuses e (take_target limit q manifest before t)
target-moved e limit p q manifest before t same h = subst (λ place. Refuses e (take_target limit place manifest before t)) same h

-- ---- roots

module _ (manifest : List ℕ) (t : Target) where
  -- the program of a script has the script as its root
  pub root-script : is_script manifest t ≡ true → target_root manifest t ≡ Ok manifest
  unfolding target_root
  root-script is = ap (λ b. cond b (Ok manifest) (absolute_path t.src_path)) is

  -- any other target has its source file
  pub root-source : is_script manifest t ≡ false → target_root manifest t ≡ absolute_path t.src_path
  unfolding target_root
  root-source is = ap (λ b. cond b (Ok manifest) (absolute_path t.src_path)) is

module _ (members : List PackageId) (limits : Limits) (before : Contents) (p : Package) where
  -- there are as many packages as the limit
  pub package-too_many : limits.packages ≤ length before.packages → take_package members limits before p ≡ Err (TooMany Packages)
  unfolding take_package
  package-too_many full = rw (le-ltb (length before.packages) limits.packages full) refl

  -- the package's manifest is refused
  pub package-no_manifest : (e : WorkspaceError) (text : List ℕ) → text ≡ p.manifest_path → length before.packages < limits.packages → Refuses e (absolute_manifest text)
      → Refuses e (take_package members limits before p)
  unfolding take_package
  package-no_manifest e text same room h =
      rw (lt-ltb (length before.packages) limits.packages room)
      (refuses_bind e (absolute_manifest p.manifest_path) _ (subst (λ t. Refuses e (absolute_manifest t)) same h))

  -- a target of it is refused
  pub package-no_targets : (e : WorkspaceError) (manifest : List ℕ) (targets : List Target) → targets ≡ p.targets → length before.packages < limits.packages
      → absolute_manifest p.manifest_path ≡ Ok manifest
      → Refuses e (take_each (take_target limits.targets (length before.packages) manifest) before.targets targets)
      → Refuses e (take_package members limits before p)
  unfolding take_package
  package-no_targets e manifest targets same room is h =
      rw (lt-ltb (length before.packages) limits.packages room) (rw is
      (refuses_bind e (take_each (take_target limits.targets (length before.packages) manifest) before.targets p.targets) (λ targets. Ok (with_package members before manifest p targets))
      (subst (λ ts. Refuses e (take_each (take_target limits.targets (length before.packages) manifest) before.targets ts)) same h)))

  -- the package is taken
  pub package-added : (manifest : List ℕ) (targets : List TargetData) → length before.packages < limits.packages → absolute_manifest p.manifest_path ≡ Ok manifest
      → take_each (take_target limits.targets (length before.packages) manifest) before.targets p.targets ≡ Ok targets
      → take_package members limits before p ≡ Ok (with_package members before manifest p targets)
  unfolding take_package
  package-added manifest targets room is taken = rw (lt-ltb (length before.packages) limits.packages room) (rw is (rw taken refl))
