-- Equality of contents, for what a build gives.
use Rattle.std.proofs.Common.{◌≡◌, ◌↔◌, ℕ, Bool, true, ◌&&◌, ap, refl, nat_eq}
use Rattle.std.proofs.lemmas.Bool.Decides.{Decides-and}
use Rattle.std.specs.Cmp.Lexicographic.{pointwise}
use Rattle.std.specs.FinMap.{FinMap, entries, same_entries_map}
use Rattle.std.specs.List.{All}
use Rattle.std.specs.Option.{option_eq}
use Rattle.std.specs.Ordering.{nat_cmp}
use Rattle.base_values.specs.ByNumberEq.{same_map}
use Rattle.base_values.proofs.Equalities.{numbers, texts}
use Rattle.crate_graph_values.specs.Laws.{IsContentEqualityOn}
use Rattle.pm_cargo.specs.OutputLaws.{HasCleanOutput}
use Rattle.pm_cargo.specs.declared.output.BuildScriptOutput.{BuildScriptOutput}
use Rattle.crate_graph_values.proofs.ContentsOn.{lists_on, options}
use Rattle.pm_tools.specs.Laws.{HasCleanBuild}
use Rattle.pm_tools.specs.Outputs.{BuildScripts, Outputs}

module _ {V : Type 0} (P : V → Type 0) (eq : V → V → Bool) (content : IsContentEqualityOn P eq) where
  -- entries with values of which a fact holds
  entries_on : IsContentEqualityOn {A = ℕ × V} (λ entry. P entry.1) (λ p q. nat_eq p.0 q.0 && eq p.1 q.1)
  entries_on p q a b =
      let both = Decides-and _ _ (numbers p.0 q.0) (content p.1 q.1 a b) in
      (λ h. let parts = both.0 h in λ i. (parts.0 i, parts.1 i), λ h. both.1 (ap (λ x. x.0) h, ap (λ x. x.1) h))

  -- maps of such values
  maps_on : (m n : FinMap nat_cmp V) → All (λ entry. P entry.1) (entries m) → All (λ entry. P entry.1) (entries n) → (same_map eq m n ≡ true) ↔ (m ≡ n)
  maps_on m n a b =
      let same = lists_on (λ (entry : ℕ × V). P entry.1) _ entries_on (entries m) (entries n) a b in
      (λ e. same_entries_map m n (same.0 e), λ e. same.1 (ap entries e))

-- nothing else has to be equal
always : (true ≡ true) ↔ Unit {0}
always = (λ e. tt, λ u. refl)

module _ (output_eq : BuildScriptOutput → BuildScriptOutput → Bool) (known : IsContentEqualityOn HasCleanOutput output_eq) where
  abbrev scripts_eq : BuildScripts → BuildScripts → Bool
  scripts_eq x y = (same_map output_eq x.outputs y.outputs && true) && option_eq (pointwise nat_eq) x.error y.error

  pub scripts_are_equal : (x y : BuildScripts) → HasCleanBuild x → HasCleanBuild y → (scripts_eq x y ≡ true) ↔ (x ≡ y)
  scripts_are_equal x y p q =
      let maps = maps_on HasCleanOutput output_eq known x.outputs y.outputs p q in
      let all = Decides-and _ _ (Decides-and _ true maps always) (options (pointwise nat_eq) texts x.error y.error) in (
        λ e. let r = all.0 e in λ i. record { outputs = r.0.0 i; error = r.1 i },
        λ e. all.1 ((ap (λ s. s.outputs) e, tt), ap (λ s. s.error) e),
      )
