-- Lists in order and each item once: lists that hold the same items are then one list.
use Rattle.std.proofs.Common.{◌≡◌, ◌↔◌, Bool, true, false, List, refl, sym, ◌∙◌}
use Rattle.std.specs.Cmp.{IsTotalOrder, eq_by_cmp_equiv, on_total, then_total}
use Rattle.std.specs.Cmp.Lexicographic.{lists_total, nat_list_cmp_total, slice_cmp}
use Rattle.std.specs.FinMap.{IsAntisymmetric, nat_cmp-IsAntisymmetric, slice_cmp-IsAntisymmetric}
use Rattle.std.specs.List.{Contains, dedup}
use Rattle.std.specs.Ordering.{eq_by_cmp}
use Rattle.std.specs.declared.cmp.Ordering.{Ordering}
use Rattle.std.proofs.lemmas.Bool.{false≢true}
use Rattle.std.proofs.lemmas.List.Kept.{IsStrictlySortedBy-dedup}
use Rattle.std.proofs.lemmas.List.Sorted.{list_any-IsPermutation}
use Rattle.std.proofs.lemmas.Map.Views.{Contains-from_any, list_any-from_Contains}
use Rattle.base_values.proofs.InOrder.{sorted-IsPermutation, sorted-IsSorted}
use Rattle.base_values.proofs.SortedLists.{has, has-dedup, sorted_unique, tied}
use Rattle.base_values.specs.ByText.{text_cmp}
use Rattle.base_values.specs.Sorted.{sorted}
use Rattle.live_page.specs.Entries.{dependency_cmp, distinct_entries, entry_cmp}
use Rattle.live_page.specs.declared.crate_entry.CrateEntry.{CrateEntry}
use Rattle.base_values.proofs.Basics.{both_equal}

module _ {K : Type 0} {R : K → K → Ordering} (o : IsTotalOrder R) (same : IsAntisymmetric R) where
  -- what a search finds in one list it finds in another that holds the same items
  found_alike : (xs ys : List K) → ((x : K) → Contains xs x ↔ Contains ys x) → (q : K) → has R q xs ≡ has R q ys
  found_alike xs ys alike q = by (has R q xs) (has R q ys) refl refl
    where
      there : (zs : List K) → has R q zs ≡ true → Contains zs q
      there zs found = Contains-from_any (λ x y e. same x y (tied (R x y) e)) q zs found

      found : (zs : List K) → Contains zs q → has R q zs ≡ true
      found zs c = list_any-from_Contains (eq_by_cmp_equiv o) q zs c

      by : (a b : Bool) → has R q xs ≡ a → has R q ys ≡ b → a ≡ b
      by true true left right = refl
      by true false left right = absurd (false≢true (sym right ∙ found ys ((alike q).0 (there xs left))))
      by false true left right = absurd (false≢true (sym left ∙ found xs ((alike q).1 (there ys right))))
      by false false left right = refl

  distinct_alike : (xs ys : List K) → ((x : K) → Contains xs x ↔ Contains ys x)
      → dedup (eq_by_cmp R) (sorted R xs) ≡ dedup (eq_by_cmp R) (sorted R ys)
  distinct_alike xs ys alike =
      sorted_unique o same _ _
      (IsStrictlySortedBy-dedup o (λ x y. refl) (sorted R xs) (sorted-IsSorted o xs))
      (IsStrictlySortedBy-dedup o (λ x y. refl) (sorted R ys) (sorted-IsSorted o ys))
      (λ q. held xs q ∙ found_alike xs ys alike q ∙ sym (held ys q))
    where
      held : (zs : List K) (q : K) → has R q (dedup (eq_by_cmp R) (sorted R zs)) ≡ has R q zs
      held zs q =
          has-dedup o (eq_by_cmp R) (λ x y. refl) q (sorted R zs)
          ∙ sym (list_any-IsPermutation (eq_by_cmp R q) zs (sorted R zs) (sorted-IsPermutation R zs))

-- ---- the order of entries

dependency_total : IsTotalOrder dependency_cmp
dependency_total = then_total (on_total (λ dep. dep.name) nat_list_cmp_total) (on_total (λ dep. dep.root) nat_list_cmp_total)

entry_total : IsTotalOrder entry_cmp
entry_total = then_total (on_total (λ entry. entry.root) nat_list_cmp_total) (on_total (λ entry. entry.deps) (lists_total dependency_total))

texts_same : IsAntisymmetric text_cmp
texts_same = slice_cmp-IsAntisymmetric nat_cmp-IsAntisymmetric

-- dependencies that tie are the same
dependencies_same : IsAntisymmetric dependency_cmp
dependencies_same x y tie =
    let parts = both_equal (text_cmp x.name y.name) (text_cmp x.root y.root) tie in
    let name = texts_same x.name y.name parts.0 in
    let root = texts_same x.root y.root parts.1 in
    λ i. record { name = name i; root = root i }

-- entries that tie are the same
entries_same : IsAntisymmetric entry_cmp
entries_same x y tie =
    let parts = both_equal (text_cmp x.root y.root) (slice_cmp dependency_cmp x.deps y.deps) tie in
    let root = texts_same x.root y.root parts.0 in
    let deps = slice_cmp-IsAntisymmetric dependencies_same x.deps y.deps parts.1 in
    λ i. record { root = root i; deps = deps i }

-- entries in order, each once, are those of any list that holds the same ones
pub distinct_entries_alike : (xs ys : List CrateEntry) → ((entry : CrateEntry) → Contains xs entry ↔ Contains ys entry)
    → distinct_entries xs ≡ distinct_entries ys
distinct_entries_alike xs ys alike = distinct_alike entry_total entries_same xs ys alike
