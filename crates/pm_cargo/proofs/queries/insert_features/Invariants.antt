use Rattle.std.proofs.Common.{◌≡◌, ◌++◌, ◌||◌, ℕ, List, map}
use Rattle.std.specs.BTreeSet.{contains_text}
use Rattle.std.specs.List.{list_any}
use Rattle.std.specs.Map.{keys_of}
use Rattle.base_values.specs.ByText.{text_entries}
use Rattle.pm_cargo.specs.Queries.{names_feature}
use Rattle.pm_cargo.proofs.QueryLemmas.{seen_feature}
use Rattle.pm_cargo.proofs.queries.insert_features.Given as goal

abbrev pub invariant-loop-feature : goal.invariant-loop-feature
invariant-loop-feature l =
    (goal.iterator-loop-feature).can_next l.feature-iterator ×
    (goal.iterator-loop-feature).is_finite l.feature-iterator ×
    record {
      done : (text : List ℕ) → contains_text l.features text
          ≡ (contains_text l.initial.features text || list_any (names_feature l.package.name text) (keys_of (map seen_feature l.yielded)));
      all : text_entries l.initial.feature-iterator ≡ map seen_feature l.yielded ++ text_entries l.feature-iterator;
    }
