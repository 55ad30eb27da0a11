-- kinds and editions are read again from their texts
use Rattle.std.specs.Prelude.{◌≡◌, max, ℕ, List, Ok, refl}
use Rattle.std.specs.Result.{IfOk}
use Rattle.std.proofs.Common.{ap, arith}
use Rattle.serde_json.specs.Data.{Data, null, boolean, number, string, array, object, depth}
use Rattle.serde_json.specs.Written.{has_float}
use Rattle.json_fields.specs.Laws.Names.{value_named-again, value_named_or-again, value_named_or_one-again}
use Rattle.json_fields.specs.Laws.TextForms.{text_form-round_trips}
use Rattle.json_fields.specs.RoundTrip.{IsKept, RoundTrips}
use Rattle.cargo_meta_values.specs.Kinds.{crate_types, dependency_kinds, editions, target_kinds, crate_type_at, crate_type_data, crate_type_of, crate_type_text, dependency_kind_at, dependency_kind_data, dependency_kind_of, dependency_kind_text, edition_at, edition_data, edition_of, edition_text, target_kind_at, target_kind_data, target_kind_of, target_kind_text}
use Rattle.json_fields.specs.Outcome.{Reading}
use Rattle.cargo_meta_values.specs.declared.kinds.TargetKind.{TargetKind}
use Rattle.cargo_meta_values.specs.declared.kinds.CrateType.{CrateType}
use Rattle.cargo_meta_values.specs.declared.kinds.DependencyKind.{DependencyKind}
use Rattle.cargo_meta_values.specs.declared.kinds.TargetKind.TheVariants as target
use Rattle.cargo_meta_values.specs.declared.kinds.CrateType.TheVariants as crate_type
use Rattle.cargo_meta_values.specs.declared.kinds.DependencyKind.TheVariants as dependency

-- the text of a target kind that was read gives the same kind
pub target_kind-again : (text : List ℕ)
    → ◌≡◌ {A = Reading TargetKind} (Ok (target_kind_of (target_kind_text (target_kind_of text))))
    (Ok (target_kind_of text))
unfolding target_kind_of
target_kind-again text =
    ap Ok (value_named_or-again target_kind_text target_kinds target.Unknown (λ t. refl) text)

-- so does that of a crate type
pub crate_type-again : (text : List ℕ)
    → ◌≡◌ {A = Reading CrateType} (Ok (crate_type_of (crate_type_text (crate_type_of text))))
    (Ok (crate_type_of text))
unfolding crate_type_of
crate_type-again text =
    ap Ok (value_named_or-again crate_type_text crate_types crate_type.Unknown (λ t. refl) text)

-- and that of an edition, where the text names one
pub edition-again : (text : List ℕ) → IfOk (edition_of text) (λ e. edition_of (edition_text e) ≡ Ok e)
unfolding edition_of
edition-again text = value_named-again edition_text editions text

dependency_kind-kept : (d : Data)
    → IfOk (dependency_kind_at d)
    (IsKept dependency_kind_at dependency_kind_data (has_float d) (max 0 (depth d)))
unfolding dependency_kind_of
dependency_kind-kept null = record { again = refl; clean = λ _. refl; nests = omega arith }
dependency_kind-kept (boolean b) = tt
dependency_kind-kept (number n) = tt
dependency_kind-kept (string s) = record {
  again = ap Ok (value_named_or_one-again dependency_kind_text dependency_kinds dependency.Unknown refl s);
  clean = λ _. refl;
  nests = omega arith;
}
dependency_kind-kept (array ds) = tt
dependency_kind-kept (object ms) = tt

-- kinds of dependency
pub dependency_kind-round_trips : RoundTrips dependency_kind_at dependency_kind_data 0
dependency_kind-round_trips = record { keeps = dependency_kind-kept }

-- kinds of target
pub target_kind-round_trips : RoundTrips target_kind_at target_kind_data 0
target_kind-round_trips =
    text_form-round_trips (λ text. Ok (target_kind_of text)) target_kind_text target_kind-again

-- crate types
pub crate_type-round_trips : RoundTrips crate_type_at crate_type_data 0
crate_type-round_trips =
    text_form-round_trips (λ text. Ok (crate_type_of text)) crate_type_text crate_type-again

-- editions
pub edition-round_trips : RoundTrips edition_at edition_data 0
edition-round_trips = text_form-round_trips edition_of edition_text edition-again

-- what is said of a dependency's kind as it is read, of its text
pub dependency_kind-of_text : (kind : DependencyKind)
    → dependency_kind_at (dependency_kind_data kind) ≡ Ok kind
    → dependency_kind_of (dependency_kind_text kind) ≡ kind
dependency_kind-of_text kind h = cc
