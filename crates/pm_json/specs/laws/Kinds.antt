-- editions, kinds of target and kinds of runnable are read again from their names
use Rattle.std.specs.Prelude.{◌≡◌, ℕ, List, Ok, IfOk, refl}
use Rattle.std.proofs.Common.{ap}
use Rattle.json_fields.specs.Laws.Names.{value_named-again, value_named_or_one-again}
use Rattle.json_fields.specs.Laws.TextForms.{text_form-round_trips}
use Rattle.json_fields.specs.Outcome.{Reading}
use Rattle.json_fields.specs.RoundTrip.{RoundTrips}
use Rattle.pm_json.specs.Kinds.{json_edition_at, json_edition_data, json_edition_of, json_edition_text, json_editions, runnable_kind_at, runnable_kind_data, runnable_kind_of, runnable_kind_text, runnable_kinds, json_target_kind_at, json_target_kind_data, json_target_kind_of, json_target_kind_text, json_target_kinds}
use Rattle.pm_json.specs.declared.kinds.RunnableKind.{RunnableKind}
use Rattle.pm_json.specs.declared.kinds.RunnableKind.TheVariants as runnable

-- an edition is read again from its name
pub json_edition-again : (text : List ℕ)
    → IfOk (json_edition_of text) (λ e. json_edition_of (json_edition_text e) ≡ Ok e)
unfolding json_edition_of
json_edition-again text = value_named-again json_edition_text json_editions text

-- so is a kind of target
pub json_target_kind-again : (text : List ℕ)
    → IfOk (json_target_kind_of text) (λ k. json_target_kind_of (json_target_kind_text k) ≡ Ok k)
unfolding json_target_kind_of
json_target_kind-again text = value_named-again json_target_kind_text json_target_kinds text

-- and a kind of runnable
pub runnable_kind-again : (text : List ℕ)
    → ◌≡◌ {A = Reading RunnableKind} (Ok (runnable_kind_of (runnable_kind_text (runnable_kind_of text))))
    (Ok (runnable_kind_of text))
unfolding runnable_kind_of
runnable_kind-again text =
    ap Ok (value_named_or_one-again runnable_kind_text runnable_kinds runnable.Unknown refl text)

-- editions
pub json_edition-round_trips : RoundTrips json_edition_at json_edition_data 0
json_edition-round_trips = text_form-round_trips json_edition_of json_edition_text json_edition-again

-- kinds of target
pub json_target_kind-round_trips : RoundTrips json_target_kind_at json_target_kind_data 0
json_target_kind-round_trips =
    text_form-round_trips json_target_kind_of json_target_kind_text json_target_kind-again

-- kinds of runnable
pub runnable_kind-round_trips : RoundTrips runnable_kind_at runnable_kind_data 0
runnable_kind-round_trips =
    text_form-round_trips (λ text. Ok (runnable_kind_of text)) runnable_kind_text runnable_kind-again

-- what is said of a runnable's kind as it is read, of its text
pub runnable_kind-of_text : (kind : RunnableKind) → runnable_kind_at (runnable_kind_data kind) ≡ Ok kind
    → runnable_kind_of (runnable_kind_text kind) ≡ kind
runnable_kind-of_text kind h = cc
