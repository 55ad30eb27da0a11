-- what is read of default members is read again from what is written of them
use Rattle.std.specs.Prelude.{refl}
use Rattle.json_fields.specs.Fields.{list_at, option_at}
use Rattle.json_fields.specs.Laws.RoundTrips.{list-round_trips, option-round_trips}
use Rattle.json_fields.specs.RoundTrip.{RoundTrips}
use Rattle.json_fields.specs.Written.{list_data, option_data}
use Rattle.cargo_meta_values.specs.Names.{package_id_at, package_id_data}
use Rattle.cargo_meta_values.specs.laws.Names.{package_id-round_trips}

-- the default members: a list, or none
pub default_members-round_trips :
    RoundTrips (option_at (list_at package_id_at)) (option_data (list_data package_id_data)) 0
default_members-round_trips =
    option-round_trips _ _ _ (list-round_trips _ _ _ package_id-round_trips) (λ x. refl)
