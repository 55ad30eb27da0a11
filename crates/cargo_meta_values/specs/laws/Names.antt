-- ids and sources are read again from their texts
use Rattle.std.specs.Prelude.{refl}
use Rattle.json_fields.specs.Laws.TextForms.{text_form-round_trips}
use Rattle.json_fields.specs.RoundTrip.{RoundTrips}
use Rattle.cargo_meta_values.specs.Names.{package_id_at, package_id_data, package_id_of, package_id_text, source_at, source_data, source_of, source_text}

-- ids of packages
pub package_id-round_trips : RoundTrips package_id_at package_id_data 0
package_id-round_trips = text_form-round_trips package_id_of package_id_text (λ text. refl)

-- sources of packages
pub source-round_trips : RoundTrips source_at source_data 0
source-round_trips = text_form-round_trips source_of source_text (λ text. refl)
