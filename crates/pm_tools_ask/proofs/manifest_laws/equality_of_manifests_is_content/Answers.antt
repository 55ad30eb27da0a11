use Rattle.std.proofs.Common.{refl}
use Rattle.pm_tools_ask.proofs.ManifestEqualities.{manifests}
use Rattle.pm_tools_ask.proofs.manifest_laws.equality_of_manifests_is_content.Goals as goal

pub returns : goal.returns
returns c = manifests _ (record {
  json = λ p q. refl;
  table = λ p q. refl;
  script = λ p q. refl;
  json_table = λ p q. refl;
  json_script = λ p q. refl;
  table_json = λ p q. refl;
  table_script = λ p q. refl;
  script_json = λ p q. refl;
  script_table = λ p q. refl;
})
