-- What a compiler's specification of a platform says of it, as `rustc --print target-spec-json` prints it.
-- Other members are ignored.
use Rattle.std.specs.Prelude.{ℕ, if◌then◌else◌, bytes_eq, List, codes, Option, Ok}
use Rattle.std.specs.Result.{result_ok}
use Rattle.serde_json.specs.Data.{Data}
use Rattle.json_fields.specs.Document.{document}
use Rattle.json_fields.specs.Fields.{members_at, required_member, text_at}
use Rattle.base_values.specs.Outcome.{◌>>=◌}
use Rattle.json_fields.specs.Outcome.{Reading}
use Rattle.crate_graph_values.specs.declared.target.Arch.{Arch}
use Rattle.crate_graph_values.specs.declared.target.Arch.TheVariants.{Wasm32, Wasm64, Other}
use Rattle.crate_graph_values.specs.declared.target.TargetData.{TargetData}
use Rattle.pm_tools_info.specs.declared.target_spec.TargetSpec.{TargetSpec}

-- the kind of machine that a name stands for
unfoldable pub arch_of : List ℕ → Arch
arch_of name =
    if bytes_eq name (codes "wasm32") then Wasm32
    else if bytes_eq name (codes "wasm64") then Wasm64
    else Other

-- a specification, whose layout and kind of machine must be there
unfoldable pub target_spec_at : Data → Reading TargetSpec
target_spec_at d = do
  ms ← members_at d
  data_layout ← required_member (codes "data-layout") text_at ms
  arch ← required_member (codes "arch") text_at ms
  Ok (record { data_layout = data_layout; arch = arch_of arch })

-- the specification that a text is, where it is JSON that fits and holds no float
abbrev pub spec_of : List ℕ → Option TargetSpec
spec_of text = result_ok (document target_spec_at text)

-- the machine of a specification
abbrev pub machine_of : TargetSpec → TargetData
machine_of spec = record { data_layout = spec.data_layout; arch = spec.arch }
