-- The metadata of a workspace is fetched as the definition says, where the code's values are those of the definition.
use Rattle.std.proofs.Common.{◌≡◌, ℕ, false, List, codes, Option, Some, ap}
use Rattle.std.specs.Borrow.{Bor}
use Rattle.std.specs.Option.{unwrap_or}
use Rattle.base_text_paths.specs.Paths.{parent_text}
use Rattle.pm_cargo_config.specs.declared.config.CargoConfig.{CargoConfig}
use Rattle.pm_cargo_config.specs.declared.metadata_config.CargoMetadataConfig.{CargoMetadataConfig}
use Rattle.base_text.specs.declared.tool_root.ToolRoot.{ToolRoot}
use Rattle.pm_lower_load.specs.Metadata.{fetched_in, lines_in, metadata_answer, metadata_config, metadata_lines}
use Rattle.pm_lower_load.specs.declared.tool_answers.ToolAnswers.{ToolAnswers}
use Rattle.base_text_paths.specs.ManifestPath.{directory_of}
use Rattle.pm_tools_ask.specs.Ask.{Means}
use Rattle.pm_tools_ask.specs.Sysroot.{tool_root}
use Rattle.pm_tools_ask.specs.Toolchain.{Toolchain}

-- the directory that is above a manifest
pub above : (manifest dir : List ℕ) → Some dir ≡ parent_text manifest → dir ≡ directory_of manifest
above manifest dir is = ap (λ (parent : Option (List ℕ)). unwrap_or parent (codes "/")) is

-- what is fetched of a project: the directory is that of the manifest, and the kind of metadata has no effect
pub metadata_answer-is : (sysroot : Toolchain) (manifest dir : List ℕ) (config : CargoConfig) (answers : ToolAnswers) (means : Means) (kind : Bor (List ℕ))
    (asked : CargoMetadataConfig) (root : ToolRoot) → Some dir ≡ parent_text manifest → asked ≡ record (metadata_config config answers) { kind = kind } → root ≡ tool_root sysroot.root means
    → fetched_in manifest dir asked root config.no_deps false means.answers ≡ metadata_answer sysroot manifest config answers means
unfolding metadata_answer
metadata_answer-is sysroot manifest dir config answers means kind asked root is_dir is_asked is_root =
    λ i. fetched_in manifest (above manifest dir is_dir i) (is_asked i) (is_root i) config.no_deps false means.answers

-- the lines meanwhile
pub metadata_lines-is : (sysroot : Toolchain) (manifest dir : List ℕ) (config : CargoConfig) (answers : ToolAnswers) (means : Means) (kind : Bor (List ℕ))
    (asked : CargoMetadataConfig) (root : ToolRoot) → Some dir ≡ parent_text manifest → asked ≡ record (metadata_config config answers) { kind = kind } → root ≡ tool_root sysroot.root means
    → lines_in manifest dir asked root config.no_deps false means.answers ≡ metadata_lines sysroot manifest config answers means
unfolding metadata_lines
metadata_lines-is sysroot manifest dir config answers means kind asked root is_dir is_asked is_root =
    λ i. lines_in manifest (above manifest dir is_dir i) (is_asked i) (is_root i) config.no_deps false means.answers
