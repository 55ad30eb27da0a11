-- The manifest of a workspace's root, as cargo locates it for the manifest that a load begins with. The table
-- is that of `cargo locate-project`.
use Rattle.std.specs.Prelude.{ℕ, List, [], ◌∷◌, codes, Option, Some, None, Ok, Err}
use Rattle.std.specs.Option.{option_and_then}
use Rattle.serde_json.specs.Data.{Data}
use Rattle.json_fields.specs.Document.{document}
use Rattle.json_fields.specs.Fields.{members_at, required_member, text_at}
use Rattle.base_values.specs.Outcome.{◌>>=◌}
use Rattle.json_fields.specs.Outcome.{Reading}
use Rattle.base_text_outside.specs.declared.command.CommandLine.{CommandLine}
use Rattle.base_text.specs.declared.tool.Tool.TheVariants.{Cargo}
use Rattle.pm_lower_load.specs.Loading.{Loading, of_reading}
use Rattle.pm_lower_load.specs.declared.located.LocatedRoot.{LocatedRoot}
use Rattle.pm_cargo_reading.specs.Packages.{absolute_manifest}
use Rattle.base_text_paths.specs.ManifestPath.{directory_of}
use Rattle.pm_tools_ask.specs.Answers.{serving_answer}
use Rattle.pm_tools_ask.specs.Ask.{Means}
use Rattle.pm_tools_ask.specs.Questions.{question}
use Rattle.pm_tools_ask.specs.Toolchain.{Toolchain}

-- the table of an answer
unfoldable pub located_root_at : Data → Reading LocatedRoot
located_root_at d = do
  ms ← members_at d
  root ← required_member (codes "root") text_at ms
  Ok (record { root = root })

-- what was read, where the answer fits the table
abbrev pub fitting_root : Reading LocatedRoot → Option (List ℕ)
fitting_root (Ok located) = Some located.root
fitting_root (Err place) = None

-- the root that an answer names; an answer that does not fit the table names none
abbrev pub root_named : List ℕ → Option (List ℕ)
root_named answer = fitting_root (document located_root_at answer)

-- the words of the question
unfoldable pub locate_words : List ℕ → List (List ℕ)
locate_words manifest = codes "locate-project" ∷ codes "--workspace" ∷ codes "--manifest-path" ∷ manifest ∷ []

-- the question, which is asked in the directory of the manifest
abbrev pub locate_question : Toolchain → List ℕ → Means → CommandLine
locate_question sysroot manifest means =
    question sysroot.root Cargo (directory_of manifest) (locate_words manifest) means

-- the root that cargo locates, if it does
unfoldable pub located_root : Toolchain → List ℕ → Means → Option (List ℕ)
located_root sysroot manifest means =
    option_and_then root_named (serving_answer means.answers (locate_question sysroot manifest means))

-- the manifest in place of the one that a load begins with: the root that was located, which must be absolute
-- and lie in a directory
abbrev pub manifest_or_located : List ℕ → Option (List ℕ) → Loading (List ℕ)
manifest_or_located manifest None = Ok manifest
manifest_or_located manifest (Some root) = of_reading (absolute_manifest root)

-- the manifest that all later questions are asked by
abbrev pub located_manifest : Toolchain → List ℕ → Means → Loading (List ℕ)
located_manifest sysroot manifest means = manifest_or_located manifest (located_root sysroot manifest means)
