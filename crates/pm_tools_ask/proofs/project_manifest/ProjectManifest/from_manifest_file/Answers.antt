use Rattle.std.proofs.Common.{◌≡◌, true, false, codes, sym, ap, ◌∙◌, rules}
use Rattle.base_text_paths.specs.ManifestPath.{is_rust_manifest}
use Rattle.pm_tools_ask.specs.Manifest.{has_name, is_project_json, manifest_of}
use Rattle.pm_tools_ask.proofs.Names.{names_json, names_nothing, names_script, names_table, root_names_nothing}
use Rattle.pm_tools_ask.proofs.project_manifest.ProjectManifest.from_manifest_file.Goals as goal

pub returns-then-is_project_json-clause-ok : goal.returns-then-is_project_json-clause-ok
returns-then-is_project_json-clause-ok c =
    let json : is_project_json c.in-Ok.manifest ≡ true = ap is_project_json (sym c.as_path-path.ensures) ∙ sym c.is_project_json.ensures ∙ c.if-is_project_json.true in
    ap manifest_of (sym c.in-Ok.ensures.ok) ∙ names_json _ json

pub returns-then-has_name-clause-ok : goal.returns-then-has_name-clause-ok
returns-then-has_name-clause-ok c =
    let json : is_project_json c.in-Ok.manifest ≡ false = ap is_project_json (sym c.as_path-path.ensures) ∙ sym c.is_project_json.ensures ∙ c.if-is_project_json.false in
    let table : has_name (codes "Cargo.toml") c.in-Ok.manifest ≡ true = ap (has_name (codes "Cargo.toml")) (sym c.as_path-path.ensures) ∙ sym c.has_name.ensures ∙ c.if-has_name.true in
    ap manifest_of (sym c.in-Ok.ensures.ok) ∙ names_table _ json table

pub returns-then-is_rust_manifest-clause-ok : goal.returns-then-is_rust_manifest-clause-ok
returns-then-is_rust_manifest-clause-ok c =
    let json : is_project_json c.in-Ok.manifest ≡ false = ap is_project_json (sym c.as_path-path.ensures) ∙ sym c.is_project_json.ensures ∙ c.if-is_project_json.false in
    let table : has_name (codes "Cargo.toml") c.in-Ok.manifest ≡ false = ap (has_name (codes "Cargo.toml")) (sym c.as_path-path.ensures) ∙ sym c.has_name.ensures ∙ c.if-has_name.false in
    let script : is_rust_manifest c.in-Ok.manifest ≡ true = sym c.is_rust_manifest.ensures ∙ c.if-is_rust_manifest.true in
    ap manifest_of (sym c.in-Ok.ensures.ok) ∙ names_script _ json table script

pub returns-clause-bad : goal.returns-clause-bad
returns-clause-bad c =
    let json : is_project_json c.in-Ok.manifest ≡ false = ap is_project_json (sym c.as_path-path.ensures) ∙ sym c.is_project_json.ensures ∙ c.if-is_project_json.false in
    let table : has_name (codes "Cargo.toml") c.in-Ok.manifest ≡ false = ap (has_name (codes "Cargo.toml")) (sym c.as_path-path.ensures) ∙ sym c.has_name.ensures ∙ c.if-has_name.false in
    let script : is_rust_manifest c.in-Ok.manifest ≡ false = sym c.is_rust_manifest.ensures ∙ c.if-is_rust_manifest.false in
    ap manifest_of (sym c.in-Ok.ensures.ok) ∙ names_nothing _ json table script

pub returns-in-Err-clause-bad : goal.returns-in-Err-clause-bad
returns-in-Err-clause-bad c =
    let root : c.args.path ≡ codes "/" = c.in-Err.ensures.root.0 (search rules) in
    ap manifest_of root ∙ root_names_nothing
