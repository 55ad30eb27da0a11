use Rattle.std.proofs.Common.{◌≡◌, ap, ◌∙◌, sym}
use Rattle.std.specs.Option.{option_and_then, option_copied}
use Rattle.base_text_paths.specs.AbsPath.{abs_text}
use Rattle.base_text_paths.specs.FileName.{extension_of}
use Rattle.base_text_paths.specs.Paths.{file_name}
use Rattle.base_text_paths.proofs.ManifestLemmas.{no_extension, with_extension}
use Rattle.base_text_paths.proofs.manifest_path.ManifestPath.is_rust_manifest.Goals as goal

pub returns-in-Some : goal.returns-in-Some
returns-in-Some c =
    let text : abs_text c.as_path.result ≡ c.args.self.now = c.as_path.ensures ∙ c.self.view_is in
    let extension = ap (λ t. option_and_then extension_of (file_name t)) (sym text) ∙ sym c.extension.ensures ∙ ap option_copied c.in-Some.is in
    c.eq.ensures ∙ sym (with_extension c.args.self.now c.in-Some.extension.now extension)

pub returns-in-None : goal.returns-in-None
returns-in-None c =
    let text : abs_text c.as_path.result ≡ c.args.self.now = c.as_path.ensures ∙ c.self.view_is in
    sym (no_extension c.args.self.now (ap (λ t. option_and_then extension_of (file_name t)) (sym text) ∙ sym c.extension.ensures ∙ ap option_copied c.in-None.is))
