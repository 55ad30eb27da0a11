use Rattle.std.proofs.Common.{◌≡◌, ◌∙◌, Ok, Some, ap, find, sym}
use Rattle.std.proofs.lemmas.Result.{err_from_is_err_and}
use Rattle.std.specs.Option.{option_copied}
use Rattle.pm_tools.specs.Artifact.{absolute_output_path, dylib_at}
use Rattle.pm_tools.specs.Library.{is_library}
use Rattle.base_values.specs.Outcome.{◌>>=◌}
use Rattle.pm_cargo.specs.declared.output.ProcMacroDylibPath.TheVariants.{Path}
use Rattle.pm_tools.proofs.ReadingLemmas.{refuses_bind, refuses_same}
use Rattle.pm_tools.proofs.artifact.library_among.Goals as goal

pub returns-in_err-absolute_path-in-Some : goal.returns-in_err-absolute_path-in-Some
returns-in_err-absolute_path-in-Some c =
    let found : find is_library c.args.files.now ≡ Some c.in-Some.file.now = sym c.first_library.ensures ∙ ap option_copied c.in-Some.is in
    let p = err_from_is_err_and c.from_residual.result c.from_residual.ensures.1 in
    rw (p.1, p.2) (refuses_same _ (absolute_output_path c.as_str.result.now >>= λ path. Ok (Path path)) _
    (ap (λ text. absolute_output_path text >>= λ path. Ok (Path path)) c.as_str.ensures ∙ ap dylib_at (sym found))
    (refuses_bind _ (absolute_output_path c.as_str.result.now) (λ path. Ok (Path path)) c.in_err-absolute_path-in-Some.ensures))

pub returns-in_ok-absolute_path-in-Some : goal.returns-in_ok-absolute_path-in-Some
returns-in_ok-absolute_path-in-Some c =
    let found : find is_library c.args.files.now ≡ Some c.in-Some.file.now = sym c.first_library.ensures ∙ ap option_copied c.in-Some.is in
    ap dylib_at found ∙ ap (λ text. absolute_output_path text >>= λ path. Ok (Path path)) (sym c.as_str.ensures)
    ∙ ap (λ r. r >>= λ path. Ok (Path path)) c.in_ok-absolute_path-in-Some.ensures

pub returns-in-None : goal.returns-in-None
returns-in-None c = ap dylib_at (sym c.first_library.ensures ∙ ap option_copied c.in-None.is)
