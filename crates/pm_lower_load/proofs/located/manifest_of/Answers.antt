use Rattle.std.proofs.Common.{◌∙◌, Ok, ap, refl, sym, true≢false}
use Rattle.std.proofs.lemmas.Result.{err_from_is_err_and}
use Rattle.pm_lower_load.specs.Loading.{of_reading}
use Rattle.pm_lower_load.proofs.LoadingLemmas.{refuses_reading}
use Rattle.pm_cargo_reading.proofs.PathLemmas.{manifest_is, manifest_refused, root_is}
use Rattle.pm_lower_load.proofs.located.manifest_of.Goals as goal

pub returns-in_err-path : goal.returns-in_err-path
returns-in_err-path c =
    let p = err_from_is_err_and c.from_residual.result c.from_residual.ensures.1 in
    rw (p.1, p.2) (refuses_reading c.in_err-path.field-0.0 _ (manifest_refused c.in_err-path.field-0.0 c.args.root.now c.in_err-path.ensures))

pub returns-in-Ok : goal.returns-in-Ok
returns-in-Ok c =
    ap of_reading (manifest_is c.args.root.now _ c.in_ok-path.ensures (λ e. true≢false (sym (c.in-Ok.ensures.root.1 e))) ∙ ap Ok (sym c.in-Ok.ensures.ok))

pub returns-in_ok-of_str-in-Err : goal.returns-in_ok-of_str-in-Err
returns-in_ok-of_str-in-Err c =
    ap of_reading
    (root_is c.args.root.now _ _ c.in_ok-path.ensures (c.in-Err.ensures.root.0 refl) (c.in_ok-of_str-in-Err.ensures ∙ c.as_str.ensures.text ∙ c.in-Err.ensures.err))
