use Rattle.std.proofs.lemmas.Result.{err_from_is_err_and}
use Rattle.pm_json.proofs.ReadingLemmas.{refuses_then}
use Rattle.pm_json.proofs.reading.read_parts.Goals as goal

pub returns-in_err-head-clause-exact : goal.returns-in_err-head-clause-exact
returns-in_err-head-clause-exact c =
    let p = err_from_is_err_and c.from_residual.result c.from_residual.ensures.1 in
    rw (p.1, p.2) (refuses_then c.in_err-head.field-0.0 _ _ c.in_err-head.ensures.exact)
