use Rattle.std.proofs.Common.{◌∙◌, Some, ap, refl}
use Rattle.std.proofs.lemmas.Result.{err_from_is_err_and}
use Rattle.live.proofs.Loads.{loads_live, refuses_load}
use Rattle.live.proofs.session.Live.load.Goals as goal

-- what was loaded is kept; the count that holds it is seen as itself
pub returns-clause-ok : goal.returns-clause-ok
returns-clause-ok c =
    let loads = c.in_ok-project.ensures.loads in
    loads_live c.args.self.now _ c.args.path c.in_ok-sources.sources c.in_ok-project.project c.in_ok-sources.ensures.kept loads.0 loads.1
    (record {
      project_is = ap Some (c.new-2.ensures ∙ c.in_ok-project-2.ensures.ok);
      recorded = c.sources.ensures.same;
      flushed = refl;
      db = refl;
      probes = refl;
      ended = refl;
    })

pub returns-in_err-project-clause-refused : goal.returns-in_err-project-clause-refused
returns-in_err-project-clause-refused c =
    let p = err_from_is_err_and c.from_residual-in_err-project.result c.from_residual-in_err-project.ensures.1 in
    rw (p.1, p.2) (refuses_load _ c.args.path c.in_err-project.field-0.0 c.in_ok-sources.sources c.in_ok-sources.ensures.kept
    c.in_err-project.ensures.loads c.in_err-project.ensures.limits)
