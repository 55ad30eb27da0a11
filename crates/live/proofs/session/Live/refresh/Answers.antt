-- What a flush brings, of a session.
use Rattle.std.proofs.Common.{◌+◌, ◌<◌, ◌^◌, ◌∙◌, length, refl, subst, sym}
use Rattle.std.proofs.lemmas.Result.{err_from_is_err_and}
use Rattle.live.proofs.Flushed.{refreshes_live}
use Rattle.live.proofs.Unwritten.{refuses_flush}
use Rattle.live.proofs.session.Live.refresh.Goals as goal

pub returns-clause-ok : goal.returns-clause-ok
returns-clause-ok c =
    refreshes_live _ _ _ c.in_ok-graph.graph _ (c.as_slice.ensures ∙ c.in_ok-roots.ensures.roots) c.in_ok-graph.ensures c.in_ok-refresh.ensures.crates c.in_ok-refresh.ensures.ok
    c.in_ok-refresh.ensures.stable c.in_ok-refresh.ensures.files refl refl refl refl refl refl

pub returns-in_err-graph-clause-refused : goal.returns-in_err-graph-clause-refused
returns-in_err-graph-clause-refused c =
    let p = err_from_is_err_and c.from_residual-in_err-graph.result c.from_residual-in_err-graph.ensures.1 in
    rw (p.1, p.2) (refuses_flush _ c.in_err-graph.field-0.0 c.in_err-graph.ensures)

pub refresh-requires : goal.refresh-requires
refresh-requires c = subst (λ roots. length roots + 1 < 2 ^ 32) (sym (c.as_slice.ensures ∙ c.in_ok-roots.ensures.roots)) c.in_ok-roots.ensures.few
