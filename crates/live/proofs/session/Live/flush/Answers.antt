use Rattle.std.proofs.Common.{Err, ap, refl}
use Rattle.live.proofs.Flushed.{flush_leaves, refused_leaves, shows_after, takes_flush, unwritten_leaves, writes_flush}
use Rattle.live.proofs.Unwritten.{fails_cause, fails_flush}
use Rattle.live.proofs.session.Live.flush.Goals as goal

pub returns-in-Ok-write_page-clause-ok : goal.returns-in-Ok-write_page-clause-ok
returns-in-Ok-write_page-clause-ok g c = λ s h.
    takes_flush c.args.self.now c.refresh.new.self _ s c.in-Ok.last _ _ c.in-Ok.ensures.ok c.in-Ok.ensures.last h c.requires
    (record { flushed = refl; recorded = refl; project = refl; db = refl; probes = refl; ended = refl }) c.in-Ok-write_page.ensures.ok

pub returns-in-Ok-write_page-clause-image : goal.returns-in-Ok-write_page-clause-image
returns-in-Ok-write_page-clause-image g c = λ s h. shows_after c.args.self.now c.refresh.new.self _ s c.in-Ok.last c.in-Ok.ensures.ok h c.requires
    (record { flushed = refl; recorded = refl; project = refl; db = refl; probes = refl; ended = refl })

pub returns-in-Ok-write_page-clause-rest : goal.returns-in-Ok-write_page-clause-rest
returns-in-Ok-write_page-clause-rest g c = flush_leaves c.args.self.now c.refresh.new.self _ c.in-Ok.last c.in-Ok.ensures.ok c.in-Ok.ensures.probes
    (record { flushed = refl; recorded = refl; project = refl; db = refl; probes = refl; ended = refl })

pub returns-in-Err-write_page-clause-err : goal.returns-in-Err-write_page-clause-err
returns-in-Err-write_page-clause-err g c = λ s h.
    writes_flush c.args.self.now c.refresh.new.self _ s _ _ _ c.in-Ok.ensures.ok h c.requires c.in-Err-write_page.ensures.only (λ e. c.in-Err-write_page.ensures.cut (ap Err e))
    c.in-Err-write_page.ensures.err (record { recorded = refl; project = refl; flushed = refl; ended = refl })

pub returns-in-Err-clause-err : goal.returns-in-Err-clause-err
returns-in-Err-clause-err g c = λ s h. fails_flush c.args.self.now c.refresh.new.self _ s _ _ h c.in-Err.ensures.refused c.in-Err.ensures.err
    (record { recorded = refl; project = refl; flushed = refl; ended = refl })

pub returns-in-Err-clause-cause : goal.returns-in-Err-clause-cause
returns-in-Err-clause-cause g c = fails_cause _ _ _ c.in-Err.ensures.refused

pub returns-in-Err-write_page-clause-rest : goal.returns-in-Err-write_page-clause-rest
returns-in-Err-write_page-clause-rest g c = unwritten_leaves c.args.self.now c.refresh.new.self _ c.in-Ok.ensures.ok c.in-Ok.ensures.probes refl refl refl refl

pub returns-in-Err-clause-rest : goal.returns-in-Err-clause-rest
returns-in-Err-clause-rest g c = refused_leaves c.args.self.now c.refresh.new.self _ _ c.in-Err.ensures.err c.in-Err.ensures.spared (ap Err) c.in-Err.ensures.probes refl refl refl refl
