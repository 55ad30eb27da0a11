-- What a run of a script says of a session: its limit is that of the configuration that the session holds.
use Rattle.std.proofs.Common.{◌≡◌, ℕ, List, [], Option, Result, Ok, Err, ap, subst, ◌∙◌}
use Rattle.std.specs.Prelude.{IfErr, OnOk}
use Rattle.live_script.specs.declared.fault.LiveError.{LiveError}
use Rattle.live_script.specs.Run.{Completes, EndsFrom, Finishes}
use Rattle.live_script.specs.Session.{session_by}
use Rattle.live.specs.declared.session.Live.{Live}
use Rattle.live.specs.Page.{Flushed}
use Rattle.live.specs.Session.{State, session, turn}
use Rattle.live.specs.Turn.{Holds, live_rules}

-- the limit of a session is that of a state that it holds
limit_is : (live : Live) (s : State) (limit : ℕ) → Holds live s → limit ≡ live.recorded.config.limits.bytes → limit ≡ s.said.config.limits.bytes
limit_is live s limit h same = same ∙ ap (λ c. c.limits.bytes) h.said.config

pub finishes_run : (live live' : Live) (result : Result (Unit {0}) LiveError) (limit : ℕ) (left left' old new : Option (List ℕ)) → limit ≡ live.recorded.config.limits.bytes
    → OnOk result ((s : State) (before : List Flushed) → Holds live s → Finishes live_rules limit s before live' (left, left') (old, new))
    → OnOk result ((s : State) → Holds live s → Finishes live_rules s.said.config.limits.bytes s [] live' (left, left') (old, new))
finishes_run live live' (Ok done) limit left left' old new same finishes = λ s h.
    subst (λ n. Finishes live_rules n s [] live' (left, left') (old, new)) (limit_is live s limit h same) (finishes s [] h)
finishes_run live live' (Err error) limit left left' old new same finishes = tt

pub ends_run : (live live' : Live) (result : Result (Unit {0}) LiveError) (limit : ℕ) (left left' old new : Option (List ℕ)) → limit ≡ live.recorded.config.limits.bytes
    → IfErr result (λ e. (s : State) (before : List Flushed) → Holds live s → EndsFrom live_rules limit s before e live' (left, left') (old, new))
    → IfErr result (λ e. (s : State) → Holds live s → EndsFrom live_rules s.said.config.limits.bytes s [] e live' (left, left') (old, new))
ends_run live live' (Ok done) limit left left' old new same ends = tt
ends_run live live' (Err error) limit left left' old new same ends = λ s h.
    subst (λ n. EndsFrom live_rules n s [] error live' (left, left') (old, new)) (limit_is live s limit h same) (ends s [] h)

pub completes_run : (live : Live) (limit : ℕ) (s : State) (all : List ℕ) (result : Result (Unit {0}) LiveError) → Holds live s → limit ≡ live.recorded.config.limits.bytes
    → Completes (session_by limit turn s all).refusal result → Completes (session s all).refusal result
completes_run live limit s all result h same done = subst (λ n. Completes (session_by n turn s all).refusal result) (limit_is live s limit h same) done
