-- What sessions promise of every script: the session of a text and of one that follows it.
use Rattle.std.specs.Prelude.{ℕ, List, ◌++◌}
use Rattle.live_script.specs.Laws.{AreJoinable, IsJoined}
use Rattle.live.specs.Session.{State, session, turn}

-- the session of both is that of the first, and then that of the second from the first's state
abbrev pub SessionsJoin : Type 0
SessionsJoin = (s : State) (first second : List ℕ)
    → AreJoinable turn s.said.config.limits.bytes s first second
    → IsJoined (session s first) (session (session s first).state second) (session s (first ++ second))
