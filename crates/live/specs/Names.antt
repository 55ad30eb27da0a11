-- Names that stay stay through one call after another.
use Rattle.std.specs.Prelude.{Result, Ok, Err, IsErrOf}
use Rattle.std.proofs.Common.{subst}
use Rattle.live_script.specs.declared.fault.LiveError.{LiveError}
use Rattle.live_script.specs.declared.fault.LiveError.TheVariants.{OutOfMemory}
use Rattle.live.specs.declared.session.Live.{Live}
use Rattle.live.specs.Turn.{KeepsNames}

-- success
abbrev IsDone : Result (Unit {0}) LiveError → Type 0
IsDone (Ok done) = Unit {0}
IsDone (Err error) = ⊥

-- a session that is as it was
pub keeps_itself : (result : Result (Unit {0}) LiveError) (live : Live)
    → KeepsNames (IsErrOf result OutOfMemory) live live
keeps_itself result live = record {
  paths = record { numbers = λ path number is. is; paths = λ path number is. is };
  crates = λ spared. record { crates = λ unique krate is. is; identities = λ krate unique is. is };
}

-- a call that succeeded, and then another
pub keeps_on : (done : Unit {0}) (result : Result (Unit {0}) LiveError) (old mid new : Live)
    → KeepsNames (IsErrOf {T = Unit {0}} (Ok done) OutOfMemory) old mid
    → KeepsNames (IsErrOf result OutOfMemory) mid new → KeepsNames (IsErrOf result OutOfMemory) old new
keeps_on done result old mid new first second =
    let kept = first.crates (λ ended out. subst IsDone out tt) in
    record {
      paths = record {
        numbers = λ path number is. second.paths.numbers path number (first.paths.numbers path number is);
        paths = λ path number is. second.paths.paths path number (first.paths.paths path number is);
      };
      crates = λ spared. record {
        crates = λ unique krate is. (second.crates spared).crates unique krate (kept.crates unique krate is);
        identities =
            λ krate unique is. (second.crates spared).identities krate unique (kept.identities krate unique is);
      };
    }
