-- What reading the output of a build gives: a value, or the first refusal in the order of the output.
use Rattle.std.specs.Prelude.{◌≡◌, Result, Ok, Err}
use Rattle.pm_tools.specs.declared.build_error.BuildError.{BuildError}
use Rattle.pm_tools.specs.declared.build_error.BuildError.TheVariants.{Io, NotAbsolute, OutOfMemory}

-- a value, or a refusal
abbrev pub Reading : Type 0 → Type 0
Reading T = Result T BuildError

-- a reading is refused with this error; running out of memory says nothing of it
abbrev pub Refuses : {T : Type 0} → BuildError → Reading T → Type 0
Refuses (Io line) reading = reading ≡ Err (Io line)
Refuses (NotAbsolute text) reading = reading ≡ Err (NotAbsolute text)
Refuses OutOfMemory reading = Unit {0}

-- a call returns what the reading gives, unless it runs out of memory
abbrev pub Gives : {T : Type 0} → Result T BuildError → Reading T → Type 0
Gives (Ok x) reading = reading ≡ Ok x
Gives (Err e) reading = Refuses e reading

-- a call leaves what the reading gives, unless it runs out of memory
abbrev pub Leaves : {S : Type 0} → Result (Unit {0}) BuildError → S → Reading S → Type 0
Leaves (Ok u) new reading = reading ≡ Ok new
Leaves (Err e) new reading = Refuses e reading
