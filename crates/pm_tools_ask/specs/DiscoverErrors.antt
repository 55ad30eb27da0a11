-- What a search for manifests answers where it finds none, or more than one.
use Rattle.std.specs.Prelude.{◌≡◌, ℕ, List, codes, Result, Ok, Err}
use Rattle.pm_tools_ask.specs.declared.discover_error.DiscoverError.{DiscoverError}
use Rattle.pm_tools_ask.specs.declared.discover_error.DiscoverError.TheVariants.{NoDirectory, NoProject, Several, OutOfMemory}

-- a call whose value is seen by f answers exactly that, unless memory ran out
abbrev pub AnswersSearch : {A T : Type 0} → (A → T) → Result A DiscoverError → Result T DiscoverError → Type 0
AnswersSearch f (Ok value) wanted = wanted ≡ Ok (f value)
AnswersSearch f (Err NoDirectory) wanted = wanted ≡ Err NoDirectory
AnswersSearch f (Err NoProject) wanted = wanted ≡ Err NoProject
AnswersSearch f (Err Several) wanted = wanted ≡ Err Several
AnswersSearch f (Err OutOfMemory) wanted = Unit {0}

-- an error prints its name
abbrev pub discover_error_name : DiscoverError → List ℕ
discover_error_name NoDirectory = codes "NoDirectory"
discover_error_name NoProject = codes "NoProject"
discover_error_name Several = codes "Several"
discover_error_name OutOfMemory = codes "OutOfMemory"
