-- A load step by step: a step that is refused refuses the load, and else the load goes on with what the step gave.
use Rattle.std.proofs.Common.{◌≡◌, Result, Ok, Err, refl, sym, ap, subst}
use Rattle.std.specs.Prelude.{IsErrOf}
use Rattle.cargo_meta_values.specs.declared.errors.Error as metadata
use Rattle.cargo_meta_values.specs.declared.errors.Error.TheVariants as unread
use Rattle.pm_cargo_fetch.specs.Fetch.{AnswersFetch, FetchAnswer}
use Rattle.json_fields.specs.Outcome as fields
use Rattle.json_fields.specs.declared.place.ReadError.{ReadError}
use Rattle.json_fields.specs.declared.place.ReadError.TheVariants as missed
use Rattle.pm_json.specs.Refusals as json
use Rattle.pm_json.specs.declared.workspace_json_error.WorkspaceJsonError.{WorkspaceJsonError}
use Rattle.pm_json.specs.declared.workspace_json_error.WorkspaceJsonError.TheVariants as json_refused
use Rattle.base_values.specs.Outcome.{◌>>=◌}
use Rattle.pm_lower_load.specs.Loading.{Gives, Loading, Refuses, of_document, of_fetch, of_json_error, of_json_reading, of_metadata_error, of_read_error, of_reading, of_workspace_error}
use Rattle.pm_lower_load.specs.declared.load_error.LoadError.{LoadError}
use Rattle.pm_lower_load.specs.declared.load_error.LoadError.TheVariants.{NoSuchFile, CargoMetadata, Io, Json, NoJson, NotAbsolute, NoParent, UnknownPackage, TooMany, OutOfMemory}
use Rattle.pm_lower_load.proofs.MadeLemmas.{made_of_reading}
use Rattle.pm_cargo_reading.specs.Reading as reading
use Rattle.pm_cargo_reading.specs.Reading.{Reading}
use Rattle.pm_cargo_reading.specs.declared.workspace_error.WorkspaceError.{WorkspaceError}
use Rattle.pm_cargo_reading.specs.declared.workspace_error.WorkspaceError.TheVariants as refused

-- a step that is refused refuses what comes after it
pub refuses_first : {A B : Type 0} (e : LoadError) (step : Loading A) (next : A → Loading B) → Refuses e step → Refuses e (step >>= next)
refuses_first (NoSuchFile path) step next h = ap (λ s. s >>= next) h
refuses_first (CargoMetadata stderr) step next h = ap (λ s. s >>= next) h
refuses_first (Io line) step next h = ap (λ s. s >>= next) h
refuses_first (Json field) step next h = ap (λ s. s >>= next) h
refuses_first NoJson step next h = ap (λ s. s >>= next) h
refuses_first (NotAbsolute text) step next h = ap (λ s. s >>= next) h
refuses_first (NoParent text) step next h = ap (λ s. s >>= next) h
refuses_first (UnknownPackage id) step next h = ap (λ s. s >>= next) h
refuses_first (TooMany limit) step next h = ap (λ s. s >>= next) h
refuses_first OutOfMemory step next h = record {}

-- what refuses a part is its error, unless memory ran out
pub refused_is : {T A : Type 0} (e : LoadError) (part : Loading A) → ¬ IsErrOf {T = T} (Err e) OutOfMemory → Refuses e part → part ≡ Err e
refused_is (NoSuchFile path) part unless h = h
refused_is (CargoMetadata stderr) part unless h = h
refused_is (Io line) part unless h = h
refused_is (Json field) part unless h = h
refused_is NoJson part unless h = h
refused_is (NotAbsolute text) part unless h = h
refused_is (NoParent text) part unless h = h
refused_is (UnknownPackage id) part unless h = h
refused_is (TooMany limit) part unless h = h
refused_is OutOfMemory part unless h = absurd (unless refl)

-- the load goes on with what a step gave
pub gives_next : {A B : Type 0} (r : Result B LoadError) (step : Loading A) (x : A) (next : A → Loading B) → step ≡ Ok x → Gives r (next x) → Gives r (step >>= next)
gives_next r step x next is gives = subst (λ s. Gives r (s >>= next)) (sym is) gives

-- a reading that is refused, as a part of a load
pub refuses_reading : {T : Type 0} (e : WorkspaceError) (part : Reading T) → reading.Refuses e part → Refuses (of_workspace_error e) (of_reading part)
refuses_reading (refused.NotAbsolute text) part h = ap of_reading h
refuses_reading (refused.NoParent text) part h = ap of_reading h
refuses_reading (refused.UnknownPackage id) part h = ap of_reading h
refuses_reading (refused.TooMany limit) part h = ap of_reading h
refuses_reading refused.OutOfMemory part h = record {}

-- what is made of a reading, as a part of a load
pub load_made : {A B : Type 0} (f : A → B) (part : Reading A) → of_reading (made_of_reading f part) ≡ (of_reading part >>= λ x. Ok (f x))
unfolding made_of_reading
load_made f (Ok x) = refl
load_made f (Err e) = refl

-- what was not fetched, as a part of a load
pub refuses_fetch : (e : metadata.Error) (wanted : FetchAnswer) → AnswersFetch (Err e) wanted → Refuses (of_metadata_error e) (of_fetch wanted)
refuses_fetch (unread.CargoMetadata stderr) wanted h = ap of_fetch h
refuses_fetch (unread.Io line) wanted h = ap of_fetch h
refuses_fetch (unread.Json field) wanted h = ap of_fetch h
refuses_fetch unread.NoJson wanted h = ap of_fetch h
refuses_fetch unread.OutOfMemory wanted h = record {}

-- memory ran out while metadata was fetched
pub fetch_ran_out : {T U : Type 0} (e : metadata.Error) → IsErrOf {T = T} (Err e) unread.OutOfMemory → IsErrOf {T = U} (Err (of_metadata_error e)) OutOfMemory
fetch_ran_out (unread.CargoMetadata stderr) h = cc
fetch_ran_out (unread.Io line) h = cc
fetch_ran_out (unread.Json field) h = cc
fetch_ran_out unread.NoJson h = cc
fetch_ran_out unread.OutOfMemory h = refl

-- memory ran out while a document was read
pub reading_ran_out : {T U : Type 0} (e : WorkspaceError) → IsErrOf {T = T} (Err e) refused.OutOfMemory → IsErrOf {T = U} (Err (of_workspace_error e)) OutOfMemory
reading_ran_out (refused.NotAbsolute text) h = cc
reading_ran_out (refused.NoParent text) h = cc
reading_ran_out (refused.UnknownPackage id) h = cc
reading_ran_out (refused.TooMany limit) h = cc
reading_ran_out refused.OutOfMemory h = refl

-- a document that its table does not read, as a part of a load
pub refuses_document : {T : Type 0} (e : ReadError) (part : fields.Reading T) → fields.Gives {T = T} (Err e) part → Refuses (of_read_error e) (of_document part)
refuses_document (missed.Missed field) part h = ap of_document h
refuses_document missed.OutOfMemory part h = record {}

-- a document whose crates are read as no project, as a part of a load
pub refuses_json : {T : Type 0} (e : WorkspaceJsonError) (part : json.Reading T) → json.Gives {T = T} (Err e) part → Refuses (of_json_error e) (of_json_reading part)
refuses_json (json_refused.TooMany limit) part h = ap of_json_reading h
refuses_json (json_refused.NoParent text) part h = ap of_json_reading h
refuses_json json_refused.OutOfMemory part h = record {}
