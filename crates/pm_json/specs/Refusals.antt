-- what reading a project gives: a value, or the first refusal in the order in which a document is checked
use Rattle.std.specs.Prelude.{◌≡◌, ℕ, List, codes, Result, Ok, Err}
use Rattle.base_text_outside.specs.declared.limits.Limit.TheVariants.{Crates}
use Rattle.pm_json.specs.declared.workspace_json_error.WorkspaceJsonError.{WorkspaceJsonError}
use Rattle.pm_json.specs.declared.workspace_json_error.WorkspaceJsonError.TheVariants.{TooMany, NoParent, OutOfMemory}

-- the name of the variant, which is what is printed of a refusal
abbrev pub json_error_name : WorkspaceJsonError → List ℕ
json_error_name (TooMany limit) = codes "TooMany"
json_error_name (NoParent text) = codes "NoParent"
json_error_name OutOfMemory = codes "OutOfMemory"

-- a value, or a refusal
abbrev pub Reading : Type 0 → Type 0
Reading T = Result T WorkspaceJsonError

-- what was read, under f
abbrev pub under : {A B : Type 0} → (A → B) → Reading A → Reading B
under f (Ok x) = Ok (f x)
under f (Err e) = Err e

-- a call returns what the reading gives, unless it runs out of memory
abbrev pub Gives : {T : Type 0} → Result T WorkspaceJsonError → Reading T → Type 0
Gives (Ok x) reading = reading ≡ Ok x
Gives (Err (TooMany limit)) reading = reading ≡ Err (TooMany limit)
Gives (Err (NoParent text)) reading = reading ≡ Err (NoParent text)
Gives (Err OutOfMemory) reading = Unit {0}

-- the limit that a refusal names, where it names one, is that of crates
abbrev pub NamesCrateLimit : WorkspaceJsonError → Type 0
NamesCrateLimit (TooMany limit) = limit ≡ Crates
NamesCrateLimit other = Unit {0}
