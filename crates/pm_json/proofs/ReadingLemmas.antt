-- Readings whose first part is refused.
use Rattle.std.proofs.Common.{ap, Err}
use Rattle.base_values.specs.Outcome.{◌>>=◌}
use Rattle.pm_json.specs.Refusals.{Gives, Reading}
use Rattle.pm_json.specs.declared.workspace_json_error.WorkspaceJsonError.{WorkspaceJsonError}
use Rattle.pm_json.specs.declared.workspace_json_error.WorkspaceJsonError.TheVariants.{TooMany, NoParent, OutOfMemory}

-- the refusal of a first part is that of the whole
pub refuses_then : {A B : Type 0} (e : WorkspaceJsonError) (r : Reading A) (f : A → Reading B) → Gives {T = A} (Err e) r → Gives {T = B} (Err e) (r >>= f)
refuses_then (TooMany limit) r f h = ap (λ s. s >>= f) h
refuses_then (NoParent text) r f h = ap (λ s. s >>= f) h
refuses_then OutOfMemory r f h = record {}
