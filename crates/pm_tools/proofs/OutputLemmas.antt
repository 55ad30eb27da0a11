-- How a change of one output changes all of them.
use Rattle.std.proofs.Common.{◌≡◌, ℕ, List, fold, Option, Some, None, OnSome, Result, Ok, Err, ap, sym, ◌∙◌}
use Rattle.std.specs.FinMap.{get, insert}
use Rattle.std.specs.Str.Lines.{lines}
use Rattle.base_text_outside.specs.declared.command.Output.{Output}
use Rattle.pm_cargo_packages.specs.declared.package.PackageData.{PackageData}
use Rattle.pm_tools.specs.Outputs.{BuildScripts, BuildState, Outputs, change_output, changed_at, error_of, outputs_after, outputs_among, scripts_of, start_state, take_output_line, with_line}
use Rattle.base_values.specs.Outcome.{◌>>=◌, take_each}
use Rattle.pm_tools.specs.Reading.{Leaves, Reading, Refuses}
use Rattle.pm_tools.specs.declared.build_error.BuildError.{BuildError}
use Rattle.pm_cargo.specs.declared.output.BuildScriptOutput.{BuildScriptOutput}
use Rattle.pm_tools.proofs.ReadingLemmas.{refuses_bind, refuses_same}

-- the two parts of what a build gives
abbrev pub the_scripts : Outputs → Option (List ℕ) → BuildScripts
the_scripts outputs error = record { outputs = outputs; error = error }

-- what is said of a value that there is holds
pub on_some : {T : Type 0} (o : Option T) (x : T) (P : Type 0) → o ≡ Some x → OnSome o P → P
on_some (Some y) x P is h = h
on_some None x P is h = cc

-- what a call leaves of the output at a place, and puts there, it leaves of the outputs
pub leaves_at : (r : Result (Unit {0}) BuildError) (change : BuildScriptOutput → Reading BuildScriptOutput) (outputs new : Outputs) (place : ℕ) (output changed : BuildScriptOutput)
    → get outputs place ≡ Some output → new ≡ insert outputs place changed → Leaves r changed (change output) → Leaves r new (outputs_after change outputs place)
leaves_at (Ok u) change outputs new place output changed there put h =
    ap (changed_at change outputs place) there ∙ ap (λ (q : Reading BuildScriptOutput). q >>= λ x. Ok (insert outputs place x)) h ∙ ap Ok (sym put)
leaves_at (Err e) change outputs new place output changed there put h =
    refuses_same e (change output >>= λ x. Ok (insert outputs place x)) (outputs_after change outputs place) (sym (ap (changed_at change outputs place) there))
    (refuses_bind e (change output) (λ x. Ok (insert outputs place x)) h)

-- what a call leaves of the outputs, it leaves of the state
pub leaves_outputs : (r : Result (Unit {0}) BuildError) (change : BuildScriptOutput → Reading BuildScriptOutput) (s : BuildState) (new : Outputs) (place : ℕ)
    → Leaves r new (outputs_after change s.outputs place) → Leaves r (record s { outputs = new }) (change_output s change place)
leaves_outputs (Ok u) change s new place h = ap (λ (q : Reading Outputs). q >>= λ outputs. Ok (record s { outputs = outputs })) h
leaves_outputs (Err e) change s new place h = refuses_bind e (outputs_after change s.outputs place) (λ outputs. Ok (record s { outputs = outputs })) h

-- what is left is left of what is the same
pub leaves_same : {S : Type 0} (r : Result (Unit {0}) BuildError) (new : S) (part whole : Reading S) → part ≡ whole → Leaves r new part → Leaves r new whole
leaves_same (Ok u) new part whole same h = sym same ∙ h
leaves_same (Err e) new part whole same h = refuses_same e part whole same h

-- the same lines are read from the start
same_lines : (packages : List PackageData) (s : BuildState) (out text : List ℕ) → s ≡ start_state packages → text ≡ out
    → take_each (take_output_line packages) s (lines text) ≡ take_each (take_output_line packages) (start_state packages) (lines out)
same_lines packages s out text start is = (λ i. take_each (take_output_line packages) (start i) (lines (is i)))

-- what refuses the lines refuses the output
pub output_refused : (e : BuildError) (packages : List PackageData) (s : BuildState) (output : Output) (text : List ℕ) → s ≡ start_state packages → text ≡ output.out
    → Refuses e (take_each (take_output_line packages) s (lines text)) → Refuses e (outputs_among packages output)
unfolding outputs_among
output_refused e packages s output text start is h =
    let lines_are = same_lines packages s output.out text start is in
    let read = take_each (take_output_line packages) (start_state packages) (lines output.out) in
    refuses_bind e read (λ t. Ok (scripts_of output t)) (refuses_same e (take_each (take_output_line packages) s (lines text)) read lines_are h)

-- what is known behind the lines of both streams is what the output gives
pub output_is : (packages : List PackageData) (s t p : BuildState) (output : Output) (text err : List ℕ) (outputs : Outputs) (error : Option (List ℕ)) → s ≡ start_state packages → text ≡ output.out
    → take_each (take_output_line packages) s (lines text) ≡ Ok t → p ≡ record t { errors = fold with_line t.errors (lines err) } → err ≡ output.err
    → ◌≡◌ {A = Outputs × Option (List ℕ)} (outputs, error) (p.outputs, error_of output.ok p.errors) → outputs_among packages output ≡ Ok (the_scripts outputs error)
unfolding outputs_among
output_is packages s t p output text err outputs error start is read pushed err_is given =
    ap (λ (r : Reading BuildState). r >>= λ x. Ok (scripts_of output x)) (sym (same_lines packages s output.out text start is) ∙ read)
    ∙ ap (λ (q : BuildState). Ok (the_scripts q.outputs (error_of output.ok q.errors))) (sym (pushed ∙ ap (λ e. record t { errors = fold with_line t.errors (lines e) }) err_is))
    ∙ ap (λ (x : Outputs × Option (List ℕ)). Ok (the_scripts x.0 x.1)) (sym given)
