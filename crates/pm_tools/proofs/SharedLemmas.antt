-- One build of several workspaces: one more package, and what is shared.
use Rattle.std.proofs.Common.{◌≡◌, ℕ, ◌+◌, ◌<◌, ◌≤◌, Ok, Option, List, [], ◌∷◌, ◌++◌, append_assoc, fold, length, map, take, get_or, refl, subst, sym, ap, ◌∙◌, arith}
use Rattle.std.proofs.lemmas.List.{get_or-map, length-map, take_all, take_more}
use Rattle.std.proofs.lemmas.List.FromFn.{get_or-enumerate_from, length-enumerate_from}
use Rattle.std.proofs.lemmas.List.Sums.{fold-append}
use Rattle.std.specs.Borrow.{Bor}
use Rattle.std.specs.FinMap.{empty}
use Rattle.std.specs.List.{enumerate_from, range_with_len}
use Rattle.base_text_paths.specs.Arena.{with_numbers}
use Rattle.base_text_outside.specs.declared.command.Output.{Output}
use Rattle.pm_cargo.specs.Workspace.{Workspace}
use Rattle.pm_cargo_packages.specs.declared.package.PackageData.{PackageData}
use Rattle.pm_tools.specs.SharedBuild.{SharedBuild, output_of_id, outputs_by_id, shared_outputs, with_output}
use Rattle.pm_tools.specs.Outputs.{BuildScripts, Outputs, outputs_among}
use Rattle.pm_tools.specs.Packages.{lent_packages, packages_of_all}
use Rattle.base_values.specs.Outcome.{◌>>=◌}
use Rattle.pm_tools.specs.Reading.{Reading, Refuses}
use Rattle.pm_tools.specs.declared.build_error.BuildError.{BuildError}
use Rattle.pm_cargo.specs.declared.output.BuildScriptOutput.{BuildScriptOutput}
use Rattle.pm_tools.proofs.ReadingLemmas.{refuses_bind}

-- the numbers of numbered items
pub numbers-enumerate_from : {X : Type 0} (n : ℕ) (xs : List X) → map (λ p. p.0) (enumerate_from n xs) ≡ range_with_len n (length xs)
numbers-enumerate_from n [] = refl
numbers-enumerate_from n (x ∷ xs) = ap (λ ns. n ∷ ns) (numbers-enumerate_from (n + 1) xs)

-- what comes at a turn of numbered references: the next number, and what stands behind the reference
pub numbered_turn : (packages : List (Bor PackageData)) (k number : ℕ) (p : Bor PackageData) → k < length (enumerate_from 0 packages)
    → ◌≡◌ {A = ℕ × Bor PackageData} (number, p) (get_or (enumerate_from 0 packages) k (number, p))
    → (k < length (lent_packages packages)) × (number ≡ k) × (p.now ≡ get_or (lent_packages packages) k p.now)
numbered_turn packages k number p within is =
    let below : k < length packages = omega (arith, within, length-enumerate_from 0 packages) in
    let here = is ∙ get_or-enumerate_from 0 packages k (number, p) below in (
      omega (arith, below, length-map packages (λ (q : Bor PackageData). q.now)),
      omega (arith, ap (λ (x : ℕ × Bor PackageData). x.0) here),
      ap (λ (x : ℕ × Bor PackageData). x.1.now) here ∙ sym (get_or-map (λ (q : Bor PackageData). q.now) packages k p p.now below),
    )

-- one more numbered item is folded
pub fold_numbered-more : {X B : Type 0} (f : B → ℕ × X → B) (b : B) (xs : List X) (k : ℕ) (x : X) → k < length xs → x ≡ get_or xs k x
    → fold f b (take (k + 1) (enumerate_from 0 xs)) ≡ f (fold f b (take k (enumerate_from 0 xs))) (k, x)
fold_numbered-more {X = X} f b xs k x within is =
    let number : 0 + k ≡ k = omega arith in
    ap (fold f b) (take_more (enumerate_from 0 xs) k (k, x) (omega (arith, within, length-enumerate_from 0 xs)))
    ∙ fold-append f b (take k (enumerate_from 0 xs)) (get_or (enumerate_from 0 xs) k (k, x) ∷ [])
    ∙ ap (f (fold f b (take k (enumerate_from 0 xs)))) (get_or-enumerate_from 0 xs k (k, x) within ∙ ap (λ (n : ℕ). (n, get_or xs k x)) number ∙ ap (λ (y : X). (k, y)) (sym is))

-- one more package behind the others
pub pushed-more : (before packages now next : List PackageData) (k n : ℕ) (p : PackageData) → k < length packages → p ≡ get_or packages k p → n ≡ k + 1
    → now ≡ before ++ take k packages → next ≡ now ++ p ∷ [] → next ≡ before ++ take n packages
pushed-more before packages now next k n p within here count is pushed =
    pushed
    ∙ ap (λ ps. ps ++ p ∷ []) is
    ∙ append_assoc before (take k packages) (p ∷ [])
    ∙ ap (λ (q : PackageData). before ++ (take k packages ++ q ∷ [])) here
    ∙ ap (λ ps. before ++ ps) (sym (take_more packages k p within))
    ∙ ap (λ m. before ++ take m packages) (sym count)

-- the outputs that the first so many packages are given
abbrev pub given_first : List PackageData → Outputs → List PackageData → ℕ → Outputs
given_first all outputs packages count = fold (λ given p. with_output given p.0 (output_of_id all outputs p.1.id.repr)) empty (take count (with_numbers packages))

-- one more package is given its output, if it has one
pub given-more : (all : List PackageData) (outputs : Outputs) (packages : List PackageData) (given next : Outputs) (k n : ℕ) (p : PackageData) (o : Option BuildScriptOutput)
    → k < length packages → p ≡ get_or packages k p → n ≡ k + 1 → output_of_id all outputs p.id.repr ≡ o → next ≡ with_output given k o
    → given ≡ given_first all outputs packages k → next ≡ given_first all outputs packages n
given-more all outputs packages given next k n p o within here count output put is =
    put
    ∙ ap (with_output given k) (sym output)
    ∙ ap (λ (g : Outputs). with_output g k (output_of_id all outputs p.id.repr)) is
    ∙ sym (fold_numbered-more (λ (g : Outputs) (q : ℕ × PackageData). with_output g q.0 (output_of_id all outputs q.1.id.repr)) empty packages k p within here)
    ∙ ap (given_first all outputs packages) (sym count)

-- all packages are given theirs
pub given-all : (all : List PackageData) (outputs : Outputs) (packages : List PackageData) (given : Outputs) (n : ℕ) → length packages ≤ n
    → given ≡ given_first all outputs packages n → given ≡ outputs_by_id all outputs packages
given-all all outputs packages given n within is =
    is ∙ ap (λ (ps : List (ℕ × PackageData)). fold (λ (g : Outputs) (q : ℕ × PackageData). with_output g q.0 (output_of_id all outputs q.1.id.repr)) empty ps)
    (take_all n (with_numbers packages) (omega (arith, within, length-enumerate_from 0 packages)))

-- the packages of a build, with what it gives
abbrev pub shared : List PackageData → BuildScripts → SharedBuild
shared packages scripts = record { packages = packages; scripts = scripts }

-- what refuses the output among the packages of all workspaces refuses it for these
pub shared_refused : (e : BuildError) (workspaces : List Workspace) (packages : List PackageData) (output : Output) → packages ≡ packages_of_all workspaces
    → Refuses e (outputs_among packages output) → Refuses e (shared_outputs workspaces output)
shared_refused e workspaces packages output is h =
    refuses_bind e (outputs_among (packages_of_all workspaces) output) (λ scripts. Ok (record { packages = packages_of_all workspaces; scripts = scripts }))
    (subst (λ ps. Refuses e (outputs_among ps output)) is h)

-- what the output gives among the packages of all workspaces is what is shared
pub shared_is : (workspaces : List Workspace) (packages : List PackageData) (output : Output) (scripts : BuildScripts) → packages ≡ packages_of_all workspaces
    → outputs_among packages output ≡ Ok scripts → shared_outputs workspaces output ≡ Ok (shared packages scripts)
shared_is workspaces packages output scripts is given =
    ap (λ (r : Reading BuildScripts). r >>= λ s. Ok (shared (packages_of_all workspaces) s)) (ap (λ ps. outputs_among ps output) (sym is) ∙ given)
    ∙ ap (λ ps. Ok (shared ps scripts)) (sym is)
