-- What builds give projects, one after another.
use Rattle.std.proofs.Common.{◌≡◌, ℕ, ◌+◌, ◌<◌, List, [], ◌∷◌, ◌++◌, IfOk, Result, Ok, Err, refl, ap, get_or, length, map, subst, sym, take, ◌∙◌}
use Rattle.std.proofs.lemmas.List.{map-append, take_more}
use Rattle.pm_tools.specs.Outputs.{BuildScripts}
use Rattle.pm_tools.specs.Reading.{Gives, Reading}
use Rattle.pm_tools.specs.SharedBuild.{SharedBuild}
use Rattle.pm_tools.specs.declared.build_error.BuildError.{BuildError}
use Rattle.pm_tools.specs.declared.build_error.BuildError.TheVariants.{Io, NotAbsolute, OutOfMemory}
use Rattle.pm_lower.specs.Builds.{GivesEach, kind_share}
use Rattle.pm_lower.specs.declared.project_workspace.ProjectWorkspace.{ProjectWorkspace}
use Rattle.pm_lower.specs.declared.project_workspace.ProjectWorkspaceKind.{ProjectWorkspaceKind}
use Rattle.pm_lower.specs.declared.project_workspace.ProjectWorkspaceKind.TheVariants.{Cargo, Json, DetachedFile}

-- one more
gives_each-more : {T : Type 0} (results : List (Result T BuildError)) (readings : List (Reading T)) (result : Result T BuildError) (reading : Reading T)
    → GivesEach results readings → Gives result reading → GivesEach (results ++ result ∷ []) (readings ++ reading ∷ [])
gives_each-more [] [] result reading each more = (more, tt)
gives_each-more [] (q ∷ qs) result reading each more = absurd each
gives_each-more (r ∷ rs) [] result reading each more = absurd each
gives_each-more (r ∷ rs) (q ∷ qs) result reading each more = (each.0, gives_each-more rs qs result reading each.1 more)

-- what the next of some values is given
pub gives_each-next : {T X : Type 0} (read : X → Reading T) (xs : List X) (i : ℕ) (x : X) (each next : List (Result T BuildError)) (result : Result T BuildError)
    → i < length xs → x ≡ get_or xs i x → Gives result (read x) → next ≡ each ++ result ∷ []
    → GivesEach each (map read (take i xs)) → GivesEach next (map read (take (i + 1) xs))
gives_each-next read xs i x each next result within here given pushed before =
    let more : map read (take (i + 1) xs) ≡ map read (take i xs) ++ read x ∷ [] =
    ap (map read) (take_more xs i x within) ∙ map-append read (take i xs) (get_or xs i x ∷ []) ∙ ap (λ y. map read (take i xs) ++ read y ∷ []) (sym here) in
    subst (λ rs. GivesEach rs (map read (take (i + 1) xs))) (sym pushed)
    (subst (λ qs. GivesEach (each ++ result ∷ []) qs) (sym more) (gives_each-more each (map read (take i xs)) result (read x) before given))

-- what is given of a build of all is what is read of it
pub gives_share : (build reading : Reading SharedBuild) (kind : ProjectWorkspaceKind) → Gives build reading → Gives (kind_share build kind) (kind_share reading kind)
gives_share (Ok build) reading (Cargo cargo error scripts rustc) is = ap (λ q. kind_share q (Cargo cargo error scripts rustc)) is
gives_share (Err (Io line)) reading (Cargo cargo error scripts rustc) is = ap (λ q. kind_share q (Cargo cargo error scripts rustc)) is
gives_share (Err (NotAbsolute text)) reading (Cargo cargo error scripts rustc) is = ap (λ q. kind_share q (Cargo cargo error scripts rustc)) is
gives_share (Err OutOfMemory) reading (Cargo cargo error scripts rustc) is = tt
gives_share build reading (Json project) is = refl
gives_share build reading (DetachedFile file script) is = refl

-- so it is of each project
gives_each_share : (build reading : Reading SharedBuild) (projects : List ProjectWorkspace) → Gives build reading
    → GivesEach (map (λ p. kind_share build p.kind) projects) (map (λ p. kind_share reading p.kind) projects)
gives_each_share build reading [] given = tt
gives_each_share build reading (p ∷ ps) given = (gives_share build reading p.kind given, gives_each_share build reading ps given)

-- a call that returns what each project is given of a build of all returns what is read of it
pub gives_shares : {E : Type 0} (result : Result (List (Result BuildScripts BuildError)) E) (build reading : Reading SharedBuild) (projects : List ProjectWorkspace) → Gives build reading
    → IfOk result (λ each. each ≡ map (λ p. kind_share build p.kind) projects) → IfOk result (λ each. GivesEach each (map (λ p. kind_share reading p.kind) projects))
gives_shares (Ok each) build reading projects given is = subst (λ results. GivesEach results (map (λ p. kind_share reading p.kind) projects)) (sym is) (gives_each_share build reading projects given)
gives_shares (Err error) build reading projects given is = tt
