-- A build replaces the one before it.
use Rattle.std.proofs.Common.{◌≡◌, Some, None, Ok, Err, inl, inr, refl, sym, ap, subst, ◌∙◌}
use Rattle.base_text_outside.specs.declared.command.Output.{Output}
use Rattle.pm_tools.specs.Outputs.{BuildScripts}
use Rattle.base_values.specs.Outcome.{◌>>=◌}
use Rattle.pm_tools.specs.Reading.{Reading}
use Rattle.pm_lower.specs.Builds.{TakesBuild, built_workspace, kind_with_build_scripts, no_scripts, outputs_for, project_outputs}
use Rattle.pm_lower.specs.declared.project_workspace.ProjectWorkspaceKind.{ProjectWorkspaceKind}
use Rattle.pm_lower.specs.declared.project_workspace.ProjectWorkspaceKind.TheVariants.{Cargo, Json, DetachedFile}
use Rattle.live_project.specs.Build.{IsBuiltAlone, built_project, with_build}
use Rattle.live_project.specs.Project.{ProjectContent}

-- for which workspace a build counts does not depend on those before it, and so neither do its outputs
same_workspace : (kind : ProjectWorkspaceKind) (scripts : BuildScripts) → built_workspace (kind_with_build_scripts kind scripts) ≡ built_workspace kind
same_workspace (Cargo cargo error before rustc) scripts = refl
same_workspace (Json project) scripts = refl
same_workspace (DetachedFile file None) scripts = refl
same_workspace (DetachedFile file (Some script)) scripts = refl

same_outputs : (kind : ProjectWorkspaceKind) (scripts : BuildScripts) (output : Output)
    → outputs_for (built_workspace (kind_with_build_scripts kind scripts)) output ≡ outputs_for (built_workspace kind) output
same_outputs kind scripts output = ap (λ w. outputs_for w output) (same_workspace kind scripts)

-- the last outputs stay
last_stays : (kind : ProjectWorkspaceKind) (first second : BuildScripts) → kind_with_build_scripts (kind_with_build_scripts kind first) second ≡ kind_with_build_scripts kind second
last_stays (Cargo cargo error before rustc) first second = refl
last_stays (Json project) first second = refl
last_stays (DetachedFile file None) first second = refl
last_stays (DetachedFile file (Some script)) first second = refl

-- the same of a project
last_build : (p : ProjectContent) (first second : BuildScripts) → with_build (with_build p first) second ≡ with_build p second
last_build p first second = λ i. record p { workspace = record p.workspace { kind = last_stays p.workspace.kind first second i } }

-- what a build leaves, by the outputs that it gives
built_with : (p between : ProjectContent) (reading : Reading BuildScripts) (second : Output) → (reading >>= λ scripts. Ok (with_build p scripts)) ≡ Ok between
    → built_project between second ≡ built_project p second
built_with p between (Ok scripts) second is =
    let same : with_build p scripts ≡ between = cc in
    subst (λ b. built_project b second ≡ built_project p second) same
    (ap (λ (reading : Reading BuildScripts). reading >>= λ new. Ok (with_build (with_build p scripts) new)) (same_outputs p.workspace.kind scripts second)
    ∙ rest (project_outputs p.workspace second))
  where
    rest : (outputs : Reading BuildScripts) → (outputs >>= λ new. Ok (with_build (with_build p scripts) new)) ≡ (outputs >>= λ new. Ok (with_build p new))
    rest (Ok new) = ap Ok (last_build p scripts new)
    rest (Err error) = refl
built_with p between (Err error) second is = absurd (cc)

pub built_alone : IsBuiltAlone
built_alone p between first second is = built_with p between (project_outputs p.workspace first) second is

-- what the output of a build gives can be put into its project
pub takes_build : (kind : ProjectWorkspaceKind) (output : Output) (scripts : BuildScripts) → outputs_for (built_workspace kind) output ≡ Ok scripts → TakesBuild kind scripts
takes_build (Cargo cargo error before rustc) output scripts is = inl refl
takes_build (Json project) output scripts is = inr (let same : no_scripts ≡ scripts = cc in sym same)
takes_build (DetachedFile file None) output scripts is = inr (let same : no_scripts ≡ scripts = cc in sym same)
takes_build (DetachedFile file (Some script)) output scripts is = inl refl
