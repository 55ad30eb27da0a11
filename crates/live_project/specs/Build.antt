-- A build of a session's project: what it gives replaces what an earlier build gave, and nothing else
-- changes. From the rule that the outputs of a project are those of its last build alone.
use Rattle.std.specs.Prelude.{◌≡◌, Ok}
use Rattle.base_text_outside.specs.declared.command.Output.{Output}
use Rattle.pm_tools.specs.Outputs.{BuildScripts}
use Rattle.base_values.specs.Outcome.{◌>>=◌}
use Rattle.pm_tools.specs.Reading.{Reading}
use Rattle.pm_lower.specs.Builds.{project_outputs, with_build_scripts}
use Rattle.live_project.specs.Project.{ProjectContent}

-- a project with these outputs in place of those that it had
abbrev pub with_build : ProjectContent → BuildScripts → ProjectContent
with_build p scripts = record p { workspace = with_build_scripts p.workspace scripts }

-- the project after a build whose command wrote this, or its refusal
abbrev pub built_project : ProjectContent → Output → Reading ProjectContent
built_project p output = project_outputs p.workspace output >>= λ scripts. Ok (with_build p scripts)

-- a build replaces the one before it: what is built of a project that was built is what is built of the
-- project before
abbrev pub IsBuiltAlone : Type 0
IsBuiltAlone =
    (p between : ProjectContent) (first second : Output) → built_project p first ≡ Ok between
    → built_project between second ≡ built_project p second
