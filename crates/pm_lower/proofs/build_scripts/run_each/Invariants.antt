use Rattle.std.proofs.Common.{◌≡◌, map, take}
use Rattle.std.specs.List.{flat_map}
use Rattle.base_text.specs.Progress.{with_lines}
use Rattle.pm_lower.specs.Builds.{GivesEach, project_build}
use Rattle.pm_lower.specs.Lines.{project_build_lines}
use Rattle.pm_tools_ask.specs.Ask.{means_of}
use Rattle.pm_lower.proofs.build_scripts.run_each.Given as goal

-- what each of the projects so far is given, and the lines of their builds
abbrev pub invariant-loop-project : goal.invariant-loop-project
invariant-loop-project g l = record {
  given : GivesEach l.each.items (map (project_build l.config (means_of g.R.Runner.answers g.T.Tree.files l.ask)) (take l.project-index l.projects));
  came : g.P.Progress.lines l.progress ≡ with_lines (flat_map (project_build_lines l.config (means_of g.R.Runner.answers g.T.Tree.files l.ask)) (take l.project-index l.projects)) (g.P.Progress.lines l.initial.progress);
}
