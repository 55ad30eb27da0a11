-- The graph of a project's crates: the rule is the one of its kind. Sources of the standard library and of
-- the compiler add no crates yet.
use Rattle.std.specs.BTreeMap as tree
use Rattle.std.specs.Prelude.{ℕ, Bool, false, List, [], Result, Ok, Err, map}
use Rattle.std.specs.FinMap.{get}
use Rattle.std.specs.Option.{option_map_or}
use Rattle.base_text_paths.specs.Arena.{number_of}
use Rattle.crate_graph.specs.Extend.{Id}
use Rattle.crate_graph.specs.Graph.{Graph}
use Rattle.crate_graph_values.specs.declared.proc_macro.ProcMacroLoadingError.{ProcMacroLoadingError}
use Rattle.crate_graph_values.specs.declared.workspace_data.CrateWorkspaceData.{CrateWorkspaceData}
use Rattle.pm_cargo_config.specs.Overrides.{no_overrides}
use Rattle.pm_lower_crates.specs.DetachedLowering.{detached_rows}
use Rattle.pm_lower_crates.specs.JsonLowering.{json_rows}
use Rattle.pm_lower_crates.specs.Loader.{FileNumbers}
use Rattle.pm_lower.specs.Builds.{no_scripts}
use Rattle.pm_lower.specs.ProjectWorkspace.{script_workspace}
use Rattle.pm_lower.specs.declared.project_workspace.ProjectWorkspace.{ProjectWorkspace}
use Rattle.pm_lower.specs.declared.project_workspace.ProjectWorkspaceKind.{ProjectWorkspaceKind}
use Rattle.pm_lower.specs.declared.project_workspace.ProjectWorkspaceKind.TheVariants.{Cargo, Json, DetachedFile}
use Rattle.pm_tools_ask.specs.Ask.{Means}
use Rattle.pm_lower_crates.specs.Facts.{Facts}
use Rattle.pm_lower_crates.specs.Lowering.{Crate, HasCrates, ProjectPart, cargo_rows, lowered, no_project_part, wanted_edges}
use Rattle.pm_lower_crates.specs.Refusal.{Refuses}
use Rattle.pm_lower_crates.specs.WantedEdges.{Edge, Public, no_public}
use Rattle.pm_lower_crates.specs.declared.lower_error.LowerError.{LowerError}

-- ---- facts

-- what all crates of a project share
abbrev pub shared_of : ProjectWorkspace → CrateWorkspaceData
shared_of p = record { target = p.target; toolchain = p.toolchain }

-- whether a kind of project is a toolchain's libraries
abbrev pub kind_in_sysroot : ProjectWorkspaceKind → Bool
kind_in_sysroot (Cargo cargo error scripts rustc) = cargo.is_sysroot
kind_in_sysroot (Json project) = false
kind_in_sysroot (DetachedFile file script) = option_map_or (λ w. w.is_sysroot) (script_workspace script) false

-- what is known of the crates of a kind of project, with what they share. Atoms, a user's changes, cargo's
-- path and builds are not among it yet, and the columns that they give are empty by that alone
abbrev pub facts_with : CrateWorkspaceData → ProjectWorkspaceKind → Facts
facts_with shared kind = record {
  atoms = [];
  overrides = no_overrides;
  set_test = false;
  cargo = [];
  outputs = get no_scripts.outputs;
  build_failed = false;
  shared = shared;
  in_sysroot = kind_in_sysroot kind;
}

-- ---- rows and crates

-- the rows of a kind of project, numbered from n on
abbrev pub kind_rows : FileNumbers → Facts → Public → ℕ → ProjectWorkspaceKind → ProjectPart
kind_rows files facts public n (Cargo cargo error scripts rustc) = cargo_rows files facts public n cargo
kind_rows files facts public n (Json project) = json_rows files facts public n project
kind_rows files facts public n (DetachedFile file script) =
    detached_rows files facts public n file (script_workspace script)

-- the rows of a project with these live files
abbrev pub project_rows : FileNumbers → ProjectWorkspace → ProjectPart
project_rows files p = kind_rows files (facts_with (shared_of p) p.kind) no_public 0 p.kind

-- what a project is lowered to: its crates, or why there are none; the edges that it wants between them,
-- whose ends are places among the crates; and for those that are of procedural macros, by their places, the
-- library and its name, or why there is none
pub record Lowered : Type 0 where
  pub crates : Result (List Crate) LowerError
  pub wants : List Edge
  pub macros : List (ℕ × Result (List ℕ × List ℕ) ProcMacroLoadingError)

-- the lowering of a project with these live files, at most so many crates, and the means that its load kept,
-- which are not asked yet
abbrev pub project_lowering : FileNumbers → ℕ → Means → ProjectWorkspace → Lowered
project_lowering files limit means p = record {
  crates = lowered limit no_project_part 0 (project_rows files p);
  wants = wanted_edges (project_rows files p);
  macros = [];
}

-- the libraries of macros that a call gives, by the places of their crates
abbrev pub macros_given : tree.BTreeMap Id (Result (List ℕ × List ℕ) ProcMacroLoadingError)
    → List (ℕ × Result (List ℕ × List ℕ) ProcMacroLoadingError)
macros_given paths = map (λ entry. (number_of entry.0, entry.1)) paths.entries

-- a call gives the graph of these crates, with something beside it, or their refusal
abbrev pub IsGraphOf : {Beside : Type 0} → ℕ → Result (Graph × Beside) LowerError
    → Result (List Crate) LowerError → Type 0
IsGraphOf limit (Ok found) crates = HasCrates limit found.0 crates
IsGraphOf limit (Err error) crates = Refuses error crates
