-- A project's rows come behind a front without crates, and what is known of them yet.
use Rattle.std.proofs.Common.{◌≡◌, ℕ, Bool, false, List, [], length, Result, is_some, sym, subst, ◌∙◌}
use Rattle.std.specs.FinMap.{get}
use Rattle.base_text_outside.specs.declared.cfg.CfgAtom.{CfgAtom}
use Rattle.crate_graph.specs.Graph.{Graph}
use Rattle.crate_graph_values.specs.declared.workspace_data.CrateWorkspaceData.{CrateWorkspaceData}
use Rattle.pm_cargo_config.specs.Overrides.{no_overrides}
use Rattle.pm_cargo_config.specs.declared.overrides.CfgOverrides.{CfgOverrides}
use Rattle.pm_tools.specs.Outputs.{BuildScripts}
use Rattle.pm_lower_crates.specs.Facts.{Facts}
use Rattle.pm_lower_crates.specs.Front.{Front}
use Rattle.pm_lower_crates.specs.Lowering.{IsLowered, IsLoweredBehind, ProjectPart, lowered, lowered_behind, no_project_part}
use Rattle.pm_lower_crates.specs.WantedEdges.{Public, no_public}
use Rattle.pm_lower_crates.specs.declared.lower_error.LowerError.{LowerError}
use Rattle.pm_lower_crates.proofs.LoweringLemmas.{lowered_first, no_libraries}
use Rattle.pm_lower.specs.Builds.{no_scripts}
use Rattle.pm_lower.specs.ToCrateGraph.{facts_with, kind_in_sysroot}
use Rattle.pm_lower.specs.declared.project_workspace.ProjectWorkspaceKind.{ProjectWorkspaceKind}

-- facts by what they are made of
abbrev pub facts_made : CrateWorkspaceData → List CfgAtom → CfgOverrides → BuildScripts → Bool → Facts
facts_made shared atoms overrides scripts in_sysroot = record {
  atoms = atoms;
  overrides = overrides;
  set_test = false;
  cargo = [];
  outputs = get scripts.outputs;
  build_failed = is_some scripts.error;
  shared = shared;
  in_sysroot = in_sysroot;
}

-- of values that are empty they are those of the definition
pub facts_are : (shared : CrateWorkspaceData) (kind : ProjectWorkspaceKind) (atoms : List CfgAtom) (overrides : CfgOverrides) (scripts : BuildScripts) (in_sysroot : Bool) → atoms ≡ [] → overrides ≡ no_overrides
    → scripts ≡ no_scripts → in_sysroot ≡ kind_in_sysroot kind → facts_made shared atoms overrides scripts in_sysroot ≡ facts_with shared kind
facts_are shared kind atoms overrides scripts in_sysroot none unchanged unbuilt where_is = λ i. facts_made shared (none i) (unchanged i) (unbuilt i) (where_is i)

module _ (front : Front) (rows : Public → ℕ → ProjectPart) (empty : front.graph.crates ≡ []) (none : front.public ≡ no_public) where
  pub rows_alone : rows front.public (length front.graph.crates) ≡ rows no_public 0
  rows_alone = λ i. rows (none i) (length (empty i))

  -- what comes behind it is all that there is
  pub lowers_alone : (limit : ℕ) (result : Result Graph LowerError) → front.graph.limit ≡ limit
      → IsLoweredBehind front.graph result (lowered_behind front.graph.limit (length front.graph.crates) (rows front.public (length front.graph.crates)))
      → IsLowered limit result (lowered limit no_project_part 0 (rows no_public 0))
  lowers_alone limit result limit_is h =
      let alone : lowered_behind front.graph.limit (length front.graph.crates) (rows front.public (length front.graph.crates)) ≡ lowered_behind limit 0 (rows no_public 0) =
      λ i. lowered_behind (limit_is i) (length (empty i)) (rows_alone i) in
      let same : lowered_behind front.graph.limit (length front.graph.crates) (rows front.public (length front.graph.crates)) ≡ lowered limit no_project_part 0 (rows no_public 0) =
      alone ∙ sym (no_libraries limit (rows no_public 0)) in
      lowered_first limit front.graph result (lowered limit no_project_part 0 (rows no_public 0)) empty limit_is (subst (IsLoweredBehind front.graph result) same h)
