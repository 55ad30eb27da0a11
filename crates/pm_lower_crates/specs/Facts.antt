-- What is known of all crates of a part of a project, beside what its document says of each. A toolchain's
-- libraries are a part as the project itself is, with facts of their own.
use Rattle.std.specs.Prelude.{ℕ, Bool, List, Option}
use Rattle.base_text_outside.specs.declared.cfg.CfgAtom.{CfgAtom}
use Rattle.crate_graph_values.specs.declared.workspace_data.CrateWorkspaceData.{CrateWorkspaceData}
use Rattle.pm_cargo_config.specs.declared.overrides.CfgOverrides.{CfgOverrides}
use Rattle.pm_cargo.specs.declared.output.BuildScriptOutput.{BuildScriptOutput}
use Rattle.pm_lower_crates.specs.declared.facts.CrateFacts.{CrateFacts}

-- the facts
pub record Facts : Type 0 where
  -- the atoms that the compiler sets, and what a user changes of them
  pub atoms : List CfgAtom
  pub overrides : CfgOverrides
  -- whether local crates are built for their tests
  pub set_test : Bool
  -- the path of cargo, or its name
  pub cargo : List ℕ
  -- what a build gave the package with a number, and whether it failed
  pub outputs : ℕ → Option BuildScriptOutput
  pub build_failed : Bool
  -- what is known of the machine and the toolchain
  pub shared : CrateWorkspaceData
  -- whether the part is a toolchain's libraries
  pub in_sysroot : Bool

-- the facts that code holds, by what their build says of outputs and of failing
abbrev pub facts_of : {O : Type 0} → (O → ℕ → Option BuildScriptOutput) → (O → Bool) → CrateFacts O → Facts
facts_of output_at is_failed facts = record {
  atoms = facts.atoms.now;
  overrides = facts.overrides.now;
  set_test = facts.set_test;
  cargo = facts.cargo.now;
  outputs = output_at facts.outputs.now;
  build_failed = is_failed facts.outputs.now;
  shared = facts.shared.now.value;
  in_sysroot = facts.in_sysroot;
}
