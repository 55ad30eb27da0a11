-- What a build gives a package of which nothing is built.
use Rattle.std.specs.Prelude.{[], None}
use Rattle.pm_cargo.specs.declared.output.BuildScriptOutput.{BuildScriptOutput}
use Rattle.pm_cargo.specs.declared.output.ProcMacroDylibPath.TheVariants.{NotBuilt}

-- the output that every package starts with
abbrev pub default_output : BuildScriptOutput
default_output = record { cfgs = []; envs = []; out_dir = None; proc_macro_dylib_path = NotBuilt }
