-- Equality of contents, for what a build gives one package.
use Rattle.std.proofs.Common.{◌≡◌, ◌↔◌, ℕ, List, [], Bool, true, ◌&&◌, ap, refl}
use Rattle.std.proofs.lemmas.Bool.{false≢true}
use Rattle.std.proofs.lemmas.Bool.Decides.{Decides-and}
use Rattle.std.specs.Cmp.Lexicographic.{pointwise}
use Rattle.std.specs.Option.{option_eq}
use Rattle.base_values.specs.Equality.{IsContentEquality}
use Rattle.base_values.proofs.Equalities.{lists}
use Rattle.base_text_paths.specs.PathOrder.{path_eq}
use Rattle.base_text_paths.specs.Paths.{IsClean}
use Rattle.base_text_outside.specs.declared.cfg.CfgAtom.{CfgAtom}
use Rattle.base_text_paths.proofs.Equalities.{paths}
use Rattle.crate_graph_values.specs.Laws.{IsContentEqualityOn}
use Rattle.crate_graph_values.proofs.ContentsOn.{options_on}
use Rattle.pm_cargo.specs.OutputLaws.{HasCleanLibrary, HasCleanOutput}
use Rattle.pm_cargo.specs.declared.output.BuildScriptOutput.{BuildScriptOutput}
use Rattle.pm_cargo.specs.declared.output.ProcMacroDylibPath.{ProcMacroDylibPath}
use Rattle.pm_cargo.specs.declared.output.ProcMacroDylibPath.TheVariants.{Path, DylibNotFound, NotProcMacro, NotBuilt}
use Rattle.pm_cargo.specs.contracts.output.ProcMacroDylibPathPartialEq.TheImpl as library

-- the path of a library, or the empty text
path_of : ProcMacroDylibPath → List ℕ
path_of (Path path) = path
path_of DylibNotFound = []
path_of NotProcMacro = []
path_of NotBuilt = []

pub libraries : (x y : ProcMacroDylibPath) → HasCleanLibrary x → HasCleanLibrary y → ((library.ghosts).eq x y ≡ true) ↔ (x ≡ y)
unfolding path_of
libraries (Path p) (Path q) a b = let same = paths p q a b in (λ e. ap Path (same.0 e), λ e. same.1 (ap path_of e))
libraries (Path p) DylibNotFound a b = (λ e. absurd (false≢true e), λ e. absurd (cc))
libraries (Path p) NotProcMacro a b = (λ e. absurd (false≢true e), λ e. absurd (cc))
libraries (Path p) NotBuilt a b = (λ e. absurd (false≢true e), λ e. absurd (cc))
libraries DylibNotFound (Path q) a b = (λ e. absurd (false≢true e), λ e. absurd (cc))
libraries DylibNotFound DylibNotFound a b = (λ e. refl, λ e. refl)
libraries DylibNotFound NotProcMacro a b = (λ e. absurd (false≢true e), λ e. absurd (cc))
libraries DylibNotFound NotBuilt a b = (λ e. absurd (false≢true e), λ e. absurd (cc))
libraries NotProcMacro (Path q) a b = (λ e. absurd (false≢true e), λ e. absurd (cc))
libraries NotProcMacro DylibNotFound a b = (λ e. absurd (false≢true e), λ e. absurd (cc))
libraries NotProcMacro NotProcMacro a b = (λ e. refl, λ e. refl)
libraries NotProcMacro NotBuilt a b = (λ e. absurd (false≢true e), λ e. absurd (cc))
libraries NotBuilt (Path q) a b = (λ e. absurd (false≢true e), λ e. absurd (cc))
libraries NotBuilt DylibNotFound a b = (λ e. absurd (false≢true e), λ e. absurd (cc))
libraries NotBuilt NotProcMacro a b = (λ e. absurd (false≢true e), λ e. absurd (cc))
libraries NotBuilt NotBuilt a b = (λ e. refl, λ e. refl)

-- the variables of an environment
abbrev Variables : Type 0
Variables = List (List ℕ × List ℕ)

module _ (atom_eq : CfgAtom → CfgAtom → Bool) (env_eq : Variables → Variables → Bool) (library_eq : ProcMacroDylibPath → ProcMacroDylibPath → Bool) where
  abbrev output_eq : BuildScriptOutput → BuildScriptOutput → Bool
  output_eq x y = pointwise atom_eq x.cfgs y.cfgs && (env_eq x.envs y.envs && (option_eq path_eq x.out_dir y.out_dir && library_eq x.proc_macro_dylib_path y.proc_macro_dylib_path))

  module _ (atoms : IsContentEquality atom_eq) (environments : IsContentEquality env_eq) (known : IsContentEqualityOn HasCleanLibrary library_eq) where
    pub outputs_are_equal : (x y : BuildScriptOutput) → HasCleanOutput x → HasCleanOutput y → (output_eq x y ≡ true) ↔ (x ≡ y)
    outputs_are_equal x y p q =
        let all =
        Decides-and _ _ (lists atom_eq atoms x.cfgs y.cfgs)
        (Decides-and _ _ (environments x.envs y.envs)
        (Decides-and _ _ (options_on IsClean path_eq paths x.out_dir y.out_dir p.out_dir q.out_dir)
        (known x.proc_macro_dylib_path y.proc_macro_dylib_path p.library q.library))) in (
          λ e. let r = all.0 e in λ i. record { cfgs = r.0 i; envs = r.1.0 i; out_dir = r.1.1.0 i; proc_macro_dylib_path = r.1.1.1 i },
          λ e. all.1 (ap (λ o. o.cfgs) e, (ap (λ o. o.envs) e, (ap (λ o. o.out_dir) e, ap (λ o. o.proc_macro_dylib_path) e))),
        )
