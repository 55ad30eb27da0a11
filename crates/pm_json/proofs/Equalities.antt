-- Equality of contents, for crates and projects: they are compared field by field.
use Rattle.std.proofs.Common.{◌≡◌, ◌↔◌, ℕ, List, Bool, true, ◌&&◌, ap, refl, subst, sym, ◌∙◌, Option, Some, None, nat_eq}
use Rattle.std.proofs.Math.Bool.{beq}
use Rattle.std.proofs.lemmas.Bool.{false≢true}
use Rattle.std.proofs.lemmas.Bool.Decides.{Decides-and}
use Rattle.std.specs.Cmp.{booleans_Decides}
use Rattle.std.specs.Cmp.Lexicographic.{pointwise}
use Rattle.std.specs.Option.{option_eq, option_map}
use Rattle.base_values.specs.Equality.{IsContentEquality}
use Rattle.base_values.proofs.Basics.{and_first, and_second}
use Rattle.base_values.proofs.Equalities.{lists, pairs, texts}
use Rattle.base_text_paths.specs.PathOrder.{path_eq}
use Rattle.base_text_paths.specs.Paths.{IsClean}
use Rattle.base_text_outside.specs.declared.cfg.CfgAtom.{CfgAtom}
use Rattle.base_text_paths.specs.declared.edition.Edition.{Edition}
use Rattle.base_text_paths.proofs.Equalities.{paths}
use Rattle.crate_graph_values.specs.Names.{DisplayName}
use Rattle.crate_graph_values.specs.Laws.{IsContentEqualityOn}
use Rattle.pm_json.specs.declared.dep.Dep.{Dep}
use Rattle.pm_json.specs.declared.kinds.RunnableKind.{RunnableKind}
use Rattle.pm_json.specs.declared.parts.Runnable.{Runnable}
use Rattle.crate_graph_values.proofs.ContentsOn.{lists_on, options, options_on}
use Rattle.pm_json.specs.ProjectLaws.{HasCleanLevel, HasCleanCrate, HasCleanLevels}
use Rattle.pm_json.specs.contracts.parts.RunnablePartialEq.TheImpl as commands
use Rattle.pm_json.specs.contracts.krate.CratePartialEq.TheImpl as krates
use Rattle.pm_json.specs.contracts.project_json.ProjectJsonEq.TheImpl.Laws as equivalent
use Rattle.pm_json.specs.contracts.project_json.ProjectJsonPartialEq.TheImpl as documents
use Rattle.pm_json.specs.contracts.project_json.ProjectJsonPartialEq.TheImpl.Laws as compared
use Rattle.pm_json.specs.declared.krate.Build.{Build}
use Rattle.pm_json.specs.declared.krate.Crate.{Crate}
use Rattle.pm_json.specs.declared.project_json.ProjectJson.{ProjectJson, ProjectJson-F, every_held-ProjectJson, every_here-ProjectJson, ind-ProjectJson, map-ProjectJson, out-ProjectJson, out-roll-ProjectJson, roll-ProjectJson, roll-out-ProjectJson}

-- texts are equal by their bytes
abbrev text_eq : List ℕ → List ℕ → Bool
text_eq = pointwise nat_eq

-- the commands that a client can run are compared field by field
pub runnables_are_equal : (kind_eq : RunnableKind → RunnableKind → Bool) → IsContentEquality kind_eq
    → IsContentEquality {A = Runnable} (λ x y. text_eq x.program y.program && (pointwise text_eq x.args y.args && (text_eq x.cwd y.cwd && kind_eq x.kind y.kind)))
runnables_are_equal kind_eq kinds x y =
    let all =
    Decides-and _ _ (texts x.program y.program)
    (Decides-and _ _ (lists text_eq texts x.args y.args)
    (Decides-and _ _ (texts x.cwd y.cwd) (kinds x.kind y.kind))) in (
      λ e. let r = all.0 e in λ i. record { program = r.0 i; args = r.1.0 i; cwd = r.1.1.0 i; kind = r.1.1.1 i },
      λ e. all.1 (ap (λ r. r.program) e, (ap (λ r. r.args) e, (ap (λ r. r.cwd) e, ap (λ r. r.kind) e))),
    )

-- variables by their names
abbrev variable_eq : List ℕ × List ℕ → List ℕ × List ℕ → Bool
variable_eq p q = text_eq p.0 q.0 && text_eq p.1 q.1

module _ (name_eq : DisplayName → DisplayName → Bool) (edition_eq : Edition → Edition → Bool) (dep_eq : Dep → Dep → Bool) (atom_eq : CfgAtom → CfgAtom → Bool) (build_eq : Build → Build → Bool) where
  -- the second half of the fields
  abbrev rest_eq : Crate → Crate → Bool
  rest_eq x y =
      option_eq path_eq x.proc_macro_dylib_path y.proc_macro_dylib_path && (beq x.is_workspace_member y.is_workspace_member && (pointwise path_eq x.include y.include
      && (pointwise path_eq x.exclude y.exclude && (beq x.is_proc_macro y.is_proc_macro && (option_eq path_eq x.proc_macro_cwd y.proc_macro_cwd
      && (option_eq text_eq x.repository y.repository && option_eq build_eq x.build y.build))))))

  abbrev crate_eq : Crate → Crate → Bool
  crate_eq x y =
      option_eq name_eq x.display_name y.display_name && (path_eq x.root_module y.root_module && (edition_eq x.edition y.edition && (option_eq text_eq x.version y.version
      && (pointwise dep_eq x.deps y.deps && (pointwise atom_eq x.cfg y.cfg && (option_eq text_eq x.target y.target && (pointwise variable_eq x.env y.env
      && (pointwise text_eq x.crate_attrs y.crate_attrs && rest_eq x y))))))))

  module _ (names : IsContentEquality name_eq) (editions : IsContentEquality edition_eq) (deps : IsContentEquality dep_eq) (atoms : IsContentEquality atom_eq) (builds : IsContentEquality build_eq) where
    pub crates_are_equal : (x y : Crate) → HasCleanCrate x → HasCleanCrate y → (crate_eq x y ≡ true) ↔ (x ≡ y)
    crates_are_equal x y p q =
        let optional_texts = options text_eq texts in
        let rest =
        Decides-and _ _ (options_on IsClean path_eq paths x.proc_macro_dylib_path y.proc_macro_dylib_path p.proc_macro_dylib_path q.proc_macro_dylib_path)
        (Decides-and _ _ (booleans_Decides x.is_workspace_member y.is_workspace_member)
        (Decides-and _ _ (lists_on IsClean path_eq paths x.include y.include p.include q.include)
        (Decides-and _ _ (lists_on IsClean path_eq paths x.exclude y.exclude p.exclude q.exclude)
        (Decides-and _ _ (booleans_Decides x.is_proc_macro y.is_proc_macro)
        (Decides-and _ _ (options_on IsClean path_eq paths x.proc_macro_cwd y.proc_macro_cwd p.proc_macro_cwd q.proc_macro_cwd)
        (Decides-and _ _ (optional_texts x.repository y.repository) (options build_eq builds x.build y.build))))))) in
        let all =
        Decides-and _ _ (options name_eq names x.display_name y.display_name)
        (Decides-and _ _ (paths x.root_module y.root_module p.root_module q.root_module)
        (Decides-and _ _ (editions x.edition y.edition)
        (Decides-and _ _ (optional_texts x.version y.version)
        (Decides-and _ _ (lists dep_eq deps x.deps y.deps)
        (Decides-and _ _ (lists atom_eq atoms x.cfg y.cfg)
        (Decides-and _ _ (optional_texts x.target y.target)
        (Decides-and _ _ (lists variable_eq (pairs text_eq text_eq texts texts) x.env y.env)
        (Decides-and _ _ (lists text_eq texts x.crate_attrs y.crate_attrs) rest)))))))) in (
          λ e.
              let r = all.0 e in
              let s = r.1.1.1.1.1.1.1.1.1 in
              λ i. record {
                display_name = r.0 i;
                root_module = r.1.0 i;
                edition = r.1.1.0 i;
                version = r.1.1.1.0 i;
                deps = r.1.1.1.1.0 i;
                cfg = r.1.1.1.1.1.0 i;
                target = r.1.1.1.1.1.1.0 i;
                env = r.1.1.1.1.1.1.1.0 i;
                crate_attrs = r.1.1.1.1.1.1.1.1.0 i;
                proc_macro_dylib_path = s.0 i;
                is_workspace_member = s.1.0 i;
                include = s.1.1.0 i;
                exclude = s.1.1.1.0 i;
                is_proc_macro = s.1.1.1.1.0 i;
                proc_macro_cwd = s.1.1.1.1.1.0 i;
                repository = s.1.1.1.1.1.1.0 i;
                build = s.1.1.1.1.1.1.1 i;
              },
          λ e. all.1 (
            ap (λ c. c.display_name) e,
            (
              ap (λ c. c.root_module) e,
              (
                ap (λ c. c.edition) e,
                (
                  ap (λ c. c.version) e,
                  (
                    ap (λ c. c.deps) e,
                    (
                      ap (λ c. c.cfg) e,
                      (
                        ap (λ c. c.target) e,
                        (
                          ap (λ c. c.env) e,
                          (
                            ap (λ c. c.crate_attrs) e,
                            (
                              ap (λ c. c.proc_macro_dylib_path) e,
                              (
                                ap (λ c. c.is_workspace_member) e,
                                (
                                  ap (λ c. c.include) e,
                                  (
                                    ap (λ c. c.exclude) e,
                                    (
                                      ap (λ c. c.is_proc_macro) e,
                                      (
                                        ap (λ c. c.proc_macro_cwd) e,
                                        (
                                          ap (λ c. c.repository) e,
                                          ap (λ c. c.build) e,
                                        ),
                                      ),
                                    ),
                                  ),
                                ),
                              ),
                            ),
                          ),
                        ),
                      ),
                    ),
                  ),
                ),
              ),
            ),
          ),
        )

-- ---- projects

-- one level of a project
abbrev Level : Type 0
Level = ProjectJson-F ProjectJson

-- the equality of projects
abbrev project_eq : ProjectJson → ProjectJson → Bool
project_eq = (documents.ghosts).eq

-- those of crates and of runnables
abbrev crates_eq : Crate → Crate → Bool
crates_eq = (krates.ghosts).eq

abbrev runnable_eq : Runnable → Runnable → Bool
runnable_eq = (commands.ghosts).eq

-- levels are compared field by field, and the projects in them as projects
abbrev level_eq : Level → Level → Bool
level_eq x y =
    option_eq path_eq x.sysroot y.sysroot && (option_eq path_eq x.sysroot_src y.sysroot_src && (option_eq project_eq x.sysroot_project y.sysroot_project
    && (path_eq x.project_root y.project_root && (option_eq path_eq x.manifest y.manifest && (pointwise crates_eq x.crates y.crates && pointwise runnable_eq x.runnables y.runnables)))))

-- projects are compared by their first levels
by_level : (x y : ProjectJson) → project_eq x y ≡ level_eq (out-ProjectJson x) (out-ProjectJson y)
by_level x y = compared.is x y

module _ (crates : IsContentEqualityOn HasCleanCrate crates_eq) (runnables : IsContentEquality runnable_eq) where
  -- equal levels are one, where equal projects in them are
  same_levels : (x y : Level) → HasCleanLevel x → HasCleanLevel y → (option_eq project_eq x.sysroot_project y.sysroot_project ≡ true → x.sysroot_project ≡ y.sysroot_project)
      → level_eq x y ≡ true → x ≡ y
  same_levels x y p q inner e =
      let past_sysroot = and_second (option_eq path_eq x.sysroot y.sysroot) _ e in
      let past_src = and_second (option_eq path_eq x.sysroot_src y.sysroot_src) _ past_sysroot in
      let past_project = and_second (option_eq project_eq x.sysroot_project y.sysroot_project) _ past_src in
      let past_root = and_second (path_eq x.project_root y.project_root) _ past_project in
      let past_manifest = and_second (option_eq path_eq x.manifest y.manifest) _ past_root in
      let sysroot = (options_on IsClean path_eq paths x.sysroot y.sysroot p.sysroot q.sysroot).0 (and_first _ _ e) in
      let src = (options_on IsClean path_eq paths x.sysroot_src y.sysroot_src p.sysroot_src q.sysroot_src).0 (and_first _ _ past_sysroot) in
      let project = inner (and_first _ _ past_src) in
      let root = (paths x.project_root y.project_root p.project_root q.project_root).0 (and_first _ _ past_project) in
      let manifest = (options_on IsClean path_eq paths x.manifest y.manifest p.manifest q.manifest).0 (and_first _ _ past_root) in
      let all_crates = (lists_on HasCleanCrate crates_eq crates x.crates y.crates p.crates q.crates).0 (and_first _ _ past_manifest) in
      let all_runnables = (lists runnable_eq runnables x.runnables y.runnables).0 (and_second (pointwise crates_eq x.crates y.crates) _ past_manifest) in
      λ i. record {
        sysroot = sysroot i;
        sysroot_src = src i;
        sysroot_project = project i;
        project_root = root i;
        manifest = manifest i;
        crates = all_crates i;
        runnables = all_runnables i;
      }

  -- projects that may be missing, where those that are there are one
  same_inner : (o p : Option ProjectJson) → ((a b : ProjectJson) → o ≡ Some a → p ≡ Some b → project_eq a b ≡ true → a ≡ b) → option_eq project_eq o p ≡ true → o ≡ p
  same_inner None None one e = refl
  same_inner None (Some b) one e = absurd (false≢true e)
  same_inner (Some a) None one e = absurd (false≢true e)
  same_inner (Some a) (Some b) one e = ap Some (one a b refl refl e)

  -- what stands beside the project of a level is that of the level
  mapped : {Y : Type 0} (h : Y → ProjectJson) (y : ProjectJson-F Y) → (map-ProjectJson Y ProjectJson h y).sysroot_project ≡ option_map h y.sysroot_project
  mapped {Y} h y = by y.sysroot_project
    where
      by : (o : Option Y) → (map-ProjectJson Y ProjectJson h (record y { sysroot_project = o })).sysroot_project ≡ option_map h o
      by None = refl
      by (Some inner) = refl

  beside : {P : ProjectJson → Type 0} (o : Option ((p : ProjectJson) × P p)) (a : ProjectJson) → option_map (λ e. e.0) o ≡ Some a → P a
  beside None a is = absurd (cc)
  beside {P = P} (Some e) a is = subst P (let same : e.0 ≡ a = cc in same) e.1

  -- the paths of the project in a project are clean
  clean_inside : (x a : ProjectJson) → HasCleanLevels x → (out-ProjectJson x).sysroot_project ≡ Some a → HasCleanLevels a
  clean_inside x a p is =
      let held = every_held-ProjectJson HasCleanLevel x p in
      beside {P = HasCleanLevels} held.0.sysroot_project a
      (sym (mapped (λ (e : (z : ProjectJson) × HasCleanLevels z). e.0) held.0) ∙ ap (λ (l : Level). l.sysroot_project) held.1 ∙ is)

  -- a project of which every equal one with clean paths is the same
  abbrev IsAlone : ProjectJson → Type 0
  IsAlone x = (y : ProjectJson) → HasCleanLevels x → HasCleanLevels y → project_eq x y ≡ true → x ≡ y

  alone : (x : Level) (y : ProjectJson-F ((p : ProjectJson) × IsAlone p)) → map-ProjectJson ((p : ProjectJson) × IsAlone p) ProjectJson (λ e. e.0) y ≡ x → IsAlone (roll-ProjectJson x)
  alone x y is z p q e =
      let opened : out-ProjectJson (roll-ProjectJson x) ≡ x = out-roll-ProjectJson x in
      let levels : level_eq x (out-ProjectJson z) ≡ true =
      ap (λ (l : Level). level_eq l (out-ProjectJson z)) (sym opened) ∙ sym (by_level (roll-ProjectJson x) z) ∙ e in
      let inner : (a b : ProjectJson) → x.sysroot_project ≡ Some a → (out-ProjectJson z).sysroot_project ≡ Some b → project_eq a b ≡ true → a ≡ b =
      λ a b at there same.
      beside {P = IsAlone} y.sysroot_project a
      (sym (mapped (λ (e : (p : ProjectJson) × IsAlone p). e.0) y) ∙ ap (λ (l : Level). l.sysroot_project) is ∙ at) b
      (clean_inside (roll-ProjectJson x) a p (ap (λ (l : Level). l.sysroot_project) opened ∙ at)) (clean_inside z b q there) same in
      let here : x ≡ out-ProjectJson z =
      same_levels x (out-ProjectJson z) (subst HasCleanLevel opened (every_here-ProjectJson HasCleanLevel (roll-ProjectJson x) p)) (every_here-ProjectJson HasCleanLevel z q)
      (same_inner x.sysroot_project (out-ProjectJson z).sysroot_project inner) levels in
      ap roll-ProjectJson here ∙ roll-out-ProjectJson z

  pub projects_are_equal : (x y : ProjectJson) → HasCleanLevels x → HasCleanLevels y → (project_eq x y ≡ true) ↔ (x ≡ y)
  projects_are_equal x y p q = (
    ind-ProjectJson IsAlone alone x y p q,
    λ e. subst (λ z. project_eq x z ≡ true) e (equivalent.laws-law.refl x),
  )
