-- Equality of crates, field by field.
use Rattle.std.proofs.Common.{◌≡◌, ℕ, List, [], ◌∷◌, Bool, true, ◌&&◌, map, refl, sym, ap, ◌∙◌}
use Rattle.std.specs.Prelude.{bytes_eq, nat_eq, ◌↔◌}
use Rattle.std.proofs.lemmas.Bool.{eqb-true, eq-eqb}
use Rattle.base_text_paths.specs.declared.edition.Edition.{Edition}
use Rattle.base_text_paths.specs.declared.arena.Idx.{Idx}
use Rattle.base_text_outside.specs.declared.cfg.CfgAtom.{CfgAtom}
use Rattle.crate_graph_values.specs.declared.builder.CrateBuilder.{CrateBuilder}
use Rattle.crate_graph_values.specs.declared.builder.ExtraCrateData.{ExtraCrateData}
use Rattle.crate_graph_values.specs.declared.crate_data.CrateData.{CrateData}
use Rattle.crate_graph_values.specs.declared.crate_data.CrateTag.{CrateTag}
use Rattle.crate_graph_values.specs.declared.workspace_data.CrateWorkspaceData.{CrateWorkspaceData}
use Rattle.crate_graph_values.specs.declared.crate_data.Dependency.{Dependency}
use Rattle.crate_graph_values.specs.declared.origin.CrateOrigin.{CrateOrigin}
use Rattle.crate_graph_values.specs.declared.target_kind.TargetKind.{TargetKind}
use Rattle.base_values.specs.Equality.{IsContentEquality}
use Rattle.crate_graph_values.specs.Laws.{HasCleanMacroDirectory, IsContentEqualityOn}
use Rattle.std.specs.Cmp.Lexicographic.{pointwise, pointwise_decides, bytes_decides}
use Rattle.base_text_paths.specs.Paths.{IsClean, components, path_text}
use Rattle.base_text_paths.specs.PathOrder.{path_eq}
use Rattle.base_values.proofs.Basics.{and_both, and_first, and_second}

-- lists whose items are renamed are equal just as before
pub pointwise-renamed : {A B : Type 0} (old : A → A → Bool) (new : B → B → Bool) (f : A → B) → ((x y : A) → new (f x) (f y) ≡ old x y) → (xs ys : List A) → pointwise new (map f xs) (map f ys) ≡ pointwise old xs ys
pointwise-renamed old new f keeps [] [] = refl
pointwise-renamed old new f keeps [] (y ∷ ys) = refl
pointwise-renamed old new f keeps (x ∷ xs) [] = refl
pointwise-renamed old new f keeps (x ∷ xs) (y ∷ ys) = λ i. keeps x y i && pointwise-renamed old new f keeps xs ys i

-- clean paths with equal components are equal
pub path_eq-clean : (x y : List ℕ) → IsClean x → IsClean y → path_eq x y ≡ true → x ≡ y
path_eq-clean x y clean_x clean_y e =
    clean_x ∙ ap path_text ((pointwise_decides bytes_decides (components x) (components y)).0 e) ∙ sym clean_y

pub path_eq-same : (x y : List ℕ) → x ≡ y → path_eq x y ≡ true
path_eq-same x y e = (pointwise_decides bytes_decides (components x) (components y)).1 (ap components e)

-- pairs of texts are equal where both of their texts are
pub pair_decides : (p q : List ℕ × List ℕ) → ((bytes_eq p.0 q.0 && bytes_eq p.1 q.1) ≡ true) ↔ (p ≡ q)
pair_decides p q = (
  λ e.
      let first = (bytes_decides p.0 q.0).0 (and_first _ _ e) in
      let second = (bytes_decides p.1 q.1).0 (and_second (bytes_eq p.0 q.0) _ e) in
      λ i. (first i, second i),
  λ e. and_both _ _ ((bytes_decides p.0 q.0).1 (ap (λ z. z.0) e)) ((bytes_decides p.1 q.1).1 (ap (λ z. z.1) e)),
)

-- the equality of crates, by those of its parts
module _ {Id : Type 0} (dep : Dependency Id → Dependency Id → Bool) (edition : Edition → Edition → Bool) (origin : CrateOrigin → CrateOrigin → Bool) (kind : TargetKind → TargetKind → Bool) where
  abbrev crate_eq : CrateData Id → CrateData Id → Bool
  crate_eq x y = nat_eq x.root_file_id y.root_file_id && (edition x.edition y.edition && (pointwise dep x.dependencies y.dependencies
      && (origin x.origin y.origin && (pointwise bytes_eq x.crate_attrs y.crate_attrs && (kind x.target_kind y.target_kind && path_eq x.proc_macro_cwd y.proc_macro_cwd)))))

  module _ (deps : IsContentEquality dep) (editions : IsContentEquality edition) (origins : IsContentEquality origin) (kinds : IsContentEquality kind) where
    same_crates : (x y : CrateData Id) → IsClean x.proc_macro_cwd → IsClean y.proc_macro_cwd → crate_eq x y ≡ true → x ≡ y
    same_crates x y clean_x clean_y e =
        let past_file = and_second (nat_eq x.root_file_id y.root_file_id) _ e in
        let past_edition = and_second (edition x.edition y.edition) _ past_file in
        let past_deps = and_second (pointwise dep x.dependencies y.dependencies) _ past_edition in
        let past_origin = and_second (origin x.origin y.origin) _ past_deps in
        let past_attrs = and_second (pointwise bytes_eq x.crate_attrs y.crate_attrs) _ past_origin in
        let files = eqb-true x.root_file_id y.root_file_id (and_first _ _ e) in
        let same_edition = (editions x.edition y.edition).0 (and_first _ _ past_file) in
        let same_deps = (pointwise_decides deps x.dependencies y.dependencies).0 (and_first _ _ past_edition) in
        let same_origin = (origins x.origin y.origin).0 (and_first _ _ past_deps) in
        let attrs = (pointwise_decides bytes_decides x.crate_attrs y.crate_attrs).0 (and_first _ _ past_origin) in
        let same_kind = (kinds x.target_kind y.target_kind).0 (and_first _ _ past_attrs) in
        let paths = path_eq-clean x.proc_macro_cwd y.proc_macro_cwd clean_x clean_y (and_second (kind x.target_kind y.target_kind) _ past_attrs) in
        λ i. record {
          root_file_id = files i;
          edition = same_edition i;
          dependencies = same_deps i;
          origin = same_origin i;
          crate_attrs = attrs i;
          target_kind = same_kind i;
          proc_macro_cwd = paths i;
        }

    equal : (x y : CrateData Id) → x ≡ y → crate_eq x y ≡ true
    equal x y e =
        and_both _ _ (eq-eqb _ _ (ap (λ z. z.root_file_id) e)) (and_both _ _ ((editions _ _).1 (ap (λ z. z.edition) e))
        (and_both _ _ ((pointwise_decides deps x.dependencies y.dependencies).1 (ap (λ z. z.dependencies) e))
        (and_both _ _ ((origins _ _).1 (ap (λ z. z.origin) e))
        (and_both _ _ ((pointwise_decides bytes_decides x.crate_attrs y.crate_attrs).1 (ap (λ z. z.crate_attrs) e))
        (and_both _ _ ((kinds _ _).1 (ap (λ z. z.target_kind) e)) (path_eq-same x.proc_macro_cwd y.proc_macro_cwd (ap (λ z. z.proc_macro_cwd) e)))))))

    pub crates_are_equal : (x y : CrateData Id) → IsClean x.proc_macro_cwd → IsClean y.proc_macro_cwd → (crate_eq x y ≡ true) ↔ (x ≡ y)
    crates_are_equal x y clean_x clean_y = (same_crates x y clean_x clean_y, equal x y)

-- the equality of crates of builders, by those of their parts
module _ (data_eq : CrateData (Idx CrateTag) → CrateData (Idx CrateTag) → Bool) (extra : ExtraCrateData → ExtraCrateData → Bool) (cfgs : List CfgAtom → List CfgAtom → Bool) (env : List (List ℕ × List ℕ) → List (List ℕ × List ℕ) → Bool)
    (workspace : CrateWorkspaceData → CrateWorkspaceData → Bool) where
  abbrev builder_eq : CrateBuilder → CrateBuilder → Bool
  builder_eq x y = data_eq x.basic y.basic && (extra x.extra y.extra && (cfgs x.cfg_options y.cfg_options && (env x.env y.env && workspace x.ws_data y.ws_data)))

  module _ (datas : IsContentEqualityOn HasCleanMacroDirectory data_eq) (extras : IsContentEquality extra) (options : IsContentEquality cfgs) (environments : IsContentEquality env) (workspaces : IsContentEquality workspace) where
    same_builders : (x y : CrateBuilder) → HasCleanMacroDirectory x.basic → HasCleanMacroDirectory y.basic → builder_eq x y ≡ true → x ≡ y
    same_builders x y clean_x clean_y e =
        let past_data = and_second (data_eq x.basic y.basic) _ e in
        let past_extra = and_second (extra x.extra y.extra) _ past_data in
        let past_options = and_second (cfgs x.cfg_options y.cfg_options) _ past_extra in
        let same_data = (datas x.basic y.basic clean_x clean_y).0 (and_first _ _ e) in
        let same_extra = (extras x.extra y.extra).0 (and_first _ _ past_data) in
        let same_options = (options x.cfg_options y.cfg_options).0 (and_first _ _ past_extra) in
        let same_env = (environments x.env y.env).0 (and_first _ _ past_options) in
        let same_workspace = (workspaces x.ws_data y.ws_data).0 (and_second (env x.env y.env) _ past_options) in
        λ i. record {
          basic = same_data i;
          extra = same_extra i;
          cfg_options = same_options i;
          env = same_env i;
          ws_data = same_workspace i;
        }

    equal_builders : (x y : CrateBuilder) → HasCleanMacroDirectory x.basic → HasCleanMacroDirectory y.basic → x ≡ y → builder_eq x y ≡ true
    equal_builders x y clean_x clean_y e =
        and_both _ _ ((datas x.basic y.basic clean_x clean_y).1 (ap (λ z. z.basic) e)) (and_both _ _ ((extras x.extra y.extra).1 (ap (λ z. z.extra) e))
        (and_both _ _ ((options x.cfg_options y.cfg_options).1 (ap (λ z. z.cfg_options) e))
        (and_both _ _ ((environments x.env y.env).1 (ap (λ z. z.env) e)) ((workspaces x.ws_data y.ws_data).1 (ap (λ z. z.ws_data) e)))))

    pub builders_are_equal : (x y : CrateBuilder) → HasCleanMacroDirectory x.basic → HasCleanMacroDirectory y.basic → (builder_eq x y ≡ true) ↔ (x ≡ y)
    builders_are_equal x y clean_x clean_y = (same_builders x y clean_x clean_y, equal_builders x y clean_x clean_y)
