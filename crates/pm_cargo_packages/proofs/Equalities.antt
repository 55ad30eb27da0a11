-- Equality of contents, for targets and packages: each is compared field by field.
use Rattle.std.proofs.Common.{◌≡◌, ◌↔◌, ℕ, List, Bool, true, ◌&&◌, ap, nat_eq}
use Rattle.std.proofs.Math.Bool.{beq}
use Rattle.std.proofs.lemmas.Bool.Decides.{Decides-and}
use Rattle.std.specs.Cmp.{booleans_Decides}
use Rattle.std.specs.Cmp.Lexicographic.{pointwise}
use Rattle.std.specs.Option.{option_eq}
use Rattle.base_values.specs.Equality.{IsContentEquality}
use Rattle.base_values.specs.Version.{version_eq}
use Rattle.base_values.proofs.Equalities.{lists, pairs, texts, versions}
use Rattle.base_text_paths.specs.PathOrder.{path_eq}
use Rattle.base_text_paths.specs.Paths.{IsClean}
use Rattle.base_text_paths.specs.declared.arena.Idx.{Idx}
use Rattle.base_text_paths.specs.declared.edition.Edition.{Edition}
use Rattle.base_text_paths.proofs.Equalities.{paths}
use Rattle.cargo_meta_values.specs.declared.names.PackageId.{PackageId}
use Rattle.crate_graph_values.specs.declared.target_kind.TargetKind.{TargetKind}
use Rattle.pm_cargo_packages.specs.declared.package.PackageData.{PackageData}
use Rattle.pm_cargo_packages.specs.declared.package.PackageDependency.{PackageDependency}
use Rattle.pm_cargo_packages.specs.declared.package.PackageTag.{PackageTag}
use Rattle.pm_cargo_packages.specs.declared.package.RustAnalyzerPackageMetaData.{RustAnalyzerPackageMetaData}
use Rattle.pm_cargo_packages.specs.declared.target.TargetData.{TargetData}
use Rattle.pm_cargo_packages.specs.declared.target.TargetTag.{TargetTag}
use Rattle.crate_graph_values.proofs.ContentsOn.{lists_on, options}

-- texts are equal by their bytes
abbrev text_eq : List ℕ → List ℕ → Bool
text_eq = pointwise nat_eq

-- ---- targets

module _ (package_eq : Idx PackageTag → Idx PackageTag → Bool) (kind_eq : TargetKind → TargetKind → Bool) where
  abbrev target_eq : TargetData → TargetData → Bool
  target_eq x y =
      package_eq x.«package» y.«package» && (text_eq x.name y.name && (path_eq x.root y.root && (kind_eq x.kind y.kind && pointwise text_eq x.required_features y.required_features)))

  module _ (packages : IsContentEquality package_eq) (kinds : IsContentEquality kind_eq) where
    pub targets_are_equal : (x y : TargetData) → IsClean x.root → IsClean y.root → (target_eq x y ≡ true) ↔ (x ≡ y)
    targets_are_equal x y clean_x clean_y =
        let all =
        Decides-and _ _ (packages x.«package» y.«package»)
        (Decides-and _ _ (texts x.name y.name)
        (Decides-and _ _ (paths x.root y.root clean_x clean_y)
        (Decides-and _ _ (kinds x.kind y.kind) (lists text_eq texts x.required_features y.required_features)))) in (
          λ e. let p = all.0 e in λ i. record { «package» = p.0 i; name = p.1.0 i; root = p.1.1.0 i; kind = p.1.1.1.0 i; required_features = p.1.1.1.1 i },
          λ e. all.1 (ap (λ t. t.«package») e, (ap (λ t. t.name) e, (ap (λ t. t.root) e, (ap (λ t. t.kind) e, ap (λ t. t.required_features) e)))),
        )

-- ---- packages

module _ (target_eq : Idx TargetTag → Idx TargetTag → Bool) (member_eq : Idx PackageTag → Idx PackageTag → Bool) (dependency_eq : PackageDependency → PackageDependency → Bool) (edition_eq : Edition → Edition → Bool)
    (id_eq : PackageId → PackageId → Bool) (metadata_eq : RustAnalyzerPackageMetaData → RustAnalyzerPackageMetaData → Bool) where
  -- the second half of the fields
  abbrev details_eq : PackageData → PackageData → Bool
  details_eq x y =
      option_eq text_eq x.description y.description && (option_eq text_eq x.homepage y.homepage && (option_eq text_eq x.license y.license
      && (option_eq text_eq x.license_file y.license_file && (option_eq text_eq x.readme y.readme && (option_eq version_eq x.rust_version y.rust_version
      && (metadata_eq x.metadata y.metadata && option_eq (pointwise member_eq) x.all_member_deps y.all_member_deps))))))

  -- features by their names
  abbrev feature_eq : List ℕ × List (List ℕ) → List ℕ × List (List ℕ) → Bool
  feature_eq p q = text_eq p.0 q.0 && pointwise text_eq p.1 q.1

  abbrev package_eq : PackageData → PackageData → Bool
  package_eq x y =
      version_eq x.version y.version && (text_eq x.name y.name && (option_eq text_eq x.repository y.repository && (path_eq x.manifest y.manifest
      && (pointwise target_eq x.targets y.targets && (beq x.is_local y.is_local && (beq x.is_member y.is_member
      && (pointwise dependency_eq x.dependencies y.dependencies && (edition_eq x.edition y.edition && (pointwise feature_eq x.features y.features
      && (pointwise text_eq x.active_features y.active_features && (id_eq x.id y.id && (pointwise text_eq x.authors y.authors && details_eq x y))))))))))))

  module _ (targets : IsContentEquality target_eq) (members : IsContentEquality member_eq) (dependencies : IsContentEquality dependency_eq) (editions : IsContentEquality edition_eq) (ids : IsContentEquality id_eq)
      (metadata : IsContentEquality metadata_eq) where
    pub packages_are_equal : (x y : PackageData) → IsClean x.manifest → IsClean y.manifest → (package_eq x y ≡ true) ↔ (x ≡ y)
    packages_are_equal x y clean_x clean_y =
        let optional_texts = options text_eq texts in
        let details =
        Decides-and _ _ (optional_texts x.description y.description)
        (Decides-and _ _ (optional_texts x.homepage y.homepage)
        (Decides-and _ _ (optional_texts x.license y.license)
        (Decides-and _ _ (optional_texts x.license_file y.license_file)
        (Decides-and _ _ (optional_texts x.readme y.readme)
        (Decides-and _ _ (options version_eq versions x.rust_version y.rust_version)
        (Decides-and _ _ (metadata x.metadata y.metadata)
        (options (pointwise member_eq) (lists member_eq members) x.all_member_deps y.all_member_deps))))))) in
        let lists_on =
        Decides-and _ _ (lists dependency_eq dependencies x.dependencies y.dependencies)
        (Decides-and _ _ (editions x.edition y.edition)
        (Decides-and _ _ (lists feature_eq (pairs text_eq (pointwise text_eq) texts (lists text_eq texts)) x.features y.features)
        (Decides-and _ _ (lists text_eq texts x.active_features y.active_features)
        (Decides-and _ _ (ids x.id y.id)
        (Decides-and _ _ (lists text_eq texts x.authors y.authors) details))))) in
        let all =
        Decides-and _ _ (versions x.version y.version)
        (Decides-and _ _ (texts x.name y.name)
        (Decides-and _ _ (optional_texts x.repository y.repository)
        (Decides-and _ _ (paths x.manifest y.manifest clean_x clean_y)
        (Decides-and _ _ (lists target_eq targets x.targets y.targets)
        (Decides-and _ _ (booleans_Decides x.is_local y.is_local)
        (Decides-and _ _ (booleans_Decides x.is_member y.is_member) lists_on)))))) in (
          λ e.
              let p = all.0 e in
              let q = p.1.1.1.1.1.1.1 in
              let r = q.1.1.1.1.1.1 in
              λ i. record {
                version = p.0 i;
                name = p.1.0 i;
                repository = p.1.1.0 i;
                manifest = p.1.1.1.0 i;
                targets = p.1.1.1.1.0 i;
                is_local = p.1.1.1.1.1.0 i;
                is_member = p.1.1.1.1.1.1.0 i;
                dependencies = q.0 i;
                edition = q.1.0 i;
                features = q.1.1.0 i;
                active_features = q.1.1.1.0 i;
                id = q.1.1.1.1.0 i;
                authors = q.1.1.1.1.1.0 i;
                description = r.0 i;
                homepage = r.1.0 i;
                license = r.1.1.0 i;
                license_file = r.1.1.1.0 i;
                readme = r.1.1.1.1.0 i;
                rust_version = r.1.1.1.1.1.0 i;
                metadata = r.1.1.1.1.1.1.0 i;
                all_member_deps = r.1.1.1.1.1.1.1 i;
              },
          λ e. all.1 (
            ap (λ d. d.version) e,
            (
              ap (λ d. d.name) e,
              (
                ap (λ d. d.repository) e,
                (
                  ap (λ d. d.manifest) e,
                  (
                    ap (λ d. d.targets) e,
                    (
                      ap (λ d. d.is_local) e,
                      (
                        ap (λ d. d.is_member) e,
                        (
                          ap (λ d. d.dependencies) e,
                          (
                            ap (λ d. d.edition) e,
                            (
                              ap (λ d. d.features) e,
                              (
                                ap (λ d. d.active_features) e,
                                (
                                  ap (λ d. d.id) e,
                                  (
                                    ap (λ d. d.authors) e,
                                    (
                                      ap (λ d. d.description) e,
                                      (
                                        ap (λ d. d.homepage) e,
                                        (
                                          ap (λ d. d.license) e,
                                          (
                                            ap (λ d. d.license_file) e,
                                            (
                                              ap (λ d. d.readme) e,
                                              (
                                                ap (λ d. d.rust_version) e,
                                                (
                                                  ap (λ d. d.metadata) e,
                                                  ap (λ d. d.all_member_deps) e,
                                                ),
                                              ),
                                            ),
                                          ),
                                        ),
                                      ),
                                    ),
                                  ),
                                ),
                              ),
                            ),
                          ),
                        ),
                      ),
                    ),
                  ),
                ),
              ),
            ),
          ),
        )
