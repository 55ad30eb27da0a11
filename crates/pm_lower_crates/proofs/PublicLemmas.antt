-- The edges to a toolchain's libraries, as code makes them one by one.
use Rattle.std.proofs.Common.{◌≡◌, ℕ, ◌+◌, ◌<◌, ◌≤◌, Bool, true, List, [], ◌∷◌, ◌++◌, map, length, get_or, take, codes, Some, sym, ap, ◌∙◌, subst, append_assoc}
use Rattle.std.proofs.lemmas.List.{map-append, take_all, take_more}
use Rattle.std.proofs.lemmas.List.Elements.{All-nil}
use Rattle.base_text_paths.specs.Arena.{number_of}
use Rattle.base_text_paths.specs.declared.arena.Idx.{Idx}
use Rattle.crate_graph_values.specs.CrateData.{is_of_sysroot, prelude_of}
use Rattle.crate_graph_values.specs.declared.crate_data.CrateTag.{CrateTag}
use Rattle.crate_graph_values.specs.declared.crate_data.Dependency.{Dependency}
use Rattle.pm_lower_crates.specs.Front.{IsPublicIn}
use Rattle.pm_lower_crates.specs.Lowering.{dep_seen}
use Rattle.pm_lower_crates.specs.WantedEdges.{Dep, Edge, Public, no_public, to_macros, to_public}

-- no libraries are among any crates
pub none_public : (count : ℕ) (public : Public) → public ≡ no_public → IsPublicIn count public
none_public count public is = subst (IsPublicIn count) (sym is) (record { rows = All-nil (λ (d : Dep). d.target < count); macros = tt })

module _ (source : ℕ) (old : List Edge) (deps : List (Dependency (Idx CrateTag))) (i : ℕ) where
  -- one more public row
  pub public_more : (cur new : List Edge) (dep : Dependency (Idx CrateTag)) (e : Edge) → i < length deps → dep ≡ get_or deps i dep → e ≡ to_public source (dep_seen dep)
      → cur ≡ old ++ map (to_public source) (map dep_seen (take i deps)) → new ≡ cur ++ e ∷ [] → new ≡ old ++ map (to_public source) (map dep_seen (take (i + 1) deps))
  public_more cur new dep e within is edge_is so_far now =
      let front = map (to_public source) (map dep_seen (take i deps)) in
      let more : map (to_public source) (map dep_seen (take (i + 1) deps)) ≡ front ++ to_public source (dep_seen dep) ∷ [] =
      ap (λ ds. map (to_public source) (map dep_seen ds)) (take_more deps i dep within ∙ ap (λ d. take i deps ++ d ∷ []) (sym is))
      ∙ ap (map (to_public source)) (map-append dep_seen (take i deps) (dep ∷ []))
      ∙ map-append (to_public source) (map dep_seen (take i deps)) (dep_seen dep ∷ []) in
      now ∙ ap (λ x. cur ++ x ∷ []) edge_is ∙ ap (λ es. es ++ to_public source (dep_seen dep) ∷ []) so_far
      ∙ append_assoc old front (to_public source (dep_seen dep) ∷ []) ∙ ap (λ es. old ++ es) (sym more)

  -- all public rows
  pub public_all : (rows : List Dep) (cur : List Edge) → map dep_seen deps ≡ rows → length deps ≤ i → cur ≡ old ++ map (to_public source) (map dep_seen (take i deps))
      → cur ≡ old ++ map (to_public source) rows
  public_all rows cur are past so_far =
      so_far ∙ ap (λ ds. old ++ map (to_public source) (map dep_seen ds)) (take_all i deps past) ∙ ap (λ rs. old ++ map (to_public source) rs) are

-- the edge to the library of procedural macros, by what it is made of
pub macros_edge_is : (source target : ℕ) (names_it : Bool) (d : Dependency (Idx CrateTag)) (e : Edge) → e ≡ to_public source (dep_seen d) → d.name ≡ codes "proc_macro" → number_of d.crate_id ≡ target
    → prelude_of d ≡ names_it → is_of_sysroot d ≡ true → to_macros (Some target) source names_it ≡ e ∷ []
macros_edge_is source target names_it d e is name_is target_is prelude_is sysroot_is =
    let seen : dep_seen d ≡ record { name = codes "proc_macro"; target = target; prelude = names_it; sysroot = true } =
    λ i. record { name = name_is i; target = target_is i; prelude = prelude_is i; sysroot = sysroot_is i } in
    ap (λ (x : Edge). x ∷ []) (sym (is ∙ ap (to_public source) seen))
