-- Packages with what links give them, one link after another.
use Rattle.std.proofs.Common.{◌≡◌, ◌≢◌, ℕ, ◌+◌, ◌<◌, ◌==◌, List, [], ◌∷◌, ◌++◌, true, false, cond, length, get_or, set, sym, ap, ◌∙◌, arith, append_assoc}
use Rattle.std.specs.List.{flat_map}
use Rattle.std.proofs.lemmas.Bool.{eq-eqb, ne_eqb}
use Rattle.std.proofs.lemmas.List.{append-nil}
use Rattle.std.proofs.lemmas.Grind.{flat_map-append}
use Rattle.base_text_paths.specs.Arena.{number_of}
use Rattle.pm_cargo_packages.specs.declared.package.PackageData.{PackageData}
use Rattle.pm_cargo_packages.specs.declared.package.PackageDependency.{PackageDependency}
use Rattle.pm_cargo_reading.specs.Links.{package_with_link, package_with_links, with_link, with_links}
use Rattle.pm_cargo_reading.specs.declared.nodes.Link.{Link}
use Rattle.pm_cargo_packages.proofs.UpdateLemmas.{changed-none, changed-one, changed-twice}

-- no links give nothing
pub with_links-none : (packages : List PackageData) → with_links [] packages ≡ packages
unfolding with_links
with_links-none packages = changed-none (package_with_links []) 0 packages
    (λ k p l i. record p { dependencies = append-nil p.dependencies i; active_features = append-nil p.active_features i })

-- one more link
pub with_links-more : (links : List Link) (link : Link) (packages : List PackageData) → with_links (links ++ link ∷ []) packages ≡ with_link (with_links links packages) link
unfolding with_links
with_links-more links link packages = sym (changed-twice (package_with_links links) (package_with_links (link ∷ [])) (package_with_links (links ++ link ∷ [])) same 0 packages)
  where
    same : (p : ℕ × PackageData) → package_with_links (link ∷ []) (p.0, package_with_links links p) ≡ package_with_links (links ++ link ∷ []) p
    same p =
        let d : Link → List PackageDependency = λ l. cond (number_of l.source == p.0) l.dependencies [] in
        let f : Link → List (List ℕ) = λ l. cond (number_of l.source == p.0) l.features [] in
        let ds : (p.1.dependencies ++ flat_map d links) ++ flat_map d (link ∷ []) ≡ p.1.dependencies ++ flat_map d (links ++ link ∷ []) =
        append_assoc p.1.dependencies (flat_map d links) (flat_map d (link ∷ [])) ∙ ap (λ l. p.1.dependencies ++ l) (sym (flat_map-append d links (link ∷ []))) in
        let fs : (p.1.active_features ++ flat_map f links) ++ flat_map f (link ∷ []) ≡ p.1.active_features ++ flat_map f (links ++ link ∷ []) =
        append_assoc p.1.active_features (flat_map f links) (flat_map f (link ∷ [])) ∙ ap (λ l. p.1.active_features ++ l) (sym (flat_map-append f links (link ∷ []))) in
        (λ i. record p.1 { dependencies = ds i; active_features = fs i })

-- a link changes the package at its place alone
pub with_link-is : (packages : List PackageData) (link : Link) (p : PackageData) → number_of link.source < length packages → p ≡ get_or packages (number_of link.source) p
    → with_link packages link ≡ set packages (number_of link.source) (package_with_link link p)
unfolding with_links
with_link-is packages link p within is =
    changed-one (package_with_links (link ∷ [])) 0 (number_of link.source) packages p within is others ∙ ap (set packages (number_of link.source)) (here (0 + number_of link.source) (omega arith))
  where
    others : (k : ℕ) (q : PackageData) → k ≢ 0 + number_of link.source → package_with_links (link ∷ []) (k, q) ≡ q
    others k q other =
        let no : (number_of link.source == k) ≡ false = ne_eqb (number_of link.source) k (λ e. other (omega (arith, e))) in
        (λ i. record q {
          dependencies = (ap (λ b. q.dependencies ++ (cond b link.dependencies [] ++ [])) no ∙ append-nil q.dependencies) i;
          active_features = (ap (λ b. q.active_features ++ (cond b link.features [] ++ [])) no ∙ append-nil q.active_features) i;
        })

    here : (k : ℕ) → k ≡ number_of link.source → package_with_links (link ∷ []) (k, p) ≡ package_with_link link p
    here k at =
        let yes : (number_of link.source == k) ≡ true = eq-eqb (number_of link.source) k (sym at) in
        (λ i. record p {
          dependencies = (ap (λ b. p.dependencies ++ (cond b link.dependencies [] ++ [])) yes ∙ ap (λ l. p.dependencies ++ l) (append-nil link.dependencies)) i;
          active_features = (ap (λ b. p.active_features ++ (cond b link.features [] ++ [])) yes ∙ ap (λ l. p.active_features ++ l) (append-nil link.features)) i;
        })
