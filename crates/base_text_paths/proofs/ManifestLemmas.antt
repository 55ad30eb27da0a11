-- A path has a parent exactly where it is not the root.
use Rattle.std.proofs.Common.{◌≡◌, ℕ, ◌<◌, List, [], ◌∷◌, Bool, true, false, Option, Some, None, ap, arith, length, not, refl, sym, ◌∙◌, true≢false}
use Rattle.std.specs.Option.{is_none, is_some, option_and_then, option_map, option_map_or}
use Rattle.std.specs.Prelude.{bytes_eq, codes}
use Rattle.base_text_paths.specs.FileName.{extension_of}
use Rattle.base_text_paths.specs.AbsPath.{abs_text}
use Rattle.base_text_paths.specs.Paths.{components, file_name, parent_text, path_text, without_last}
use Rattle.base_text_paths.specs.declared.paths.abs_path.AbsPath.{AbsPath}
use Rattle.base_text_paths.proofs.Parents.{parent_text-none, parent_text-some, root_components, root_text}
use Rattle.base_text_paths.specs.ManifestPath.{HasParent, is_rust_manifest}

none_from : {A B : Type 0} (f : A → B) (o : Option A) (p : Option B) → option_map f o ≡ p → is_none o ≡ true → p ≡ None
none_from f None p is none = sym is
none_from f (Some x) p is none = absurd (true≢false (sym none))

some_from : {A B : Type 0} (f : A → B) (o : Option A) (p : Option B) → option_map f o ≡ p → is_none o ≡ false → p ≡ None → ⊥
some_from f None p is some none = true≢false some
some_from f (Some x) p is some none = cc

module _ (file : List ℕ) (path : AbsPath) (parent : Option AbsPath) (same : abs_text path ≡ file) (told : option_map abs_text parent ≡ parent_text (abs_text path)) where
  no_components : is_none parent ≡ true → components file ≡ []
  no_components none = by (components file) refl
    where
      by : (parts : List (List ℕ)) → components file ≡ parts → components file ≡ []
      by [] is = is
      by (p ∷ ps) is =
          let long : 0 < length (components (abs_text path)) = omega (arith, ap length (ap components same ∙ is)) in
          let text : parent_text (abs_text path) ≡ Some (path_text (without_last (components (abs_text path)))) = parent_text-some (abs_text path) (path_text (without_last (components (abs_text path)))) long refl in
          let missing : parent_text (abs_text path) ≡ None = none_from abs_text parent (parent_text (abs_text path)) told none in
          cc

  -- the answer of the test, which is given by its opposite
  is_missing : (missing : Bool) → not missing ≡ is_some parent → missing ≡ true → is_none parent ≡ true
  is_missing missing is none = by parent (sym is ∙ ap not none)
    where
      by : (o : Option AbsPath) → is_some o ≡ false → is_none o ≡ true
      by None h = refl
      by (Some p) h = absurd (true≢false h)

  is_there : (missing : Bool) → not missing ≡ is_some parent → missing ≡ false → is_none parent ≡ false
  is_there missing is some = by parent (sym is ∙ ap not some)
    where
      by : (o : Option AbsPath) → is_some o ≡ true → is_none o ≡ false
      by None h = absurd (true≢false (sym h))
      by (Some p) h = refl

  pub no_parent_at_root : (missing : Bool) → not missing ≡ is_some parent → missing ≡ true → file ≡ 47 ∷ []
  no_parent_at_root missing is none = sym same ∙ root_text (abs_text path) path.clean (ap components same ∙ no_components (is_missing missing is none))

  pub has_parent : (missing : Bool) → not missing ≡ is_some parent → missing ≡ false → HasParent file
  has_parent missing is some = by (components file) refl
    where
      by : (parts : List (List ℕ)) → components file ≡ parts → HasParent file
      by [] none = absurd (some_from abs_text parent (parent_text (abs_text path)) told (is_there missing is some) (parent_text-none (abs_text path) (ap components same ∙ none)))
      by (p ∷ ps) are = omega (arith, ap length are)

  pub parent_is_there : HasParent file → parent ≡ None → ⊥
  parent_is_there has none = omega (arith, has, ap length (no_components (ap is_none none)))

pub root_has_none : (file : List ℕ) → HasParent file → file ≡ 47 ∷ [] → ⊥
root_has_none file has root = omega (arith, has, ap length (root_components file root))

-- what the extension says
pub with_extension : (file extension : List ℕ) → option_and_then extension_of (file_name file) ≡ Some extension → is_rust_manifest file ≡ bytes_eq extension (codes "rs")
unfolding is_rust_manifest
with_extension file extension is = ap (λ o. option_map_or (λ e. bytes_eq e (codes "rs")) o false) is

pub no_extension : (file : List ℕ) → option_and_then extension_of (file_name file) ≡ None → is_rust_manifest file ≡ false
unfolding is_rust_manifest
no_extension file is = ap (λ o. option_map_or (λ e. bytes_eq e (codes "rs")) o false) is
