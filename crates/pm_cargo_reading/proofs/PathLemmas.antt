-- How paths of a document are read.
use Rattle.std.proofs.Common.{◌≡◌, ℕ, List, [], ◌∷◌, Bool, true, false, cond, Ok, Err, ap, refl, sym, ◌∙◌}
use Rattle.std.specs.Prelude.{bytes_eq, codes}
use Rattle.std.proofs.lemmas.Slice.Eq.{bytes_eq-Decides}
use Rattle.base_text_paths.specs.Paths.{components, is_absolute, path_text}
use Rattle.pm_cargo_reading.specs.Packages.{absolute_path, absolute_manifest}
use Rattle.base_values.specs.Outcome.{◌>>=◌}
use Rattle.pm_cargo_reading.specs.Reading.{Reading, Refuses}
use Rattle.pm_cargo_reading.specs.declared.workspace_error.WorkspaceError.{WorkspaceError}
use Rattle.pm_cargo_reading.specs.declared.workspace_error.WorkspaceError.TheVariants.{NotAbsolute, NoParent}
use Rattle.pm_cargo_reading.proofs.ReadingLemmas.{refuses_bind}
use Rattle.base_text_paths.proofs.Absolute.{if_absolute-is, if_absolute-other}

-- an absolute text is read as its clean path
pub absolute_is : (text path : List ℕ) → is_absolute text ≡ true → path ≡ path_text (components text) → absolute_path text ≡ Ok path
unfolding absolute_path
absolute_is text path absolute is = if_absolute-is text path (λ p. Ok p) (Err (NotAbsolute text)) absolute is

-- any other is refused with the text
pub relative_is : (text copy : List ℕ) → is_absolute text ≡ false → copy ≡ text → absolute_path text ≡ Err (NotAbsolute copy)
unfolding absolute_path
relative_is text copy relative is = if_absolute-other text (λ p. Ok p) (Err (NotAbsolute text)) relative ∙ ap (λ t. Err (NotAbsolute t)) (sym is)

-- a path that is not the root is that of a manifest
pub manifest_is : (text path : List ℕ) → absolute_path text ≡ Ok path → (path ≡ 47 ∷ [] → ⊥) → absolute_manifest text ≡ Ok path
unfolding absolute_manifest
manifest_is text path is other = ap (λ (r : Reading (List ℕ)). r >>= λ p. cond (bytes_eq p (codes "/")) (Err (NoParent p)) (Ok p)) is ∙ by (bytes_eq path (codes "/")) refl
  where
    by : (b : Bool) → bytes_eq path (codes "/") ≡ b → cond b (Err (NoParent path)) (Ok path) ≡ Ok path
    by true e = absurd (other ((bytes_eq-Decides path (codes "/")).0 e))
    by false e = refl

-- the root is refused
pub root_is : (text path copy : List ℕ) → absolute_path text ≡ Ok path → path ≡ 47 ∷ [] → copy ≡ path → absolute_manifest text ≡ Err (NoParent copy)
unfolding absolute_manifest
root_is text path copy is root same =
    ap (λ (r : Reading (List ℕ)). r >>= λ p. cond (bytes_eq p (codes "/")) (Err (NoParent p)) (Ok p)) is
    ∙ ap (λ b. cond b (Err (NoParent path)) (Ok path)) ((bytes_eq-Decides path (codes "/")).1 root)
    ∙ ap (λ p. Err (NoParent p)) (sym same)

-- a text that is no absolute path is no manifest's
pub manifest_refused : (e : WorkspaceError) (text : List ℕ) → Refuses e (absolute_path text) → Refuses e (absolute_manifest text)
unfolding absolute_manifest
manifest_refused e text h = refuses_bind e (absolute_path text) (λ p. cond (bytes_eq p (codes "/")) (Err (NoParent p)) (Ok p)) h
