-- The last component of a text, its extension, and paths that must be absolute.
use Rattle.std.proofs.Common.{◌≡◌, ℕ, ◌+◌, ◌-◌, List, [], ◌∷◌, ◌++◌, length, true, false, cond, Some, None, Ok, Err, ap, arith, get_or, length-append, sym, ◌∙◌}
use Rattle.std.proofs.Math.Seq.{get_or-append_seam}
use Rattle.std.proofs.lemmas.Bool.{cond-true}
use Rattle.std.proofs.lemmas.List.Elements.{filter-append}
use Rattle.std.proofs.lemmas.Option.{slice_get-get_or}
use Rattle.std.specs.List.{filter}
use Rattle.std.specs.Option.{option_and_then}
use Rattle.std.specs.Prelude.{bytes_eq, codes}
use Rattle.base_text_paths.specs.FileName.{extension_of}
use Rattle.base_text_paths.specs.Paths.{components, file_name, is_absolute, is_component, last_component, path_text}
use Rattle.base_text_paths.proofs.Parents.{file_name-last, file_name-up}
use Rattle.pm_tools.specs.Artifact.{absolute_output_path}
use Rattle.pm_tools.specs.Library.{extension_in}
use Rattle.pm_tools.specs.declared.build_error.BuildError.TheVariants.{NotAbsolute}
use Rattle.base_text_paths.proofs.Absolute.{if_absolute-is, if_absolute-other}

-- ---- the last component

last_of : (parts : List (List ℕ)) (part : List ℕ) → last_component (parts ++ part ∷ []) ≡ Some part
last_of parts part =
    let place : length (parts ++ part ∷ []) - 1 ≡ length parts = omega (arith, length-append parts (part ∷ [])) in
    slice_get-get_or (parts ++ part ∷ []) (length (parts ++ part ∷ []) - 1) [] (omega (arith, length-append parts (part ∷ [])))
    ∙ ap (λ k. Some (get_or (parts ++ part ∷ []) k [])) place
    ∙ ap Some (get_or-append_seam parts part [] [])

-- one more part, which is a component
pub last_component-more : (parts : List (List ℕ)) (part : List ℕ) → is_component part ≡ true → Some part ≡ last_component (filter is_component (parts ++ part ∷ []))
last_component-more parts part counts =
    sym (last_of (filter is_component parts) part)
    ∙ ap (λ more. last_component (filter is_component parts ++ more)) (sym (cond-true _ _ _ counts))
    ∙ ap last_component (sym (filter-append is_component parts (part ∷ [])))

-- ---- the extension

-- a text without components has none
pub extension-nameless : (text : List ℕ) → last_component (components text) ≡ None → extension_in text ≡ None
unfolding file_name
extension-nameless text is = ap (λ o. option_and_then extension_of (option_and_then (λ name. cond (bytes_eq name (codes "..")) None (Some name)) o)) is

-- nor does one whose last component is `..`
pub extension-up : (text name : List ℕ) → last_component (components text) ≡ Some name → bytes_eq name (codes "..") ≡ true → extension_in text ≡ None
extension-up text name is up = ap (option_and_then extension_of) (file_name-up text name is up)

-- else it is that of the last component
pub extension-last : (text name : List ℕ) → last_component (components text) ≡ Some name → bytes_eq name (codes "..") ≡ false → extension_in text ≡ extension_of name
extension-last text name is other = ap (option_and_then extension_of) (file_name-last text name is other)

-- ---- absolute paths

-- an absolute text gives its clean path
pub absolute_is : (text path : List ℕ) → is_absolute text ≡ true → path ≡ path_text (components text) → absolute_output_path text ≡ Ok path
unfolding absolute_output_path
absolute_is text path absolute is = if_absolute-is text path (λ p. Ok p) (Err (NotAbsolute text)) absolute is

-- any other is refused with the text
pub relative_is : (text copy : List ℕ) → is_absolute text ≡ false → copy ≡ text → absolute_output_path text ≡ Err (NotAbsolute copy)
unfolding absolute_output_path
relative_is text copy relative is = if_absolute-other text (λ p. Ok p) (Err (NotAbsolute text)) relative ∙ ap (λ t. Err (NotAbsolute t)) (sym is)
