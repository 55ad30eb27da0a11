-- Normal paths: once each `..` is resolved none is left, and resolving again changes nothing.
use Rattle.std.proofs.Common.{◌≡◌, ℕ, Bool, true, false, List, [], ◌∷◌, ◌++◌, ◌-◌, length, refl, sym, ◌∙◌, ap, subst, append_assoc, append-nil, if◌then◌else◌}
use Rattle.std.proofs.lemmas.List.Elements.{All-from_recursion, recursion_from_All, All-take, All-push}
use Rattle.std.specs.List.{All, AllByRecursion, fold}
use Rattle.std.specs.Prelude.{codes, bytes_eq}
use Rattle.base_text_paths.specs.Paths.{components, path_text, resolve, resolved_components, without_last, IsClean}
use Rattle.base_text_paths.proofs.Resolving.{resolved_again}
use Rattle.vfs_core.specs.RealPath.{IsNormal}

-- a component that is not `..`
abbrev pub IsDown : List ℕ → Type 0
IsDown part = bytes_eq part (codes "..") ≡ false

-- resolving takes no `..`: the same by whether the part is one
resolve-split : (taken : List (List ℕ)) (part : List ℕ) (is_up : Bool) → bytes_eq part (codes "..") ≡ is_up
    → All IsDown taken → All IsDown (if is_up then without_last taken else taken ++ part ∷ [])
resolve-split taken part true e down = All-take IsDown (length taken - 1) taken down
resolve-split taken part false e down = All-push IsDown taken part down e

-- no `..` is among the components that are left
All-resolved : (parts taken : List (List ℕ)) → All IsDown taken → All IsDown (fold resolve taken parts)
unfolding resolve
All-resolved [] taken down = down
All-resolved (part ∷ parts) taken down =
    All-resolved parts (resolve taken part) (resolve-split taken part (bytes_eq part (codes "..")) refl down)

-- components that are no `..` are taken one by one
resolved-down : (parts taken : List (List ℕ)) → AllByRecursion IsDown parts
    → fold resolve taken parts ≡ taken ++ parts
unfolding resolve
resolved-down [] taken down = sym (append-nil taken)
resolved-down (part ∷ parts) taken down =
    let one : resolve taken part ≡ taken ++ part ∷ [] = rw down.0 in
    ap (λ (ts : List (List ℕ)). fold resolve ts parts) one ∙ resolved-down parts (taken ++ part ∷ []) down.1
    ∙ append_assoc taken (part ∷ []) parts

-- the text of a path is clean
clean_from : (text : List ℕ) (parts : List (List ℕ)) → text ≡ path_text parts → components text ≡ parts
    → IsClean text
clean_from text parts made e = made ∙ ap path_text (sym e)

-- the path of resolved components is normal
pub normal_from : (text : List ℕ) (parts : List (List ℕ)) → text ≡ path_text (resolved_components parts)
    → components text ≡ resolved_components parts → IsNormal text
normal_from text parts made e = record {
  clean = clean_from text (resolved_components parts) made e;
  resolved = ap resolved_components e ∙ resolved_again parts ∙ sym e;
}

-- no `..` is among the components of a normal path
normal-down : (text : List ℕ) → IsNormal text → All IsDown (components text)
unfolding resolved_components
normal-down text normal =
    subst (All IsDown) normal.resolved (All-resolved (components text) [] (All-from_recursion IsDown [] tt))

-- a normal path is normal without its last component
pub normal_above : (text above : List ℕ) → IsNormal text → IsClean above
    → components above ≡ without_last (components text) → IsNormal above
unfolding resolved_components
normal_above text above normal clean e =
    let down : All IsDown (without_last (components text)) =
    All-take IsDown (length (components text) - 1) (components text) (normal-down text normal) in
    record {
      clean = clean;
      resolved = ap (fold resolve []) e
          ∙ resolved-down (without_last (components text)) []
          (recursion_from_All IsDown (without_last (components text)) down)
          ∙ sym e;
    }

-- the same of the text that drops the last component
pub normal_popped : (text above : List ℕ) → IsNormal text
    → above ≡ path_text (without_last (components text))
    → components above ≡ without_last (components text) → IsNormal above
normal_popped text above normal made e =
    normal_above text above normal (clean_from above (without_last (components text)) made e) e
