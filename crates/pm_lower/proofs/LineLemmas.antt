-- The lines of loads and of builds, part by part.
use Rattle.std.proofs.Common.{◌≡◌, ◌∙◌, ℕ, ◌+◌, ◌<◌, List, [], ◌∷◌, ◌++◌, length, take, drop, get_or, Option, Ok, Err, ap, append-nil, sym}
use Rattle.std.proofs.lemmas.List.{drop_more, take-append-drop, take_more}
use Rattle.std.proofs.lemmas.List.Concat.{flat_map-append}
use Rattle.std.specs.List.{flat_map}
use Rattle.std.specs.Prelude.{IsErrOf}
use Rattle.base_text.specs.Progress.{TakesFront-more, TakesFront-none, TakesFront-whole, with_lines, with_lines-next, with_lines-none}
use Rattle.pm_cargo_config.specs.declared.config.CargoConfig.{CargoConfig}
use Rattle.pm_cargo_fetch.specs.Lines.{TakesLines}
use Rattle.pm_cargo_fetch.proofs.Lines.{TakesLines-after, TakesLines-cut, TakesLines-same, TakesLines-stopped}
use Rattle.pm_json.specs.declared.project_json.ProjectJson.{ProjectJson}
use Rattle.pm_lower_load.specs.Loading.{Loading, Refuses}
use Rattle.pm_lower_load.specs.Metadata.{metadata_lines}
use Rattle.pm_lower_load.specs.ToolAnswers.{tool_answers}
use Rattle.pm_lower_load.specs.declared.load_error.LoadError.{LoadError}
use Rattle.pm_lower_load.specs.declared.load_error.LoadError.TheVariants.{OutOfMemory}
use Rattle.pm_lower_load.specs.declared.tool_answers.PlatformAsked.TheVariants.{FirstTarget}
use Rattle.pm_lower_load.proofs.LoadingLemmas.{refused_is}
use Rattle.pm_lower.specs.Lines.{lines_of_document, lines_of_root, metadata_line, sysroot_line}
use Rattle.pm_tools_ask.specs.Ask.{Means}
use Rattle.pm_tools_ask.specs.Toolchain.{Toolchain}

-- ---- the two parts of a load

module _ (old first second : Option (List (List ℕ))) (one : first ≡ with_lines (sysroot_line ∷ []) old) (two : second ≡ with_lines (metadata_line ∷ []) first) where
  -- both were said
  pub both_came : second ≡ with_lines (sysroot_line ∷ metadata_line ∷ []) old
  both_came = two ∙ ap (with_lines (metadata_line ∷ [])) one ∙ with_lines-next old (sysroot_line ∷ []) (metadata_line ∷ [])

-- the call gave up behind the first
pub first_came : {gave_up : Type 0} (old first : Option (List (List ℕ))) → first ≡ with_lines (sysroot_line ∷ []) old → gave_up → TakesLines gave_up old first (sysroot_line ∷ metadata_line ∷ [])
first_came old first one stopped = TakesLines-stopped stopped (TakesFront-more old first (sysroot_line ∷ []) (metadata_line ∷ []) (TakesFront-whole old first (sysroot_line ∷ []) one))

-- ---- a project of cargo

module _ (sysroot : Toolchain) (config : CargoConfig) (means : Means) (located : Loading (List ℕ)) where
  -- no root was located: the first part alone was said
  pub lines_without_root : {T : Type 0} (e : LoadError) (old first : Option (List (List ℕ))) → first ≡ with_lines (sysroot_line ∷ []) old → Refuses e located
      → TakesLines (IsErrOf {T = T} (Err e) OutOfMemory) old first (sysroot_line ∷ lines_of_root sysroot config means located)
  lines_without_root {T} e old first one refused = record {
    all = λ no. one ∙ ap (λ (l : Loading (List ℕ)). with_lines (sysroot_line ∷ lines_of_root sysroot config means l) old) (sym (refused_is {T = T} e located no refused));
    front = TakesFront-more old first (sysroot_line ∷ []) (lines_of_root sysroot config means located) (TakesFront-whole old first (sysroot_line ∷ []) one);
  }

  -- a root was located
  pub lines_with_root : {gave_up : Type 0} (manifest : List ℕ) (old first second new : Option (List (List ℕ))) → first ≡ with_lines (sysroot_line ∷ []) old → second ≡ with_lines (metadata_line ∷ []) first
      → located ≡ Ok manifest → TakesLines gave_up second new (metadata_lines sysroot manifest config (tool_answers sysroot manifest FirstTarget config means) means)
      → TakesLines gave_up old new (sysroot_line ∷ lines_of_root sysroot config means located)
  lines_with_root manifest old first second new one two is taken =
      TakesLines-same (TakesLines-after (sysroot_line ∷ []) one (TakesLines-after (metadata_line ∷ []) two taken)) (ap (λ (l : Loading (List ℕ)). sysroot_line ∷ lines_of_root sysroot config means l) (sym is))

-- ---- a JSON project

-- there is no document: nothing was said
pub lines_without_document : {T : Type 0} (e : LoadError) (part : Loading ProjectJson) (old : Option (List (List ℕ))) → Refuses e part → TakesLines (IsErrOf {T = T} (Err e) OutOfMemory) old old (lines_of_document part)
lines_without_document {T} e part old refused = record {
  all = λ no. sym (with_lines-none old) ∙ ap (λ (l : Loading ProjectJson). with_lines (lines_of_document l) old) (sym (refused_is {T = T} e part no refused));
  front = TakesFront-none old (lines_of_document part);
}

-- ---- builds, one after another

module _ {X : Type 0} (f : X → List (List ℕ)) (xs : List X) (old : Option (List (List ℕ))) where
  -- no more of them were built
  pub builds_cut : {gave_up : Type 0} (n : ℕ) (new : Option (List (List ℕ))) → new ≡ with_lines (flat_map f (take n xs)) old → gave_up → TakesLines gave_up old new (flat_map f xs)
  builds_cut n new came stopped =
      TakesLines-same (TakesLines-stopped stopped (TakesFront-more old new (flat_map f (take n xs)) (flat_map f (drop n xs)) (TakesFront-whole old new (flat_map f (take n xs)) came)))
      (sym (flat_map-append f (take n xs) (drop n xs)) ∙ ap (flat_map f) (take-append-drop n xs))

  module _ (i : ℕ) (x : X) (between new : Option (List (List ℕ))) (within : i < length xs) (here : x ≡ get_or xs i x) (came : between ≡ with_lines (flat_map f (take i xs)) old) where
    -- one more was built
    pub build_came : new ≡ with_lines (f x) between → new ≡ with_lines (flat_map f (take (i + 1) xs)) old
    build_came put =
        put ∙ ap (with_lines (f x)) came ∙ with_lines-next old (flat_map f (take i xs)) (f x)
        ∙ ap (λ (ls : List (List ℕ)). with_lines ls old)
        (ap (λ (l : List (List ℕ)). flat_map f (take i xs) ++ l) (sym (append-nil (f x))) ∙ sym (flat_map-append f (take i xs) (x ∷ []))
        ∙ ap (λ (y : X). flat_map f (take i xs ++ y ∷ [])) here ∙ ap (flat_map f) (sym (take_more xs i x within)))

    -- the build of one of them gave up
    pub build_cut : {before now : Type 0} → TakesLines before between new (f x) → now → TakesLines now old new (flat_map f xs)
    build_cut taken stopped =
        TakesLines-same (TakesLines-after (flat_map f (take i xs)) came (TakesLines-cut (flat_map f (drop (i + 1) xs)) taken stopped))
        (ap (λ (l : List X). flat_map f (take i xs) ++ flat_map f l) (ap (λ (y : X). y ∷ drop (i + 1) xs) here ∙ sym (drop_more xs i x within))
        ∙ sym (flat_map-append f (take i xs) (drop i xs)) ∙ ap (flat_map f) (take-append-drop i xs))
