-- A path that is printed from its last crate to its first, and what it shows.
use Rattle.std.proofs.Common.{◌≡◌, ℕ, List, [], ◌∷◌, ◌++◌, map, reverse, length, Result, Ok, Err, refl, sym, ap, ◌∙◌, arith, append_assoc}
use Rattle.std.specs.Prelude.{codes, IfErr}
use Rattle.std.specs.Borrow.{Bor}
use Rattle.std.specs.List.{flat_map, join_by}
use Rattle.std.proofs.lemmas.Grind.{flat_map-append}
use Rattle.std.proofs.lemmas.List.{append-nil, map-append, reverse-append}
use Rattle.graph_base.specs.Reach.{IsPathBack, Reaches}
use Rattle.graph_base.proofs.ReachLemmas.{path_back_reaches}
use Rattle.crate_graph.specs.Cyclic.{Step, back_text, numbers, step_text}
use Rattle.crate_graph.specs.Refused.{IfCyclic}
use Rattle.crate_graph.specs.declared.cyclic.AddDepError.{AddDepError}
use Rattle.crate_graph.specs.declared.cyclic.AddDepError.TheVariants.{Cyclic, OutOfMemory}

-- a crate of a path behind its arrow
abbrev pub arrow_text : Bor Step → List ℕ
arrow_text step = codes " -> " ++ step_text step.now

-- one more crate is written
pub arrow_more : (steps : List (Bor Step)) (step : Bor Step) → flat_map arrow_text steps ++ (codes " -> " ++ step_text step.now) ≡ flat_map arrow_text (steps ++ step ∷ [])
arrow_more steps step = sym (flat_map-append arrow_text steps (step ∷ []) ∙ ap (λ text. flat_map arrow_text steps ++ text) (append-nil (arrow_text step)))

-- an empty path has no text
pub back_text-none : (path : List Step) → length path ≡ 0 → [] ≡ back_text path
unfolding back_text
back_text-none [] none = refl
back_text-none (x ∷ xs) none = absurd (omega arith)

-- one more crate of those that are left, of which the last comes first
pub left_more : (all : List Step) (steps : List (Bor Step)) (step : Bor Step) (rest left : List Step) → left ≡ rest ++ step.now ∷ [] → reverse all ≡ map (λ s. s.now) steps ++ reverse left
    → reverse all ≡ map (λ s. s.now) (steps ++ step ∷ []) ++ reverse rest
left_more all steps step rest left is so_far =
    so_far ∙ ap (λ xs. map (λ (s : Bor Step). s.now) steps ++ reverse xs) is ∙ ap (λ xs. map (λ (s : Bor Step). s.now) steps ++ xs) (reverse-append rest (step.now ∷ []))
    ∙ sym (append_assoc (map (λ (s : Bor Step). s.now) steps) (step.now ∷ []) (reverse rest)) ∙ ap (λ xs. xs ++ reverse rest) (sym (map-append (λ (s : Bor Step). s.now) steps (step ∷ [])))

no_more : (left : List Step) → length left ≡ 0 → reverse left ≡ []
no_more [] none = refl
no_more (x ∷ xs) none = absurd (omega arith)

arrows : (steps : List (Bor Step)) → flat_map (λ y. codes " -> " ++ step_text y) (map (λ s. s.now) steps) ≡ flat_map arrow_text steps
arrows [] = refl
arrows (s ∷ steps) = ap (λ text. arrow_text s ++ text) (arrows steps)

-- the text of a path is that of its last crate and those before it, each behind its arrow
pub back_text-is : (path before : List Step) (last : Step) (steps : List (Bor Step)) (left : List Step) → path ≡ before ++ last ∷ [] → length left ≡ 0 → reverse before ≡ map (λ s. s.now) steps ++ reverse left
    → step_text last ++ flat_map arrow_text steps ≡ back_text path
unfolding back_text
back_text-is path before last steps left is none all =
    let whole : reverse path ≡ last ∷ map (λ (s : Bor Step). s.now) steps =
    ap reverse is ∙ reverse-append before (last ∷ []) ∙ ap (λ xs. last ∷ xs) (all ∙ ap (λ xs. map (λ (s : Bor Step). s.now) steps ++ xs) (no_more left none) ∙ append-nil (map (λ (s : Bor Step). s.now) steps)) in
    sym (ap (join_by step_text (codes " -> ")) whole ∙ ap (λ text. step_text last ++ text) (arrows steps))

-- a path back shows that what it starts at reaches its end
pub cyclic_by_path : {A : Type 0} (g : List (List ℕ)) (from to : ℕ) (r : Result A AddDepError) → IfErr r (λ e. IfCyclic e (λ path. IsPathBack g (numbers path) from to)) → IfErr r (λ e. IfCyclic e (λ path. Reaches g to from))
cyclic_by_path g from to (Ok x) path = tt
cyclic_by_path g from to (Err (Cyclic steps)) path = path_back_reaches g (numbers steps) from to path
cyclic_by_path g from to (Err OutOfMemory) path = tt
