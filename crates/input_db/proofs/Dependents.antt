-- The crates that reach another, of those on a list, by a search along edges that lead back.
use Rattle.std.proofs.Common.{◌≡◌, ◌↔◌, ◌⊎◌, ◌∙◌, inl, inr, ℕ, ◌+◌, ◌<◌, Bool, true, false, List, [], ◌∷◌, ◌++◌, arith, refl, filter, get_or, get_or-set_same, length, set, subst, sym, take, true≢false}
use Rattle.std.specs.Prelude.{replicate}
use Rattle.std.specs.List.{All, Contains}
use Rattle.std.proofs.lemmas.List.{length-map, take_more}
use Rattle.std.proofs.lemmas.List.Elements.{Contains-append_left, Contains-get_or, Contains-push, Contains-push_cases}
use Rattle.graph_base.specs.Reach.{Reaches, itself, further}
use Rattle.graph_base.proofs.KeptLemmas.{edge_within}
use Rattle.graph_base.proofs.MarkLemmas.{mark_cases, mark_kept, unmarked_all}
use Rattle.graph_base.proofs.ReachLemmas.{none_in}
use Rattle.input_db.specs.Identity.{Table, crate_edges, named_in}
use Rattle.input_db.specs.Queries.{AreMarksOf, is_marked, others}
use Rattle.input_db.proofs.Filtered.{filtered_of}
use Rattle.input_db.proofs.ItselfFirst.{contains_same}
use Rattle.crate_graph.proofs.SuborderLemmas.{contains_filter as among_filtered}

-- no mark is set for an empty list
pub listed_none : (count : ℕ) → AreMarksOf (replicate count false) []
listed_none count krate = (λ is. absurd (true≢false (sym is ∙ unmarked_all count krate)), λ c. absurd (none_in krate c))

-- the mark of one crate more
pub listed_more : (marks : List Bool) (listed : List ℕ) (place krate : ℕ) → place < length listed → krate ≡ get_or listed place krate
    → krate < length marks → AreMarksOf marks (take place listed) → AreMarksOf (set marks krate true) (take (place + 1) listed)
listed_more marks listed place krate within is below before b =
    subst (λ l. (is_marked (set marks krate true) b ≡ true) ↔ Contains l b) (sym (take_more listed place krate within))
    (subst (λ n. (is_marked (set marks krate true) b ≡ true) ↔ Contains (take place listed ++ n ∷ []) b) is (from, to))
  where
    from : is_marked (set marks krate true) b ≡ true → Contains (take place listed ++ krate ∷ []) b
    from marked = elim (mark_cases marks krate b marked) [
      | inl same ↦ subst (λ z. Contains (take place listed ++ krate ∷ []) z) (sym same) (Contains-push (take place listed) krate)
      | inr old ↦ Contains-append_left (take place listed) (krate ∷ []) b ((before b).0 old)
    ]

    to : Contains (take place listed ++ krate ∷ []) b → is_marked (set marks krate true) b ≡ true
    to c = elim (Contains-push_cases (take place listed) krate b c) [
      | inl old ↦ mark_kept marks krate b below ((before b).1 old)
      | inr same ↦ subst (λ z. is_marked (set marks krate true) z ≡ true) same (get_or-set_same marks krate true false below)
    ]

-- what reaches a node of a graph is one
pub source_within : {g : List (List ℕ)} {a b : ℕ} → Reaches g a b → b < length g → a < length g
source_within itself within = within
source_within {g = g} (further {a = a} {b = x} e r) within = edge_within g a x e

-- the edges of a table have a row for each crate
pub edges-long : (table : Table) → length (crate_edges table) ≡ length table
edges-long table = length-map table (λ entry. named_in entry.1.crate_data)

-- there is a mark for each node that reaches another
pub marks_fit : (g back : List (List ℕ)) (start : ℕ) (reaching nodes : List ℕ) (marks : List Bool) → nodes ≡ reaching
    → ((b : ℕ) → Contains reaching b ↔ Reaches back start b) → ((a b : ℕ) → Reaches back b a ↔ Reaches g a b)
    → start < length g → length marks ≡ length g → All (λ node. node < length marks) nodes
marks_fit g back start reaching nodes marks is found leads_back within long = λ k d at.
    let node = get_or nodes k d in
    let there : Contains reaching node = subst (λ l. Contains l node) is (Contains-get_or nodes k d at) in
    let below : node < length g = source_within ((leads_back node start).0 ((found node).0 there)) within in
    omega (arith, below, long)

-- the crate and the nodes that are on the list and reach it are the crate and those on the list that reach it
pub dependents_same : (g back : List (List ℕ)) (krate : ℕ) (listed : List ℕ) (marks : List Bool) (reaching crates : List ℕ)
    → ((b : ℕ) → Contains reaching b ↔ Reaches back krate b) → ((a b : ℕ) → Reaches back b a ↔ Reaches g a b)
    → AreMarksOf marks listed → crates ≡ krate ∷ others krate (filter (is_marked marks) reaching)
    → (b : ℕ) → Contains crates b ↔ ((b ≡ krate) ⊎ (Contains listed b × Reaches g b krate))
dependents_same g back krate listed marks reaching crates found leads_back are_listed is =
    contains_same krate (filter (is_marked marks) reaching) crates is
    (λ b. (b ≡ krate) ⊎ (Contains listed b × Reaches g b krate)) sound complete (inl refl)
  where
    sound : (b : ℕ) → Contains (filter (is_marked marks) reaching) b → (b ≡ krate) ⊎ (Contains listed b × Reaches g b krate)
    sound b h =
        let kept = filtered_of (is_marked marks) reaching b h in
        inr ((are_listed b).0 kept.1, (leads_back b krate).0 ((found b).0 kept.0))

    complete : (b : ℕ) → (b ≡ krate → ⊥) → (b ≡ krate) ⊎ (Contains listed b × Reaches g b krate)
        → Contains (filter (is_marked marks) reaching) b
    complete b differs (inl same) = absurd (differs same)
    complete b differs (inr dependent) =
        among_filtered (is_marked marks) reaching b ((are_listed b).1 dependent.0)
        ((found b).1 ((leads_back b krate).1 dependent.1))
