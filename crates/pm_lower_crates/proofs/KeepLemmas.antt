-- What keeping edges in turn does to all that was there.
use Rattle.std.proofs.Common.{◌≡◌, Bool, cond, List, [], ◌∷◌, ◌++◌, fold, refl, ap, ◌∙◌}
use Rattle.std.specs.List.{All}
use Rattle.std.proofs.lemmas.Bool.{cond_both}
use Rattle.std.proofs.lemmas.List.Elements.{All-head, All-push, All-tail}
use Rattle.std.proofs.lemmas.List.Sums.{fold-append}
use Rattle.graph_base.specs.EdgeList.{Edge, reach_over}
use Rattle.pm_lower_crates.specs.KeptFrom.{keep_pair, pairs_kept_from}

-- what holds of an edge and of all before holds after it
pub all_keep : (P : Edge → Type 0) (kept : List Edge) (e : Edge) → All P kept → P e → All P (keep_pair kept e)
all_keep P kept e all here = cond_both (reach_over kept e.1 e.0) kept (kept ++ e ∷ []) (All P) (λ closes. all) (λ apart. All-push P kept e all here)

folded_all : (P : Edge → Type 0) (kept more : List Edge) → All P kept → All P more → All P (fold keep_pair kept more)
folded_all P kept [] all later = all
folded_all P kept (e ∷ more) all later = folded_all P (keep_pair kept e) more (all_keep P kept e all (All-head P e more later)) (All-tail P e more later)

-- what holds of the front and of all that is wanted holds of all that is kept
pub all_kept : (P : Edge → Type 0) (front wanted : List Edge) → All P front → All P wanted → All P (pairs_kept_from front wanted)
unfolding pairs_kept_from
all_kept P front wanted all later = folded_all P front wanted all later

-- wanted edges in two parts: the second is kept from what the first left
pub kept_from-append : (front xs ys : List Edge) → pairs_kept_from front (xs ++ ys) ≡ pairs_kept_from (pairs_kept_from front xs) ys
unfolding pairs_kept_from
kept_from-append front xs ys = fold-append keep_pair front xs ys

pub kept_from-first : (front more : List Edge) (e : Edge) → pairs_kept_from front (e ∷ more) ≡ pairs_kept_from (keep_pair front e) more
unfolding pairs_kept_from
kept_from-first front more e = refl

pub kept_from-none : (front : List Edge) → pairs_kept_from front [] ≡ front
unfolding pairs_kept_from
kept_from-none front = refl

-- one wanted edge more
pub kept_from-push : (front wanted : List Edge) (e : Edge) → pairs_kept_from front (wanted ++ e ∷ []) ≡ keep_pair (pairs_kept_from front wanted) e
kept_from-push front wanted e =
    kept_from-append front wanted (e ∷ []) ∙ kept_from-first (pairs_kept_from front wanted) [] e ∙ kept_from-none (keep_pair (pairs_kept_from front wanted) e)

pub keep_if : (b : Bool) (kept : List Edge) (e : Edge) → reach_over kept e.1 e.0 ≡ b → keep_pair kept e ≡ cond b kept (kept ++ e ∷ [])
keep_if b kept e is = ap (λ t. cond t kept (kept ++ e ∷ [])) is
