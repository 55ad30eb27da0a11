-- What a stable sort by a closure that compares keys leaves.
use Rattle.std.proofs.Common.{◌≡◌, List, Bool, ap}
use Rattle.std.specs.Cmp.{IsTotalOrder}
use Rattle.std.specs.Fn.{Called}
use Rattle.std.specs.List.Sorted.{IsSortedByClosure, IsStableByClosure}
use Rattle.std.specs.Ordering.{is_lt}
use Rattle.std.specs.declared.cmp.Ordering.{Ordering}
use Rattle.std.specs.Cmp.{on_total}
use Rattle.std.proofs.lemmas.Fn.{always_returns_same}
use Rattle.std.proofs.lemmas.List.Sorted.{ranks_by}
use Rattle.base_values.specs.Sorted.{sorted}
use Rattle.base_values.proofs.InOrder.{sorted-unique}
use denote.Param.Members.{Mut}
use denote.Ref.{Bor}

-- a stable sort by a closure that compares keys leaves the list sorted by them
pub sorted_by_closure : {K : Type 0} {R : K → K → Ordering} → IsTotalOrder R → {X : Type 0} (key : X → K) {F : Type 0} {g : Mut F (Bor X × (Bor X × Unit {0})) Ordering} {f : F} (xs ys : List X)
    → IsSortedByClosure g f ys → IsStableByClosure g f xs ys
    → ((a : Bor X × (Bor X × Unit {0})) (r : Ordering) (f' : F) → Called g f a r f' → (r ≡ R (key a.0.now) (key a.1.0.now)) × (f' ≡ f))
    → ys ≡ sorted (λ x y. R (key x) (key y)) xs
sorted_by_closure {R = R} o {X = X} key {g = g} {f = f} xs ys up stable calls =
    let lt : X → X → Bool = λ x y. is_lt (R (key x) (key y)) in
    let order = ranks_by o key in
    let compares = always_returns_same g (λ a r. is_lt r ≡ lt a.0.now a.1.0.now) f (λ a r f' k. (ap is_lt (calls a r f' k).0, (calls a r f' k).1)) in
    sorted-unique (on_total key o) xs ys (up lt order compares) (stable lt order compares)
