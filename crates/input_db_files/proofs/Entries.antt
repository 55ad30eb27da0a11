-- What is found in a finite map after one entry is set.
use Rattle.std.proofs.Common.{◌≡◌, ◌==◌, ℕ, Bool, List, Option, Some, None, cond, if◌then◌else◌, ap}
use Rattle.std.proofs.Common.{sym, ◌∙◌}
use Rattle.std.specs.Borrow.{Bor}
use Rattle.std.specs.Cmp.{nat_cmp_total, unsigned_ties}
use Rattle.std.specs.FinMap as map
use Rattle.std.specs.FinMap.{FinMap, get-insert}
use Rattle.std.specs.List.{list_any}
use Rattle.std.specs.Map.{keys_of, lookup}
use Rattle.std.specs.Option.{is_some, option_copied}
use Rattle.std.specs.Ordering.{nat_cmp}
use Rattle.std.proofs.lemmas.Map.Made.{is_some-lookup}

-- what is found after one entry was set
pub get_set : {X : Type 0} (m : FinMap nat_cmp X) (k : ℕ) (v : X) (q : ℕ)
    → map.get (map.insert m k v) q ≡ (if q == k then Some v else map.get m q)
get_set m k v q =
    get-insert nat_cmp_total m k v q ∙ ap (λ b. cond b (Some v) (map.get m q)) (sym (unsigned_ties q k))

-- a look-up finds something where a key passes
pub found_among : {K X : Type 0} (found : Option (Bor X)) (test : K → Bool) (es : List (K × X))
    → option_copied found ≡ lookup test es → is_some found ≡ list_any test (keys_of es)
found_among None test es same = ap is_some same ∙ is_some-lookup test es
found_among (Some x) test es same = ap is_some same ∙ is_some-lookup test es
