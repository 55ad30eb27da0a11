-- A status that is among some is among more.
use Rattle.std.proofs.Common.{◌≡◌, ℕ, Bool, true, false, ◌||◌, List, [], ◌∷◌, nat_eq, eqb-true, refl, sym, subst}
use Rattle.std.specs.List.{list_all, list_any}
use Rattle.live_script.specs.Fault.{IsOneOf}
use Rattle.base_values.proofs.Basics.{and_first, and_second}

-- each of some statuses is among others
abbrev pub AreAmong : List ℕ → List ℕ → Type 0
AreAmong statuses more = list_all (λ status. list_any (nat_eq status) more) statuses ≡ true

-- the same by whether it is the first
among-split : (first : ℕ) (rest more : List ℕ) (status : ℕ) (is_first : Bool) → nat_eq status first ≡ is_first → list_any (nat_eq first) more ≡ true
    → (is_first || list_any (nat_eq status) rest) ≡ true → (IsOneOf rest status → IsOneOf more status) → IsOneOf more status
among-split first rest more status true is here only later = subst (IsOneOf more) (sym (eqb-true status first is)) here
among-split first rest more status false is here only later = later only

pub among : (statuses more : List ℕ) → AreAmong statuses more → (status : ℕ) → IsOneOf statuses status → IsOneOf more status
among [] more all status only = absurd (cc)
among (first ∷ rest) more all status only =
    let Each : ℕ → Bool = λ s. list_any (nat_eq s) more in
    among-split first rest more status (nat_eq status first) refl (and_first (Each first) (list_all Each rest) all) only
    (λ later. among rest more (and_second (Each first) (list_all Each rest) all) status later)
