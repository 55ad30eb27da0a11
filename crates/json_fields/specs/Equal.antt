-- when two JSON values are equal: the same kind, whole numbers by value, floats as numbers, and all within
-- alike
use Rattle.std.specs.Prelude.{◌≡◌, ◌&&◌, Bool, true, false, Float, refl, nat_eq}
use Rattle.std.proofs.lemmas.Bool.{false≢true}
use Rattle.std.specs.Bool.{beq}
use Rattle.std.specs.Cmp.{IsEquivalence, and_equiv, on_equiv, eq_by_cmp_equiv, int_eq_equiv, bool_eq_equiv}
use Rattle.std.specs.Cmp.Lexicographic.{pointwise, options_equiv, nat_list_eq_equiv}
use Rattle.std.specs.Float.Ieee.{nan}
use Rattle.std.specs.Float.Cmp.{nan_last}
use Rattle.std.specs.Option.{option_eq}
use Rattle.std.specs.Ordering.{eq_by_cmp, eq_of_both, int_eq, nan_last_cmp, on}
use Rattle.serde_json.specs.Data.{Num, unsigned, negative, float, Data, null, boolean, number, string, array, object, Items, no_items, item, Members, no_members, member}
use Rattle.serde_json.specs.Find.{as_integer}

-- the float of a number that is one
abbrev pub float_part : Num → Float
float_part (unsigned n) = nan
float_part (negative z) = nan
float_part (float x) = x

-- whole numbers are equal by value, and floats as numbers
abbrev pub num_eq : Num → Num → Bool
num_eq = eq_of_both (on as_integer (option_eq int_eq)) (on float_part (eq_by_cmp nan_last_cmp))

-- equality of numbers is an equivalence
pub num_eq-equiv : IsEquivalence num_eq
num_eq-equiv =
    and_equiv (on_equiv as_integer (options_equiv int_eq_equiv))
    (on_equiv float_part (eq_by_cmp_equiv nan_last))

abbrev mutual
  -- equal values
  pub data_eq : Data → Data → Bool
  data_eq null null = true
  data_eq (boolean a) (boolean b) = beq a b
  data_eq (number m) (number n) = num_eq m n
  data_eq (string s) (string t) = pointwise nat_eq s t
  data_eq (array ds) (array es) = items_eq ds es
  data_eq (object ms) (object ns) = members_eq ms ns
  data_eq _ _ = false

  -- equal items
  pub items_eq : Items → Items → Bool
  items_eq no_items no_items = true
  items_eq (item d ds) (item e es) = data_eq d e && items_eq ds es
  items_eq _ _ = false

  -- equal members
  pub members_eq : Members → Members → Bool
  members_eq no_members no_members = true
  members_eq (member k d ms) (member l e ns) = pointwise nat_eq k l && (data_eq d e && members_eq ms ns)
  members_eq _ _ = false

-- two equal firsts and two equal rests
both_congr : (a b c d e f : Bool) → (a && d) ≡ true → (a ≡ true → b ≡ c) → (d ≡ true → e ≡ f)
    → (b && e) ≡ (c && f)
both_congr true b c true e f h p q = λ i. p refl i && q refl i
both_congr true b c false e f h p q = absurd (false≢true h)
both_congr false b c d e f h p q = absurd (false≢true h)

mutual
  data_eq-refl : (x : Data) → data_eq x x ≡ true
  data_eq-refl null = refl
  data_eq-refl (boolean b) = bool_eq_equiv.refl b
  data_eq-refl (number n) = num_eq-equiv.refl n
  data_eq-refl (string s) = nat_list_eq_equiv.refl s
  data_eq-refl (array ds) = items_eq-refl ds
  data_eq-refl (object ms) = members_eq-refl ms

  items_eq-refl : (xs : Items) → items_eq xs xs ≡ true
  items_eq-refl no_items = refl
  items_eq-refl (item d ds) = λ i. data_eq-refl d i && items_eq-refl ds i

  members_eq-refl : (xs : Members) → members_eq xs xs ≡ true
  members_eq-refl no_members = refl
  members_eq-refl (member k d ms) =
      λ i. nat_list_eq_equiv.refl k i && (data_eq-refl d i && members_eq-refl ms i)

mutual
  data_eq-symm : (x y : Data) → data_eq x y ≡ data_eq y x
  data_eq-symm null null = refl
  data_eq-symm (boolean a) (boolean b) = bool_eq_equiv.symm a b
  data_eq-symm (number m) (number n) = num_eq-equiv.symm m n
  data_eq-symm (string s) (string t) = nat_list_eq_equiv.symm s t
  data_eq-symm (array ds) (array es) = items_eq-symm ds es
  data_eq-symm (object ms) (object ns) = members_eq-symm ms ns
  data_eq-symm _ _ = refl

  items_eq-symm : (xs ys : Items) → items_eq xs ys ≡ items_eq ys xs
  items_eq-symm no_items no_items = refl
  items_eq-symm (item d ds) (item e es) = λ i. data_eq-symm d e i && items_eq-symm ds es i
  items_eq-symm _ _ = refl

  members_eq-symm : (xs ys : Members) → members_eq xs ys ≡ members_eq ys xs
  members_eq-symm no_members no_members = refl
  members_eq-symm (member k d ms) (member l e ns) =
      λ i. nat_list_eq_equiv.symm k l i && (data_eq-symm d e i && members_eq-symm ms ns i)
  members_eq-symm _ _ = refl

mutual
  data_eq-congr : (x y z : Data) → data_eq x y ≡ true → data_eq x z ≡ data_eq y z
  data_eq-congr null null z h = refl
  data_eq-congr (boolean a) (boolean b) (boolean c) h = bool_eq_equiv.congr a b c h
  data_eq-congr (number l) (number m) (number n) h = num_eq-equiv.congr l m n h
  data_eq-congr (string s) (string t) (string u) h = nat_list_eq_equiv.congr s t u h
  data_eq-congr (array ds) (array es) (array fs) h = items_eq-congr ds es fs h
  data_eq-congr (object ms) (object ns) (object os) h = members_eq-congr ms ns os h
  data_eq-congr (boolean a) (boolean b) _ h = refl
  data_eq-congr (number l) (number m) _ h = refl
  data_eq-congr (string s) (string t) _ h = refl
  data_eq-congr (array ds) (array es) _ h = refl
  data_eq-congr (object ms) (object ns) _ h = refl
  data_eq-congr _ _ _ h = absurd (false≢true h)

  items_eq-congr : (xs ys zs : Items) → items_eq xs ys ≡ true → items_eq xs zs ≡ items_eq ys zs
  items_eq-congr no_items no_items zs h = refl
  items_eq-congr (item d ds) (item e es) no_items h = refl
  items_eq-congr (item d ds) (item e es) (item f fs) h =
      both_congr (data_eq d e) (data_eq d f) (data_eq e f) (items_eq ds es) (items_eq ds fs) (items_eq es fs)
      h (data_eq-congr d e f) (items_eq-congr ds es fs)
  items_eq-congr _ _ _ h = absurd (false≢true h)

  members_eq-congr : (xs ys zs : Members) → members_eq xs ys ≡ true → members_eq xs zs ≡ members_eq ys zs
  members_eq-congr no_members no_members zs h = refl
  members_eq-congr (member j c ls) (member k d ms) no_members h = refl
  members_eq-congr (member j c ls) (member k d ms) (member l e ns) h =
      both_congr (pointwise nat_eq j k) (pointwise nat_eq j l) (pointwise nat_eq k l) _ _ _ h
      (nat_list_eq_equiv.congr j k l)
      (λ g. both_congr (data_eq c d) (data_eq c e) (data_eq d e) (members_eq ls ms) (members_eq ls ns) (members_eq ms ns) g (data_eq-congr c d e) (members_eq-congr ls ms ns))
  members_eq-congr _ _ _ h = absurd (false≢true h)

-- equality of JSON values is an equivalence
pub data_eq-equiv : IsEquivalence data_eq
data_eq-equiv = record { refl = data_eq-refl; symm = data_eq-symm; congr = data_eq-congr }
