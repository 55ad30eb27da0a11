-- how the logic stores a JSON value: a tag and what the value holds, so that no two values are stored alike
use Rattle.std.specs.Prelude.{◌≡◌, ℕ, List, refl}
use Rattle.std.specs.Coded.{Coded, coded_ℕ, coded_ℤ, coded_bool, coded_list}
use Rattle.std.proofs.Common.{ap, arith}
use base.Stored.{Gv, gnil, gnum, gcons, num, coded_float}
use Rattle.serde_json.specs.Data.{Num, unsigned, negative, float, Data, null, boolean, number, string, array, object, Items, no_items, item, Members, no_members, member}

-- the first part of what is stored
abbrev first : Gv → Gv
first gnil = gnil
first (gnum n) = gnil
first (gcons a b) = a

-- the rest of it
abbrev rest : Gv → Gv
rest gnil = gnil
rest (gnum n) = gnil
rest (gcons a b) = b

-- a text as it is stored
abbrev text_code : Coded (List ℕ)
text_code = coded_list coded_ℕ

-- a number as it is stored
abbrev num_stored : Num → Gv
num_stored (unsigned n) = gcons (gnum 0) (gnum n)
num_stored (negative z) = gcons (gnum 1) (coded_ℤ.code z)
num_stored (float x) = gcons (gnum 2) (coded_float.code x)

-- numbers that are stored alike are equal
num_inj : (x y : Num) → num_stored x ≡ num_stored y → x ≡ y
num_inj (unsigned m) (unsigned n) p = ap (λ g. unsigned (num (rest g))) p
num_inj (negative y) (negative z) p = ap negative (coded_ℤ.inj y z (ap rest p))
num_inj (float x) (float y) p = ap float (coded_float.inj x y (ap rest p))
num_inj _ _ p = absurd (omega (arith, ap (λ g. num (first g)) p))

-- a value, its items and its members as they are stored
abbrev mutual
  -- a value
  pub stored : Data → Gv
  stored null = gcons (gnum 0) gnil
  stored (boolean b) = gcons (gnum 1) (coded_bool.code b)
  stored (number n) = gcons (gnum 2) (num_stored n)
  stored (string s) = gcons (gnum 3) (text_code.code s)
  stored (array ds) = gcons (gnum 4) (items_stored ds)
  stored (object ms) = gcons (gnum 5) (members_stored ms)

  -- items
  pub items_stored : Items → Gv
  items_stored no_items = gnil
  items_stored (item d ds) = gcons (gcons (gnum 1) (stored d)) (items_stored ds)

  -- members
  pub members_stored : Members → Gv
  members_stored no_members = gnil
  members_stored (member k d ms) =
      gcons (gcons (gnum 1) (gcons (text_code.code k) (stored d))) (members_stored ms)

mutual
  -- values that are stored alike are equal
  pub stored_inj : (x y : Data) → stored x ≡ stored y → x ≡ y
  stored_inj null null p = refl
  stored_inj (boolean a) (boolean b) p = ap boolean (coded_bool.inj a b (ap rest p))
  stored_inj (number m) (number n) p = ap number (num_inj m n (ap rest p))
  stored_inj (string s) (string t) p = ap string (text_code.inj s t (ap rest p))
  stored_inj (array ds) (array es) p = ap array (items_inj ds es (ap rest p))
  stored_inj (object ms) (object ns) p = ap object (members_inj ms ns (ap rest p))
  stored_inj _ _ p = absurd (omega (arith, ap (λ g. num (first g)) p))

  items_inj : (xs ys : Items) → items_stored xs ≡ items_stored ys → xs ≡ ys
  items_inj no_items no_items p = refl
  items_inj (item d ds) (item e es) p =
      λ i. item (stored_inj d e (ap (λ g. rest (first g)) p) i) (items_inj ds es (ap rest p) i)
  items_inj _ _ p = absurd (omega (arith, ap (λ g. num (first (first g))) p))

  members_inj : (xs ys : Members) → members_stored xs ≡ members_stored ys → xs ≡ ys
  members_inj no_members no_members p = refl
  members_inj (member k d ms) (member l e ns) p =
      λ i. member (text_code.inj k l (ap (λ g. first (rest (first g))) p) i) (stored_inj d e (ap (λ g. rest (rest (first g))) p) i) (members_inj ms ns (ap rest p) i)
  members_inj _ _ p = absurd (omega (arith, ap (λ g. num (first (first g))) p))

-- no two JSON values are stored alike
abbrev pub data_code : Coded Data
data_code = record { code = stored; inj = stored_inj }
