-- What the roots that are given make of a database, entry by entry.
use Rattle.std.proofs.Common.{◌≡◌, ◌==◌, ℕ, zero, suc, ◌+◌, ◌<◌, Bool, true, false, ◌||◌, List, [], ◌∷◌, ◌++◌}
use Rattle.std.proofs.Common.{Option, Some, None, cond, length, nat_eq, refl, sym, ap, ◌∙◌, arith, eq-eqb}
use Rattle.std.proofs.lemmas.Bool.{cond-false, cond-true, ne_eqb}
use Rattle.std.specs.FinMap as map
use Rattle.std.specs.List.{list_any, slice_get}
use Rattle.std.specs.Option.{option_map, option_or}
use Rattle.input_db.proofs.Numbers.{at_start, shift}
use Rattle.input_db.specs.Applied.{with_given_root, with_members, with_roots_from}
use Rattle.input_db.specs.Change.{place_after, place_given, root_after, root_given}
use Rattle.input_db.specs.Database.{Database, with_files}
use Rattle.input_db_files.specs.Files.{FileTables, file_root_of, source_root_at, stored_place, with_file_root}
use Rattle.input_db_files.specs.SourceRoot.{files_in, has_file, root_durability}
use Rattle.input_db_files.specs.declared.durability.Durability.{Durability}
use Rattle.input_db_files.specs.declared.source_root.SourceRoot.{SourceRoot}
use Rattle.input_db_files.proofs.Entries.{get_set}

-- one root more is given
roots_from-append : (n : ℕ) (files : FileTables) (roots : List SourceRoot) (root : SourceRoot)
    → with_roots_from n files (roots ++ root ∷ [])
    ≡ with_given_root (with_roots_from n files roots) (n + length roots) root
roots_from-append n files [] root = ap (λ (k : ℕ). with_given_root files k root) (at_start n)
roots_from-append n files (r ∷ roots) root =
    roots_from-append (suc n) (with_given_root files n r) roots root
    ∙ ap (λ (k : ℕ). with_given_root (with_roots_from (suc n) (with_given_root files n r) roots) k root)
    (shift n (length roots))

counted : (k n : ℕ) → n ≡ k → n ≡ 0 + k
counted k n e = omega arith

pub given_more : (start before after : Database) (roots : List SourceRoot) (number : ℕ) (root : SourceRoot)
    → before ≡ with_files start (with_roots_from 0 start.files roots) → number ≡ length roots
    → after ≡ with_files before (with_given_root before.files number root)
    → after ≡ with_files start (with_roots_from 0 start.files (roots ++ root ∷ []))
given_more start before after roots number root so_far count is =
    is ∙ ap (λ (db : Database). with_files db (with_given_root db.files number root)) so_far
    ∙ ap (λ (k : ℕ). with_files start (with_given_root (with_roots_from 0 start.files roots) k root))
    (counted (length roots) number count)
    ∙ ap (λ (files : FileTables). with_files start files) (sym (roots_from-append 0 start.files roots root))

-- of two settings of one entry the later counts
later_setting : {X : Type 0} (a b : Bool) (x y : X) → cond b x (cond a x y) ≡ cond (a || b) x y
later_setting true true x y = refl
later_setting true false x y = refl
later_setting false true x y = refl
later_setting false false x y = refl

members-texts : (files : FileTables) (members : List ℕ) (root : ℕ) (d : Durability)
    → (with_members files members root d).texts ≡ files.texts
members-texts files [] root d = refl
members-texts files (m ∷ members) root d = members-texts (with_file_root files m root d) members root d

members-roots : (files : FileTables) (members : List ℕ) (root : ℕ) (d : Durability)
    → (with_members files members root d).roots ≡ files.roots
members-roots files [] root d = refl
members-roots files (m ∷ members) root d = members-roots (with_file_root files m root d) members root d

members-places : (files : FileTables) (members : List ℕ) (root : ℕ) (d : Durability) (q : ℕ)
    → file_root_of (with_members files members root d) q
    ≡ cond (list_any (nat_eq q) members) (Some (stored_place root d)) (file_root_of files q)
members-places files [] root d q = refl
members-places files (m ∷ members) root d q =
    members-places (with_file_root files m root d) members root d q
    ∙ ap (λ o. cond (list_any (nat_eq q) members) (Some (stored_place root d)) o)
    (get_set files.file_roots m (stored_place root d) q)
    ∙ later_setting (nat_eq q m) (list_any (nat_eq q) members) (Some (stored_place root d))
    (file_root_of files q)

given_root-texts : (files : FileTables) (n : ℕ) (root : SourceRoot)
    → (with_given_root files n root).texts ≡ files.texts
given_root-texts files n root = members-texts files (files_in root) n (root_durability root)

given_root-roots : (files : FileTables) (n : ℕ) (root : SourceRoot) (q : ℕ)
    → source_root_at (with_given_root files n root) q ≡ cond (q == n) (Some (root_given root)) (source_root_at files q)
given_root-roots files n root q =
    get_set (with_members files (files_in root) n (root_durability root)).roots n (root_given root) q
    ∙ ap (λ m. cond (q == n) (Some (root_given root)) (map.get m q))
    (members-roots files (files_in root) n (root_durability root))

given_root-places : (files : FileTables) (n : ℕ) (root : SourceRoot) (q : ℕ)
    → file_root_of (with_given_root files n root) q
    ≡ cond (has_file root q) (Some (stored_place n (root_durability root))) (file_root_of files q)
given_root-places files n root q = members-places files (files_in root) n (root_durability root) q

-- no text changes
pub roots_from-texts : (n : ℕ) (files : FileTables) (roots : List SourceRoot)
    → (with_roots_from n files roots).texts ≡ files.texts
roots_from-texts n files [] = refl
roots_from-texts n files (root ∷ roots) =
    roots_from-texts (suc n) (with_given_root files n root) roots ∙ given_root-texts files n root

below_next : (n q : ℕ) → q < n → q < suc n
below_next n q h = omega arith

apart : (n q : ℕ) → q < n → q ≡ n → ⊥
apart n q h e = omega arith

-- no root below the first number changes
roots_from-before : (n : ℕ) (files : FileTables) (roots : List SourceRoot) (q : ℕ) → q < n
    → source_root_at (with_roots_from n files roots) q ≡ source_root_at files q
roots_from-before n files [] q h = refl
roots_from-before n files (root ∷ roots) q h =
    roots_from-before (suc n) (with_given_root files n root) roots q (below_next n q h)
    ∙ given_root-roots files n root q ∙ cond-false _ _ _ (ne_eqb q n (apart n q h))

self_below : (n : ℕ) → n + 0 < suc n
self_below n = omega arith

self_is : (n : ℕ) → n + 0 ≡ n
self_is n = omega arith

past : (n k : ℕ) → n + suc k ≡ n → ⊥
past n k e = omega arith

-- a root from the first number on is the one that is given, or the one that was there
roots_from-at : (n : ℕ) (files : FileTables) (roots : List SourceRoot) (k : ℕ)
    → source_root_at (with_roots_from n files roots) (n + k)
    ≡ option_or (option_map root_given (slice_get roots k)) (source_root_at files (n + k))
roots_from-at n files [] k = refl
roots_from-at n files (root ∷ roots) zero =
    roots_from-before (suc n) (with_given_root files n root) roots (n + 0) (self_below n)
    ∙ given_root-roots files n root (n + 0) ∙ cond-true _ _ _ (eq-eqb (n + 0) n (self_is n))
roots_from-at n files (root ∷ roots) (suc k) =
    ap (λ (q : ℕ). source_root_at (with_roots_from (suc n) (with_given_root files n root) roots) q) (sym (shift n k))
    ∙ roots_from-at (suc n) (with_given_root files n root) roots k
    ∙ ap
    (λ (q : ℕ). option_or (option_map root_given (slice_get roots k))
    (source_root_at (with_given_root files n root) q))
    (shift n k)
    ∙ ap (λ o. option_or (option_map root_given (slice_get roots k)) o)
    (given_root-roots files n root (n + suc k) ∙ cond-false _ _ _ (ne_eqb (n + suc k) n (past n k)))

from_zero : (q : ℕ) → 0 + q ≡ q
from_zero q = omega arith

pub roots_given : (files : FileTables) (roots : List SourceRoot) (q : ℕ)
    → source_root_at (with_roots_from 0 files roots) q ≡ root_after roots files q
roots_given files roots q =
    ap (λ (k : ℕ). source_root_at (with_roots_from 0 files roots) k) (sym (from_zero q))
    ∙ roots_from-at 0 files roots q
    ∙ ap (λ (k : ℕ). option_or (option_map root_given (slice_get roots q)) (source_root_at files k)) (from_zero q)

-- what a later root gives counts, else what this one gives, else what was there
or_given : {X : Type 0} (later : Option X) (is_here : Bool) (here : X) (old : Option X)
    → option_or later (cond is_here (Some here) old)
    ≡ option_or (option_or later (cond is_here (Some here) None)) old
or_given None true here old = refl
or_given None false here old = refl
or_given (Some x) is_here here old = refl

roots_from-places : (n : ℕ) (files : FileTables) (roots : List SourceRoot) (q : ℕ)
    → file_root_of (with_roots_from n files roots) q
    ≡ option_or (place_given n roots q) (file_root_of files q)
roots_from-places n files [] q = refl
roots_from-places n files (root ∷ roots) q =
    roots_from-places (suc n) (with_given_root files n root) roots q
    ∙ ap (λ o. option_or (place_given (suc n) roots q) o) (given_root-places files n root q)
    ∙ or_given (place_given (suc n) roots q) (has_file root q) (stored_place n (root_durability root))
    (file_root_of files q)

pub places_given : (files : FileTables) (roots : List SourceRoot) (q : ℕ)
    → file_root_of (with_roots_from 0 files roots) q ≡ place_after roots files q
places_given files roots q = roots_from-places 0 files roots q
