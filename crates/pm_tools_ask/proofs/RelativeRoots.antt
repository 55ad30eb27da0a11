-- What is found at a variable among statements, one after another, and in a map of their directories.
use Rattle.std.proofs.Common.{◌≡◌, ◌∙◌, ℕ, Bool, true, false, cond, ◌&&◌, List, [], ◌∷◌, ◌++◌, Option, Some, None, Ordering, Less, Equal, Greater, codes, bytes_eq, nat_eq, refl, ap, sym}
use Rattle.std.specs.Cmp.Lexicographic.{pointwise, nat_list_cmp_total, nat_list_eq_equiv, texts_ties, bytes_decides}
use Rattle.std.specs.Option.{option_and_then, option_map, option_map_or, option_or}
use Rattle.std.specs.Ordering.{is_eq, match_ordering, ordering_reverse}
use Rattle.std.specs.Str.Lines.{lines}
use Rattle.base_values.specs.ByText.{text_cmp, value_at, with_value}
use Rattle.pm_tools_ask.specs.Statements.{origin_root, root_at, statement_of, statements}
use Rattle.pm_tools_ask.specs.declared.statement.Statement.{Statement}
use Rattle.pm_tools_ask.specs.ConfigEnv.{relative_keys}
use Rattle.pm_tools_ask.specs.RelativeRoots.{relative_root, relative_variable, root_for}
use Rattle.std.proofs.Math.Bool.{and-false}

and_true : (b : Bool) → (b && true) ≡ b
and_true true = refl
and_true false = refl

-- the three tests on keys of three parts
three_match : (a b c : Bool) (name : List ℕ) (variable : List ℕ) → bytes_eq variable name ≡ b
    → (a && (b && (c && true))) ≡ option_map_or (λ v. bytes_eq v name) (cond (a && c) (Some variable) None) false
three_match true b true name variable is = and_true b ∙ sym is
three_match true b false name variable is = and-false b
three_match false b c name variable is = refl

-- and on more parts
more_match : (a b c : Bool) → (a && (b && (c && false))) ≡ false
more_match true true c = and-false c
more_match true false c = refl
more_match false b c = refl

-- keys are those of a variable's flag exactly where they name that variable
pub keys_match : (keys : List (List ℕ)) (name : List ℕ)
    → pointwise (pointwise nat_eq) keys (relative_keys name) ≡ option_map_or (λ v. bytes_eq v name) (relative_variable keys) false
keys_match [] name = refl
keys_match (a ∷ []) name = and-false (bytes_eq a (codes "env"))
keys_match (a ∷ b ∷ []) name = more_match (bytes_eq a (codes "env")) (bytes_eq b name) false
keys_match (a ∷ b ∷ c ∷ []) name = three_match (bytes_eq a (codes "env")) (bytes_eq b name) (bytes_eq c (codes "relative")) name b refl
keys_match (a ∷ b ∷ c ∷ d ∷ more) name = more_match (bytes_eq a (codes "env")) (bytes_eq b name) (bytes_eq c (codes "relative"))

-- what a statement gives a variable, by the variable that its keys name
root_by : (name : List ℕ) (s : Statement) (variable : Option (List ℕ))
    → option_map (λ (t : Statement). t.root) (cond (option_map_or (λ v. bytes_eq v name) variable false) (Some s) None) ≡ root_for name variable s.root
root_by name s None = refl
root_by name s (Some v) =
    elim (bytes_eq v name) as (λ b. option_map (λ (t : Statement). t.root) (cond b (Some s) None) ≡ cond b (Some s.root) None) [ true ↦ refl | false ↦ refl ]

-- the only statement gives its directory
one_root : (name : List ℕ) (s : Statement) → relative_root name (s ∷ []) ≡ root_for name (relative_variable s.keys) s.root
one_root name s =
    ap (λ b. option_map (λ (t : Statement). t.root) (cond b (Some s) None)) (keys_match s.keys name) ∙ root_by name s (relative_variable s.keys)

-- the first statement stays the first, and else one more counts
pub relative_root-push : (name : List ℕ) (xs : List Statement) (s : Statement)
    → relative_root name (xs ++ s ∷ []) ≡ option_or (relative_root name xs) (root_for name (relative_variable s.keys) s.root)
relative_root-push name [] s = one_root name s
relative_root-push name (x ∷ xs) s =
    elim (pointwise (pointwise nat_eq) x.keys (relative_keys name)) as
    (λ b. option_map (λ (t : Statement). t.root) (cond b (Some x) (statement_of (relative_keys name) (xs ++ s ∷ [])))
    ≡ option_or (option_map (λ (t : Statement). t.root) (cond b (Some x) (statement_of (relative_keys name) xs))) (root_for name (relative_variable s.keys) s.root))
    [ true ↦ refl | false ↦ relative_root-push name xs s ]

-- what a map of directories has, after one statement more
pub one_more : (name : List ℕ) (xs : List Statement) (s : Statement) (old new : Option (Option (List ℕ))) (variable : Option (List ℕ))
    → relative_variable s.keys ≡ variable → old ≡ relative_root name xs → new ≡ option_or old (root_for name variable s.root)
    → new ≡ relative_root name (xs ++ s ∷ [])
one_more name xs s old new variable is so_far step =
    step ∙ ap (λ o. option_or o (root_for name variable s.root)) so_far ∙ ap (λ v. option_or (relative_root name xs) (root_for name v s.root)) (sym is)
    ∙ sym (relative_root-push name xs s)

-- the two orders of one key with two others that are tied
same_order : (q k e : List ℕ) → text_cmp k e ≡ Equal → text_cmp q k ≡ text_cmp q e
same_order q k e tied =
    nat_list_cmp_total.antisymm q k ∙ ap ordering_reverse (nat_list_cmp_total.congr k e q tied) ∙ sym (nat_list_cmp_total.antisymm q e)

-- a value that is put in the place of another
replaced : {A : Type 0} → (b : Bool) (new old rest : A) → cond b new rest ≡ cond b new (cond b old rest)
replaced true new old rest = refl
replaced false new old rest = refl

-- a value that is put behind one at another key
behind_other : {A : Type 0} → (o p : Ordering) (new old rest : A) → (o ≡ Equal → p ≡ Greater)
    → cond (is_eq p) old (cond (is_eq o) new rest) ≡ cond (is_eq o) new (cond (is_eq p) old rest)
behind_other Less p new old rest apart = refl
behind_other Equal p new old rest apart = rw (apart refl) refl
behind_other Greater p new old rest apart = refl

-- the value at a key after a change, by the order of the changed key and the first
after_change : {V : Type 0} → (q k : List ℕ) (v : V) (e : List ℕ × V) (es changed : List (List ℕ × V)) (r : Ordering) → text_cmp k e.0 ≡ r
    → value_at q changed ≡ cond (is_eq (text_cmp q k)) (Some v) (value_at q es)
    → value_at q (match_ordering r ((k, v) ∷ e ∷ es) ((e.0, v) ∷ es) (e ∷ changed)) ≡ cond (is_eq (text_cmp q k)) (Some v) (value_at q (e ∷ es))
after_change q k v e es changed Less is later = refl
after_change q k v e es changed Equal is later =
    rw (same_order q k e.0 is) (replaced (is_eq (text_cmp q e.0)) (Some v) (Some e.1) (value_at q es))
after_change q k v e es changed Greater is later =
    ap (λ x. cond (is_eq (text_cmp q e.0)) (Some e.1) x) later
    ∙ behind_other (text_cmp q k) (text_cmp q e.0) (Some v) (Some e.1) (value_at q es) (λ tied. nat_list_cmp_total.congr q k e.0 tied ∙ is)

-- the value at a key after a change
pub value_at-with_value : {V : Type 0} → (q k : List ℕ) (v : V) (es : List (List ℕ × V))
    → value_at q (with_value k v es) ≡ cond (is_eq (text_cmp q k)) (Some v) (value_at q es)
value_at-with_value q k v [] = refl
value_at-with_value q k v (e ∷ es) = after_change q k v e es (with_value k v es) (text_cmp k e.0) refl (value_at-with_value q k v es)

-- the two tests of one variable
same_variable : (q k : List ℕ) → is_eq (text_cmp q k) ≡ bytes_eq k q
same_variable q k = sym (texts_ties q k) ∙ nat_list_eq_equiv.symm q k

-- nothing behind what was found
pub or_none : {A : Type 0} → (o : Option A) → option_or o None ≡ o
or_none None = refl
or_none (Some x) = refl

-- what is found by a test, where nothing was found before that passes it
by_test : {A : Type 0} → (b : Bool) (o : Option A) (x : A) → (b ≡ true → o ≡ None) → cond b (Some x) o ≡ option_or o (cond b (Some x) None)
by_test true o x none = rw (none refl) refl
by_test false o x none = sym (or_none o)

-- and where something was found
by_test_before : {A : Type 0} → (b : Bool) (o : Option A) (x r : A) → (b ≡ true → o ≡ Some r) → o ≡ option_or o (cond b (Some x) None)
by_test_before true o x r some = rw (some refl) refl
by_test_before false o x r some = sym (or_none o)

-- a variable that is noted for the first time
pub noted : (q k : List ℕ) (root : Option (List ℕ)) (old : List (List ℕ × Option (List ℕ))) → value_at k old ≡ None
    → value_at q (with_value k root old) ≡ option_or (value_at q old) (root_for q (Some k) root)
noted q k root old none =
    value_at-with_value q k root old
    ∙ rw (same_variable q k) (by_test (bytes_eq k q) (value_at q old) root (λ e. ap (λ x. value_at x old) (sym ((bytes_decides k q).0 e)) ∙ none))

-- and one that was noted before
pub noted_before : (q k : List ℕ) (root r : Option (List ℕ)) (old : List (List ℕ × Option (List ℕ))) → value_at k old ≡ Some r
    → value_at q old ≡ option_or (value_at q old) (root_for q (Some k) root)
noted_before q k root r old some = by_test_before (bytes_eq k q) (value_at q old) root r (λ e. ap (λ x. value_at x old) (sym ((bytes_decides k q).0 e)) ∙ some)

-- the directory of a statement, if there is one
by_statement : (s : Option Statement) → option_and_then (λ root. root) (option_map (λ (t : Statement). t.root) s) ≡ option_and_then (root_at None) s
by_statement None = refl
by_statement (Some s) = refl

-- what relative values of a variable are placed below
pub origin_is : (text name : List ℕ) → option_and_then (λ root. root) (relative_root name (statements (lines text))) ≡ origin_root text (relative_keys name) None
unfolding origin_root
origin_is text name = by_statement (statement_of (relative_keys name) (statements (lines text)))
