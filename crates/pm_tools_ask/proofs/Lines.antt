-- What one line does to the statements of the lines behind it.
use Rattle.std.proofs.Common.{◌≡◌, ℕ, List, [], ◌∷◌, ◌++◌, Option, Some, None, refl, sym, ap, ◌∙◌, append_assoc, append-nil, ◌<◌, ◌+◌, length, get_or, drop, arith}
use Rattle.std.proofs.lemmas.List.{at_drop_all, at_drop_more}
use Rattle.pm_tools_ask.specs.declared.form.Form.TheVariants.{Value, Opens, Other}
use Rattle.pm_tools_ask.specs.declared.form.ItemForm.TheVariants.{Item, Closes, Neither}
use Rattle.pm_tools_ask.specs.declared.statement.OpenList.{OpenList}
use Rattle.pm_tools_ask.specs.declared.statement.Statement.{Statement}
use Rattle.pm_tools_ask.specs.Reader.{statements_left}
use Rattle.pm_tools_ask.specs.Statements.{item_form, items_in, line_form, root_of_list, statements}

-- a statement put behind those that are whole
pub pushed : (whole more : List Statement) (one same : Statement) (rest : List Statement) → more ≡ whole ++ one ∷ [] → one ≡ same → whole ++ same ∷ rest ≡ more ++ rest
pushed whole more one same rest is e =
    ap (λ s. whole ++ s ∷ rest) (sym e) ∙ sym (append_assoc whole (one ∷ []) rest) ∙ ap (λ m. m ++ rest) (sym is)

pub closes : (list : OpenList) (line : List ℕ) (lines : List (List ℕ)) (root : Option (List ℕ)) → item_form line ≡ Closes root → statements_left (Some list) (line ∷ lines) ≡ record { keys = list.keys; root = root; items = list.items.items } ∷ statements lines
unfolding items_in root_of_list statements
closes list line lines root is = rw (is, append-nil) refl

pub takes_item : (list more : OpenList) (line : List ℕ) (lines : List (List ℕ)) (root : Option (List ℕ)) → item_form line ≡ Item root → more.keys ≡ list.keys → more.items.items ≡ list.items.items ++ root ∷ [] → statements_left (Some list) (line ∷ lines) ≡ statements_left (Some more) lines
unfolding items_in root_of_list statements
takes_item list more line lines root is keys items =
    rw (is, keys, items, append_assoc) refl

pub passes_over : (list : OpenList) (line : List ℕ) (lines : List (List ℕ)) → item_form line ≡ Neither → statements_left (Some list) (line ∷ lines) ≡ statements_left (Some list) lines
unfolding items_in root_of_list statements
passes_over list line lines is = rw is refl

pub states : (line : List ℕ) (lines : List (List ℕ)) (keys : List (List ℕ)) (root : Option (List ℕ)) → line_form line ≡ Value keys root → statements (line ∷ lines) ≡ record { keys = keys; root = root; items = [] } ∷ statements lines
unfolding statements
states line lines keys root is = rw is refl

pub opens : (list : OpenList) (line : List ℕ) (lines : List (List ℕ)) → line_form line ≡ Opens list.keys → list.items.items ≡ [] → statements (line ∷ lines) ≡ statements_left (Some list) lines
unfolding statements
opens list line lines is none = rw (is, none) refl

pub states_nothing : (line : List ℕ) (lines : List (List ℕ)) → line_form line ≡ Other → statements (line ∷ lines) ≡ statements lines
unfolding statements
states_nothing line lines is = rw is refl

-- a list that no line closes
pub left_open : (whole more : List Statement) (one : Statement) (list : OpenList) → more ≡ whole ++ one ∷ [] → one ≡ record { keys = list.keys; root = None; items = list.items.items } → more ≡ whole ++ statements_left (Some list) []
unfolding items_in root_of_list statements
left_open whole more one list is same = is ∙ ap (λ s. whole ++ s ∷ []) same ∙ (rw append-nil refl)

-- one line further
pub turned : (whole more all_of_them : List Statement) (list given next : Option OpenList) (all : List (List ℕ)) (n m : ℕ) (line : List ℕ) → n < length all → line ≡ get_or all n line → m ≡ n + 1 → list ≡ given → whole ++ statements_left list (drop n all) ≡ all_of_them → ((lines : List (List ℕ)) → whole ++ statements_left given (line ∷ lines) ≡ more ++ statements_left next lines) → more ++ statements_left next (drop m all) ≡ all_of_them
turned whole more all_of_them list given next all n m line l is count same before step =
    ap (λ k. more ++ statements_left next (drop k all)) count
    ∙ sym (step (drop (n + 1) all))
    ∙ ap (λ x. whole ++ statements_left given (x ∷ drop (n + 1) all)) is
    ∙ sym (at_drop_more (λ lines. whole ++ statements_left given lines) all n line l)
    ∙ ap (λ o. whole ++ statements_left o (drop n all)) (sym same)
    ∙ before

-- the last line was taken
pub ended : (whole all_of_them : List Statement) (list : Option OpenList) (all : List (List ℕ)) (n : ℕ) → n ≡ length all → whole ++ statements_left list (drop n all) ≡ all_of_them → whole ++ statements_left list [] ≡ all_of_them
ended whole all_of_them list all n count before =
    sym (at_drop_all (λ lines. whole ++ statements_left list lines) all n (omega (arith, count))) ∙ before

-- no list is open
pub none_open : (whole : List Statement) (list : Option OpenList) → list ≡ None → whole ≡ whole ++ statements_left list []
unfolding statements
none_open whole list is = sym (ap (λ o. whole ++ statements_left o []) is ∙ append-nil whole)
