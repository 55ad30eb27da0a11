use Rattle.std.proofs.Common.{◌==◌, ◌≡◌, ◌∷◌, ◌++◌, ◌∙◌, [], List, ℕ, Option, Some, None, arith, append_assoc, append-nil, refl, ap, sym, rules, length, string_bytes}
use Rattle.std.specs.Option.{option_copied}
use Rattle.base_text_paths.specs.AbsPath.{abs_text}
use Rattle.base_text_paths.specs.Paths.{components, normal}
use Rattle.std.proofs.lemmas.Bool.{eqb-true, eqb-false}
use Rattle.base_text.specs.MemoryTree.{first_after}
use Rattle.base_text.specs.Tree.{TreeFiles, entry_names}
use Rattle.base_text.proofs.EntryNames.{entry_names-AreNames, entry_names-sorted, names_in-none, names_in-some}
use Rattle.base_text.proofs.Listing.{names_after, names_after-end, names_after-first, names_after-none}
use Rattle.base_text.proofs.memory_tree.MemoryTreeTree.lists.Goals as goal

pub loop-names-init : goal.loop-names-init
loop-names-init c =
    let names : List (List ℕ) = entry_names c.args.self.now (components (string_bytes c.directory.inside.text)) in (
      search rules,
      ap (λ so_far. so_far ++ names_after [] names) c.new-names.ensures.items ∙ names_after-none names (entry_names-AreNames c.args.self.now _),
      tt,
    )

-- the name that was found is the first behind the last one
found_next : (files : TreeFiles) (directory text last name : List ℕ) (found : Option (List ℕ)) → text ≡ directory → found ≡ first_after last (entry_names files (components text)) → found ≡ Some name
    → names_after last (entry_names files (components directory)) ≡ name ∷ names_after name (entry_names files (components directory))
found_next files directory text last name found same first is =
    names_after-first last name _ (entry_names-sorted files (components directory)) (ap (λ t. first_after last (entry_names files (components t))) (sym same) ∙ sym first ∙ is)

pub loop-names-smaller : goal.loop-names-smaller
loop-names-smaller c =
    let next = found_next c.args.self.now (string_bytes c.directory.inside.text) _ c.loop-names.last.now c.in-Some.name.now (option_copied c.in_ok-name.field-0)
    (c.as_path.ensures ∙ sym c.directory.view_is) c.in_ok-name.ensures.first (ap option_copied c.in-Some.is) in
    omega (arith, ap length next)

pub loop-names-preserved : goal.loop-names-preserved
loop-names-preserved c =
    let next = found_next c.args.self.now (string_bytes c.directory.inside.text) _ c.loop-names.last.now c.in-Some.name.now (option_copied c.in_ok-name.field-0)
    (c.as_path.ensures ∙ sym c.directory.view_is) c.in_ok-name.ensures.first (ap option_copied c.in-Some.is) in
    let names : List (List ℕ) = entry_names c.args.self.now (components (string_bytes c.directory.inside.text)) in (
      search rules,
      ap (λ so_far. so_far ++ names_after c.in-Some.name.now names) (c.in_ok-push.ensures.items ∙ ap (λ name. c.loop-names.names.items ++ name ∷ []) c.in_ok-of_str.ensures)
          ∙ append_assoc c.loop-names.names.items (c.in-Some.name.now ∷ []) (names_after c.in-Some.name.now names)
          ∙ ap (λ rest. c.loop-names.names.items ++ rest) (sym next) ∙ c.loop-names.invariant.1,
      rw c.in-Some.is at c.in_ok-name.ensures.name,
    )

-- where none is left, the names so far are all
all_listed : (files : TreeFiles) (directory text last path : List ℕ) (so_far : List (List ℕ)) (found : Option (List ℕ)) → text ≡ directory → components directory ≡ normal path
    → found ≡ first_after last (entry_names files (components text)) → found ≡ None → so_far ++ names_after last (entry_names files (components directory)) ≡ entry_names files (components directory)
    → so_far ≡ entry_names files (normal path)
all_listed files directory text last path so_far found same parts first none whole =
    let end = names_after-end last (entry_names files (components directory)) (ap (λ t. first_after last (entry_names files (components t))) (sym same) ∙ sym first ∙ none) in
    sym (append-nil so_far) ∙ ap (λ rest. so_far ++ rest) (sym end) ∙ whole ∙ ap (entry_names files) parts

empty_list : (xs : List (List ℕ)) → length xs ≡ 0 → xs ≡ []
empty_list [] none = refl
empty_list (x ∷ xs) none = absurd (omega arith)

pub returns-then-is_empty : goal.returns-then-is_empty
returns-then-is_empty c =
    let all = all_listed c.args.self.now (string_bytes c.directory.inside.text) _ c.loop-names.last.now (abs_text c.args.path) c.loop-names.names.items (option_copied c.in_ok-name.field-0)
    (c.as_path.ensures ∙ sym c.directory.view_is) (ap components c.directory.view_is ∙ c.in_ok-directory.ensures.same_components) c.in_ok-name.ensures.first (ap option_copied c.in_default.is) c.loop-names.invariant.1 in
    sym (names_in-none c.args.self.now (abs_text c.args.path) (sym all ∙ empty_list c.loop-names.names.items (eqb-true (length c.loop-names.names.items) 0 (sym (sym c.if-is_empty.true ∙ c.is_empty.ensures ∙ ap (λ n. n == 0) c.loop-names.names.ok.0)))))

pub returns : goal.returns
returns c =
    let all = all_listed c.args.self.now (string_bytes c.directory.inside.text) _ c.loop-names.last.now (abs_text c.args.path) c.loop-names.names.items (option_copied c.in_ok-name.field-0)
    (c.as_path.ensures ∙ sym c.directory.view_is) (ap components c.directory.view_is ∙ c.in_ok-directory.ensures.same_components) c.in_ok-name.ensures.first (ap option_copied c.in_default.is) c.loop-names.invariant.1 in
    let some : length c.loop-names.names.items ≡ 0 → ⊥ = eqb-false (length c.loop-names.names.items) 0 (sym (sym c.if-is_empty.false ∙ c.is_empty.ensures ∙ ap (λ n. n == 0) c.loop-names.names.ok.0)) in
    ap Some c.new.ensures ∙ sym (names_in-some c.args.self.now (abs_text c.args.path) c.loop-names.names.items all (omega (arith, some)))
