-- What the page shows of a database, one more crate, file and source root at a time.
use Rattle.std.proofs.Common.{◌≡◌, ℕ, ◌+◌, ◌<◌, List, [], ◌∷◌, ◌++◌, Option, Some, None, refl, sym, ◌∙◌, ap, arith, get_or, length, map, append-nil, is_some, false, subst, take}
use Rattle.std.specs.List.{All, cons_option, filter_map}
use Rattle.std.specs.Option.{option_map}
use Rattle.std.proofs.lemmas.List.{get_or-map, length-map, map-append, take_more}
use Rattle.std.proofs.lemmas.List.Elements.{filter_map-append}
use Rattle.serde_json.specs.View.{view}
use Rattle.serde_json.specs.declared.value.Value.{Value}
use Rattle.vfs_core.specs.VfsPath.{PathContent}
use Rattle.vfs_sets.specs.FileSet.{path_of}
use Rattle.crate_graph_values.specs.declared.crate_data.Dependency.{Dependency}
use Rattle.input_db.specs.Database.{Database}
use Rattle.input_db.specs.Identity.{IsTable, Table, input_in}
use Rattle.input_db.specs.declared.crate_input.CrateInput.{CrateInput}
use Rattle.input_db_files.specs.Files.{source_root_at}
use Rattle.input_db_files.specs.SourceRoot.{set_of_root}
use Rattle.input_db_files.specs.declared.inputs.SourceRootInput.{SourceRootInput}
use Rattle.input_db_files.specs.declared.source_root.SourceRoot.{SourceRoot}
use Rattle.live_page.specs.Entries.{dependency_entry, named_number}
use Rattle.live_page.specs.Page.{path_shown, root_shown, set_shown}
use Rattle.base_values.proofs.Basics.{none_is as none-from}

module _ {X Y : Type 0} (h : X → Option Y) (xs : List X) (x : X) where
  -- one more item that gives something
  pub filter_map-some : (y : Y) → h x ≡ Some y → filter_map h (xs ++ x ∷ []) ≡ filter_map h xs ++ y ∷ []
  filter_map-some y gives = filter_map-append h xs (x ∷ []) ∙ ap (λ l. filter_map h xs ++ l) (rw gives refl)

  -- and one that gives nothing
  pub filter_map-none : h x ≡ None → filter_map h (xs ++ x ∷ []) ≡ filter_map h xs
  filter_map-none gives =
      filter_map-append h xs (x ∷ []) ∙ ap (λ l. filter_map h xs ++ l) (rw gives refl) ∙ append-nil (filter_map h xs)

module _ {X Y : Type 0} (h : X → Option Y) (xs : List X) (i : ℕ) (x : X) (within : i < length xs) (is : x ≡ get_or xs i x) where
  next : take (i + 1) xs ≡ take i xs ++ x ∷ []
  next = take_more xs i x within ∙ ap (λ z. take i xs ++ z ∷ []) (sym is)

  -- the item at a place gives something
  pub taken_some : (y : Y) (ys more : List Y) → h x ≡ Some y → ys ≡ filter_map h (take i xs) → more ≡ ys ++ y ∷ []
      → more ≡ filter_map h (take (i + 1) xs)
  taken_some y ys more gives so_far pushed =
      pushed ∙ ap (λ l. l ++ y ∷ []) so_far ∙ sym (ap (filter_map h) next ∙ filter_map-some h (take i xs) x y gives)

  -- or nothing
  pub taken_none : (ys : List Y) → h x ≡ None → ys ≡ filter_map h (take i xs) → ys ≡ filter_map h (take (i + 1) xs)
  taken_none ys gives so_far = so_far ∙ sym (ap (filter_map h) next ∙ filter_map-none h (take i xs) x gives)

-- what is made of items by another function
pub filter_map-map : {X Y Z : Type 0} (h : Y → Option Z) (f : X → Y) (xs : List X)
    → filter_map (λ x. h (f x)) xs ≡ filter_map h (map f xs)
filter_map-map h f [] = refl
filter_map-map h f (x ∷ xs) = ap (cons_option (h (f x))) (filter_map-map h f xs)

-- a dependency whose crate's root file has a path is shown by its name and a copy of that path
pub dependency_shown : (root : ℕ → Option (List ℕ)) (dep : Dependency ℕ) (path name copy : List ℕ) → root dep.crate_id ≡ Some path
    → name ≡ dep.name → copy ≡ path
    → dependency_entry root (named_number (λ n. n) dep) ≡ Some (record { name = name; root = copy })
dependency_shown root dep path name copy at named copied =
    ap (option_map (λ (p : List ℕ). record { name = dep.name; root = p })) at
    ∙ (λ i. Some (record { name = sym named i; root = sym copied i }))

-- and one whose crate's root file has none is not shown
pub dependency_hidden : (root : ℕ → Option (List ℕ)) (dep : Dependency ℕ) → root dep.crate_id ≡ None
    → dependency_entry root (named_number (λ n. n) dep) ≡ None
dependency_hidden root dep none = ap (option_map (λ (p : List ℕ). record { name = dep.name; root = p })) none

-- the crates that a crate of a table depends on are crates of the table
pub dependencies_present : (table : Table) (krate : ℕ) (input : CrateInput) → IsTable table → input_in table krate ≡ Some input
    → All (λ dep. dep.crate_id < length table) input.crate_data.dependencies
dependencies_present table krate input is at = λ i d within.
    let deps = input.crate_data.dependencies in
    let ids : List ℕ = map (λ (dep : Dependency ℕ). dep.crate_id) deps in
    let below : get_or ids i d.crate_id < length table =
    is.present krate input at i d.crate_id (omega (arith, within, length-map deps (λ (dep : Dependency ℕ). dep.crate_id))) in
    subst (λ n. n < length table) (get_or-map (λ (dep : Dependency ℕ). dep.crate_id) deps i d d.crate_id within) below

-- one more file that has a path
pub path_more : (root : SourceRoot) (seen : List ℕ) (file : ℕ) (path : PathContent) (texts more : List (List ℕ)) (text : List ℕ)
    → Some path ≡ path_of (set_of_root root) file → text ≡ path.text
    → texts ≡ filter_map (path_shown root) seen → more ≡ texts ++ text ∷ []
    → more ≡ filter_map (path_shown root) (seen ++ file ∷ [])
path_more root seen file path texts more text has is so_far pushed =
    let gives : path_shown root file ≡ Some path.text = ap (option_map (λ (p : PathContent). p.text)) (sym has) in
    pushed ∙ ap (λ l. l ++ text ∷ []) so_far
    ∙ ap (λ t. filter_map (path_shown root) seen ++ t ∷ []) is
    ∙ sym (filter_map-some (path_shown root) seen file path.text gives)

-- and one that has none
pub path_none : (root : SourceRoot) (seen : List ℕ) (file : ℕ) (texts : List (List ℕ))
    → None ≡ path_of (set_of_root root) file
    → texts ≡ filter_map (path_shown root) seen
    → texts ≡ filter_map (path_shown root) (seen ++ file ∷ [])
path_none root seen file texts none so_far =
    let gives : path_shown root file ≡ None = ap (option_map (λ (p : PathContent). p.text)) (sym none) in
    so_far ∙ sym (filter_map-none (path_shown root) seen file gives)

-- one more source root that is there
pub root_more : (db : Database) (seen : List ℕ) (id : ℕ) (input : SourceRootInput) (sets more : List Value) (value : Value)
    → source_root_at db.files id ≡ Some input → view value ≡ set_shown input.source_root
    → map view sets ≡ map set_shown (filter_map (root_shown db) seen) → more ≡ sets ++ value ∷ []
    → map view more ≡ map set_shown (filter_map (root_shown db) (seen ++ id ∷ []))
root_more db seen id input sets more value has is so_far pushed =
    let gives : root_shown db id ≡ Some input.source_root = ap (option_map (λ (i : SourceRootInput). i.source_root)) has in
    ap (map view) pushed ∙ map-append view sets (value ∷ [])
    ∙ ap (λ l. l ++ view value ∷ []) so_far
    ∙ ap (λ d. map set_shown (filter_map (root_shown db) seen) ++ d ∷ []) is
    ∙ sym (map-append set_shown (filter_map (root_shown db) seen) (input.source_root ∷ []))
    ∙ ap (map set_shown) (sym (filter_map-some (root_shown db) seen id input.source_root gives))

-- and one that is not
pub root_none : (db : Database) (seen : List ℕ) (id : ℕ) (sets : List Value)
    → is_some (source_root_at db.files id) ≡ false
    → map view sets ≡ map set_shown (filter_map (root_shown db) seen)
    → map view sets ≡ map set_shown (filter_map (root_shown db) (seen ++ id ∷ []))
root_none db seen id sets none so_far =
    let gives : root_shown db id ≡ None = ap (option_map (λ (i : SourceRootInput). i.source_root)) (none-from (source_root_at db.files id) none) in
    so_far ∙ ap (map set_shown) (sym (filter_map-none (root_shown db) seen id gives))
