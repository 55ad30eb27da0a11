-- The page that a database shows as JSON data, and its line.
use Rattle.std.proofs.Common.{◌≡◌, ℕ, false, List, [], ◌∷◌, ◌++◌, map, refl, ◌∙◌, ap}
use Rattle.std.specs.Prelude.{IfOk, Result, Ok, Err, String, string_bytes}
use Rattle.std.specs.declared.alloc.Global.{Global}
use Rattle.serde_json.specs.Data.{Data, item, string}
use Rattle.serde_json.specs.View.{items_of, items_view, view}
use Rattle.serde_json.specs.Written.{compact_text, has_float, items_have_float}
use Rattle.serde_json.specs.declared.value.Value.{Value}
use Rattle.base_values.specs.Sorted.{sorted}
use Rattle.input_db.specs.Database.{Database}
use Rattle.input_db_files.specs.declared.source_root.SourceRoot.{SourceRoot}
use Rattle.live_page.specs.Entries.{entries_shown}
use Rattle.live_page.specs.Page.{data_shown, dependency_entry_data, entry_data, page_data, page_of, paths_shown, roots_listed, set_shown}
use Rattle.live_page.specs.Page.{sorted_texts, texts_data}
use Rattle.live_page.specs.declared.crate_entry.CrateEntry.{CrateEntry}
use Rattle.live_page.specs.declared.crate_entry.DependencyEntry.{DependencyEntry}

-- strings are the data of their texts
strings-data : (texts : List (List ℕ)) → items_of (map string texts) ≡ texts_data texts
strings-data [] = refl
strings-data (text ∷ texts) = ap (item (string text)) (strings-data texts)

-- values that are strings are seen as the data of their texts
pub strings_view : (values : List Value) (texts : List (List ℕ))
    → map view values ≡ map string texts → items_view values ≡ texts_data texts
strings_view values texts strings = ap items_of strings ∙ strings-data texts

-- no text is a float
pub texts_no_float : (texts : List (List ℕ)) → items_have_float (texts_data texts) ≡ false
texts_no_float [] = refl
texts_no_float (text ∷ texts) = texts_no_float texts

-- so dependencies have none
dependencies-no_float : (deps : List DependencyEntry) → items_have_float (items_of (map dependency_entry_data deps)) ≡ false
dependencies-no_float [] = refl
dependencies-no_float (dep ∷ deps) = dependencies-no_float deps

-- nor have entries
pub entries-no_float : (entries : List CrateEntry) → items_have_float (items_of (map entry_data entries)) ≡ false
entries-no_float [] = refl
entries-no_float (entry ∷ entries) = rw (dependencies-no_float entry.deps, entries-no_float entries) refl

-- nor have sets
sets-no_float : (roots : List SourceRoot) → items_have_float (items_of (map set_shown roots)) ≡ false
sets-no_float [] = refl
sets-no_float (root ∷ roots) = rw (texts_no_float (sorted_texts (paths_shown root)), sets-no_float roots) refl

-- nor has the page that a database shows
page-no_float : (db : Database) → has_float (data_shown db) ≡ false
page-no_float db = rw (entries-no_float (entries_shown db), sets-no_float (roots_listed db)) refl

-- the line of its value is the page
pub shown_line : {E : Type 0} (db : Database) (crates sets : List Value) (value : Data) (line : Result (String Global) E)
    → value ≡ page_data (items_view crates) (items_view sets)
    → map view crates ≡ map entry_data (entries_shown db)
    → map view sets ≡ map set_shown (roots_listed db)
    → IfOk line (λ text. has_float value ≡ false → string_bytes text ≡ compact_text value ++ 10 ∷ [])
    → IfOk line (λ text. string_bytes text ≡ page_of db)
unfolding page_of
shown_line db crates sets value (Ok text) is entries shown written =
    let all : value ≡ data_shown db = is ∙ (λ i. page_data (items_of (entries i)) (items_of (shown i))) in
    written (ap has_float all ∙ page-no_float db) ∙ ap (λ d. compact_text d ++ 10 ∷ []) all
shown_line db crates sets value (Err e) is entries shown written = tt

-- a database that lists no crates shows no entries
pub no_entries : (db : Database) → db.listed ≡ [] → entries_shown db ≡ []
unfolding sorted
no_entries db none = ap (λ listed. entries_shown (record db { listed = listed })) none
