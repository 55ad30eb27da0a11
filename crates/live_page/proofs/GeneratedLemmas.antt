-- The generated document: one more package at a time, and no float in it.
use Rattle.std.proofs.Common.{◌≡◌, ℕ, ◌+◌, Bool, true, false, List, [], ◌∷◌, ◌++◌, ap, arith, map, refl, sym, ◌∙◌}
use Rattle.std.proofs.lemmas.List.{map-append}
use Rattle.std.proofs.lemmas.List.FromFn.{map-range_with_len_more}
use Rattle.std.specs.List.{range_with_len}
use Rattle.std.specs.Prelude.{IfOk, Result, Ok, Err, String, string_bytes}
use Rattle.std.specs.declared.alloc.Global.{Global}
use Rattle.serde_json.specs.Data.{Data, string}
use Rattle.serde_json.specs.View.{items_of}
use Rattle.serde_json.specs.Written.{compact_text, has_float, items_have_float}
use Rattle.json_fields.specs.Written.{set_member}
use Rattle.live_page.specs.Generated.{document_data, edge_data, edge_kind_data, edge_kinds_data, edges_of, generated_document, graph_data, library_data, node_data, node_with, package_data, package_name, package_names, package_of}
use Rattle.live_page.specs.declared.generated.GeneratedPackage.{GeneratedPackage}
use Rattle.live_page.specs.declared.generated.PackageEdge.{PackageEdge}

-- ---- one more

-- a value more, seen as what a number gives
pub values_more : {X Y : Type 0} (seen : Y → X) (f : ℕ → X) (n : ℕ) (ys more : List Y) (y : Y)
    → map seen ys ≡ map f (range_with_len 0 n) → seen y ≡ f n → more ≡ ys ++ y ∷ [] → map seen more ≡ map f (range_with_len 0 (n + 1))
values_more seen f n ys more y so_far is pushed =
    ap (map seen) pushed ∙ map-append seen ys (y ∷ []) ∙ ap (λ xs. xs ++ seen y ∷ []) so_far
    ∙ ap (λ x. map f (range_with_len 0 n) ++ x ∷ []) is ∙ sym (map-range_with_len_more f 0 n n (omega arith))

-- an item more, which is what a number gives
pub items_more : {X : Type 0} (f : ℕ → X) (n : ℕ) (ys more : List X) (y : X)
    → ys ≡ map f (range_with_len 0 n) → y ≡ f n → more ≡ ys ++ y ∷ [] → more ≡ map f (range_with_len 0 (n + 1))
items_more f n ys more y so_far is pushed =
    pushed ∙ ap (λ xs. xs ++ y ∷ []) so_far
    ∙ ap (λ x. map f (range_with_len 0 n) ++ x ∷ []) is ∙ sym (map-range_with_len_more f 0 n n (omega arith))

-- ---- no float

texts-no_float : (texts : List (List ℕ)) → items_have_float (items_of (map string texts)) ≡ false
texts-no_float [] = refl
texts-no_float (text ∷ texts) = texts-no_float texts

package-no_float : (p : GeneratedPackage) → has_float (package_data p) ≡ false
unfolding package_data library_data set_member
package-no_float p = refl

packages-no_float : (ns : List ℕ) → items_have_float (items_of (map (λ n. package_data (package_of n)) ns)) ≡ false
packages-no_float [] = refl
packages-no_float (n ∷ ns) = rw (package-no_float (package_of n), packages-no_float ns) refl

kind-no_float : (is_dev : Bool) → has_float (edge_kind_data is_dev) ≡ false
kind-no_float true = refl
kind-no_float false = refl

kinds-no_float : (is_dev : Bool) → has_float (edge_kinds_data is_dev) ≡ false
unfolding edge_kinds_data set_member
kinds-no_float is_dev = rw (kind-no_float is_dev) refl

edge-no_float : (e : PackageEdge) → has_float (edge_data e) ≡ false
unfolding edge_data set_member
edge-no_float e = rw (kinds-no_float e.is_dev) refl

edges-no_float : (es : List PackageEdge) → items_have_float (items_of (map edge_data es)) ≡ false
edges-no_float [] = refl
edges-no_float (e ∷ es) = rw (edge-no_float e, edges-no_float es) refl

node-no_float : (id : List ℕ) (es : List PackageEdge) → has_float (node_with id es) ≡ false
unfolding node_with set_member
node-no_float id es = rw (edges-no_float es, texts-no_float (map (λ e. e.name) es)) refl

nodes-no_float : (count : ℕ) (ns : List ℕ) → items_have_float (items_of (map (node_data count) ns)) ≡ false
nodes-no_float count [] = refl
nodes-no_float count (n ∷ ns) = rw (node-no_float (package_name n) (edges_of count n), nodes-no_float count ns) refl

graph-no_float : (count : ℕ) → has_float (graph_data count) ≡ false
unfolding graph_data set_member
graph-no_float count = rw (nodes-no_float count (range_with_len 0 count)) refl

document-no_float : (count : ℕ) → has_float (document_data count) ≡ false
unfolding document_data set_member
document-no_float count =
    rw (packages-no_float (range_with_len 0 count), texts-no_float (package_names count), graph-no_float count) refl

-- ---- the text

-- the text of its value is the document
pub document_text : {E : Type 0} (count : ℕ) (value : Data) (text : Result (String Global) E) → value ≡ document_data count
    → IfOk text (λ s. has_float value ≡ false → string_bytes s ≡ compact_text value) → IfOk text (λ s. string_bytes s ≡ generated_document count)
unfolding generated_document
document_text count value (Ok s) is written = written (ap has_float is ∙ document-no_float count) ∙ ap compact_text is
document_text count value (Err e) is written = tt
