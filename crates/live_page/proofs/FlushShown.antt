-- After a flush: the database shows the files that exist, by the sets of their roots, and its page is theirs.
use Rattle.std.proofs.Common.{◌≡◌, ℕ, ◌+◌, ◌<◌, ◌==◌, Bool, true, false, eq-eqb, not, List, [], ◌∷◌, ◌++◌, length, map, Option, Some, None, refl, ◌∙◌, ap, arith, nat_eq}
use Rattle.std.specs.List.{filter, filter_map}
use Rattle.std.specs.Map.{lookup}
use Rattle.std.specs.Option.{option_and_then, option_map, option_or, unwrap_or}
use Rattle.std.specs.Ordering.{nat_cmp}
use Rattle.std.specs.Str.{is_utf8}
use Rattle.std.proofs.lemmas.List.{map-id}
use Rattle.std.proofs.lemmas.Simd.{map-map}
use Rattle.base_values.specs.Sorted.{sorted}
use Rattle.serde_json.specs.View.{items_of}
use Rattle.serde_json.specs.Written.{compact_text}
use Rattle.vfs_core.specs.declared.changed_file.ChangedFile.{ChangedFile}
use Rattle.vfs_core.specs.Files.{Files, existing_files}
use Rattle.vfs_core.specs.Texts.{all_pass, contents_after, contents_by}
use Rattle.vfs_core.specs.VfsPath.{PathContent}
use Rattle.input_db.specs.Change.{IsChanged, fits_file, library_after, local_after, place_after, root_after, root_given, text_given}
use Rattle.input_db.specs.Database.{Database}
use Rattle.input_db.specs.declared.change.FileChange.{FileChange}
use Rattle.input_db_files.specs.Files.{durability_of_file, file_root_of, source_root_at, stored_text, text_of_file}
use Rattle.input_db_files.specs.declared.inputs.FileText.{FileText}
use Rattle.live_page.specs.Entries.{entries_shown}
use Rattle.live_page.specs.Page.{entry_data, numbers_listed, page_data, page_of, paths_shown, root_shown, roots_listed, set_data, set_shown, sorted_texts}
use Rattle.vfs_sets.specs.FileRoots.{is_local_at, set_numbers}
use Rattle.live_page.specs.FlushPage.{page_of_entries, paths_at, set_data_at}
use Rattle.live_page.specs.Refresh.{Refreshes, changes_taken}
use Rattle.live_page.specs.Shape.{base_image, base_shape, paths_sorted, place_shape, root_image, root_shape, texts_known}
use Rattle.vfs_sets.specs.declared.file_root.FileRoot.{FileRoot}
use Rattle.vfs_sets.specs.FileSet.{path_of}
use Rattle.vfs_sets.specs.Placement.{place_of}
use Rattle.input_db_files.specs.SourceRoot.{set_of_root}
use Rattle.input_db_files.specs.declared.source_root.SourceRoot.{SourceRoot}
use Rattle.input_db_files.specs.declared.inputs.FileSourceRootInput.{FileSourceRootInput}
use Rattle.input_db_files.specs.declared.inputs.SourceRootInput.{SourceRootInput}
use Rattle.live_page.specs.Entries.{path_in}
use Rattle.vfs_sets.specs.FileRoots.{root_lists}
use Rattle.live_page.proofs.Ascending.{chosen_found}
use Rattle.live_page.proofs.Placed.{in_some, library_numbers, local_numbers, made_roots, own_durability, own_library, own_paths, own_root, own_roots, paths_made, placed, root_at, within}
use Rattle.live_page.proofs.Ranges.{filter_map_range, map_range, sorted_parts}
use Rattle.live_page.proofs.TextsGiven.{given_by, given_lookup, given_text}

-- what was given to the database: the source roots of all sets, and the changes of files that have one
record IsRefreshed (roots : List FileRoot) (files : Files) (old new : Database) : Type 0 where
  change : FileChange
  given : change.roots ≡ Some (own_roots roots files)
  taken : change.files_changed ≡ changes_taken old.files (own_roots roots files) files.batch
  changed : IsChanged change old new

refreshed : (roots : List FileRoot) (files : Files) (old new : Database) → Refreshes roots files old new → IsRefreshed roots files old new
refreshed roots files old new r =
    let made = made_roots roots files r.sets r.partition in record {
      change = r.change;
      given = r.given ∙ ap Some made;
      taken = r.taken ∙ ap (λ s. changes_taken old.files s files.batch) made;
      changed = r.changed;
    }

not-not : (b : Bool) → not (not b) ≡ b
not-not true = refl
not-not false = refl

module _ (roots : List FileRoot) (files : Files) (old new : Database) (refreshes : Refreshes roots files old new) where
  r : IsRefreshed roots files old new
  r = refreshed roots files old new refreshes

  -- the paths of the files that exist
  abbrev pub paths : List PathContent
  paths = map (λ file. file.1) (existing_files files)

  -- ---- the lists of roots

  locals : new.local.roots.keys ≡ filter (is_local_at roots) (set_numbers roots)
  locals = ap (λ l. l.roots.keys) (r.changed.local ∙ ap (λ g. local_after g old.local) r.given) ∙ local_numbers roots files

  libraries : new.library.roots.keys ≡ filter (λ number. not (is_local_at roots number)) (set_numbers roots)
  libraries = ap (λ l. l.roots.keys) (r.changed.library ∙ ap (λ g. library_after g old.library) r.given) ∙ library_numbers roots files

  listed : numbers_listed new ≡ set_numbers roots
  listed = (λ i. sorted nat_cmp (locals i ++ libraries i))
      ∙ sorted_parts (is_local_at roots) (λ number. not (is_local_at roots number)) (λ k. refl) 0 (length roots + 1)

  -- the root of each number
  root-is : (number : ℕ) → number < length roots + 1 → source_root_at new.files number ≡ Some (root_given (own_root roots files number))
  root-is number less =
      r.changed.roots number ∙ ap (λ g. root_after (unwrap_or g []) old.files number) r.given
      ∙ ap (λ found. option_or (option_map root_given found) (source_root_at old.files number))
      (root_at roots files number less ∙ ap (λ n. Some (own_root roots files n)) (omega arith))

  -- ---- the page

  shown : roots_listed new ≡ map (own_root roots files) (set_numbers roots)
  shown = ap (filter_map (root_shown new)) listed
      ∙ filter_map_range (root_shown new) (own_root roots files) 0 (length roots + 1)
      (λ k le less. ap (option_map (λ input. input.source_root)) (root-is k (omega (arith, less))))

  set-is : (number : ℕ) → set_shown (own_root roots files number) ≡ set_data_at roots paths number
  set-is number =
      let texts : paths_shown (own_root roots files number) ≡ _ =
      paths_made roots files (option_map (λ (p : PathContent). p.text)) (λ (p : PathContent). p.text) (λ p. refl) number in
      λ i. set_data (sorted_texts (texts i)) ((ap not (own_library roots files number) ∙ not-not (is_local_at roots number)) i)

  -- the page of the database is that of the files that exist, and of its entries
  pub page_is : page_of new ≡ page_of_entries roots paths (entries_shown new)
  unfolding page_of_entries page_of
  page_is = ap (λ sets. compact_text (page_data (items_of (map entry_data (entries_shown new))) (items_of sets)) ++ 10 ∷ [])
      (ap (map set_shown) shown
      ∙ map-map set_shown (own_root roots files) (set_numbers roots)
      ∙ map_range (λ k. set_shown (own_root roots files k)) (set_data_at roots paths) 0 (length roots + 1) (λ k le less. set-is k))

  -- ---- the base

  image-is : (number : ℕ) → root_image (root_given (own_root roots files number)) ≡ root_shape roots paths number
  image-is number = λ i. record {
    is_library = own_library roots files number i;
    durability = own_durability roots files number i;
    paths = paths_sorted ((paths_made roots files (λ p. p) (λ p. p) (λ p. refl) number ∙ map-id (paths_at roots paths number)) i);
  }

  -- the database shows the base of the files that exist
  pub base_is : base_image new ≡ base_shape roots paths
  base_is = λ i. record {
    local = locals i;
    library = libraries i;
    roots = (ap (filter_map (λ number. option_map root_image (source_root_at new.files number))) listed
        ∙ filter_map_range (λ number. option_map root_image (source_root_at new.files number)) (root_shape roots paths) 0 (length roots + 1)
        (λ k le less. ap (option_map root_image) (root-is k (omega (arith, less))) ∙ ap Some (image-is k))) i;
  }

  -- ---- a file that exists

  module _ (file : ℕ) (path : PathContent) (there : lookup (nat_eq file) (existing_files files) ≡ Some path) where
    -- it is in the source root of its set
    pub place_is : file_root_of new.files file ≡ Some (place_shape roots path)
    place_is = r.changed.places file ∙ ap (λ g. place_after (unwrap_or g []) old.files file) r.given
        ∙ ap (λ found. option_or found (file_root_of old.files file)) (placed roots files file path there)

    fits-is : fits_file old.files (own_roots roots files) file ≡ true
    fits-is = let own = in_some roots files file path there in rw own refl

    -- and what the batch holds of it, or what was known, is its text
    text-split : (batch : List (ℕ × ChangedFile)) (text : List ℕ) (call : Option ChangedFile)
        → lookup (nat_eq file) batch ≡ call → all_pass is_utf8 batch ≡ true
        → contents_by call (texts_known old file) ≡ Some text
        → option_map (λ (t : FileText). t.text)
        (option_or (option_map (λ t. stored_text file t (durability_of_file new.files file)) (option_map given_by call)) (text_of_file old.files file))
        ≡ Some text
    text-split batch text None at valid is = is
    text-split batch text (Some call) at valid is = ap Some (given_text file batch call text valid at is)

    pub text_is : (text : List ℕ) → all_pass is_utf8 files.batch ≡ true → contents_after files.batch (texts_known old) file ≡ Some text
        → texts_known new file ≡ Some text
    text_is text valid after =
        let given : text_given r.change.files_changed file ≡ option_map given_by (lookup (nat_eq file) files.batch) =
        ap (λ cs. text_given cs file) r.taken
        ∙ given_lookup old.files (own_roots roots files) file files.batch refreshes.distinct fits-is in
        ap (option_map (λ (t : FileText). t.text))
        (r.changed.texts file
        ∙ ap (λ g. option_or (option_map (λ t. stored_text file t (durability_of_file new.files file)) g) (text_of_file old.files file)) given)
        ∙ text-split files.batch text (lookup (nat_eq file) files.batch) refl valid after

    -- its path is found in that source root
    root-found : path_of (set_of_root (own_root roots files (place_of (root_lists roots) path))) file ≡ Some path
    root-found =
        let number = place_of (root_lists roots) path in
        ap (λ (paths : List (ℕ × PathContent)). lookup (nat_eq file) paths) (own_paths roots files number)
        ∙ chosen_found (λ p. place_of (root_lists roots) p == number) file path (existing_files files) (eq-eqb number number refl) there

    pub path_is : path_in new.files file ≡ Some path.text
    path_is =
        let number = place_of (root_lists roots) path in
        let root : source_root_at new.files number ≡ Some (root_given (own_root roots files number)) = root-is number (within roots files file path there) in
        ap (λ (place : Option FileSourceRootInput). option_and_then (λ (root : SourceRoot). option_map (λ (p : PathContent). p.text) (path_of (set_of_root root) file))
        (option_and_then (λ (p : FileSourceRootInput). option_map (λ (input : SourceRootInput). input.source_root) (source_root_at new.files p.source_root_id)) place)) place_is
        ∙ ap (λ (input : Option SourceRootInput). option_and_then (λ (root : SourceRoot). option_map (λ (p : PathContent). p.text) (path_of (set_of_root root) file))
        (option_map (λ (i : SourceRootInput). i.source_root) input)) root
        ∙ ap (option_map (λ (p : PathContent). p.text)) root-found
