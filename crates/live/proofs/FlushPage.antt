-- What the database of a session shows after a flush: the page of the files, the project and the build that it holds.
use Rattle.std.proofs.Common.{◌≡◌, ℕ, ◌≤◌, false, List, [], ◌∷◌, Option, Some, None, Ok, length, refl, sym, ◌∙◌, ap, subst, map, nat_eq, slice_get, arith, append-nil}
use Rattle.std.specs.List.{All, IsDistinct}
use Rattle.std.specs.Map.{lookup}
use Rattle.std.specs.Option.{option_map}
use Rattle.std.specs.Str.{is_utf8}
use Rattle.std.proofs.lemmas.List.{length-map}
use Rattle.std.proofs.lemmas.List.Elements.{All-cons, All-head, All-nil, All-tail}
use Rattle.std.proofs.lemmas.Simd.{map-map}
use Rattle.base_values.specs.Sorted.{sorted}
use Rattle.vfs_core.specs.declared.file_state.FileState.{FileState}
use Rattle.vfs_core.specs.Files.{existing_files, paths_of}
use Rattle.vfs_core.specs.Marks.{live_text}
use Rattle.vfs_core.specs.Texts.{BringsTo, all_pass}
use Rattle.vfs_core.specs.VfsPath.{PathContent, vfs_path_eq}
use Rattle.crate_graph.specs.Graph.{Graph}
use Rattle.crate_graph_values.specs.declared.builder.CrateBuilder.{CrateBuilder}
use Rattle.live_page.specs.Entries.{Node, entries_of, entries_shown, entry_node, path_in}
use Rattle.live_page.specs.Page.{page_of}
use Rattle.live_page.proofs.Alike.{entries_alike}
use Rattle.live_page.proofs.GraphEntries.{entries_after_set}
use Rattle.live_page.proofs.Pages.{no_entries}
use Rattle.pm_lower_crates.specs.Lowering.{Crate, crate_seen}
use Rattle.live_page.specs.FlushPage as placed
use Rattle.live_page.specs.Refresh.{GivesCrates, KeepsDatabaseCrates}
use Rattle.live_page.specs.Shape.{base_image, base_shape, file_image, file_shape, files_sorted, image, texts_known}
use Rattle.vfs_sets.specs.declared.file_root.FileRoot.{FileRoot}
use Rattle.live_page.proofs.FlushShown.{base_is, page_is, path_is, place_is, text_is}
use Rattle.live_project.specs.Crates.{BeginIn}
use Rattle.live_project.specs.Project.{ProjectContent}
use Rattle.live.specs.declared.last_flush.LastFlush.{LastFlush}
use Rattle.live.specs.declared.session.Live.{Live}
use Rattle.live.specs.Crates.{ListsInOrder, ShowsCrates}
use Rattle.live.specs.Image.{texts_of_flush}
use Rattle.live.specs.Page.{Flush, crates_by, crates_of_flush, entries, node_seen, numbers_of_flush, page, path_by, paths_of_flush, roots_by}
use Rattle.live.specs.Refresh.{IsGraphBy, KeepsLast, RefreshesLive}
use Rattle.live.specs.Session.{State, flush_of, flush_turn, flushed_turn}
use Rattle.live.specs.Turn.{Holds, IsCurrent, IsLast, KeepsFlush, ShowsShape}
use Rattle.live_project.proofs.Existing.{existing_numbered, file_told, files_live, mentioned_paths-distinct, numbered_texts}
use Rattle.live.proofs.Listed.{lists_in_order, shows_project}
use Rattle.live.proofs.Slots.{existing_found, number_is, slot_of}
use Rattle.live_project.specs.LiveTexts.{HoldsSaid, LiveFile, files_kept}
use Rattle.live_project.proofs.SaidLemmas.{holds_spared}
use Rattle.live_project.proofs.TextRows.{files_kept-live}

-- what is kept of a flush is stored; the rest is as it was
pub record IsStored (old new : Live) (last : LastFlush) : Type 0 where
  pub flushed : new.flushed ≡ Some last
  pub recorded : new.recorded ≡ old.recorded
  pub project : new.project ≡ old.project
  pub db : new.db ≡ old.db
  pub probes : new.probes ≡ old.probes
  pub ended : new.ended ≡ old.ended

-- ---- the crates of a graph

-- a crate of a graph is seen by its entry as the definition has it
pub nodes-seen : (crates : List CrateBuilder) → map entry_node crates ≡ map node_seen (map crate_seen crates)
nodes-seen [] = refl
nodes-seen (krate ∷ crates) =
    let rest = nodes-seen crates in
    let deps = map-map (λ dep. (dep.name, dep.target)) _ krate.basic.dependencies in
    λ i. record { root_file = krate.basic.root_file_id; dependencies = sym deps i } ∷ rest i

-- the crates by what a flush was given, where that has a graph or none
graph-crates : (p : Option ProjectContent) (files : List (ℕ × PathContent)) (graph : Option Graph) → IsGraphBy p files graph
    → (crates : List Crate) × (crates_by p files ≡ Ok crates)
graph-crates None files graph none = ([], refl)
graph-crates (Some p) files None none = absurd none
graph-crates (Some p) files (Some graph) is = (map crate_seen graph.crates, is.crates)

-- a node whose root file exists has one path in both
nodes-alike : (paths others : ℕ → Option (List ℕ)) (files : List (ℕ × PathContent)) (crates : List CrateBuilder)
    → ((file : ℕ) (path : PathContent) → lookup (nat_eq file) files ≡ Some path → paths file ≡ others file)
    → BeginIn files crates → All (λ node. paths node.root_file ≡ others node.root_file) (map entry_node crates)
nodes-alike paths others files [] same begin = All-nil (λ node. paths node.root_file ≡ others node.root_file)
nodes-alike paths others files (krate ∷ crates) same begin =
    let Begins : CrateBuilder → Type 0 = λ k. (path : PathContent) × (lookup (nat_eq k.basic.root_file_id) files ≡ Some path) in
    let first = All-head Begins krate crates begin in
    All-cons (λ (node : Node). paths node.root_file ≡ others node.root_file) (entry_node krate) (map entry_node crates)
    (same krate.basic.root_file_id first.0 first.1) (nodes-alike paths others files crates same (All-tail Begins krate crates begin))

-- nothing is found in no list
none-there : (place krate : ℕ) → slice_get [] place ≡ Some krate → ⊥
none-there place krate at = cc

-- no crates, no entries
pub entries-none : (paths : ℕ → Option (List ℕ)) → entries_of paths [] ≡ []
unfolding sorted
entries-none paths = refl

module _ (live live' : Live) (r : RefreshesLive live live') (s : State) (h : Holds live s) (going : s.ended ≡ false) where
  -- what the flush is of
  abbrev flush : Flush
  flush = flush_of s

  abbrev roots : List FileRoot
  roots = roots_by live.project

  -- the changes of files are taken
  pub files_after : live'.recorded.files ≡ record live.recorded.files { batch = [] }
  files_after = r.recorded.files ∙ ap (λ b. record live.recorded.files { batch = b }) r.taken

  current : IsCurrent live s
  current = h.database going

  same_roots : roots ≡ roots_by flush.project
  same_roots = ap roots_by h.project

  -- the files that exist are those of the flush, by number
  numbers-are : existing_files live.recorded.files ≡ numbers_of_flush flush
  numbers-are = existing_numbered live.recorded.files s.said.marks h.said.texts.follows

  same-paths : map (λ file. file.1) (existing_files live.recorded.files) ≡ paths_of_flush flush
  same-paths = ap (map (λ file. file.1)) numbers-are ∙ map-map (λ (file : ℕ × PathContent). file.1) (λ file. (file.number, file.path)) flush.files

  -- its paths are those of its files with their texts
  texts-paths : map (λ file. file.0) (texts_of_flush flush) ≡ paths_of_flush flush
  texts-paths = map-map (λ (file : PathContent × List ℕ). file.0) (λ (file : LiveFile). (file.path, file.text)) flush.files

  -- a file that lives is found among those that exist
  found : (number : ℕ) (entry : PathContent × FileState) (text : List ℕ)
      → slice_get live.recorded.files.entries number ≡ Some entry → live_text s.said.marks entry.0 ≡ Some text
      → lookup (nat_eq number) (existing_files live.recorded.files) ≡ Some entry.0
  found number entry text at lives =
      existing_found 0 number live.recorded.files.entries entry number at (file_told live.recorded.files s.said.marks h.said.texts.follows number entry text at lives) (omega arith)

  -- its text is in the database
  text_now : (place : PathContent) (number : ℕ) (text : List ℕ) (state : FileState)
      → slice_get live.recorded.files.entries number ≡ Some (place, state) → live_text s.said.marks place ≡ Some text
      → texts_known live'.db number ≡ Some text
  text_now place number text state at lives =
      let distinct : IsDistinct vfs_path_eq (paths_of live.recorded.files) = subst (IsDistinct vfs_path_eq) (sym h.said.texts.follows.numbers) (mentioned_paths-distinct s.said.marks) in
      text_is roots live.recorded.files live.db live'.db r.refreshes number place (found number (place, state) text at lives) text
      current.valid (current.brings.each place number text (number_is live.recorded.files number (place, state) distinct at) lives)

  -- the files that exist are shown as those that live
  files-shown : map (file_image live'.db) (existing_files live.recorded.files) ≡ map (file_shape roots) (texts_of_flush flush)
  files-shown = files_live (file_image live'.db) (file_shape roots) live.recorded.files s.said.marks h.said.texts.follows (λ number entry text at lives. λ i. record {
    path = entry.0;
    text = text_now entry.0 number text entry.1 at lives i;
    place = place_is roots live.recorded.files live.db live'.db r.refreshes number entry.0 (found number entry text at lives) i;
  }) ∙ ap (map (file_shape roots)) (sym (numbered_texts s.said.marks))

  -- the database shows the base of the flush
  base-shown : base_image live'.db ≡ base_shape (roots_by flush.project) (paths_of_flush flush)
  base-shown = base_is roots live.recorded.files live.db live'.db r.refreshes ∙ (λ i. base_shape (same_roots i) (same-paths i))

  -- ---- crates

  -- the crates of the flush
  pub made : (crates : List Crate) × (crates_of_flush flush ≡ Ok crates)
  made =
      let of = graph-crates live.project (existing_files live.recorded.files) r.graph r.lowers in
      (of.0, (λ i. crates_by (sym h.project i) (sym numbers-are i)) ∙ of.1)

  -- a file that exists has one path in the database and in the flush
  path-same : (file : ℕ) (path : PathContent) → lookup (nat_eq file) (existing_files live.recorded.files) ≡ Some path → path_in live'.db.files file ≡ path_by (numbers_of_flush flush) file
  path-same file path there =
      path_is roots live.recorded.files live.db live'.db r.refreshes file path there
      ∙ sym (ap (option_map (λ (p : PathContent). p.text)) there)
      ∙ ap (λ files. option_map (λ (p : PathContent). p.text) (lookup (nat_eq file) files)) numbers-are

  -- the entries that the database shows are those of the crates: the same by whether there is a project, and what the flush was given
  entries-split : (p : Option ProjectContent) (graph : Option Graph) → live.project ≡ p → IsGraphBy p (existing_files live.recorded.files) graph → GivesCrates r.cmp graph live.db live'.db
      → (crates : List Crate) → crates_by p (existing_files live.recorded.files) ≡ Ok crates → entries_shown live'.db ≡ entries flush crates
  entries-split None graph is none given crates are =
      let kept : KeepsDatabaseCrates live.db live'.db = subst (λ g. GivesCrates r.cmp g live.db live'.db) none given in
      let empty : [] ≡ crates = cc in
      no_entries live'.db (kept.listed ∙ current.crates is) ∙ sym (entries-none (path_by (numbers_of_flush flush)))
      ∙ ap (λ (cs : List Crate). entries_of (path_by (numbers_of_flush flush)) (map node_seen cs)) empty
  entries-split (Some p) None is none given crates are = absurd none
  entries-split (Some p) (Some graph) is lowers given crates are =
      let same : map crate_seen graph.crates ≡ crates = let both : Ok (map crate_seen graph.crates) ≡ Ok crates = sym lowers.crates ∙ are in cc in
      entries_after_set r.cmp graph.crates given.before live'.db given.ids given.set.set (path_in live'.db.files)
      ∙ entries_alike (path_in live'.db.files) (path_by (numbers_of_flush flush)) (map entry_node graph.crates)
      (nodes-alike (path_in live'.db.files) (path_by (numbers_of_flush flush)) (existing_files live.recorded.files) graph.crates path-same lowers.begins)
      ∙ ap (entries_of (path_by (numbers_of_flush flush))) (nodes-seen graph.crates ∙ ap (map node_seen) same)

  entries-are : entries_shown live'.db ≡ entries flush made.0
  unfolding made graph-crates
  entries-are =
      let of = graph-crates live.project (existing_files live.recorded.files) r.graph r.lowers in
      entries-split live.project r.graph refl r.lowers r.crates of.0 of.1

  -- the page of the database is that of the flush
  pub page_shown : page_of live'.db ≡ page (record { flush = flush; crates = made.0 })
  unfolding page
  page_shown = page_is roots live.recorded.files live.db live'.db r.refreshes
      ∙ (λ i. placed.page_of_entries (same_roots i) (same-paths i) (entries-are i))

  -- so the turn writes it
  pub turn_is : flush_turn s ≡ flushed_turn s flush (Ok made.0)
  turn_is = ap (flushed_turn s flush) made.1

  -- ---- what is shown, and what is held

  -- the list names each crate once and after its dependencies, and the crates are those of the project
  listed-split : (p : Option ProjectContent) (graph : Option Graph) → live.project ≡ p → IsGraphBy p (existing_files live.recorded.files) graph → GivesCrates r.cmp graph live.db live'.db
      → ListsInOrder live'.db × ShowsCrates live'.db p (existing_files live.recorded.files)
  unfolding IsDistinct
  listed-split None graph is none given =
      let kept : KeepsDatabaseCrates live.db live'.db = subst (λ g. GivesCrates r.cmp g live.db live'.db) none given in
      let empty : live'.db.listed ≡ [] = kept.listed ∙ current.crates is in
      (record { once = rw empty tt; behind = λ place krate dep input at. absurd (none-there place krate (ap (λ l. slice_get l place) (sym empty) ∙ at)) }, empty)
  listed-split (Some p) None is none given = absurd none
  listed-split (Some p) (Some graph) is lowers given = (
    lists_in_order r.cmp graph.crates given.before live'.db given.ids given.set.set,
    shows_project r.cmp p (existing_files live.recorded.files) graph given.before live'.db given.ids given.set.set lowers,
  )

  pub shows_shape : ShowsShape live' s
  shows_shape =
      let listed = listed-split live.project r.graph refl r.lowers r.crates in record {
        shows = ap (image live'.db) files_after ∙ (λ i. record {
          base = (base-shown ∙ ap (base_shape (roots_by flush.project)) (sym texts-paths)) i;
          files = files_sorted ((files-shown ∙ ap (λ rs. map (file_shape rs) (texts_of_flush flush)) same_roots) i);
        });
        order = listed.0;
        crates = subst (λ files. ShowsCrates live'.db s.project files) numbers-are (subst (λ p. ShowsCrates live'.db p (existing_files live.recorded.files)) h.project listed.1);
      }

  -- what the session holds then is the state after the flush, but for what is kept of it
  module _ (after : Live) (last : LastFlush) (keeps : KeepsLast live last) (is : IsStored live' after last) where
    files_stored : after.recorded.files ≡ record live.recorded.files { batch = [] }
    files_stored = ap (λ rec. rec.files) is.recorded ∙ files_after

    last-is : IsLast (paths_of after.recorded.files) last (record { flush = flush; crates = made.0 })
    last-is =
        let same : paths_of after.recorded.files ≡ paths_of live.recorded.files = ap paths_of files_stored in
        record {
          within = subst (λ places. length last.texts ≤ length places) (sym same) (omega (arith, rows_few));
          files = ap (λ places. files_kept 0 places last.texts) same ∙ ap (files_kept 0 (paths_of live.recorded.files)) keeps.texts
              ∙ ap (λ places. files_kept 0 places live.recorded.texts) (sym (append-nil (paths_of live.recorded.files)))
              ∙ files_kept-live live.recorded.files live.recorded.texts s.said.marks [] h.said.texts;
          project = keeps.project ∙ h.project;
        }
      where
        -- there are as many rows as paths
        rows_few : length last.texts ≡ length (paths_of live.recorded.files)
        rows_few = ap length keeps.texts ∙ ap length h.said.texts.texts ∙ length-map _ _ ∙ ap length (sym h.said.texts.follows.numbers)

    pub holds_flush : Holds after (record s { flushed = Some (record { flush = flush; crates = made.0 }) })
    holds_flush = record {
      said = subst (λ rec. HoldsSaid rec s.said) (sym is.recorded) (holds_spared live.recorded live'.recorded s.said h.said r.recorded);
      project = is.project ∙ r.project ∙ h.project;
      flushed = subst (λ kept. KeepsFlush (paths_of after.recorded.files) kept (Some (record { flush = flush; crates = made.0 }))) (sym is.flushed) last-is;
      ended = is.ended ∙ r.ended ∙ h.ended;
      database = λ _. record {
        brings = rw is.db (subst (λ f. BringsTo f (texts_known live'.db) s.said.marks) (sym files_stored) (record {
          each = λ place number text has lives.
              let slot = slot_of live.recorded.files place number has in text_now place number text slot.state slot.entry lives;
        }));
        valid = ap (λ f. all_pass is_utf8 f.batch) files_stored;
        shown = rw is.db base-shown;
        crates = λ none. rw is.db (subst (λ p. ShowsCrates live'.db p (existing_files live.recorded.files)) (sym (is.project ∙ r.project) ∙ none)
            (listed-split live.project r.graph refl r.lowers r.crates).1);
      };
    }
