-- Each crate begins in one of the files that a loader has: what holds of the number of each of these files holds of the root of each crate.
use Rattle.std.proofs.Common.{◌≡◌, ℕ, ◌+◌, ◌≤◌, true, false, cond, List, [], ◌∷◌, Option, Some, None, Result, Ok, Err, IfOk, IfSome, get_or, length, map, nat_eq, sym, ap, subst, ◌∙◌, arith}
use Rattle.std.specs.List.{All, enumerate_from, fold}
use Rattle.std.specs.Map.{lookup}
use Rattle.std.specs.Option.{option_and_then, option_map, option_to_list}
use Rattle.std.specs.Prelude.{slice_get}
use Rattle.std.proofs.lemmas.Bool.{cond_both}
use Rattle.std.proofs.lemmas.Bool.Decides.{nat_tests}
use Rattle.std.proofs.lemmas.List.Elements.{All-append, All-cons, All-head, All-map, All-nil, All-tail, All-weaker}
use Rattle.std.proofs.lemmas.Map.Entries.{All-lookup}
use Rattle.indexmap.specs.IndexMap.{insert_entry}
use Rattle.base_text_paths.specs.Arena.{number_of}
use Rattle.base_text_paths.specs.declared.arena.Idx.{Idx}
use Rattle.base_text_paths.specs.PathOrder.{path_eq}
use Rattle.crate_graph.specs.Graph.{Graph}
use Rattle.crate_graph_values.specs.declared.builder.CrateBuilder.{CrateBuilder}
use Rattle.pm_cargo.specs.Workspace.{Workspace}
use Rattle.pm_lower_crates.specs.DetachedLowering as detached
use Rattle.pm_json.specs.Queries.{crates_in}
use Rattle.pm_json.specs.declared.krate.Crate as document
use Rattle.pm_json.specs.declared.project_json.ProjectJson.{ProjectJson}
use Rattle.pm_lower_crates.specs.JsonLowering as json
use Rattle.pm_lower_crates.specs.JsonRows as json_rows
use Rattle.pm_lower_crates.specs.Loader as by_path
use Rattle.pm_lower.specs.ProjectWorkspace.{script_workspace}
use Rattle.pm_lower.specs.ToCrateGraph.{facts_with, kind_rows, project_rows, shared_of}
use Rattle.pm_lower.specs.declared.project_workspace.ProjectWorkspace.{ProjectWorkspace}
use Rattle.pm_lower.specs.declared.project_workspace.ProjectWorkspaceKind.{ProjectWorkspaceKind}
use Rattle.pm_lower.specs.declared.project_workspace.ProjectWorkspaceKind.TheVariants.{Cargo, Json, DetachedFile}
use Rattle.pm_cargo_packages.specs.declared.package.PackageData.{PackageData}
use Rattle.pm_cargo_packages.specs.declared.target.TargetData.{TargetData}
use Rattle.pm_cargo_packages.specs.declared.target.TargetTag.{TargetTag}
use Rattle.pm_lower_crates.specs.Facts.{Facts}
use Rattle.pm_lower_crates.specs.KeptEdges.{deps_of, kept_edges}
use Rattle.pm_lower_crates.specs.Lowering.{Crate, IsLowered, ProjectPart, both, cargo_rows, crate_seen, crates_from, lowered, no_project_part, refusal, row_crate, unless_refused, wanted_edges, with_deps}
use Rattle.pm_lower_crates.specs.Rows.{Row, live_target, live_targets, may_be_row, owner, owners_from, root_file, row_at, rows_from, rows_of}
use Rattle.pm_lower_crates.specs.WantedEdges.{Edge, Public, no_public}
use Rattle.pm_lower_crates.specs.declared.lower_error.LowerError.{LowerError}
use Rattle.vfs_core.specs.declared.file_state.FileState.{FileState}
use Rattle.vfs_core.specs.FileState.{is_existing}
use Rattle.vfs_core.specs.Files.{Files, existing_files, existing_files_from}
use Rattle.vfs_core.specs.VfsPath.{PathContent}
use Rattle.live_project.specs.Crates.{BeginIn, files_by_path, lowered_by, with_live_file}
use Rattle.live_project.specs.Project.{ProjectContent}

-- ---- the files of a loader

module _ (P : ℕ → Type 0) where
  -- what holds of the number of each file
  abbrev AllFiles : by_path.FileNumbers → Type 0
  AllFiles files = All (λ e. P e.1) files

  insert-all : (files : by_path.FileNumbers) (path : List ℕ) (file : ℕ) → P file → AllFiles files → AllFiles (insert_entry path_eq files path file)
  insert-all [] path file p all = All-cons (λ e. P e.1) (path, file) [] p all
  insert-all (e ∷ files) path file p all =
      let rest = All-tail (λ e. P e.1) e files all in
      cond_both (path_eq path e.0) ((e.0, file) ∷ files) (e ∷ insert_entry path_eq files path file) AllFiles
      (λ same. All-cons (λ e. P e.1) (e.0, file) files p rest)
      (λ other. All-cons (λ e. P e.1) e (insert_entry path_eq files path file) (All-head (λ e. P e.1) e files all) (insert-all files path file p rest))

  with_live_file-all : (files : by_path.FileNumbers) (file : ℕ × PathContent) → P file.0 → AllFiles files → AllFiles (with_live_file files file)
  with_live_file-all files file p all =
      cond_both file.1.is_virtual files (by_path.with_numbered_file files file.1.text file.0) AllFiles
      (λ virtual. all) (λ real. insert-all files (by_path.path_key file.1.text) file.0 p all)

  -- files that are put in one after the other
  put-all : (before : by_path.FileNumbers) (files : List (ℕ × PathContent)) → AllFiles before → All (λ file. P file.0) files → AllFiles (fold with_live_file before files)
  put-all before [] all each = all
  put-all before (file ∷ files) all each =
      put-all (with_live_file before file) files (with_live_file-all before file (All-head (λ f. P f.0) file files each) all) (All-tail (λ f. P f.0) file files each)

  -- ---- the rows of a project, and its crates

  -- the rows of a part begin in such files
  abbrev PartBegins : ProjectPart → Type 0
  PartBegins part = All (λ (krate : Crate). P krate.root) part.rows

  with-deps : (kept : List Edge) (n : ℕ) (bare : List Crate) → All (λ (krate : Crate). P krate.root) bare → All (λ (krate : Crate). P krate.root) (with_deps kept n bare)
  with-deps kept n [] all = All-nil (λ (krate : Crate). P krate.root)
  with-deps kept n (c ∷ cs) all =
      All-cons (λ (krate : Crate). P krate.root) (record c { deps = deps_of kept n }) (with_deps kept (n + 1) cs)
      (All-head (λ (krate : Crate). P krate.root) c cs all) (with-deps kept (n + 1) cs (All-tail (λ (krate : Crate). P krate.root) c cs all))

  crates-begin : (n : ℕ) (part : ProjectPart) → PartBegins part → All (λ (krate : Crate). P krate.root) (crates_from n part)
  unfolding crates_from
  crates-begin n part all = with-deps (kept_edges (wanted_edges part)) n part.rows all

  unless-begins : (refused : Option LowerError) (crates : List Crate) → All (λ (krate : Crate). P krate.root) crates → IfOk (unless_refused refused crates) (λ crates. All (λ krate. P krate.root) crates)
  unless-begins None crates all = all
  unless-begins (Some e) crates all = tt

  module _ (files : by_path.FileNumbers) (all : AllFiles files) (w : Workspace) where
    root-of : (of : PackageData) (target : TargetData) → IfSome (root_file files w of target) P
    unfolding root_file
    root-of of target =
        cond_both (may_be_row w of target) (by_path.file_number files target.root) None (λ o. IfSome o P)
        (λ may. All-lookup P (path_eq (by_path.path_key target.root)) files all) (λ other. tt)

    with-target : (target : TargetData) (file : Option ℕ) → IfSome file P → IfSome {T = TargetData × ℕ} (option_map (λ f. (target, f)) file) (λ t. P t.1)
    with-target target None none = tt
    with-target target (Some file) p = p

    target-of : (of : PackageData) (id : Idx TargetTag) → IfSome (live_target files w of id) (λ t. P t.1)
    unfolding live_target
    target-of of id = by (slice_get w.targets (number_of id))
      where
        by : (o : Option TargetData) → IfSome {T = TargetData × ℕ} (option_and_then (λ target. option_map (λ file. (target, file)) (root_file files w of target)) o) (λ t. P t.1)
        by None = tt
        by (Some target) = with-target target (root_file files w of target) (root-of of target)

    one-target : (place : ℕ) (found : Option (TargetData × ℕ)) → IfSome found (λ t. P t.1)
        → All (λ (t : ℕ × TargetData × ℕ). P t.2) (option_to_list (option_map (λ t. (place, t.0, t.1)) found))
    one-target place None none = All-nil (λ (t : ℕ × TargetData × ℕ). P t.2)
    one-target place (Some t) p = All-cons (λ (t : ℕ × TargetData × ℕ). P t.2) (place, t.0, t.1) [] p (All-nil (λ (t : ℕ × TargetData × ℕ). P t.2))

    targets-of : (of : PackageData) (ids : List (ℕ × Idx TargetTag)) → All (λ (t : ℕ × TargetData × ℕ). P t.2) (live_targets files w of ids)
    unfolding live_targets
    targets-of of [] = All-nil (λ (t : ℕ × TargetData × ℕ). P t.2)
    targets-of of (id ∷ ids) =
        All-append (λ (t : ℕ × TargetData × ℕ). P t.2) (option_to_list (option_map (λ t. (id.0, t.0, t.1)) (live_target files w of id.1))) _
        (one-target id.0 (live_target files w of id.1) (target-of of id.1)) (targets-of of ids)

    rows-from : (p : ℕ) (of : PackageData) (n : ℕ) (ts : List (ℕ × TargetData × ℕ)) → All (λ (t : ℕ × TargetData × ℕ). P t.2) ts → All (λ (row : Row). P row.file) (rows_from p of n ts)
    rows-from p of n [] all_ts = All-nil (λ (row : Row). P row.file)
    rows-from p of n (t ∷ ts) all_ts =
        All-cons (λ (row : Row). P row.file) (row_at p of t n) (rows_from p of (n + 1) ts) (All-head (λ (t : ℕ × TargetData × ℕ). P t.2) t ts all_ts) (rows-from p of (n + 1) ts (All-tail (λ (t : ℕ × TargetData × ℕ). P t.2) t ts all_ts))

    owner-rows : (p n : ℕ) (of : PackageData) → All (λ (row : Row). P row.file) (owner files w p n of).rows
    unfolding owner
    owner-rows p n of = rows-from p of n (live_targets files w of (enumerate_from 0 of.targets)) (targets-of of (enumerate_from 0 of.targets))

    owners-rows : (p n : ℕ) (packages : List PackageData) → All (λ (row : Row). P row.file) (rows_of (owners_from files w p n packages))
    owners-rows p n [] = All-nil (λ (row : Row). P row.file)
    owners-rows p n (of ∷ more) =
        All-append (λ (row : Row). P row.file) (owner files w p n of).rows (rows_of (owners_from files w (p + 1) (n + length (owner files w p n of).rows) more))
        (owner-rows p n of) (owners-rows (p + 1) (n + length (owner files w p n of).rows) more)

    cargo-begins : (facts : Facts) (public : Public) (n : ℕ) → PartBegins (cargo_rows files facts public n w)
    unfolding cargo_rows
    cargo-begins facts public n = All-map (λ (krate : Crate). P krate.root) (row_crate facts w) (rows_of (owners_from files w 0 n w.packages)) (owners-rows 0 n w.packages)

  -- ---- the crates of a JSON project, and that of a detached file

  module _ (files : by_path.FileNumbers) (all : AllFiles files) where
    json-row : (k n : ℕ) (krate : document.Crate) → All (λ (row : json_rows.JsonRow). P row.file) (option_to_list (json_rows.json_row files k n krate))
    unfolding Rattle.pm_lower_crates.specs.JsonRows.json_row
    json-row k n krate = by (by_path.file_number files krate.root_module) (All-lookup P (path_eq (by_path.path_key krate.root_module)) files all)
      where
        by : (file : Option ℕ) → IfSome file P → All (λ (row : json_rows.JsonRow). P row.file) (option_to_list (option_map (json_rows.row_in k n krate) file))
        by None none = All-nil (λ (row : json_rows.JsonRow). P row.file)
        by (Some file) p = All-cons (λ (row : json_rows.JsonRow). P row.file) (json_rows.row_in k n krate file) [] p (All-nil (λ (row : json_rows.JsonRow). P row.file))

    json-rows : (k n : ℕ) (crates : List document.Crate) → All (λ (row : json_rows.JsonRow). P row.file) (json_rows.rows_among (json_rows.json_rows_from files k n crates))
    json-rows k n [] = All-nil (λ (row : json_rows.JsonRow). P row.file)
    json-rows k n (krate ∷ crates) =
        let row = json_rows.json_row files k n krate in
        let next = n + length (option_to_list row) in
        All-append (λ (row : json_rows.JsonRow). P row.file) (option_to_list row) (json_rows.rows_among (json_rows.json_rows_from files (k + 1) next crates)) (json-row k n krate) (json-rows (k + 1) next crates)

    json-begins : (facts : Facts) (public : Public) (n : ℕ) (project : ProjectJson) → PartBegins (json.json_rows files facts public n project)
    unfolding Rattle.pm_lower_crates.specs.JsonLowering.json_rows
    json-begins facts public n project =
        All-map (λ (krate : Crate). P krate.root) (json.json_row_crate facts project) (json_rows.rows_among (json_rows.rows_by_place files n project)) (json-rows 0 n (crates_in project))

    alone-begins : (facts : Facts) (public : Public) (n : ℕ) (file : List ℕ) (number : Option ℕ) → IfSome number P → PartBegins (detached.file_part facts public n file number)
    alone-begins facts public n file None none = All-nil (λ (krate : Crate). P krate.root)
    alone-begins facts public n file (Some number) p = All-cons (λ (krate : Crate). P krate.root) (detached.file_crate facts file number) [] p (All-nil (λ (krate : Crate). P krate.root))

    detached-begins : (facts : Facts) (public : Public) (n : ℕ) (file : List ℕ) (cargo : Option Workspace) → PartBegins (detached.detached_rows files facts public n file cargo)
    detached-begins facts public n file None = alone-begins facts public n file (by_path.file_number files file) (All-lookup P (path_eq (by_path.path_key file)) files all)
    detached-begins facts public n file (Some w) = cargo-begins files all w facts public n

    kind-begins : (facts : Facts) (public : Public) (n : ℕ) (kind : ProjectWorkspaceKind) → PartBegins (kind_rows files facts public n kind)
    kind-begins facts public n (Cargo cargo error scripts rustc) = cargo-begins files all cargo facts public n
    kind-begins facts public n (Json project) = json-begins facts public n project
    kind-begins facts public n (DetachedFile file script) = detached-begins facts public n file (script_workspace script)

    project-begins : (limit : ℕ) (p : ProjectWorkspace) → IfOk (lowered limit no_project_part 0 (project_rows files p)) (λ crates. All (λ krate. P krate.root) crates)
    unfolding lowered
    project-begins limit p =
        let part = both no_project_part (project_rows files p) in
        unless-begins (refusal limit no_project_part 0 (project_rows files p)) (crates_from 0 part) (crates-begin 0 part (kind-begins (facts_with (shared_of p) p.kind) no_public 0 p.kind))

  -- the crates of a graph as the definition has them
  seen-begins : (crates : List CrateBuilder) → All (λ krate. P krate.root) (map crate_seen crates) → All (λ krate. P krate.basic.root_file_id) crates
  seen-begins [] all = All-nil (λ krate. P krate.basic.root_file_id)
  seen-begins (krate ∷ crates) all =
      All-cons (λ (krate : CrateBuilder). P krate.basic.root_file_id) krate crates
      (All-head (λ (krate : Crate). P krate.root) (crate_seen krate) (map crate_seen crates) all)
      (seen-begins crates (All-tail (λ (krate : Crate). P krate.root) (crate_seen krate) (map crate_seen crates) all))

-- ---- the files that exist

-- their numbers are at least the one from which they are counted
numbers-from : (number : ℕ) (entries : List (PathContent × FileState)) → All (λ file. number ≤ file.0) (existing_files_from number entries)
numbers-from number [] = All-nil (λ file. number ≤ file.0)
numbers-from number (entry ∷ entries) =
    let rest = existing_files_from (number + 1) entries in
    let above : All (λ (file : ℕ × PathContent). number ≤ file.0) rest =
    All-weaker (λ (file : ℕ × PathContent). number + 1 ≤ file.0) (λ file. number ≤ file.0) (λ file h. omega (arith, h)) rest (numbers-from (number + 1) entries) in
    cond_both (is_existing entry.1) ((number, entry.0) ∷ rest) rest (All (λ (file : ℕ × PathContent). number ≤ file.0))
    (λ exists. All-cons (λ (file : ℕ × PathContent). number ≤ file.0) (number, entry.0) rest (omega arith) above) (λ gone. above)

-- a file among those that are found, of which the first has a lower number
found-behind : (number : ℕ) (path : PathContent) (files : List (ℕ × PathContent)) → All (λ file. number + 1 ≤ file.0) files
    → All (λ file. lookup (nat_eq file.0) files ≡ Some file.1) files → All (λ file. lookup (nat_eq file.0) ((number, path) ∷ files) ≡ Some file.1) files
found-behind number path files above found k d within =
    let less : number + 1 ≤ (get_or files k d).0 = above k d within in
    let other : nat_eq (get_or files k d).0 number ≡ false = grind (arith, nat_tests) in
    ap (λ b. cond b (Some path) (lookup (nat_eq (get_or files k d).0) files)) other ∙ found k d within

-- each of them is found by its number
numbers-found : (number : ℕ) (entries : List (PathContent × FileState))
    → All (λ file. lookup (nat_eq file.0) (existing_files_from number entries) ≡ Some file.1) (existing_files_from number entries)
numbers-found number [] = All-nil (λ file. lookup (nat_eq file.0) [] ≡ Some file.1)
numbers-found number (entry ∷ entries) =
    let rest = existing_files_from (number + 1) entries in
    let found = numbers-found (number + 1) entries in
    cond_both (is_existing entry.1) ((number, entry.0) ∷ rest) rest (λ files. All (λ file. lookup (nat_eq file.0) files ≡ Some file.1) files)
    (λ exists. All-cons (λ file. lookup (nat_eq file.0) ((number, entry.0) ∷ rest) ≡ Some file.1) (number, entry.0) rest
    (let own : nat_eq number number ≡ true = grind (arith, nat_tests) in ap (λ b. cond b (Some entry.0) (lookup (nat_eq number) rest)) own)
    (found-behind number entry.0 rest (numbers-from (number + 1) entries) found))
    (λ gone. found)

-- a file exists under this number
abbrev IsFound : List (ℕ × PathContent) → ℕ → Type 0
IsFound files number = (path : PathContent) × (lookup (nat_eq number) files ≡ Some path)

-- each crate of a lowered project begins in a file that exists
pub begin_in : (p : ProjectContent) (files : Files) (loader : by_path.FileNumbers) (limit : ℕ) (result : Result Graph LowerError)
    → loader ≡ files_by_path (existing_files files) → IsLowered limit result (lowered_by p loader).crates
    → IfOk result (λ graph. BeginIn (existing_files files) graph.crates)
unfolding files_by_path
begin_in p files loader limit (Ok graph) is lowered =
    let shown = existing_files files in
    let found : All (λ file. IsFound shown file.0) shown = λ k d within. ((get_or shown k d).1, numbers-found 0 files.entries k d within) in
    let all : All (λ e. IsFound shown e.1) loader = subst (All (λ (e : List ℕ × ℕ). IsFound shown e.1)) (sym is) (put-all (IsFound shown) [] shown (All-nil (λ e. IsFound shown e.1)) found) in
    seen-begins (IsFound shown) graph.crates
    (subst (λ r. IfOk r (λ crates. All (λ krate. IsFound shown krate.root) crates)) lowered.crates_are
    (project-begins (IsFound shown) loader all p.sources.config.limits.crates p.workspace))
begin_in p files loader limit (Err error) is lowered = tt
