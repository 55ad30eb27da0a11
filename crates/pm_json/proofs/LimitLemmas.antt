-- What the reading of a JSON project's document says of limits: that of crates is the one that it names, and it leaves no more crates.
use Rattle.std.proofs.Common.{◌≡◌, ℕ, suc, ◌≤◌, Bool, true, false, cond, List, [], ◌∷◌, Option, Some, None, Result, Ok, Err, length, refl, sym, ap, subst, ◌∙◌, arith}
use Rattle.std.specs.Option.{option_map}
use Rattle.std.specs.Prelude.{nat_lt, IfErr, IfOk}
use Rattle.std.proofs.lemmas.Bool.Decides.{nat_tests}
use Rattle.base_text_paths.specs.Paths.{parent_text}
use Rattle.base_text_outside.specs.declared.limits.Limit.{Limit}
use Rattle.base_text_outside.specs.declared.limits.Limit.TheVariants.{Crates}
use Rattle.pm_json.specs.Crates.{Groups, absolute_from, project_crate, crates_on_base, folder_of_parent, folders_of, head_on_base}
use Rattle.pm_json.specs.Project.{OnBase, level_read, level_within_limit, project_of, sysroot_project_of}
use Rattle.pm_json.specs.Queries.{crates_in}
use Rattle.base_values.specs.Outcome.{◌>>=◌}
use Rattle.pm_json.specs.Refusals.{Reading, under, Gives, NamesCrateLimit}
use Rattle.pm_json.specs.declared.krate.Crate.{Crate}
use Rattle.pm_json.specs.declared.project_json.ProjectJson.{ProjectJson}
use Rattle.pm_json.specs.declared.project_json.ProjectJson.TheOpen.{ProjectJson-F}
use Rattle.pm_json.specs.declared.project_json.ProjectJson.TheViews.{out-roll-ProjectJson, roll-ProjectJson}
use Rattle.pm_json.specs.declared.workspace_json_error.WorkspaceJsonError.{WorkspaceJsonError}
use Rattle.pm_json.specs.declared.workspace_json_error.WorkspaceJsonError.TheVariants.{TooMany, NoParent, OutOfMemory}
use Rattle.pm_json.specs.declared.crate_data.CrateData.{CrateData}
use Rattle.pm_json.specs.declared.parts.CrateSource.{CrateSource}
use Rattle.pm_json.specs.declared.project_json_data.ProjectJsonData.{ProjectJsonData}
use Rattle.pm_json.specs.declared.project_json_data.ProjectJsonData.TheFolds.{fold_out-ProjectJsonData, fold-roll-ProjectJsonData, ind-ProjectJsonData, map-ProjectJsonData}
use Rattle.pm_json.specs.declared.project_json_data.ProjectJsonData.TheOpen.{ProjectJsonData-F}

-- ---- which limit a refusal names

-- a reading that names a limit names that of crates
abbrev pub NamesCrates : {T : Type 0} → Reading T → Type 0
NamesCrates r = (limit : Limit) → r ≡ Err (TooMany limit) → Crates ≡ limit

names_ok : {T : Type 0} (x : T) → NamesCrates (Ok x)
names_ok x limit is = absurd (cc)

names_parent : {T : Type 0} (text : List ℕ) → NamesCrates {T = T} (Err (NoParent text))
names_parent text limit is = absurd (cc)

names_many : {T : Type 0} → NamesCrates {T = T} (Err (TooMany Crates))
names_many limit is = let same : Crates ≡ limit = cc in same

names_bind : {A B : Type 0} (part : Reading A) (rest : A → Reading B) → NamesCrates part → ((x : A) → NamesCrates (rest x)) → NamesCrates (part >>= rest)
names_bind (Ok x) rest first more limit is = more x limit is
names_bind (Err e) rest first more limit is = first limit (let same : e ≡ TooMany limit = cc in ap Err same)

names_under : {A B : Type 0} (f : A → B) (r : Reading A) → NamesCrates r → NamesCrates (under f r)
names_under f (Ok x) names limit is = absurd (cc)
names_under f (Err e) names limit is = names limit (let same : e ≡ TooMany limit = cc in ap Err same)

names_if : {T : Type 0} (b : Bool) (r q : Reading T) → NamesCrates r → NamesCrates q → NamesCrates (cond b r q)
names_if true r q first second = first
names_if false r q first second = second

names_folder : (root : List ℕ) (parent : Option (List ℕ)) → NamesCrates (folder_of_parent root parent)
names_folder root None = names_parent root
names_folder root (Some parent) = names_ok _

names_folders : (base root : List ℕ) (source : Option CrateSource) → NamesCrates (folders_of base root source)
names_folders base root None = names_folder root (parent_text root)
names_folders base root (Some source) = names_ok _

names_head : (base : List ℕ) (stated : CrateData) → NamesCrates (head_on_base base stated)
unfolding head_on_base
names_head base stated =
    names_bind (folders_of base (absolute_from base stated.root_module) stated.source) _ (names_folders base (absolute_from base stated.root_module) stated.source) (λ folders. names_ok _)

names_crate : (base : List ℕ) (groups : Groups) (stated : CrateData) → NamesCrates (project_crate base groups stated)
unfolding project_crate
names_crate base groups stated = names_bind (head_on_base base stated) _ (names_head base stated) (λ head. names_ok _)

names_crates_of : (base : List ℕ) (groups : Groups) (stated : List CrateData) → NamesCrates (crates_on_base base groups stated)
names_crates_of base groups [] = names_ok []
names_crates_of base groups (c ∷ cs) =
    names_bind (project_crate base groups c) _ (names_crate base groups c) (λ krate. names_under (λ crates. krate ∷ crates) (crates_on_base base groups cs) (names_crates_of base groups cs))

-- a project that is read on any base
abbrev NamesOn : OnBase → Type 0
NamesOn read = (manifest : Option (List ℕ)) (base : List ℕ) → NamesCrates (read manifest base)

names_inner : (source : Option (List ℕ)) (inner : Option OnBase) → ((read : OnBase) → inner ≡ Some read → NamesOn read) → NamesCrates (sysroot_project_of source inner)
names_inner None inner names = names_ok None
names_inner (Some source) None names = names_ok None
names_inner (Some source) (Some read) names = names_under Some (read None source) (names read refl None source)

-- the inner document of one level whose inner documents are replaced
mapped : (Y Z : Type 0) (h : Y → Z) (level : ProjectJsonData-F Y) → (map-ProjectJsonData Y Z h level).sysroot_project ≡ option_map h level.sysroot_project
mapped Y Z h level = by level.sysroot_project
  where
    by : (o : Option Y) → (map-ProjectJsonData Y Z h (record level { sysroot_project = o })).sysroot_project ≡ option_map h o
    by None = refl
    by (Some inner) = refl

module _ (limit : ℕ) where
  names_level : (stated : ProjectJsonData-F OnBase) → ((read : OnBase) → stated.sysroot_project ≡ Some read → NamesOn read) → NamesOn (level_within_limit limit stated)
  unfolding level_within_limit level_read
  names_level stated inner manifest base =
      names_if (nat_lt limit (length stated.crates)) (Err (TooMany Crates)) (level_read stated manifest base) names_many
      (names_bind (crates_on_base base stated.cfg_groups stated.crates) _ (names_crates_of base stated.cfg_groups stated.crates) (λ crates.
      names_bind (sysroot_project_of (option_map (absolute_from base) stated.sysroot_src) stated.sysroot_project) _
      (names_inner (option_map (absolute_from base) stated.sysroot_src) stated.sysroot_project inner) (λ sysroot_project. names_ok _)))

  -- a document, with a proof of the same of its project
  abbrev Named : Type 0
  Named = (p : ProjectJsonData) × NamesOn (project_of limit p)

  with_inner : (o : Option Named) (read : OnBase) → option_map (project_of limit) (option_map (λ (e : Named). e.0) o) ≡ Some read → NamesOn read
  with_inner None read is = absurd (cc)
  with_inner (Some e) read is = subst NamesOn (let same : project_of limit e.0 ≡ read = cc in same) e.1

  -- y is x with a proof beside the inner document
  inner_named : (x : ProjectJsonData-F ProjectJsonData) (y : ProjectJsonData-F Named) → map-ProjectJsonData Named ProjectJsonData (λ e. e.0) y ≡ x
      → (read : OnBase) → (map-ProjectJsonData ProjectJsonData OnBase (project_of limit) x).sysroot_project ≡ Some read → NamesOn read
  inner_named x y is read e =
      let inner : option_map (λ (e : Named). e.0) y.sysroot_project ≡ x.sysroot_project =
      sym (mapped Named ProjectJsonData (λ e. e.0) y) ∙ ap (λ (z : ProjectJsonData-F ProjectJsonData). z.sysroot_project) is in
      with_inner y.sysroot_project read (ap (option_map (project_of limit)) inner ∙ sym (mapped ProjectJsonData OnBase (project_of limit) x) ∙ e)

  -- a document that is refused by a limit is refused by that of crates
  pub names_crates : (stated : ProjectJsonData) → NamesOn (project_of limit stated)
  names_crates = ind-ProjectJsonData (λ p. NamesOn (project_of limit p)) (λ x y is.
      subst NamesOn (sym (fold-roll-ProjectJsonData OnBase (level_within_limit limit) x))
      (names_level (map-ProjectJsonData ProjectJsonData OnBase (project_of limit) x) (inner_named x y is)))

-- ---- how many crates are left

length-crates_of : (base : List ℕ) (groups : Groups) (stated : List CrateData) (crates : List Crate) → crates_on_base base groups stated ≡ Ok crates → length crates ≡ length stated
length-crates_of base groups [] crates is = let same : [] ≡ crates = cc in ap length (sym same)
length-crates_of base groups (c ∷ cs) crates is = by (project_crate base groups c) (crates_on_base base groups cs) (length-crates_of base groups cs) is
  where
    by : (first : Reading Crate) (rest : Reading (List Crate)) → ((others : List Crate) → rest ≡ Ok others → length others ≡ length cs)
        → (first >>= λ krate. under (λ crates. krate ∷ crates) rest) ≡ Ok crates → length crates ≡ length (c ∷ cs)
    by (Err e) rest counts both = absurd (cc)
    by (Ok krate) (Err e) counts both = absurd (cc)
    by (Ok krate) (Ok others) counts both =
        let all : krate ∷ others ≡ crates = cc in
        ap length (sym all) ∙ ap suc (counts others refl)

module _ (limit : ℕ) where
  few_level : (stated : ProjectJsonData-F OnBase) (manifest : Option (List ℕ)) (base : List ℕ) (project : ProjectJson) → level_within_limit limit stated manifest base ≡ Ok project
      → length (crates_in project) ≤ limit
  unfolding level_within_limit level_read
  few_level stated manifest base project is =
      by (nat_lt limit (length stated.crates)) refl (crates_on_base base stated.cfg_groups stated.crates) refl
      (sysroot_project_of (option_map (absolute_from base) stated.sysroot_src) stated.sysroot_project) is
    where
      made : List Crate → Option ProjectJson → ProjectJson-F ProjectJson
      made crates sysroot_project = record {
        sysroot = option_map (absolute_from base) stated.sysroot;
        sysroot_src = option_map (absolute_from base) stated.sysroot_src;
        sysroot_project = sysroot_project;
        project_root = base;
        manifest = manifest;
        crates = crates;
        runnables = stated.runnables;
      }

      by : (more : Bool) → nat_lt limit (length stated.crates) ≡ more → (crates : Reading (List Crate)) → crates_on_base base stated.cfg_groups stated.crates ≡ crates
          → (inner : Reading (Option ProjectJson))
          → cond more (Err (TooMany Crates)) (crates >>= λ cs. inner >>= λ p. Ok (roll-ProjectJson (made cs p))) ≡ Ok project → length (crates_in project) ≤ limit
      by true past crates are inner both = absurd (cc)
      by false few (Err e) are inner both = absurd (cc)
      by false few (Ok cs) are (Err e) both = absurd (cc)
      by false few (Ok cs) are (Ok p) both =
          let same : roll-ProjectJson (made cs p) ≡ project = cc in
          let own : length (crates_in project) ≡ length cs = ap (λ q. length (crates_in q)) (sym same) ∙ ap (λ (l : ProjectJson-F ProjectJson). length l.crates) (out-roll-ProjectJson (made cs p)) in
          let count = length-crates_of base stated.cfg_groups stated.crates cs are in
          let within : length stated.crates ≤ limit = grind (arith, nat_tests, few) in
          omega (arith, own, count, within)

  -- a project that is read has at most as many crates as the limit
  pub few_in_project : (stated : ProjectJsonData) (manifest : Option (List ℕ)) (base : List ℕ) (project : ProjectJson) → project_of limit stated manifest base ≡ Ok project
      → length (crates_in project) ≤ limit
  few_in_project stated manifest base project =
      subst (λ (read : OnBase). read manifest base ≡ Ok project → length (crates_in project) ≤ limit)
      (sym (fold_out-ProjectJsonData OnBase (level_within_limit limit) stated)) (few_level _ manifest base project)

-- ---- what a call answers

-- the limit that a call names, where it is refused
pub limit_given : (limit : ℕ) (stated : ProjectJsonData) (manifest : Option (List ℕ)) (base : List ℕ) (result : Result ProjectJson WorkspaceJsonError)
    → Gives result (project_of limit stated manifest base) → IfErr result NamesCrateLimit
limit_given limit stated manifest base (Ok project) h = tt
limit_given limit stated manifest base (Err (TooMany named)) h = sym (names_crates limit stated manifest base named h)
limit_given limit stated manifest base (Err (NoParent text)) h = tt
limit_given limit stated manifest base (Err OutOfMemory) h = tt

-- how many crates a call gives
pub few_given : (limit : ℕ) (stated : ProjectJsonData) (manifest : Option (List ℕ)) (base : List ℕ) (result : Result ProjectJson WorkspaceJsonError)
    → Gives result (project_of limit stated manifest base) → IfOk result (λ p. length (crates_in p) ≤ limit)
few_given limit stated manifest base (Ok project) h = few_in_project limit stated manifest base project h
few_given limit stated manifest base (Err e) h = tt
