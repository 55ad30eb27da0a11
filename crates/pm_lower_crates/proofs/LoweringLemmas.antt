-- What the lowering of a part comes to, by its rows, its names and its crates.
use Rattle.std.proofs.Common.{◌≡◌, ℕ, ◌+◌, ◌<◌, ◌≤◌, List, [], ◌∷◌, ◌++◌, map, length, Some, None, slice_get, sym, ap, ◌∙◌, arith, if◌then◌else◌}
use Rattle.std.specs.List.{All}
use Rattle.std.specs.Option.{option_or}
use Rattle.std.specs.Prelude.{Result, Ok, Err}
use Rattle.std.proofs.lemmas.Bool.{le-ltb, lt-ltb}
use Rattle.std.proofs.lemmas.List.{length-map}
use Rattle.std.proofs.lemmas.List.Elements.{All-cons, All-nil}
use Rattle.base_text_outside.specs.declared.limits.Limit.TheVariants.{Bytes, Paths, Packages, Targets, Crates}
use Rattle.crate_graph.specs.Graph.{Graph}
use Rattle.pm_lower_crates.specs.KeptEdges.{kept_edges}
use Rattle.pm_lower_crates.specs.Lowering.{Crate, HasCratesBehind, IsLowered, IsLoweredBehind, ProjectPart, bad_name, crate_seen, crates_from, lowered, lowered_behind, no_project_part, part_refusal, unless_refused, wanted_edges, with_deps}
use Rattle.pm_lower_crates.specs.Refusal.{IfBadName, IfTooMany, Refuses}
use Rattle.pm_lower_crates.specs.WantedEdges.{Edge}
use Rattle.pm_lower_crates.specs.declared.lower_error.LowerError.{LowerError}
use Rattle.pm_lower_crates.specs.declared.lower_error.LowerError.TheVariants.{BadCrateName, TooMany, OutOfMemory}

first_bad_name : (names : List (List ℕ)) (name : List ℕ) → slice_get names 0 ≡ Some name → bad_name names ≡ Some (BadCrateName name)
first_bad_name [] name is = cc
first_bad_name (n ∷ ns) name is = let same : n ≡ name = cc in ap (λ x. Some (BadCrateName x)) same

module _ (limit n : ℕ) (part : ProjectPart) where
  behind_past : limit < n + length part.rows → lowered_behind limit n part ≡ Err (TooMany Crates)
  unfolding part_refusal
  behind_past past =
      ap (λ b. unless_refused (option_or (if b then Some (TooMany Crates) else None) (bad_name part.bad_names)) (crates_from n part)) (lt-ltb limit (n + length part.rows) past)

  behind_within : n + length part.rows ≤ limit → lowered_behind limit n part ≡ unless_refused (bad_name part.bad_names) (crates_from n part)
  unfolding part_refusal
  behind_within within =
      ap (λ b. unless_refused (option_or (if b then Some (TooMany Crates) else None) (bad_name part.bad_names)) (crates_from n part)) (le-ltb limit (n + length part.rows) within)

  -- the limit refuses
  pub refuses_past : (e : LowerError) → IfTooMany e (limit < n + length part.rows) → Refuses e (lowered_behind limit n part)
  refuses_past (BadCrateName name) no_cause = absurd no_cause
  refuses_past (TooMany Crates) past = behind_past past
  refuses_past (TooMany Bytes) no_cause = absurd no_cause
  refuses_past (TooMany Paths) no_cause = absurd no_cause
  refuses_past (TooMany Packages) no_cause = absurd no_cause
  refuses_past (TooMany Targets) no_cause = absurd no_cause
  refuses_past OutOfMemory says_nothing = tt

  -- a bad name refuses
  pub refuses_name : (e : LowerError) → n + length part.rows ≤ limit → IfBadName e (λ name. slice_get part.bad_names 0 ≡ Some name) → Refuses e (lowered_behind limit n part)
  refuses_name (BadCrateName name) within first =
      behind_within within ∙ ap (λ r. unless_refused r (crates_from n part)) (first_bad_name part.bad_names name first)
  refuses_name (TooMany other) within no_cause = absurd no_cause
  refuses_name OutOfMemory within says_nothing = tt

  -- nothing refuses
  pub accepted : n + length part.rows ≤ limit → part.bad_names ≡ [] → lowered_behind limit n part ≡ Ok (crates_from n part)
  accepted within good = behind_within within ∙ ap (λ names. unless_refused (bad_name names) (crates_from n part)) good

-- the crates of a part behind those of a graph
pub has_behind : (old new : Graph) (part : ProjectPart) (n : ℕ) (want : List Edge) → n ≡ length old.crates → new.limit ≡ old.limit → n + length part.rows ≤ old.limit → part.bad_names ≡ [] → want ≡ wanted_edges part
    → map crate_seen new.crates ≡ map crate_seen old.crates ++ with_deps (kept_edges want) (length (map crate_seen old.crates)) part.rows
    → HasCratesBehind old new (lowered_behind old.limit n part)
unfolding crates_from
has_behind old new part n want is limit within good wanted crates =
    let count : length (map crate_seen old.crates) ≡ n = length-map old.crates crate_seen ∙ sym is in
    record {
      crates = crates_from n part;
      added_are = accepted old.limit n part within good;
      crates_are = crates ∙ ap (λ m. map crate_seen old.crates ++ with_deps (kept_edges want) m part.rows) count
          ∙ ap (λ es. map crate_seen old.crates ++ with_deps (kept_edges es) n part.rows) wanted;
      limit_is = limit;
    }

-- rows whose crates are made without dependencies have none
pub made_bare : {A : Type 0} (f : A → Crate) → ((x : A) → (f x).deps ≡ []) → (xs : List A) → All (λ (c : Crate). c.deps ≡ []) (map f xs)
made_bare f bare [] = All-nil (λ (c : Crate). c.deps ≡ [])
made_bare f bare (x ∷ xs) = All-cons (λ (c : Crate). c.deps ≡ []) (f x) (map f xs) (bare x) (made_bare f bare xs)

-- ---- without libraries

-- what a graph without crates gets behind it is all that it has
pub lowered_first : (limit : ℕ) (old : Graph) (result : Result Graph LowerError) (crates : Result (List Crate) LowerError) → old.crates ≡ [] → old.limit ≡ limit
    → IsLoweredBehind old result crates → IsLowered limit result crates
lowered_first limit old (Ok new) crates empty limit_is h = record {
  crates_are = h.added_are ∙ ap Ok (sym (h.crates_are ∙ ap (λ cs. map crate_seen cs ++ h.crates) empty));
  limit_is = h.limit_is ∙ limit_is;
}
lowered_first limit old (Err e) crates empty limit_is h = h

-- no libraries refuse nothing and add nothing
pub no_libraries : (limit : ℕ) (project : ProjectPart) → lowered limit no_project_part 0 project ≡ lowered_behind limit 0 project
unfolding lowered part_refusal
no_libraries limit project =
    ap (λ b. unless_refused (option_or (option_or (if b then Some (TooMany Crates) else None) None) (part_refusal limit 0 project)) (crates_from 0 project)) (le-ltb limit 0 (omega arith))
