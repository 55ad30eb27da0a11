-- what is read of a project's document is read again from what is written of it
use Rattle.std.specs.Prelude.{◌≡◌, ◌≤◌, ℕ, max, List, Option, None, Some, codes, false, refl}
use Rattle.std.proofs.Common.{arith, ap, ◌∙◌}
use Rattle.serde_json.specs.Data.{Data, Members, members_depth, object, string, no_members}
use Rattle.serde_json.specs.Read.{max_depth}
use Rattle.serde_json.specs.Written.{has_float, members_have_float}
use Rattle.base_text_outside.specs.declared.cfg.CfgAtom.{CfgAtom}
use Rattle.json_fields.specs.Cfg.{cfg_data}
use Rattle.json_fields.specs.Fields.{default_member, list_at, optional_member, required_member}
use Rattle.json_fields.specs.Laws.Cfgs.{cfg-round_trips}
use Rattle.json_fields.specs.Laws.Nested.{within_levels-round_trips}
use Rattle.json_fields.specs.Laws.RoundTrips.{AreWithin, and_then, at_last, list-round_trips, list_member-kept, map_member-kept, no_members-written, optional_member-kept, required_member-kept, set_member-written, table-round_trips, text-round_trips}
use Rattle.json_fields.specs.Outcome.{Reading}
use Rattle.json_fields.specs.RoundTrip.{IsKept, RoundTrips}
use Rattle.json_fields.specs.Written.{is_null, list_data, map_data, option_data, set_member}
use Rattle.pm_json.specs.ProjectJsonData.{project_at, project_data, project_level, project_row}
use Rattle.pm_json.specs.CrateData.{crate_at, crate_data}
use Rattle.pm_json.specs.Parts.{runnable_data}
use Rattle.pm_json.specs.laws.CrateData.{crate-round_trips}
use Rattle.pm_json.specs.laws.Parts.{runnable-round_trips}
use Rattle.pm_json.specs.declared.crate_data.CrateData.{CrateData}
use Rattle.pm_json.specs.declared.parts.Runnable.{Runnable}
use Rattle.pm_json.specs.declared.project_json_data.ProjectJsonData.{ProjectJsonData}
use Rattle.pm_json.specs.declared.project_json_data.ProjectJsonData.TheFolds.{fold-roll-ProjectJsonData, fold_out-ProjectJsonData}
use Rattle.pm_json.specs.declared.project_json_data.ProjectJsonData.TheViews.{roll-ProjectJsonData}

-- a project is not written as null
pub project_data-present : (p : ProjectJsonData) → is_null (project_data p) ≡ false
unfolding project_level
project_data-present p = ap is_null (fold_out-ProjectJsonData Data project_level p) ∙ refl

-- what is written of a project, by its parts
module _ (sysroot : Option (List ℕ)) (sysroot_src : Option (List ℕ))
    (cfg_groups : List (List ℕ × List CfgAtom)) (crates : List CrateData) (runnables : List Runnable) where
  project_members : Option ProjectJsonData → Members
  project_members sysroot_project =
      set_member (codes "runnables") (list_data runnable_data runnables)
      (set_member (codes "crates") (list_data crate_data crates)
      (set_member (codes "cfg_groups") (map_data (list_data cfg_data) cfg_groups)
      (set_member (codes "sysroot_project") (option_data project_data sysroot_project)
      (set_member (codes "sysroot_src") (option_data string sysroot_src)
      (set_member (codes "sysroot") (option_data string sysroot) no_members)))))

  project_data-roll : (sysroot_project : Option ProjectJsonData)
      → project_data
      (roll-ProjectJsonData (record {
        sysroot = sysroot;
        sysroot_src = sysroot_src;
        sysroot_project = sysroot_project;
        cfg_groups = cfg_groups;
        crates = crates;
        runnables = runnables;
      }))
      ≡ object (project_members sysroot_project)
  unfolding project_level project_members
  project_data-roll None =
      rw
      (fold-roll-ProjectJsonData Data project_level (record {
        sysroot = sysroot;
        sysroot_src = sysroot_src;
        sysroot_project = None;
        cfg_groups = cfg_groups;
        crates = crates;
        runnables = runnables;
      })) refl
  project_data-roll (Some p) =
      rw
      (fold-roll-ProjectJsonData Data project_level (record {
        sysroot = sysroot;
        sysroot_src = sysroot_src;
        sysroot_project = Some p;
        cfg_groups = cfg_groups;
        crates = crates;
        runnables = runnables;
      })) refl

-- the crates must be a list, so a level nests at least as deep as the empty list and the empty map that it is
-- given for what is missing
project_row-round_trips : (inner : Data → Reading ProjectJsonData) → RoundTrips inner project_data 0
    → RoundTrips (project_row inner) project_data 0
unfolding project_row required_member optional_member default_member set_member project_members
project_row-round_trips inner kept = table-round_trips _ project_data 0 λ ms.
    let n = max 1 (members_depth ms) in
    let within : AreWithin n ms = record { within = omega arith } in
    let none : 0 ≤ n = omega arith in
    let some : 1 ≤ n = omega arith in
    and_then (optional_member-kept text-round_trips none within (λ x. refl) (codes "sysroot"))
    λ sysroot sysroot_h.
    and_then (optional_member-kept text-round_trips none within (λ x. refl) (codes "sysroot_src"))
    λ sysroot_src sysroot_src_h.
    and_then (optional_member-kept kept none within project_data-present (codes "sysroot_project"))
    λ sysroot_project sysroot_project_h.
    and_then (map_member-kept (list-round_trips _ _ _ cfg-round_trips) none some within (codes "cfg_groups"))
    λ cfg_groups cfg_groups_h.
    let exactly : AreWithin (members_depth ms) ms = record { within = omega arith } in
    and_then
    (required_member-kept (list-round_trips _ _ _ crate-round_trips) (omega arith) exactly (codes "crates"))
    λ crates crates_h.
    let crates_kept : IsKept (list_at crate_at) (list_data crate_data) (members_have_float ms) n crates =
    record { again = crates_h.again; clean = crates_h.clean; nests = omega (arith, crates_h.nests) } in
    and_then (list_member-kept runnable-round_trips none some within (codes "runnables"))
    λ runnables runnables_h.
    let written =
    set_member-written (codes "runnables") runnables_h
    (set_member-written (codes "crates") crates_kept
    (set_member-written (codes "cfg_groups") cfg_groups_h
    (set_member-written (codes "sysroot_project") sysroot_project_h
    (set_member-written (codes "sysroot_src") sysroot_src_h
    (set_member-written (codes "sysroot") sysroot_h (no_members-written _ _))))))
    in
    let is = project_data-roll sysroot sysroot_src cfg_groups crates runnables sysroot_project in
    at_last (record {
      again =
          rw
          (is, sysroot_h.again, sysroot_src_h.again, sysroot_project_h.again, cfg_groups_h.again, crates_h.again, runnables_h.again)
          refl;
      clean = λ no_float. ap has_float is ∙ written.clean no_float;
      nests = rw is (omega (arith, written.nests, crates_h.nests));
    })

-- a project is read again from what is written of it
pub project-round_trips : RoundTrips project_at project_data 0
unfolding project_at
project-round_trips = within_levels-round_trips project_row project_data 0 project_row-round_trips max_depth
