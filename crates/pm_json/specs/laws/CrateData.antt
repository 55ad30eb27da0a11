-- what is read of a crate's document is read again from what is written of it
use Rattle.std.specs.Prelude.{◌≡◌, ◌≤◌, ℕ, suc, max, false, codes, refl, Ok}
use Rattle.std.proofs.Common.{◌∙◌, arith}
use Rattle.serde_json.specs.Data.{members_depth, Members, no_members}
use Rattle.serde_json.specs.Written.{members_have_float}
use Rattle.json_fields.specs.Fields.{list_at, members_at}
use Rattle.base_values.specs.Outcome.{◌>>=◌}
use Rattle.json_fields.specs.Laws.Cfgs.{cfg-round_trips}
use Rattle.json_fields.specs.Laws.Rows.{required_member-set_member, optional_member-set_member, default_member-set_member}
use Rattle.json_fields.specs.Laws.RoundTrips.{AreWithin, AreWritten, ReadsAs, and_then, at_last, default_member-kept, flag-round_trips, list-round_trips, list_member-kept, map_member-kept, no_members-written, optional_member-kept, required_member-kept, set_member-written, table-round_trips, text-round_trips}
use Rattle.json_fields.specs.Laws.TextForms.{version-round_trips}
use Rattle.json_fields.specs.RoundTrip.{IsKept, RoundTrips}
use Rattle.json_fields.specs.Written.{list_data}
use Rattle.pm_json.specs.CrateData.{crate_at, crate_data, crate_from, crate_members, crate_of_rows, crate_head_from, stated_head, crate_head_set, crate_tail_from, stated_tail, crate_tail_set}
use Rattle.pm_json.specs.Dep.{dep_at, dep_data}
use Rattle.pm_json.specs.Kinds.{json_edition_of}
use Rattle.pm_json.specs.Parts.{build_data-present, source_data-present}
use Rattle.pm_json.specs.declared.crate_data.CrateData.{CrateData}
use Rattle.pm_json.specs.declared.crate_rows.CrateHead.{CrateHead}
use Rattle.pm_json.specs.declared.crate_rows.CrateTail.{CrateTail}
use Rattle.pm_json.specs.laws.Dep.{dep-round_trips}
use Rattle.pm_json.specs.laws.Kinds.{json_edition-round_trips}
use Rattle.pm_json.specs.laws.Parts.{build-round_trips, crate_source-round_trips}

-- the first rows do not read what the others set
head_from-tail_set : (t : CrateTail) (ms : Members)
    → crate_head_from (crate_tail_set t ms) ≡ crate_head_from ms
unfolding crate_head_from crate_tail_set
head_from-tail_set t ms =
    simp (required_member-set_member, optional_member-set_member, default_member-set_member)

-- how deep the members nest, or what is given for those that are missing
abbrev depth_of : Members → ℕ
depth_of ms = max 1 (members_depth ms)

-- the first rows are kept. The list of dependencies must be there, so the members nest as deep as an empty
-- list
record HeadKept (ms : Members) (h : CrateHead) : Type 0 where
  pub again : (ws : Members) → crate_head_from (crate_head_set h ws) ≡ Ok h
  pub written : (ws : Members) → AreWritten (members_have_float ms) (depth_of ms) ws
      → AreWritten (members_have_float ms) (depth_of ms) (crate_head_set h ws)
  pub deep : 1 ≤ members_depth ms

-- the others are
record TailKept (ms : Members) (t : CrateTail) : Type 0 where
  pub again : (ws : Members) → crate_tail_from (crate_tail_set t ws) ≡ Ok t
  pub written : (ws : Members) → AreWritten (members_have_float ms) (depth_of ms) ws
      → AreWritten (members_have_float ms) (depth_of ms) (crate_tail_set t ws)

module _ (ms : Members) (within : AreWithin (depth_of ms) ms) (exactly : AreWithin (members_depth ms) ms)
    (some : 1 ≤ depth_of ms) (none : 0 ≤ depth_of ms) (low : 0 ≤ members_depth ms) where
  head-kept : ReadsAs (crate_head_from ms) (HeadKept ms)
  unfolding crate_head_from crate_head_set json_edition_of
  head-kept =
      and_then (optional_member-kept text-round_trips none within (λ x. refl) (codes "display_name"))
      λ display_name display_name_h.
      and_then (required_member-kept text-round_trips none within (codes "root_module"))
      λ root_module root_module_h.
      and_then (required_member-kept json_edition-round_trips none within (codes "edition"))
      λ edition edition_h.
      and_then (optional_member-kept version-round_trips none within (λ x. refl) (codes "version"))
      λ version version_h.
      and_then (required_member-kept (list-round_trips _ _ _ dep-round_trips) low exactly (codes "deps"))
      λ deps deps_h.
      let deps_kept : IsKept (list_at dep_at) (list_data dep_data) (members_have_float ms) (depth_of ms) deps =
      record { again = deps_h.again; clean = deps_h.clean; nests = omega (arith, deps_h.nests) } in
      and_then (list_member-kept text-round_trips none some within (codes "cfg_groups"))
      λ cfg_groups cfg_groups_h.
      and_then (list_member-kept cfg-round_trips none some within (codes "cfg")) λ cfg cfg_h.
      and_then (optional_member-kept text-round_trips none within (λ x. refl) (codes "target"))
      λ target target_h.
      at_last (record {
        again = λ ws. simp (required_member-set_member, optional_member-set_member, default_member-set_member)
            (rw (display_name_h.again, edition_h.again, version_h.again, deps_h.again, cfg_groups_h.again, cfg_h.again, target_h.again));
        written = λ ws before.
            set_member-written (codes "target") target_h
            (set_member-written (codes "cfg") cfg_h
            (set_member-written (codes "cfg_groups") cfg_groups_h
            (set_member-written (codes "deps") deps_kept
            (set_member-written (codes "version") version_h
            (set_member-written (codes "edition") edition_h
            (set_member-written (codes "root_module") root_module_h
            (set_member-written (codes "display_name") display_name_h
            before)))))));
        deep = omega (arith, deps_h.nests);
      })

  tail-kept : ReadsAs (crate_tail_from ms) (TailKept ms)
  unfolding crate_tail_from crate_tail_set
  tail-kept =
      and_then (map_member-kept text-round_trips none some within (codes "env")) λ env env_h.
      and_then (list_member-kept text-round_trips none some within (codes "crate_attrs"))
      λ crate_attrs crate_attrs_h.
      and_then (optional_member-kept text-round_trips none within (λ x. refl) (codes "proc_macro_dylib_path"))
      λ proc_macro_dylib_path proc_macro_dylib_path_h.
      and_then (optional_member-kept flag-round_trips none within (λ x. refl) (codes "is_workspace_member"))
      λ is_workspace_member is_workspace_member_h.
      and_then
      (optional_member-kept crate_source-round_trips none within source_data-present (codes "source"))
      λ source source_h.
      and_then
      (default_member-kept flag-round_trips none within (codes "is_proc_macro") false (record {
        again = refl;
        clean = λ _. refl;
        nests = omega arith;
      })) λ is_proc_macro is_proc_macro_h.
      and_then (optional_member-kept text-round_trips none within (λ x. refl) (codes "repository"))
      λ repository repository_h.
      and_then (optional_member-kept build-round_trips none within build_data-present (codes "build"))
      λ build build_h.
      and_then (optional_member-kept text-round_trips none within (λ x. refl) (codes "proc_macro_cwd"))
      λ proc_macro_cwd proc_macro_cwd_h.
      at_last (record {
        again = λ ws. simp (optional_member-set_member, default_member-set_member)
            (rw (env_h.again, crate_attrs_h.again, proc_macro_dylib_path_h.again, is_workspace_member_h.again, source_h.again, repository_h.again, build_h.again, proc_macro_cwd_h.again));
        written = λ ws before.
            set_member-written (codes "proc_macro_cwd") proc_macro_cwd_h
            (set_member-written (codes "build") build_h
            (set_member-written (codes "repository") repository_h
            (set_member-written (codes "is_proc_macro") is_proc_macro_h
            (set_member-written (codes "source") source_h
            (set_member-written (codes "is_workspace_member") is_workspace_member_h
            (set_member-written (codes "proc_macro_dylib_path") proc_macro_dylib_path_h
            (set_member-written (codes "crate_attrs") crate_attrs_h
            (set_member-written (codes "env") env_h
            before))))))));
      })

-- a crate whose groups are each kept is read again
crate_from-again : (c : CrateData)
    → ((ws : Members) → crate_head_from (crate_head_set (stated_head c) ws) ≡ Ok (stated_head c))
    → ((ws : Members) → crate_tail_from (crate_tail_set (stated_tail c) ws) ≡ Ok (stated_tail c))
    → crate_from (crate_members c) ≡ Ok c
unfolding crate_from crate_members
crate_from-again c head tail =
    let first : crate_head_from (crate_tail_set (stated_tail c) (crate_head_set (stated_head c) no_members)) ≡ Ok (stated_head c) =
    head_from-tail_set (stated_tail c) (crate_head_set (stated_head c) no_members) ∙ head no_members in
    let others : crate_tail_from (crate_tail_set (stated_tail c) (crate_head_set (stated_head c) no_members)) ≡ Ok (stated_tail c) =
    tail (crate_head_set (stated_head c) no_members) in
    rw (first, others) refl

crate-kept : (ms : Members) (c : CrateData) → HeadKept ms (stated_head c) × TailKept ms (stated_tail c)
    → IsKept (λ d. members_at d >>= crate_from) crate_data (members_have_float ms)
    (max 0 (suc (members_depth ms))) c
unfolding crate_data crate_members
crate-kept ms c kept =
    let written = kept.1.written _ (kept.0.written _ (no_members-written _ _)) in
    record {
      again = crate_from-again c kept.0.again kept.1.again;
      clean = written.clean;
      nests = omega (arith, written.nests, kept.0.deep);
    }

-- a crate
pub crate-round_trips : RoundTrips crate_at crate_data 0
unfolding crate_at crate_from
crate-round_trips = table-round_trips _ crate_data 0 λ ms.
    let within : AreWithin (depth_of ms) ms = record { within = omega arith } in
    let exactly : AreWithin (members_depth ms) ms = record { within = omega arith } in
    let some : 1 ≤ depth_of ms = omega arith in
    let none : 0 ≤ depth_of ms = omega arith in
    let low : 0 ≤ members_depth ms = omega arith in
    and_then (head-kept ms within exactly some none low) λ h head.
    and_then (tail-kept ms within exactly some none low) λ t tail.
    at_last (crate-kept ms (crate_of_rows h t) (head, tail))
