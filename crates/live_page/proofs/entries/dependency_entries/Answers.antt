-- One more dependency, on a crate whose root file has a path or none.
use Rattle.std.proofs.Common.{◌∙◌, ap, arith, sym}
use Rattle.std.proofs.lemmas.List.{take_all}
use Rattle.std.specs.List.{filter_map}
use Rattle.std.specs.Option.{option_copied}
use Rattle.base_values.specs.Sorted.{sorted}
use Rattle.live_page.specs.Entries.{dependency_cmp, dependency_entry, named_number, path_in, root_file_path}
use Rattle.live_page.proofs.Shown.{dependency_hidden, dependency_shown, filter_map-map, taken_none, taken_some}
use Rattle.live_page.proofs.entries.dependency_entries.Goals as goal
use Rattle.live_page.proofs.entries.dependency_entries.Goals.{in-Some+in_ok-name+in_ok-root+in_ok-push, in_default}

pub loop-dep-preserved : goal.loop-dep-preserved
loop-dep-preserved c =
    let root = root_file_path (path_in c.args.db.now.files) c.args.db.now.crates in
    let deps = c.as_slice-dep-items.result.now in
    let place = c.loop-dep.dep-index in
    let dep = c.dep-item.result in
    elim c.match-root_path.branch [
      | in-Some+in_ok-name+in_ok-root+in_ok-push w ↦
          ap (λ v. v.items) w.found-is
          ∙ taken_some (λ d. dependency_entry root (named_number (λ n. n) d)) deps place dep c.loop-dep-test.true c.dep-item.is
          (record { name = w.in_ok-name.name; root = w.in_ok-root.root }) c.loop-dep.found.items w.push.new.self.items
          (dependency_shown root dep w.in-Some.path.now w.in_ok-name.name w.in_ok-root.root
          (sym c.root_path.ensures ∙ ap option_copied w.in-Some.is)
          (w.in_ok-name.ensures ∙ w.as_str.ensures ∙ w.symbol.ensures.same) w.in_ok-root.ensures) c.loop-dep.invariant
          w.in_ok-push.ensures.items
      | in_default w ↦
          ap (λ v. v.items) w.found-is
          ∙ taken_none (λ d. dependency_entry root (named_number (λ n. n) d)) deps place dep c.loop-dep-test.true c.dep-item.is
          c.loop-dep.found.items (dependency_hidden root dep (sym c.root_path.ensures ∙ ap option_copied w.in_default.is))
          c.loop-dep.invariant
    ]

pub returns : goal.returns
returns c =
    let root = root_file_path (path_in c.args.db.now.files) c.args.db.now.crates in
    let deps = c.args.krate.now.dependencies in
    c.in_ok-sort_all.ensures.sorted
    ∙ ap (sorted dependency_cmp)
    (c.loop-dep.invariant
    ∙ ap (filter_map (λ dep. dependency_entry root (named_number (λ n. n) dep)))
    (take_all c.loop-dep.dep-index c.as_slice-dep-items.result.now (omega (arith, c.loop-dep-test.false)) ∙ c.as_slice-dep-items.ensures)
    ∙ filter_map-map (dependency_entry root) (named_number (λ n. n)) deps)
