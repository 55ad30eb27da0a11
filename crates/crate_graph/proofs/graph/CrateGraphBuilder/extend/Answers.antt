use Rattle.std.proofs.Common.{◌≡◌, ℕ, ◌-◌, ◌<◌, ap, arith, get_or, inr, length, subst, sym, ◌∙◌}
use Rattle.std.specs.BTreeMap as tree
use Rattle.std.specs.Prelude.{slice_get}
use Rattle.std.specs.List.{All, Contains}
use Rattle.std.specs.Option.{option_map}
use Rattle.std.proofs.lemmas.List.Elements.{Contains-get_or}
use Rattle.graph_base.specs.Edges.{IsInRange}
use Rattle.base_text_paths.specs.Arena.{number_of}
use Rattle.base_text_paths.specs.contracts.arena.IdxOrd.TheImpl as numbers
use Rattle.crate_graph_values.specs.contracts.builder.CrateBuilderPartialEq.TheImpl as krates
use Rattle.crate_graph_values.specs.contracts.builder.CrateBuilderEq.TheImpl.Laws as krate_eq
use Rattle.crate_graph_values.specs.contracts.crate_data.CrateTag.{the_row}
use Rattle.crate_graph_values.specs.Laws.{HasCleanMacroDirectory}
use Rattle.crate_graph.specs.Extend.{AreApart, HasEquals, Id, KeepsCrates, merge_of, moved_entry, new_id, new_id_at}
use Rattle.crate_graph.specs.Order.{IsOrderOf, with_next_nodes}
use Rattle.crate_graph.specs.Graph.{IsWellMadeGraph, edges}
use Rattle.graph_base.proofs.FinishLemmas.{acyclic_above}
use Rattle.crate_graph.proofs.ExtendLemmas.{merge_of-longer}
use Rattle.crate_graph.proofs.GraphLemmas.{length-edges}
use Rattle.crate_graph.proofs.MergeLemmas.{room_for_all, answered, are_apart, equals, merge_of-clean, merge_of-new_numbers, new_id-is, moved_entry-is, ranked-merge_of, well_made-merge_of}
use Rattle.crate_graph.proofs.TakenLemmas.{IsTaken, taken_all}
use Rattle.crate_graph.proofs.graph.CrateGraphBuilder.extend.Goals as goal

pub join-requires-clause-in_range : goal.join-requires-clause-in_range
join-requires-clause-in_range c = subst (λ crates. IsInRange (edges crates)) (sym c.deref-2.ensures.value) c.other.invariant.well_made.in_range

pub join-requires-clause-order : goal.join-requires-clause-order
join-requires-clause-order c = λ k d within.
    let inside : k < length c.in_ok-order.order.items = omega (arith, within, ap length c.deref-3.ensures.value) in
    let fits = (c.in_ok-order.ensures.behind.all (get_or c.in_ok-order.order.items k d)).0 (Contains-get_or c.in_ok-order.order.items k d inside) in
    let others : c.deref-2.result.now ≡ c.args.other.crates = c.deref-2.ensures.value ∙ ap (λ g. g.crates) c.other.view_is in
    let same : get_or c.deref-3.result.now k d ≡ get_or c.in_ok-order.order.items k d = ap (λ ns. get_or ns k d) c.deref-3.ensures.value in
    omega (arith, fits, ap length others, length-edges c.args.other.crates, same)

pub overflow_sub-more : goal.overflow_sub-more
overflow_sub-more c =
    let longer = merge_of-longer (krates.eq-value).it c.deref.result.now c.deref-2.result.now c.deref-3.result.now in
    omega (arith, c.len.ensures, c.len-2.ensures, ap (λ j. length j.crates) c.in_ok-merge.ensures.ok, longer, ap length c.deref.ensures.value)

pub ids_of_numbers-requires : goal.ids_of_numbers-requires
ids_of_numbers-requires c =
    let long = ap (λ j. length j.new_numbers) c.in_ok-merge.ensures.ok ∙ merge_of-new_numbers (krates.eq-value).it c.deref.result.now c.deref-2.result.now c.deref-3.result.now in
    omega (arith, ap length c.new_numbers.ensures, long, ap length c.deref-2.ensures.value, c.other.invariant.well_made.within, c.other.invariant.well_made.fits)

pub renumber_macros-requires : goal.renumber_macros-requires
renumber_macros-requires c = λ k d within.
    let long = ap (λ j. length j.new_numbers) c.in_ok-merge.ensures.ok ∙ merge_of-new_numbers (krates.eq-value).it c.deref.result.now c.deref-2.result.now c.deref-3.result.now in
    let others : c.deref-2.result.now ≡ c.args.other.crates = c.deref-2.ensures.value ∙ ap (λ g. g.crates) c.other.view_is in
    omega (arith, ap length c.new_numbers-2.ensures, long, ap length others, c.requires k d within)

-- ---- the graph with all crates taken in
abbrev After : Type 0
After = goal.After-drop-other-inside-8

is_merge : (c : After) → c.in_ok-merge.merge ≡ merge_of (krates.eq-value).it c.args.self.now.crates c.args.other.crates c.in_ok-order.order.items
is_merge c =
    let olds : c.deref.result.now ≡ c.args.self.now.crates = c.deref.ensures.value ∙ ap (λ g. g.crates) c.self.view_is in
    let others : c.deref-2.result.now ≡ c.args.other.crates = c.deref-2.ensures.value ∙ ap (λ g. g.crates) c.other.view_is in
    c.in_ok-merge.ensures.ok ∙ (λ i. merge_of (krates.eq-value).it (olds i) (others i) (c.deref-3.ensures.value i))

taken : (c : After) → IsTaken (krates.eq-value).it c.args.self.now.crates c.args.other.crates c.in_ok-order.order.items c.in_ok-merge.merge
taken c =
    subst (IsTaken (krates.eq-value).it c.args.self.now.crates c.args.other.crates c.in_ok-order.order.items) (sym (is_merge c))
    (taken_all (krates.eq-value).it c.args.self.now.crates c.args.other.crates c.in_ok-order.order.items krate_eq.laws-law.refl c.in_ok-order.ensures.behind)

ordered : (c : After) (n : ℕ) → n < length c.args.other.crates → Contains c.in_ok-order.order.items n
ordered c n within = (c.in_ok-order.ensures.behind.all n).1 (omega (arith, within, length-edges c.args.other.crates))

in_range : (c : After) → IsInRange (edges c.args.other.crates)
in_range c = subst (λ g. IsInRange (edges g.crates)) c.other.view_is c.other.invariant.well_made.in_range

found : (c : After) (id : Id) → option_map number_of (tree.get (numbers.ghosts the_row).cmp c.in_ok-ids.ids id) ≡ slice_get c.in_ok-merge.merge.new_numbers (number_of id)
found c id = c.in_ok-ids.ensures id ∙ ap (λ ns. slice_get ns (number_of id)) c.new_numbers.ensures

clean : (c : After) → All (λ krate. HasCleanMacroDirectory krate.basic) c.in_ok-merge.merge.crates
clean c =
    let olds = subst (λ g. All (λ krate. HasCleanMacroDirectory krate.basic) g.crates) c.self.view_is c.self.invariant.well_made.clean in
    let others = subst (λ g. All (λ krate. HasCleanMacroDirectory krate.basic) g.crates) c.other.view_is c.other.invariant.well_made.clean in
    subst (λ j. All (λ krate. HasCleanMacroDirectory krate.basic) j.crates) (sym (is_merge c)) (merge_of-clean (krates.eq-value).it c.args.self.now.crates c.args.other.crates c.in_ok-order.order.items olds others)

-- ---- the ranks of the graph

-- those that were appended have the highest ranks
ranks_are : (c : After) → c.in_ok-ranks.ranks ≡ with_next_nodes (length c.in_ok-merge.merge.crates - length c.args.self.now.crates) c.args.self.now.order
ranks_are c =
    let more : c.len.result - c.len-2.result ≡ length c.in_ok-merge.merge.crates - length c.args.self.now.crates =
    omega (arith, c.len.ensures, c.len-2.ensures, ap (λ g. length g.crates) c.self.view_is) in
    c.in_ok-ranks.ensures ∙ (λ i. with_next_nodes (more i) (c.self.view_is i).order)

ranked : (c : After) → IsOrderOf c.in_ok-ranks.ranks (edges c.in_ok-merge.merge.crates)
ranked c =
    let made = subst (λ g. IsWellMadeGraph g.crates c.self.inside.limit) c.self.view_is c.self.invariant.well_made in
    let ranks = subst (λ g. IsOrderOf g.order (edges g.crates)) c.self.view_is c.self.invariant.ranks in
    let more = length c.in_ok-merge.merge.crates - length c.args.self.now.crates in
    subst (λ order. IsOrderOf order (edges c.in_ok-merge.merge.crates)) (sym (ranks_are c))
    (ranked-merge_of (krates.eq-value).it c.args.self.now.crates c.args.other.crates c.in_ok-order.order.items c.in_ok-merge.merge c.self.inside.limit made (taken c) c.args.self.now.order more ranks
    (omega (arith, (taken c).longer)) c.in_ok-merge.ensures.room)

pub invariant_of-self : goal.invariant_of-self
invariant_of-self c =
    let made = subst (λ g. IsWellMadeGraph g.crates c.self.inside.limit) c.self.view_is c.self.invariant.well_made in
    record {
      well_made = subst (λ crates. IsWellMadeGraph crates c.self.inside.limit) (sym c.into_crates.ensures)
          (well_made-merge_of (krates.eq-value).it c.args.self.now.crates c.args.other.crates c.in_ok-order.order.items c.in_ok-merge.merge c.self.inside.limit made (taken c) c.in_ok-merge.ensures.room (clean c) acyclic_above);
      ranks = subst (λ crates. IsOrderOf c.in_ok-ranks.ranks (edges crates)) (sym c.into_crates.ensures) (ranked c);
    }

pub returns-clause-ids : goal.returns-clause-ids
returns-clause-ids c = answered (numbers.ghosts the_row).cmp c.in_ok-ids.ids c.in_ok-merge.merge.new_numbers (found c) (length c.args.other.crates) (taken c).news_long

equal : (c : After) → HasEquals (krates.eq-value).it (new_id (numbers.ghosts the_row).cmp c.in_ok-ids.ids) c.args.other.crates c.into_crates.result.items
equal c =
    subst (HasEquals (krates.eq-value).it (new_id (numbers.ghosts the_row).cmp c.in_ok-ids.ids) c.args.other.crates) (sym c.into_crates.ensures)
    (equals (numbers.ghosts the_row).cmp c.in_ok-ids.ids c.in_ok-merge.merge.new_numbers (found c) (krates.eq-value).it c.args.self.now.crates c.args.other.crates c.in_ok-merge.merge.crates c.in_ok-order.order.items (taken c).news_long (in_range c) (ordered c) (taken c))

apart : (c : After) → AreApart (new_id (numbers.ghosts the_row).cmp c.in_ok-ids.ids) c.args.self.now.crates c.args.other.crates
apart c =
    are_apart (numbers.ghosts the_row).cmp c.in_ok-ids.ids c.in_ok-merge.merge.new_numbers (found c) (krates.eq-value).it c.args.self.now.crates c.args.other.crates c.in_ok-merge.merge.crates c.in_ok-order.order.items (taken c).news_long (in_range c) (ordered c) (taken c)

pub returns-clause-both : goal.returns-clause-both
returns-clause-both c = record {
  kept = subst (KeepsCrates c.args.self.now.crates) (sym c.into_crates.ensures) (taken c).kept;
  equal = equal c;
  apart = apart c;
}

pub returns-clause-joined : goal.returns-clause-joined
returns-clause-joined c = record {
  order = c.in_ok-order.order.items;
  finish_order = c.in_ok-order.ensures.order;
  limit = ap (λ g. g.limit) c.self.view_is;
  crates = c.into_crates.ensures ∙ ap (λ j. j.crates) (is_merge c);
  room = omega (arith, c.in_ok-merge.ensures.room, ap (λ j. length j.crates) (is_merge c), ap (λ g. g.limit) c.self.view_is);
  ranks = ranks_are c ∙ ap (λ crates. with_next_nodes (length crates - length c.args.self.now.crates) c.args.self.now.order) (sym c.into_crates.ensures);
  numbers = λ id within. new_id-is (numbers.ghosts the_row).cmp c.in_ok-ids.ids c.in_ok-merge.merge.new_numbers (found c) id (omega (arith, within, (taken c).news_long)) ∙ ap (λ j. new_id_at j.new_numbers id) (is_merge c);
}

pub returns-clause-too_many : goal.returns-clause-too_many
returns-clause-too_many c = inr (
  λ is. absurd (let never : ⊥ = cc in never),
  λ passes. absurd (room_for_all (krates.eq-value).it c.args.self.now c.args.other c.in_ok-order.order.items c.in_ok-order.ensures.order
      (omega (arith, c.in_ok-merge.ensures.room, ap (λ j. length j.crates) (is_merge c), ap (λ g. g.limit) c.self.view_is)) passes),
)

pub returns-clause-macros : goal.returns-clause-macros
returns-clause-macros c = λ id.
    let keys : All (λ key. number_of key < length c.in_ok-merge.merge.new_numbers) (tree.keys c.args.proc_macros.now) =
    λ k d within. omega (arith, c.requires k d within, (taken c).news_long) in
    c.in_ok-macros.ensures id ∙ ap (λ new_numbers. moved_entry (new_id_at new_numbers) c.args.proc_macros.now.entries id) c.new_numbers-2.ensures
    ∙ moved_entry-is (numbers.ghosts the_row).cmp c.in_ok-ids.ids c.in_ok-merge.merge.new_numbers (found c) c.args.proc_macros.now.entries id keys
