use Rattle.std.proofs.Common.{◌≡◌, ◌<◌, ◌^◌, ◌⊎◌, ℕ, inl, inr, true, is_some, length, sym, ap, subst, ◌∙◌}
use Rattle.std.specs.List.{All}
use Rattle.indexmap.proofs.MapLemmas.{some_index}
use Rattle.input_db.specs.Identity.{IsTable, PutsCrate, Table, crate_for, crate_in, named_in, names_of, unique_eq, with_entry}
use Rattle.input_db.proofs.Equality.{unique_itself}
use Rattle.input_db.proofs.PutLemmas.{puts}
use Rattle.input_db.proofs.TableLemmas.{few_after, table_after}
use Rattle.input_db.proofs.crates_map.CratesMap.put.Goals.{else-len-ge-GREATEST_LENGTH-via-then-len-ge-GREATEST_LENGTH+else-is_none}
use Rattle.input_db.proofs.crates_map.CratesMap.put.Goals.{else-len-ge-GREATEST_LENGTH-via-else-len-ge-GREATEST_LENGTH}
use Rattle.input_db.proofs.crates_map.CratesMap.put.Goals as goal

pub invariant_of-self-2 : goal.invariant_of-self-2
invariant_of-self-2 c =
    let old = c.self.inside.entries.entries in
    let unique = c.args.unique in
    let input = c.args.input in
    let same = sym c.self.view_is in
    let identity = subst (λ (t : Table). All (λ named. named < length t) (names_of unique)) same c.requires.identity in
    let named = subst (λ (t : Table). All (λ named. named < length t) (named_in input.crate_data)) same c.requires.input in
    let room : (is_some c.in_ok-place.old ≡ true) ⊎ (length old < 0xffff_ffff) = elim c.else-len-ge-GREATEST_LENGTH.branch [
      | else-len-ge-GREATEST_LENGTH-via-then-len-ge-GREATEST_LENGTH+else-is_none known ↦ inl
          (ap is_some c.in_ok-place.ensures.old ∙ sym (some_index (unique_eq unique) old)
          ∙ ap (λ (t : Table). is_some (crate_in t unique)) c.self.view_is
          ∙ sym (ap is_some known.get.ensures) ∙ known.if-is_none.ensures)
      | else-len-ge-GREATEST_LENGTH-via-else-len-ge-GREATEST_LENGTH short ↦ inr
          (subst (λ (n : ℕ). n < 0xffff_ffff) c.len.ensures.len short.if-len-ge-GREATEST_LENGTH.false)
    ] in
    let few = few_after (length old) (length c.insert_full.new.self.entries) _ c.in_ok-place.ensures.len c.self.invariant.few room in
    let entries = c.in_ok-place.ensures.entries in
    subst IsTable (sym entries)
    (table_after old unique input c.self.invariant identity named (subst (λ (t : Table). length t < 2 ^ 32) entries few))

pub returns-clause-table : goal.returns-clause-table
returns-clause-table c = invariant_of-self-2 c

pub returns-clause-alone : goal.returns-clause-alone
returns-clause-alone c =
    let old = c.args.self.now in
    let unique = c.args.unique in
    let input = c.args.input in
    let table : c.insert_full.new.self.entries ≡ with_entry old unique input =
    c.in_ok-place.ensures.entries ∙ ap (λ (t : Table). with_entry t unique input) c.self.view_is in
    let place : c.at.result ≡ crate_for old unique =
    c.at.ensures ∙ c.in_ok-place.ensures.index ∙ ap (λ (t : Table). crate_for t unique) c.self.view_is in
    subst (λ (t : Table). PutsCrate old t unique input c.at.result) (sym table)
    (subst (PutsCrate old (with_entry old unique input) unique input) (sym place)
    (puts old unique input (unique_itself unique)))
