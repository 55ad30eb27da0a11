use Rattle.std.proofs.Common.{◌≡◌, ◌≤◌, ap, arith, length}
use Rattle.input_db.specs.Identity.{with_entry}
use Rattle.input_db.proofs.KnownLemmas.{with_entry-longer}
use Rattle.input_db.proofs.input_db.InputDbSourceDatabase.put_crate.Goals as goal

pub invariant_of-self-2 : goal.invariant_of-self-2
invariant_of-self-2 c = record {
  table = c.in_ok-krate.ensures.table;
  known = λ k d within.
      let old = c.self.inside.crates in
      let put : length c.put.new.self ≡ length (with_entry old c.args.unique c.args.input) = ap length c.in_ok-krate.ensures.ok in
      let longer : length old ≤ length (with_entry old c.args.unique c.args.input) = with_entry-longer old c.args.unique c.args.input in
      omega (arith, c.self.invariant.known k d within, put, longer);
}
