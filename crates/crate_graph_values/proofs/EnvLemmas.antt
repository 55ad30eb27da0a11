-- Pairs that are set in an environment one after another.
use Rattle.std.proofs.Common.{◌≡◌, ℕ, List, ◌++◌, length, take, sym, ap, ◌∙◌, arith, String, string_bytes, length-append}
use Rattle.std.specs.Borrow.{Bor}
use Rattle.std.specs.declared.alloc.Global.{Global}
use Rattle.std.proofs.Math.Seq.{take-append_seam}
use Rattle.crate_graph_values.specs.Env.{with_pairs, TakesSome}

-- a borrowed variable and its value, as their bytes
abbrev pub seen_text : Bor (String Global) × Bor (List ℕ) → List ℕ × List ℕ
seen_text p = (string_bytes p.0.now, p.1.now)

-- what was set so far are the first of the pairs
pub takes_front : (old new all done left : List (List ℕ × List ℕ)) → all ≡ done ++ left → new ≡ with_pairs old done → TakesSome old all new
takes_front old new all done left whole is = record {
  count = length done;
  within = omega (arith, length-append done left, ap length whole);
  is = is ∙ ap (with_pairs old) (sym (take-append_seam done left) ∙ ap (take (length done)) (sym whole));
}
