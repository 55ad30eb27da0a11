use Rattle.std.specs.Prelude.{nat_eq}
use Rattle.std.specs.Cmp.Lexicographic.{pointwise}
use Rattle.base_values.proofs.Equalities.{lists, pairs, texts}
use Rattle.base_values.proofs.laws.equality_of_holders_is_content.Goals as goal

pub returns : goal.returns
returns g c = record {
  items = λ content. lists g.T.PartialEq.eq content;
  by_text = λ content. lists _ (pairs (pointwise nat_eq) g.T.PartialEq.eq texts content);
  boxed = λ content. content;
  shared = λ content. content;
}
