use Rattle.std.proofs.Common.{◌≡◌, ◌<◌, ◌∙◌, arith, get_or, length-set, subst, sym, true}
use Rattle.std.proofs.lemmas.List.{take_all}
use Rattle.input_db.specs.Queries.{AreMarksOf}
use Rattle.input_db.proofs.Dependents.{listed_more}
use Rattle.input_db.proofs.queries.listed_marks.Goals as goal

pub loop-krate-preserved : goal.loop-krate-preserved
loop-krate-preserved c =
    let listed = c.args.listed.now in
    let place = c.loop-krate.krate-index in
    let krate = c.place.result in
    let marks = c.loop-krate.marks.items in
    let is : krate ≡ get_or listed place krate =
    subst (λ n. n ≡ get_or listed place n) (sym c.place.ensures) c.krate-item.is in
    let below : get_or listed place krate < c.args.count = c.requires place krate c.loop-krate-test.true in
    record {
      count = length-set marks krate true ∙ c.loop-krate.invariant.count;
      listed =
          listed_more marks listed place krate c.loop-krate-test.true is
          (omega (arith, is, below, c.loop-krate.invariant.count)) c.loop-krate.invariant.listed;
    }

pub returns-clause-listed : goal.returns-clause-listed
returns-clause-listed c =
    subst (AreMarksOf c.loop-krate.marks.items)
    (take_all c.loop-krate.krate-index c.args.listed.now (omega (arith, c.loop-krate-test.false)))
    c.loop-krate.invariant.listed
