use Rattle.input_db.proofs.lowering.set_in_db.Goals as goal

pub returns : goal.returns
returns g c =
    let steps = c.in_ok-made.ensures.steps.0 in record { set = steps.set; steps = steps; again = c.in_ok-made.ensures.again }
