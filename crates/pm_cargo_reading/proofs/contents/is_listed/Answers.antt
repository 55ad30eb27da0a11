use Rattle.std.proofs.Common.{◌∙◌}
use Rattle.pm_cargo_reading.proofs.SearchLemmas.{found_is_there}
use Rattle.pm_cargo_reading.proofs.contents.is_listed.Goals as goal

pub returns : goal.returns
returns c =
    c.is_ok.ensures.value ∙ found_is_there (λ m. m.repr) c.args.id.now.repr c.args.members.now c.binary_search.result c.binary_search.ensures.bound c.binary_search.ensures.position c.requires
