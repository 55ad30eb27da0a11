use Rattle.std.proofs.Common.{rules}
use Rattle.base_text_paths.proofs.Cuts.{cut_at_last}
use Rattle.cargo_meta.proofs.beside.cut_at_slash.Goals as goal

pub returns : goal.returns
returns c = search (rules, cut_at_last)
