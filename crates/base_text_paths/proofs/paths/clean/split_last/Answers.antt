use Rattle.std.proofs.Common.{rules}
use Rattle.base_text_paths.proofs.Cuts.{cut_at_last}
use Rattle.base_text_paths.proofs.paths.clean.split_last.Goals as goal

pub returns : goal.returns
returns c = search (rules, cut_at_last)
