use Rattle.std.proofs.Common.{lit<, Some, None}
use Rattle.std.proofs.lemmas.Str.Pattern.{strip_prefix_char}
use Rattle.base_text_paths.proofs.Prefixes.{below_first, below_none}
use Rattle.base_text_paths.proofs.paths.clean.below_slash.Goals as goal

pub returns-in-Some-clause-text : goal.returns-in-Some-clause-text
returns-in-Some-clause-text c =
    let cut = strip_prefix_char 47 c.args.row.now (Some c.in-Some.names) c.in-Some.ensures.cases (lit< tt) in
    (below_first _ _ c.requires cut).0

pub returns-in-Some-clause-same_components : goal.returns-in-Some-clause-same_components
returns-in-Some-clause-same_components c =
    let cut = strip_prefix_char 47 c.args.row.now (Some c.in-Some.names) c.in-Some.ensures.cases (lit< tt) in
    (below_first _ _ c.requires cut).1

pub returns-in-None-clause-text : goal.returns-in-None-clause-text
returns-in-None-clause-text c = below_none _ c.requires (strip_prefix_char 47 c.args.row.now None c.in-None.ensures.cases (lit< tt))
