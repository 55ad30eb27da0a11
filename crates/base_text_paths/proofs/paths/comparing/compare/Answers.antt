use Rattle.std.proofs.Common.{◌≡◌, ◌∙◌, refl, lit<}
use Rattle.std.proofs.lemmas.Iterator.Consumers.{YieldsList-at}
use Rattle.std.proofs.lemmas.Iterator.Search.{cmp_from_yields_List}
use Rattle.std.proofs.lemmas.Iterator.Splits.{YieldsList-from_str_split}
use Rattle.std.specs.Cmp.Lexicographic.{slice_cmp}
use Rattle.std.specs.Ordering.{nat_cmp}
use Rattle.base_text_paths.proofs.Comparing.{pieces_cmp}
use Rattle.base_text_paths.proofs.paths.comparing.compare.Goals as goal

pub returns : goal.returns
returns c =
    let mine = YieldsList-from_str_split 47 c.args.path.now (lit< tt) c.split.ensures.text c.split.ensures.has_more c.split.ensures.pattern in
    let theirs = YieldsList-from_str_split 47 c.args.other.now (lit< tt) c.split-2.ensures.text c.split-2.ensures.has_more c.split-2.ensures.pattern in
    cmp_from_yields_List (λ x y. y ≡ x) _ (slice_cmp nat_cmp) _ c.cmp.ensures.ran mine (λ it e. YieldsList-at e theirs) (λ x y. refl)
    ∙ pieces_cmp _ _ c.requires.path c.requires.other
