use Rattle.std.proofs.Common.{◌≡◌, ◌∙◌, ap, is_some, sym}
use Rattle.vfs_core.specs.RealPath.{is_text_prefix}
use Rattle.vfs_core.proofs.TrimLemmas.{found_copied, found_rest}
use Rattle.vfs_core.proofs.virtual_path.VirtualPath.starts_with.Goals as goal

pub returns : goal.returns
returns c =
    let front : c.as_str.result.now ≡ c.args.other.now = c.as_str.ensures.value ∙ c.other.view_is in
    let whole : c.as_str-2.result.now ≡ c.args.self.now = c.as_str-2.ensures.value ∙ c.self.view_is in
    c.is_some.ensures ∙ sym (found_copied c.rest_below.result) ∙ ap is_some c.rest_below.ensures
    ∙ found_rest c.as_str.result.now c.as_str-2.result.now
    ∙ ap (λ f. is_text_prefix f c.as_str-2.result.now) front ∙ ap (is_text_prefix c.args.other.now) whole
