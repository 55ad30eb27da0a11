use Rattle.std.proofs.Common.{◌∙◌, ◌++◌, ap, codes}
use Rattle.base_text_outside.specs.CommandWords.{flag_word}
use Rattle.pm_cargo_fetch.specs.Options.{has_unstable}
use Rattle.pm_cargo_fetch.proofs.options.with_unstable.Goals as goal

pub returns : goal.returns
returns c =
    let word = codes "-Zunstable-options" in
    let copy = c.into_inner-full.ensures ∙ c.in_ok-try_clone.ensures in
    let unstable = c.has_unstable-has_unstable.ensures ∙ ap has_unstable c.as_slice.ensures in
    c.new.ensures ∙ c.in_ok-push_flag.ensures.ok ∙ ap (λ x. x ++ flag_word c.has_unstable-has_unstable.result word) copy
    ∙ ap (λ b. c.args.options.now ++ flag_word b word) unstable
