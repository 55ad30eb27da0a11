use Rattle.std.proofs.Common.{◌≡◌, ◌∙◌, ◌++◌, ap, codes, false, option_copied, refl, sym, true}
use Rattle.std.proofs.lemmas.Bool.{cond-false, cond-true}
use Rattle.std.proofs.lemmas.Result.{on_ok_weaker}
use Rattle.cargo_meta.proofs.Joins.{pushed-both}
use Rattle.pm_tools.specs.Words.{takes_compile_time_deps}
use Rattle.pm_tools.proofs.words_of_build.push_coverage.Goals as goal

-- the words of a limited build
pub returns-in_ok-push_word : goal.returns-in_ok-push_word
returns-in_ok-push_word c =
    let words = c.args.words.now.items in let word = codes "--all-targets" in
    let takes : takes_compile_time_deps (option_copied c.args.version) ≡ true
    = sym c.takes_compile_time_deps.ensures ∙ c.if-takes_compile_time_deps.true in
    on_ok_weaker c.push_word-then-takes_compile_time_deps.result
    (λ pushed. pushed-both words c.push_word.new.words.items c.push_word-then-takes_compile_time_deps.new.words.items
    (codes "--compile-time-deps") word word c.in_ok-push_word.ensures.ok refl pushed
    ∙ ap (λ l. words ++ l) (sym (cond-true _ _ _ takes)))
    c.push_word-then-takes_compile_time_deps.ensures.ok

-- the word of any other
pub returns-else-takes_compile_time_deps : goal.returns-else-takes_compile_time_deps
returns-else-takes_compile_time_deps c =
    let takes : takes_compile_time_deps (option_copied c.args.version) ≡ false
    = sym c.takes_compile_time_deps.ensures ∙ c.if-takes_compile_time_deps.false in
    on_ok_weaker c.push_flag.result
    (λ pushed. pushed ∙ ap (λ l. c.args.words.now.items ++ l) (sym (cond-false _ _ _ takes))) c.push_flag.ensures.ok
