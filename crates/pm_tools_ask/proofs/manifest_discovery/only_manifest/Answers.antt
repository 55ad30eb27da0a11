-- The last manifest, by what is left before it.
use Rattle.std.proofs.Common.{◌≡◌, ◌==◌, ◌++◌, ◌∷◌, [], ◌∙◌, ap, arith, length, sym}
use Rattle.std.proofs.lemmas.Bool.{eqb-false, eqb-true}
use Rattle.std.specs.Option.{option_to_list}
use Rattle.pm_tools_ask.proofs.ManifestSearch.{none_left, one_of_several, only_last}
use Rattle.pm_tools_ask.proofs.manifest_discovery.only_manifest.Goals as goal

pub returns-in_default : goal.returns-in_default
returns-in_default c =
    let cases = rw c.in_default.is at c.pop.ensures.cases in
    let none : length c.args.found.items ≡ 0 = omega (arith, cases.0, c.args.found.ok.0) in
    none_left c.args.found.items none

pub returns-then-is_empty : goal.returns-then-is_empty
returns-then-is_empty c =
    let rest = c.pop.new.self.items in
    let manifest = c.in-Some.manifest in
    let last : c.args.found.items ≡ c.pop.new.self.items ++ c.in-Some.manifest ∷ [] = c.pop.ensures.items ∙ ap (λ o. rest ++ option_to_list o) c.in-Some.is in
    let none : length c.pop.new.self.items ≡ 0 = eqb-true (length rest) 0 (sym (sym c.if-is_empty.true ∙ c.is_empty.ensures ∙ ap (λ n. n == 0) c.pop.new.self.ok.0)) in
    only_last c.args.found.items rest manifest last none

pub returns : goal.returns
returns c =
    let rest = c.pop.new.self.items in
    let manifest = c.in-Some.manifest in
    let last : c.args.found.items ≡ c.pop.new.self.items ++ c.in-Some.manifest ∷ [] = c.pop.ensures.items ∙ ap (λ o. rest ++ option_to_list o) c.in-Some.is in
    one_of_several c.args.found.items rest manifest last (eqb-false (length rest) 0 (sym (sym c.if-is_empty.false ∙ c.is_empty.ensures ∙ ap (λ n. n == 0) c.pop.new.self.ok.0)))
