use Rattle.std.proofs.Common.{Ok, ap, subst, sym, ◌∙◌}
use Rattle.pm_cargo_reading.specs.Packages.{absolute_path}
use Rattle.pm_cargo_reading.specs.Reading.{Gives}
use Rattle.pm_cargo_reading.proofs.TakingLemmas.{root-script, root-source}
use Rattle.pm_cargo_reading.proofs.contents.root_of.Goals as goal

pub returns-then-is_script : goal.returns-then-is_script
returns-then-is_script c =
    root-script c.args.manifest.now c.args.target.now (sym c.is_script.ensures ∙ c.if-is_script.true)
    ∙ ap Ok (sym (c.in_ok-to_path_buf.ensures ∙ c.as_path.ensures))

pub returns : goal.returns
returns c =
    subst (Gives c.absolute_path.result)
    (ap absolute_path c.as_str.ensures ∙ sym (root-source c.args.manifest.now c.args.target.now (sym c.is_script.ensures ∙ c.if-is_script.false)))
    c.absolute_path.ensures
