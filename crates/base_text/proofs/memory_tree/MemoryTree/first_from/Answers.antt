use Rattle.std.proofs.Common.{◌∙◌, sym, ap}
use Rattle.std.specs.List.{slice_get}
use Rattle.std.specs.Option.{option_map}
use Rattle.base_text_paths.specs.AbsPath.{abs_text}
use Rattle.base_text.proofs.Ordered.{first_from-range}
use Rattle.base_text.proofs.memory_tree.MemoryTree.first_from.Goals as goal

pub returns-in_err-file-clause-first : goal.returns-in_err-file-clause-first
returns-in_err-file-clause-first c =
    rw (← c.self.view_is)
    (ap (option_map abs_text) c.from_residual.ensures
    ∙ sym (first_from-range c.args.path.now c.self.inside.files.entries c.range.result (c.range.ensures.between tt)
    ∙ ap (λ found. option_map (λ file. file.0) (slice_get found 0)) c.in_err-file.ensures.steps.0))

pub returns-clause-first : goal.returns-clause-first
returns-clause-first c =
    rw (← c.self.view_is, c.as_path.ensures)
    (sym (first_from-range c.args.path.now c.self.inside.files.entries c.range.result (c.range.ensures.between tt)
    ∙ ap (λ found. option_map (λ file. file.0) (slice_get found 0)) c.in_ok-file.ensures.steps))
