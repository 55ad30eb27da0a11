use Rattle.std.proofs.Common.{lit<, sym, ◌∙◌}
use Rattle.base_text_paths.specs.AbsPath.{abs_text}
use Rattle.base_text_paths.specs.Paths.{components}
use Rattle.base_text_paths.proofs.Joining.{row_of_none}
use Rattle.base_text_paths.proofs.paths.abs_path.AbsPath.row_before.Goals as goal

pub returns-then-starts_with : goal.returns-then-starts_with
returns-then-starts_with c = row_of_none c.args.tail.now _ (components (abs_text c.args.self)) (sym (c.starts_with.ensures.byte (lit< tt) (lit< tt) (λ w o h. h)) ∙ c.if-starts_with.true) c.new.ensures.bytes
