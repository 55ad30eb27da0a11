use Rattle.std.proofs.Common.{ap, sym, ◌∙◌}
use Rattle.std.specs.List.{list_any}
use Rattle.base_text_paths.specs.AbsPath.{abs_text}
use Rattle.base_text_paths.specs.PathOrder.{path_eq}
use Rattle.vfs_core_loader.proofs.entry.Entry.contains_file.Goals as goal

pub returns-in-Files : goal.returns-in-Files
returns-in-Files c =
    let path = abs_text c.args.path in
    let answer = c.is_one_of.ensures ∙ ap (list_any (λ file. path_eq file path)) c.as_slice.ensures in
    rw c.in-Files.is (λ h. sym answer ∙ h, λ h. answer ∙ h)
