use Rattle.std.proofs.lemmas.Result.{err_from_is_err_and}
use Rattle.base_text_paths.specs.AbsPath.{abs_text}
use Rattle.pm_lower_load.proofs.JsonLemmas.{content-read, content-refused, crates-refused, toolchain-refused}
use Rattle.pm_lower_load.proofs.json_document.json_content.Goals as goal

pub returns-in_err-stated : goal.returns-in_err-stated
returns-in_err-stated g c =
    let p = err_from_is_err_and c.from_residual-in_err-stated.result c.from_residual-in_err-stated.ensures.1 in
    rw (p.1, p.2) (content-refused c.args.path.now c.args.limits.now (g.T.Tree.files c.args.tree.now) c.in_err-stated.field-0.0 c.in_err-stated.ensures)

pub returns-in_err-project : goal.returns-in_err-project
returns-in_err-project g c =
    let p = err_from_is_err_and c.from_residual-in_err-project.result c.from_residual-in_err-project.ensures.1 in
    rw (p.1, p.2) (crates-refused c.args.path.now c.args.limits.now (g.T.Tree.files c.args.tree.now) c.in_ok-stated.stated c.in_ok-try_clone.field-0 (abs_text c.parent.result)
    c.in_ok-stated.ensures c.in_ok-try_clone.ensures c.parent.ensures c.in_err-project.field-0.0 c.in_err-project.ensures.exact)

pub returns-in_err-refuse_toolchain : goal.returns-in_err-refuse_toolchain
returns-in_err-refuse_toolchain g c =
    let p = err_from_is_err_and c.from_residual-in_err-refuse_toolchain.result c.from_residual-in_err-refuse_toolchain.ensures.1 in
    rw (p.1, p.2) (toolchain-refused c.args.path.now c.args.limits.now (g.T.Tree.files c.args.tree.now) c.in_ok-stated.stated c.in_ok-try_clone.field-0 (abs_text c.parent.result)
    c.in_ok-stated.ensures c.in_ok-try_clone.ensures c.parent.ensures c.in_ok-project.project _ c.in_ok-project.ensures.exact c.toolchain_member-toolchain.ensures
    c.in_err-refuse_toolchain.field-0.0 c.in_err-refuse_toolchain.ensures)

pub returns : goal.returns
returns g c =
    content-read c.args.path.now c.args.limits.now (g.T.Tree.files c.args.tree.now) c.in_ok-stated.stated c.in_ok-try_clone.field-0 (abs_text c.parent.result)
    c.in_ok-stated.ensures c.in_ok-try_clone.ensures c.parent.ensures c.in_ok-project.project _ c.in_ok-project.ensures.exact c.toolchain_member-toolchain.ensures
    c.in_ok-refuse_toolchain.field-0 c.in_ok-refuse_toolchain.ensures
