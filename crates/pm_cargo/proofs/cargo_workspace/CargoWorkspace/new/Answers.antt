use Rattle.std.proofs.Common.{Ok, ap, subst, sym, ◌∙◌}
use Rattle.std.proofs.lemmas.Result.{err_from_is_err_and}
use Rattle.pm_cargo_reading.specs.Presence.{HoldsItsIds}
use Rattle.pm_cargo.proofs.ReadLemmas.{made_in, read-all, read-no_contents, read-no_directories}
use Rattle.pm_cargo.proofs.WithinLemmas.{members-within}
use Rattle.pm_cargo.proofs.LimitLemmas.{document_few, refused_limit}
use Rattle.pm_cargo.proofs.cargo_workspace.CargoWorkspace.new.Goals as goal

pub returns-in_err-directories-clause-workspace : goal.returns-in_err-directories-clause-workspace
returns-in_err-directories-clause-workspace c =
    let p = err_from_is_err_and c.from_residual.result c.from_residual.ensures.1 in
    rw (p.1, p.2) (read-no_directories c.args.ws_manifest_path c.args.cargo_env c.args.is_sysroot c.args.meta c.args.limits.now
    c.in_err-directories.field-0.0 c.in_err-directories.ensures)

pub returns-in_err-contents-clause-workspace : goal.returns-in_err-contents-clause-workspace
returns-in_err-contents-clause-workspace c =
    let p = err_from_is_err_and c.from_residual-in_err-contents.result c.from_residual-in_err-contents.ensures.1 in
    rw (p.1, p.2) (read-no_contents c.args.ws_manifest_path c.args.cargo_env c.args.is_sysroot c.args.meta c.args.limits.now
    c.in_err-contents.field-0.0 c.in_ok-directories.directories c.in_ok-directories.ensures c.in_err-contents.ensures.exact)

pub invariant_of-result : goal.invariant_of-result
invariant_of-result c =
    let contents = c.in_ok-contents.contents in
    subst (λ packages. HoldsItsIds (record { packages = packages; targets = contents.targets })) (sym c.in_ok-with_all_member_deps.ensures)
    (members-within contents.packages contents.targets c.in_ok-contents.ensures.present)

pub returns-clause-workspace : goal.returns-clause-workspace
returns-clause-workspace c =
    let contents = c.in_ok-contents.contents in
    let directories = c.in_ok-directories.directories in
    read-all c.args.ws_manifest_path c.args.cargo_env c.args.is_sysroot c.args.meta c.args.limits.now
    directories contents c.in_ok-directories.ensures c.in_ok-contents.ensures.exact
    ∙ ap (λ packages. Ok (record (made_in c.args.ws_manifest_path c.args.cargo_env c.args.is_sysroot directories contents) { packages = packages })) (sym c.in_ok-with_all_member_deps.ensures)

-- ---- limits

pub returns-in_err-directories-clause-limits : goal.returns-in_err-directories-clause-limits
returns-in_err-directories-clause-limits c =
    let p = err_from_is_err_and c.from_residual.result c.from_residual.ensures.1 in
    rw (p.1, p.2) (refused_limit c.args.meta c.args.ws_manifest_path c.args.cargo_env c.args.is_sysroot c.args.limits.now c.in_err-directories.field-0.0
    (read-no_directories c.args.ws_manifest_path c.args.cargo_env c.args.is_sysroot c.args.meta c.args.limits.now
    c.in_err-directories.field-0.0 c.in_err-directories.ensures))

pub returns-in_err-contents-clause-limits : goal.returns-in_err-contents-clause-limits
returns-in_err-contents-clause-limits c =
    let p = err_from_is_err_and c.from_residual-in_err-contents.result c.from_residual-in_err-contents.ensures.1 in
    rw (p.1, p.2) (refused_limit c.args.meta c.args.ws_manifest_path c.args.cargo_env c.args.is_sysroot c.args.limits.now c.in_err-contents.field-0.0
    (read-no_contents c.args.ws_manifest_path c.args.cargo_env c.args.is_sysroot c.args.meta c.args.limits.now
    c.in_err-contents.field-0.0 c.in_ok-directories.directories c.in_ok-directories.ensures c.in_err-contents.ensures.exact))

pub returns-clause-few : goal.returns-clause-few
returns-clause-few c =
    let contents = c.in_ok-contents.contents in
    let directories = c.in_ok-directories.directories in
    rw c.in_ok-with_all_member_deps.ensures
    (document_few c.args.meta c.args.ws_manifest_path c.args.cargo_env c.args.is_sysroot c.args.limits.now
    (made_in c.args.ws_manifest_path c.args.cargo_env c.args.is_sysroot directories contents)
    (read-all c.args.ws_manifest_path c.args.cargo_env c.args.is_sysroot c.args.meta c.args.limits.now
    directories contents c.in_ok-directories.ensures c.in_ok-contents.ensures.exact))
