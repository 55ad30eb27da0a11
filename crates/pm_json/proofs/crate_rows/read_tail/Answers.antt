use Rattle.std.proofs.Common.{refl}
use Rattle.pm_json.proofs.Steps.{returns_miss, returns_on, returns_rows}
use Rattle.pm_json.specs.CrateData.{crate_tail_from}
use Rattle.pm_json.proofs.crate_rows.read_tail.Goals as goal
use Rattle.json_fields.proofs.Steps.{read_rows, read_on}

pub returns-in_err-crate_attrs : goal.returns-in_err-crate_attrs
unfolding crate_tail_from
returns-in_err-crate_attrs c =
    let error = c.from_residual-in_err-crate_attrs in
    record {
      exact = returns_rows _ _
          (returns_on _ c.in_ok-env.ensures.exact
          (returns_miss _ _ error.result c.in_err-crate_attrs.field-0.0 error.ensures.1 c.in_err-crate_attrs.ensures.exact));
    }

pub returns-in_err-proc_macro_cwd : goal.returns-in_err-proc_macro_cwd
unfolding crate_tail_from
returns-in_err-proc_macro_cwd c =
    let error = c.from_residual-in_err-proc_macro_cwd in
    record {
      exact = returns_rows _ _
          (returns_on _ c.in_ok-env.ensures.exact
          (returns_on _ c.in_ok-crate_attrs.ensures.exact
          (returns_on _ c.in_ok-proc_macro_dylib_path.ensures.exact
          (returns_on _ c.in_ok-is_workspace_member.ensures.exact
          (returns_on _ c.in_ok-source.ensures.exact
          (returns_on _ c.in_ok-is_proc_macro.ensures.exact
          (returns_on _ c.in_ok-repository.ensures.exact
          (returns_on _ c.in_ok-build.ensures.exact
          (returns_miss _ _ error.result c.in_err-proc_macro_cwd.field-0.0 error.ensures.1 c.in_err-proc_macro_cwd.ensures.exact)))))))));
    }

pub returns : goal.returns
unfolding crate_tail_from
returns c = record {
  exact = read_rows _ _
      (read_on _ c.in_ok-env.ensures.exact
      (read_on _ c.in_ok-crate_attrs.ensures.exact
      (read_on _ c.in_ok-proc_macro_dylib_path.ensures.exact
      (read_on _ c.in_ok-is_workspace_member.ensures.exact
      (read_on _ c.in_ok-source.ensures.exact
      (read_on _ c.in_ok-is_proc_macro.ensures.exact
      (read_on _ c.in_ok-repository.ensures.exact
      (read_on _ c.in_ok-build.ensures.exact
      (read_on _ c.in_ok-proc_macro_cwd.ensures.exact
      (record { is = refl }))))))))));
}
