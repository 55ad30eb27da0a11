use Rattle.pm_lower.proofs.project_workspace.ProjectWorkspaceTryClone.try_clone.Goals as goal

pub returns : goal.returns
returns c = λ i. record {
  sysroot = c.in_ok-try_clone.ensures i;
  rustc_cfg = c.in_ok-try_clone-2.ensures i;
  toolchain = c.in_ok-try_clone-3.ensures i;
  target = c.in_ok-copy_target.ensures i;
  cfg_overrides = c.in_ok-try_clone-4.ensures i;
  extra_includes = c.in_ok-try_clone-5.ensures i;
  set_test = c.args.self.now.set_test;
  kind = c.in_ok-try_clone-6.ensures i;
}
