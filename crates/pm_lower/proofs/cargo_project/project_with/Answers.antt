use Rattle.std.proofs.Common.{◌∙◌, ap}
use Rattle.std.proofs.lemmas.Result.{err_from_is_err_and}
use Rattle.pm_lower.proofs.ProjectLemmas.{project-read, project-refused}
use Rattle.pm_lower.specs.declared.cargo_project.Settings.{Settings}
use Rattle.pm_tools_ask.specs.Ask.{means_of}
use Rattle.pm_lower.proofs.cargo_project.project_with.Goals as goal

pub returns-in_err-kind : goal.returns-in_err-kind
returns-in_err-kind g c =
    let p = err_from_is_err_and c.from_residual.result c.from_residual.ensures.1 in
    rw (p.1, p.2) (project-refused c.args.sysroot c.args.manifest c.args.config.now c.args.limits.now (means_of g.R.Runner.answers g.T.Tree.files c.args.ask.now)
    c.args.answers c.args.fetched c.in_err-kind.field-0.0 c.in_err-kind.ensures)

pub returns : goal.returns
returns g c =
    project-read c.args.sysroot c.args.manifest c.args.config.now c.args.limits.now (means_of g.R.Runner.answers g.T.Tree.files c.args.ask.now)
    c.args.answers c.args.fetched c.in_ok-kind.kind _ c.in_ok-kind.ensures (c.project_of.ensures ∙ ap (λ (s : Settings). record {
      kind = c.in_ok-kind.kind;
      sysroot = c.args.sysroot;
      rustc_cfg = c.args.answers.rustc_cfg;
      toolchain = c.args.answers.toolchain;
      target = c.args.answers.target;
      cfg_overrides = s.cfg_overrides;
      extra_includes = s.extra_includes;
      set_test = s.set_test;
    }) c.requires)
