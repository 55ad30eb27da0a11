use Rattle.std.proofs.Common.{refl}
use Rattle.cargo_meta.specs.Package.{body_from}
use Rattle.cargo_meta.proofs.package_rows.read_body.Goals as goal
use Rattle.json_fields.proofs.Steps.{read_rows, read_on}

pub returns : goal.returns
unfolding body_from
returns c = record {
  exact = read_rows _ _
      (read_on _ c.in_ok-license_file.ensures.exact
      (read_on _ c.in_ok-targets.ensures.exact
      (read_on _ c.in_ok-features.ensures.exact
      (read_on _ c.in_ok-manifest_path.ensures.exact
      (read_on _ c.in_ok-categories.ensures.exact
      (read_on _ c.in_ok-keywords.ensures.exact
      (read_on _ c.in_ok-readme.ensures.exact
      (read_on _ c.in_ok-repository.ensures.exact
      (record { is = refl })))))))));
}
