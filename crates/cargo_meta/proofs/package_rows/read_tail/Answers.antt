use Rattle.std.proofs.Common.{refl}
use Rattle.cargo_meta.specs.Package.{package_tail_from}
use Rattle.cargo_meta.proofs.package_rows.read_tail.Goals as goal
use Rattle.json_fields.proofs.Steps.{read_rows, read_on}

pub returns : goal.returns
unfolding package_tail_from
returns c =
    let metadata = rw c.null.ensures at c.in_ok-metadata.ensures.exact in
    record {
      exact = read_rows _ _
          (read_on _ c.in_ok-homepage.ensures.exact
          (read_on _ c.in_ok-documentation.ensures.exact
          (read_on _ c.in_ok-edition.ensures.exact
          (read_on _ metadata
          (read_on _ c.in_ok-links.ensures.exact
          (read_on _ c.in_ok-publish.ensures.exact
          (read_on _ c.in_ok-default_run.ensures.exact
          (read_on _ c.in_ok-rust_version.ensures.exact
          (record { is = rw c.version_of.ensures refl })))))))));
    }
