use Rattle.std.proofs.lemmas.Bool.{false≢true}
use Rattle.cargo_meta.proofs.RootManifest.{is_manifest_in-apart, is_manifest_in-rest}
use Rattle.cargo_meta.proofs.select.is_manifest_in.Goals as goal

pub returns-in-Ok : goal.returns-in-Ok
returns-in-Ok c = is_manifest_in-rest _ _ _ _ (rw c.new.ensures at c.in-Ok.ensures.rest) c.is_name.ensures

pub returns-in-Err : goal.returns-in-Err
returns-in-Err c =
    let succeeds = rw c.new.ensures at c.in-Err.ensures.succeeds in
    is_manifest_in-apart _ _ (λ h. false≢true (succeeds.1 h))
