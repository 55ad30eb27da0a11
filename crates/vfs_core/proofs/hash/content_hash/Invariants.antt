use Rattle.std.proofs.Common.{◌≡◌, take}
use Rattle.std.specs.Prelude.{fold}
use Rattle.vfs_core.specs.Hash.{fnv_step, fnv_basis}
use Rattle.vfs_core.proofs.hash.content_hash.Given as goal

abbrev pub invariant-loop-byte : goal.invariant-loop-byte
invariant-loop-byte l = l.hash ≡ fold fnv_step fnv_basis (take l.byte-index l.bytes)
