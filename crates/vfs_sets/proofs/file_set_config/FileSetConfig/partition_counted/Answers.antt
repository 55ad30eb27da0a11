use Rattle.std.proofs.Common.{◌≡◌, ◌++◌, ◌∷◌, ◌∙◌, [], ℕ, List, ap, map, subst}
use Rattle.std.proofs.lemmas.List.{map-append}
use Rattle.vfs_core.specs.Files.{numbered_path}
use Rattle.vfs_core.specs.VfsPath.{PathContent}
use Rattle.vfs_sets.specs.Partition.{HasPut}
use Rattle.vfs_sets.proofs.PartitionLemmas.{partition_more}
use Rattle.vfs_sets.proofs.CountLemmas.{front_is, front_more, front_raises, on_err, placing_more, shown_more}
use Rattle.vfs_sets.proofs.file_set_config.FileSetConfig.partition_counted.Goals as goal

pub loop-id-preserved : goal.loop-id-preserved
loop-id-preserved g c =
    let files = map numbered_path c.loop-id.yielded in
    let file : ℕ × PathContent = (c.in-Some.id, c.in-Some.path.now) in
    let all : map numbered_path (c.loop-id.yielded ++ (c.in-Some.id, c.in-Some.path) ∷ []) ≡ files ++ file ∷ [] =
    map-append numbered_path c.loop-id.yielded ((c.in-Some.id, c.in-Some.path) ∷ []) in
    let put = subst (λ p. HasPut c.loop-id.sets.items c.put.new.sets.items p c.in-Some.id c.in-Some.path.now)
    c.classify_counted-place.ensures.place
    (subst (λ (q : PathContent). HasPut c.loop-id.sets.items c.put.new.sets.items c.classify_counted-place.result c.in-Some.id q)
    c.in_ok-path.ensures c.in_ok-put.ensures) in (
      rw all (partition_more c.args.self.now files c.loop-id.sets.items c.put.new.sets.items file c.loop-id.invariant.0 put),
      rw all (placing_more c.args.self.now files file _ _ _ c.loop-id.invariant.1 c.classify_counted-place.ensures.counts),
      ap (λ (shown : List (ℕ × PathContent)). shown ++ c.next.new.self) all
          ∙ shown_more files c.loop-id.id-iterator _ file c.next.new.self c.loop-id.invariant.2 c.in-Some.ensures.steps,
    )

pub returns-in_err-path-clause-err : goal.returns-in_err-path-clause-err
returns-in_err-path-clause-err g c =
    on_err _ (front_more _ (map numbered_path c.loop-id.yielded) c.loop-id.id-iterator _ _ c.next.new.self _ _ _
    c.loop-id.invariant.2 c.in-Some.ensures.steps c.loop-id.invariant.1 c.classify_counted-place.ensures.counts)

pub returns-in_err-path-clause-most : goal.returns-in_err-path-clause-most
returns-in_err-path-clause-most g c =
    front_raises _ _ _ _ (front_more _ (map numbered_path c.loop-id.yielded) c.loop-id.id-iterator _ _ c.next.new.self _ _ _
    c.loop-id.invariant.2 c.in-Some.ensures.steps c.loop-id.invariant.1 c.classify_counted-place.ensures.counts)

pub returns-in_err-put-clause-err : goal.returns-in_err-put-clause-err
returns-in_err-put-clause-err g c =
    on_err _ (front_more _ (map numbered_path c.loop-id.yielded) c.loop-id.id-iterator _ _ c.next.new.self _ _ _
    c.loop-id.invariant.2 c.in-Some.ensures.steps c.loop-id.invariant.1 c.classify_counted-place.ensures.counts)

pub returns-in_err-put-clause-most : goal.returns-in_err-put-clause-most
returns-in_err-put-clause-most g c =
    front_raises _ _ _ _ (front_more _ (map numbered_path c.loop-id.yielded) c.loop-id.id-iterator _ _ c.next.new.self _ _ _
    c.loop-id.invariant.2 c.in-Some.ensures.steps c.loop-id.invariant.1 c.classify_counted-place.ensures.counts)

pub returns-clause-most : goal.returns-clause-most
returns-clause-most g c =
    front_raises _ _ _ _
    (front_is _ (map numbered_path c.loop-id.yielded) c.loop-id.id-iterator _ _ _ c.loop-id.invariant.2 c.loop-id.invariant.1)
