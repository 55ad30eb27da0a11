-- What placing adds to a count of steps: one path, and files one after the other.
use Rattle.std.proofs.Common.{◌≡◌, ℕ, zero, suc, ◌+◌, ◌≤◌, List, [], ◌∷◌, ◌++◌, Result, Ok, Err, ap, append_assoc, arith, refl, subst, sym, zero-add, ◌∙◌}
use Rattle.std.specs.Prelude.{OnErr}
use Rattle.base_text_outside.specs.Causes.{next_count, raised_by}
use Rattle.vfs_core.specs.VfsPath.{PathContent}
use Rattle.vfs_sets.specs.Placement.{placed_text}
use Rattle.vfs_sets.specs.Probes.{CountsFiles, CountsFront, CountsPlacing, CountsProbes, RaisesAtMost, most_probes, most_tries}

-- steps after steps
raised_by-sum : (more steps count : ℕ) → raised_by more (raised_by steps count) ≡ raised_by (more + steps) count
raised_by-sum zero steps count = ap (λ n. raised_by n count) (sym (zero-add steps))
raised_by-sum (suc more) steps count =
    let count_is : suc (more + steps) ≡ suc more + steps = omega arith in
    ap next_count (raised_by-sum more steps count) ∙ ap (λ n. raised_by n count) count_is

-- a count that was raised, and raised again
RaisesAtMost-again : (most more before now after : ℕ) → RaisesAtMost most before now → RaisesAtMost more now after
    → RaisesAtMost (most + more) before after
RaisesAtMost-again most more before now after first second = record {
  steps = second.steps + first.steps;
  within = omega arith;
  raised = second.raised ∙ ap (raised_by second.steps) first.raised ∙ raised_by-sum second.steps first.steps before;
}

-- one more file
counts_more : (sets : List (List PathContent)) (files : List (ℕ × PathContent)) (file : ℕ × PathContent) (before now after : ℕ)
    → CountsFiles sets files before now → CountsProbes sets file.1 now after → CountsFiles sets (files ++ file ∷ []) before after
counts_more sets [] file before now after counts probes =
    (after, subst (λ n. CountsProbes sets file.1 n after) (sym counts) probes, refl)
counts_more sets (first ∷ files) file before now after counts probes =
    (counts.0, counts.1, counts_more sets files file counts.0 now after counts.2 probes)

-- at most so many probes are counted
counts_most : (sets : List (List PathContent)) (files : List (ℕ × PathContent)) (before now : ℕ)
    → CountsFiles sets files before now → now ≤ before + most_probes files
counts_most sets [] before now counts = omega (arith, counts)
counts_most sets (file ∷ files) before now counts =
    let more = counts_most sets files counts.0 now counts.2 in
    omega (arith, more, counts.1.at_most)

-- and the count is raised by them
counts_raise : (sets : List (List PathContent)) (files : List (ℕ × PathContent)) (before now : ℕ)
    → CountsFiles sets files before now → RaisesAtMost (most_probes files) before now
counts_raise sets [] before now counts = record { steps = 0; within = omega arith; raised = sym counts }
counts_raise sets (file ∷ files) before now counts =
    RaisesAtMost-again (most_tries (placed_text file.1)) (most_probes files) before counts.0 now counts.1.raises
    (counts_raise sets files counts.0 now counts.2)

-- the first of some files have no more probes than all
most_probes-front : (placed left : List (ℕ × PathContent)) → most_probes placed ≤ most_probes (placed ++ left)
most_probes-front [] left = omega arith
most_probes-front (file ∷ placed) left = let more = most_probes-front placed left in omega (arith, more)

-- no files, no probes
pub placing_none : (sets : List (List PathContent)) (count : ℕ) → CountsPlacing sets [] count count
placing_none sets count = record { each = refl; at_most = omega arith }

-- one more file
pub placing_more : (sets : List (List PathContent)) (files : List (ℕ × PathContent)) (file : ℕ × PathContent) (before now after : ℕ)
    → CountsPlacing sets files before now → CountsProbes sets file.1 now after → CountsPlacing sets (files ++ file ∷ []) before after
placing_more sets files file before now after counts probes =
    let each = counts_more sets files file before now after counts.each probes in
    record { each = each; at_most = counts_most sets (files ++ file ∷ []) before after each }

-- the first files were placed, and some are left
pub front_is : (sets : List (List PathContent)) (placed left files : List (ℕ × PathContent)) (before now : ℕ)
    → placed ++ left ≡ files → CountsPlacing sets placed before now → CountsFront sets files before now
front_is sets placed left files before now all counts =
    record { placed = placed; left = left; all = all; each = counts.each }

pub front_raises : (sets : List (List PathContent)) (files : List (ℕ × PathContent)) (before now : ℕ)
    → CountsFront sets files before now → RaisesAtMost (most_probes files) before now
front_raises sets files before now front =
    let raises = counts_raise sets front.placed before now front.each in
    let few = most_probes-front front.placed front.left in
    let all : most_probes (front.placed ++ front.left) ≡ most_probes files = ap most_probes front.all in
    record { steps = raises.steps; within = omega (arith, few, all, raises.within); raised = raises.raised }

-- one more file before those that are left
pub shown_more : (shown left : List (ℕ × PathContent)) (files : List (ℕ × PathContent)) (file : ℕ × PathContent) (rest : List (ℕ × PathContent))
    → shown ++ left ≡ files → left ≡ file ∷ rest → (shown ++ file ∷ []) ++ rest ≡ files
shown_more shown left files file rest all is =
    append_assoc shown (file ∷ []) rest ∙ ap (λ l. shown ++ l) (sym is) ∙ all

-- and it was placed
pub front_more : (sets : List (List PathContent)) (shown left files : List (ℕ × PathContent)) (file : ℕ × PathContent) (rest : List (ℕ × PathContent))
    → (before now after : ℕ) → shown ++ left ≡ files → left ≡ file ∷ rest → CountsPlacing sets shown before now
    → CountsProbes sets file.1 now after → CountsFront sets files before after
front_more sets shown left files file rest before now after all is counts probes =
    front_is sets (shown ++ file ∷ []) rest files before after (shown_more shown left files file rest all is)
    (placing_more sets shown file before now after counts probes)

-- what holds holds after an error
pub on_err : {T E P : Type 0} (result : Result T E) → P → OnErr result P
on_err (Ok x) holds = tt
on_err (Err e) holds = holds
