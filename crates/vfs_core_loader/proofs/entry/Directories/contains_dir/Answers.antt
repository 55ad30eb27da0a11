use Rattle.std.proofs.Common.{Bool, IsFalse, List, ℕ, IsTrue, false, not, refl, subst, sym, true}
use Rattle.std.specs.List.{All}
use Rattle.base_text_paths.specs.AbsPath.{abs_text}
use Rattle.vfs_core_loader.specs.Entries.{IsBelow, IsLongest}
use Rattle.vfs_core_loader.proofs.PrefixLemmas.{below_any_longest}
use Rattle.vfs_core_loader.proofs.entry.Directories.contains_dir.Goals as goal

not_false : (b : Bool) → IsFalse b → IsTrue (not b)
not_false b h = rw h refl

false_of_not : (b : Bool) → IsTrue (not b) → IsFalse b
false_of_not true h = cc
false_of_not false h = refl

pub returns-in-Some : goal.returns-in-Some
returns-in-Some c =
    let path = abs_text c.args.path in
    let include = abs_text c.in-Some.include in
    let found = subst (λ directories. IsLongest directories path include) c.as_slice.ensures c.in-Some.ensures in
    let Lacks : List (List ℕ) → Type 0 = λ excludes. All (λ exclude. IsBelow path exclude → IsBelow exclude include → ⊥) excludes in (
      λ h. (include, found, subst Lacks c.as_slice-in-Some.ensures (c.is_excluded.ensures.0 (false_of_not _ h))),
      λ included. not_false _ (c.is_excluded.ensures.1 (subst Lacks (sym c.as_slice-in-Some.ensures) (λ k d inside above below.
          included.2 k d inside above (below_any_longest _ path include included.0 _ found included.1 below)))),
    )
