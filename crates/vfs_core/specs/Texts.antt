-- What the batch makes of contents that were known before it: those that live, where each batch was taken in
-- its turn.
use Rattle.std.specs.Prelude.{◌≡◌, ℕ, Bool, true, List, ◌∷◌, Option, Some, None, nat_eq}
use Rattle.std.specs.List.{list_all}
use Rattle.std.specs.Map.{lookup}
use Rattle.vfs_core.specs.declared.changed_file.Change.{Change}
use Rattle.vfs_core.specs.declared.changed_file.Change.TheVariants.{Create, Modify, Delete}
use Rattle.vfs_core.specs.declared.changed_file.ChangedFile.{ChangedFile}
use Rattle.vfs_core.specs.declared.marks.Mark.{Mark}
use Rattle.vfs_core.specs.declared.marks.MarkKind.TheVariants.{Out}
use Rattle.vfs_core.specs.Files.{Files, Follows, kind_of, path_number}
use Rattle.vfs_core.specs.Marks.{live_text}
use Rattle.vfs_core.specs.VfsPath.{PathContent}

-- the contents that a change leaves
abbrev pub contents_left : Change → Option (List ℕ)
contents_left (Create bytes hash) = Some bytes
contents_left (Modify bytes hash) = Some bytes
contents_left Delete = None

-- the contents of a file after what a batch holds of it, if anything, and what was known before
abbrev pub contents_by : Option ChangedFile → Option (List ℕ) → Option (List ℕ)
contents_by None before = before
contents_by (Some call) before = contents_left call.change

-- the contents of each file after a batch, by those that were known before
abbrev pub contents_after : List (ℕ × ChangedFile) → (ℕ → Option (List ℕ)) → ℕ → Option (List ℕ)
contents_after batch known file = contents_by (lookup (nat_eq file) batch) (known file)

-- the batch brings what was known before it to the texts that live after marks
pub record BringsTo (files : Files) (known : ℕ → Option (List ℕ)) (marks : List Mark) : Type 0 where
  pub each : (path : PathContent) (file : ℕ) (text : List ℕ)
      → path_number files path ≡ Some file → live_text marks path ≡ Some text
      → contents_after files.batch known file ≡ Some text

-- contents that come for a path are in the batch, where they change its file
abbrev pub BringsMark : Files → Files → PathContent → Option (List ℕ) → Type 0
BringsMark old new path contents = (known : ℕ → Option (List ℕ)) (marks : List Mark)
    → Follows old marks → BringsTo old known marks
    → BringsTo new known (record { path = path; kind = kind_of contents } ∷ marks)

-- a path that is left out needs no contents
abbrev pub BringsOut : Files → Files → PathContent → Type 0
BringsOut old new path = (known : ℕ → Option (List ℕ)) (marks : List Mark)
    → BringsTo old known marks → BringsTo new known (record { path = path; kind = Out } ∷ marks)

-- whatever the batch brought to the texts that live, it brings to them still
abbrev pub KeepsBringing : Files → Files → Type 0
KeepsBringing old new = (known : ℕ → Option (List ℕ)) (marks : List Mark)
    → BringsTo old known marks → BringsTo new known marks

-- once the batch is taken, what it made of what was known before is what is known
abbrev pub BringsTaken : Files → Files → Type 0
BringsTaken old new = (known : ℕ → Option (List ℕ)) (marks : List Mark)
    → BringsTo old known marks → BringsTo new (contents_after old.batch known) marks

-- whether the contents that a change leaves pass a test
abbrev pub passes : (List ℕ → Bool) → Change → Bool
passes test (Create bytes hash) = test bytes
passes test (Modify bytes hash) = test bytes
passes test Delete = true

-- whether all contents in a batch pass a test
abbrev pub all_pass : (List ℕ → Bool) → List (ℕ × ChangedFile) → Bool
all_pass test batch = list_all (λ entry. passes test entry.1.change) batch

-- whether contents pass a test, where there are some
abbrev pub contents_pass : (List ℕ → Bool) → Option (List ℕ) → Bool
contents_pass test None = true
contents_pass test (Some bytes) = test bytes

-- a test that passed in the batch, and passes for these contents, passes in the batch still
pub record KeepsPassing (old new : Files) (contents : Option (List ℕ)) : Type 0 where
  pub each : (test : List ℕ → Bool)
      → contents_pass test contents ≡ true → all_pass test old.batch ≡ true → all_pass test new.batch ≡ true
