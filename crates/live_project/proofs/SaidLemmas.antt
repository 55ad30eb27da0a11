-- What holds what was said: whether there is room for a path, one more mark or answer, and what a load keeps of it.
use Rattle.std.proofs.Common.{◌≡◌, ℕ, ◌<◌, ◌≤◌, true, false, ◌||◌, List, ◌∷◌, Option, Some, None, refl, sym, ap, ◌∙◌, arith, length, nat_lt, subst}
use Rattle.std.specs.List.{list_any}
use Rattle.std.specs.Option.{is_some}
use Rattle.std.proofs.lemmas.Bool.Decides.{nat_tests}
use Rattle.std.proofs.lemmas.Map.Made.{is_some-lookup}
use Rattle.std.proofs.lemmas.Grind.{common_steps}
use Rattle.base_text_outside.specs.Command.{question_of}
use Rattle.base_text_outside.specs.Runner.{with_answer}
use Rattle.base_text_outside.specs.declared.command.CommandLine.{CommandLine}
use Rattle.base_text_outside.specs.declared.command.Output.{Output}
use Rattle.vfs_core.specs.Files.{Files, Follows, IsFullFor, entry_state}
use Rattle.vfs_core.specs.VfsPath.{PathContent, vfs_path_eq}
use Rattle.vfs_core.specs.declared.marks.Mark.{Mark}
use Rattle.vfs_core.specs.Marks.{mentioned_paths}
use Rattle.live_project.specs.LiveTexts.{HoldsSaid, RecordsMark, SparesChanges, sources_kept}
use Rattle.live_project.specs.Sources.{Said, has_room, sources_of}
use Rattle.live_project.specs.declared.recorded.Recorded.{Recorded}
use Rattle.live_project.proofs.KeptTree.{kept_tree}

-- ---- room

-- the paths of the marks are those of the files
known : (files : Files) (said : Said) (path : PathContent) → Follows files said.marks
    → list_any (vfs_path_eq path) (mentioned_paths said.marks) ≡ is_some (entry_state files path)
known files said path h = ap (list_any (vfs_path_eq path)) (sym h.numbers) ∙ sym (is_some-lookup (vfs_path_eq path) files.entries)

-- there are as many
as_many : (files : Files) (said : Said) → Follows files said.marks → length (mentioned_paths said.marks) ≡ length files.entries
as_many files said h = ap length (sym h.numbers) ∙ grind (arith, common_steps)

-- a path is found, or there is room behind all entries
room_by : {X : Type 0} (f : Option X) (count limit : ℕ) → ((f ≡ None) × (limit ≤ count) → ⊥) → (is_some f || nat_lt count limit) ≡ true
room_by None count limit apart =
    let full : limit ≤ count → ⊥ = λ (h : limit ≤ count). apart (refl, h) in
    let below : count < limit = omega (arith, full) in grind (arith, nat_tests)
room_by (Some x) count limit apart = refl

-- files that are not full for a path have room for it
pub has_room-not_full : (files : Files) (said : Said) (path : PathContent) → Follows files said.marks → files.limit ≡ said.config.limits.paths → (IsFullFor files path → ⊥) → has_room said path ≡ true
has_room-not_full files said path h same apart =
    rw (known files said path h, as_many files said h, ← same) (room_by (entry_state files path) (length files.entries) files.limit apart)

-- and files that are full for it have none
pub has_room-full : (files : Files) (said : Said) (path : PathContent) → Follows files said.marks → files.limit ≡ said.config.limits.paths → IsFullFor files path → has_room said path ≡ false
has_room-full files said path h same full =
    let above : files.limit ≤ length files.entries = full.1 in
    rw (known files said path h, as_many files said h, ← same, full.0) (grind (arith, nat_tests))

-- ---- what is held

module _ (old new : Recorded) (said : Said) (h : HoldsSaid old said) where
  -- one more mark
  pub holds_mark : (mark : Mark) → RecordsMark old new mark → HoldsSaid new (record said { marks = mark ∷ said.marks })
  holds_mark mark adds = record {
    config = adds.config ∙ h.config;
    limit = adds.adds.limit ∙ h.limit;
    texts = adds.adds.keeps said.marks h.texts;
    answers = adds.answers ∙ h.answers;
  }

  -- one more answer
  pub holds_answer : (line : CommandLine) (output : Output) → new ≡ record old { answers = with_answer (question_of line) output old.answers }
      → HoldsSaid new (record said { answers = with_answer (question_of line) output said.answers })
  holds_answer line output after = record {
    config = ap (λ r. r.config) after ∙ h.config;
    limit = ap (λ r. r.files.limit) after ∙ h.limit;
    texts = rw after h.texts;
    answers = ap (λ r. r.answers) after ∙ ap (with_answer (question_of line) output) h.answers;
  }

  -- what spares all but the changes of files
  pub holds_spared : SparesChanges old new → HoldsSaid new said
  holds_spared spares = record {
    config = spares.config ∙ h.config;
    limit = ap (λ f. f.limit) spares.files ∙ h.limit;
    texts = record {
      follows = subst (λ f. Follows f said.marks) (sym spares.files) (record { numbers = h.texts.follows.numbers; states = h.texts.follows.states });
      texts = spares.texts ∙ h.texts.texts;
    };
    answers = spares.answers ∙ h.answers;
  }

-- what a load keeps of what is recorded is what one of what was said keeps
pub same_sources : (recorded : Recorded) (said : Said) → HoldsSaid recorded said → (path : List ℕ) → sources_kept recorded path ≡ sources_of said path
same_sources recorded said h path = λ i. record {
  config = h.config i;
  answers = h.answers i;
  files = kept_tree recorded.files recorded.texts said.marks h.texts i;
  path = path;
}

-- a call that spares, and then one that leaves all as it was
pub spares_same : (old mid new : Recorded) → SparesChanges old mid → new ≡ mid → SparesChanges old new
spares_same old mid new spares same = subst (SparesChanges old) (sym same) spares
