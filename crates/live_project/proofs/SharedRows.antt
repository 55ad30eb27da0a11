-- What a call makes of rows of texts that may be shared, and of the files beside them.
use Rattle.std.proofs.Common.{◌≡◌, ℕ, true, List, ◌∷◌, Option, None, sym, ◌∙◌, ap, subst}
use Rattle.std.specs.Prelude.{Result, Ok, Err, OnOk, String, string_bytes}
use Rattle.std.specs.declared.alloc.Global.{Global}
use Rattle.std.proofs.lemmas.Str.{IsUtf8-string_bytes, is_utf8-from_IsUtf8}
use Rattle.std.specs.Str.{is_utf8}
use Rattle.vfs_core.specs.declared.marks.Mark.{Mark}
use Rattle.vfs_core.specs.declared.marks.MarkKind.TheVariants.{Out}
use Rattle.vfs_core.specs.Texts.{all_pass, contents_pass}
use Rattle.vfs_core.specs.Files.{Files, is_change_at, kind_of, path_number}
use Rattle.vfs_core.specs.VfsPath.{PathContent}
use Rattle.live_project.specs.LiveTexts.{AddsMark, KeepsTexts, TakesContents, TakesExclusion, with_row_text}
use Rattle.live_project.proofs.TextRows.{KeepsTexts_out, KeepsTexts_put}

module _ (old new : Files) (rows after : List (Option (List ℕ))) (path : PathContent) where
  -- a text, or none, that came for a path, by what was done to the files and to the rows
  pub put_adds : (text bytes shared : Option (List ℕ)) → bytes ≡ text → shared ≡ text
      → after ≡ with_row_text rows (path_number old path) (is_change_at old path bytes) shared → TakesContents old new path bytes
      → contents_pass is_utf8 bytes ≡ true → AddsMark old new rows after (record { path = path; kind = kind_of text })
  put_adds text bytes shared same_bytes same_text rows_are takes valid =
      let is : after ≡ with_row_text rows (path_number old path) (is_change_at old path text) text =
      rows_are ∙ ap (λ t. with_row_text rows (path_number old path) (is_change_at old path t) shared) same_bytes
      ∙ ap (λ t. with_row_text rows (path_number old path) (is_change_at old path text) t) same_text in
      let takes_text : TakesContents old new path text = subst (TakesContents old new path) same_bytes takes in
      record {
        limit = takes.limit;
        numbers = takes.numbers;
        keeps = λ marks keeps.
            subst (λ r. KeepsTexts new r (record { path = path; kind = kind_of text } ∷ marks)) (sym is)
            (KeepsTexts_put old new rows path text marks keeps (takes_text.follows marks keeps.follows));
        brings = takes_text.brings;
        texts = takes.passing.each is_utf8 valid;
      }

  -- a path that was left out
  pub exclude_adds : after ≡ with_row_text rows (path_number old path) true None → TakesExclusion old new path
      → AddsMark old new rows after (record { path = path; kind = Out })
  exclude_adds rows_are takes = record {
    limit = takes.limit;
    numbers = takes.numbers;
    keeps = λ marks keeps.
        subst (λ r. KeepsTexts new r (record { path = path; kind = Out } ∷ marks)) (sym rows_are)
        (KeepsTexts_out old new rows path marks keeps (takes.follows marks keeps.follows));
    brings = λ known marks follows before. takes.brings known marks before;
    texts = λ all. ap (all_pass is_utf8) takes.batch ∙ all;
  }

-- what is said of two clauses of one result
pub on_ok_both : {T E A B C : Type 0} (r : Result T E) → OnOk r A → OnOk r B → (A → B → C) → OnOk r C
on_ok_both (Ok x) a b f = f a b
on_ok_both (Err e) a b f = tt

-- rows that were shared are those that were written
pub AddsMark-shared : (old new : Files) (rows before after kept : List (Option (List ℕ))) (mark : Mark) → before ≡ rows → kept ≡ after
    → AddsMark old new before after mark → AddsMark old new rows kept mark
AddsMark-shared old new rows before after kept mark same held adds =
    subst (λ r. AddsMark old new r kept mark) same (subst (λ r. AddsMark old new before r mark) (sym held) adds)

-- the bytes of a text are one
pub valid_text : (text : String Global) → is_utf8 (string_bytes text) ≡ true
valid_text text = is_utf8-from_IsUtf8 (string_bytes text) (IsUtf8-string_bytes text)
