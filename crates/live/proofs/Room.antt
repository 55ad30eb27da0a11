-- A mark that there is room for is held, and one that there is none for is refused.
use Rattle.std.proofs.Common.{◌≡◌, ℕ, List, [], ◌∷◌, Option, inl, inr, ◌⊎◌, refl, sym, ap, ◌∙◌, arith, subst}
use Rattle.base_text_outside.specs.Sink.{Appends-nil}
use Rattle.base_text_outside.specs.declared.limits.Limit.TheVariants.{Paths}
use Rattle.vfs_core.specs.Files.{IsFullFor, paths_of}
use Rattle.vfs_core.specs.Texts.{BringsTo}
use Rattle.vfs_core.specs.VfsPath.{PathContent}
use Rattle.vfs_core.specs.declared.marks.Mark.{Mark}
use Rattle.vfs_core.specs.declared.marks.MarkKind.{MarkKind}
use Rattle.live_page.specs.Shape.{texts_known}
use Rattle.live_project.proofs.SaidLemmas.{has_room-full, has_room-not_full, holds_mark}
use Rattle.live_script.specs.declared.fault.LiveError.{LiveError}
use Rattle.live_script.specs.declared.fault.LiveError.TheVariants.{OutOfMemory, TooMany}
use Rattle.live_script.specs.Fault.{IsRefusal}
use Rattle.live_script.specs.Turn.{RefusesTurn}
use Rattle.live_script.proofs.Texts.{AppendsFront-nil}
use Rattle.live.specs.declared.session.Live.{Live}
use Rattle.live.specs.Marked.{AddsMarkTo}
use Rattle.live.specs.Session.{State, mark_turn}
use Rattle.live.specs.Turn.{EndsLiveTurn, Holds, KeepsFlush, TakesLiveTurn, live_rules}
use Rattle.live.proofs.Kept.{flush_mark}

module _ (live live' : Live) (s : State) (path : PathContent) (kind : MarkKind) (h : Holds live s) where
  abbrev mark : Mark
  mark = record { path = path; kind = kind }

  -- one more mark is held
  pub Holds-mark : AddsMarkTo live live' mark → Holds live' (record s { said = record s.said { marks = mark ∷ s.said.marks } })
  Holds-mark adds =
      let said = holds_mark live.recorded live'.recorded s.said h.said mark adds.adds in
      let db : live'.db ≡ live.db = ap (λ l. l.db) adds.rest in record {
        said = said;
        project = ap (λ l. l.project) adds.rest ∙ h.project;
        flushed = subst (λ last. KeepsFlush (paths_of live'.recorded.files) last s.flushed) (sym (ap (λ l. l.flushed) adds.rest))
            (flush_mark live.recorded.files live'.recorded.files mark s.said.marks live.flushed s.flushed h.said.texts.follows said.texts.follows h.flushed);
        ended = ap (λ l. l.ended) adds.rest ∙ h.ended;
        database = λ going.
            let current = h.database going in record {
              brings = subst (λ d. BringsTo live'.recorded.files (texts_known d) (mark ∷ s.said.marks)) (sym db)
                  (adds.adds.adds.brings (texts_known live.db) s.said.marks h.said.texts.follows current.brings);
              valid = adds.adds.adds.texts current.valid;
              shown = rw db current.shown;
              crates = λ none. ap (λ d. d.listed) db ∙ current.crates (sym (ap (λ l. l.project) adds.rest) ∙ none);
            };
      }

  -- what is said of a path that has room is taken
  pub marks_ok : (held : Option (List ℕ)) → (IsFullFor live.recorded.files path → ⊥) → AddsMarkTo live live' mark → TakesLiveTurn (mark_turn s path kind) live' (held, held)
  marks_ok held apart adds =
      let room = has_room-not_full live.recorded.files s.said path h.said.texts.follows h.said.limit apart in
      rw room (record { accepted = refl; holds = Holds-mark adds; appended = Appends-nil held })

  -- and of one that has none is refused
  pub marks_full : (held : Option (List ℕ)) → IsFullFor live.recorded.files path → live' ≡ live → RefusesTurn live_rules (mark_turn s path kind) (TooMany Paths) [] live' (held, held)
  marks_full held full same =
      let none = has_room-full live.recorded.files s.said path h.said.texts.follows h.said.limit full in
      rw none (record { refused = refl; holds = subst (λ l. Holds l s) (sym same) h; appended = Appends-nil held })

  -- an error leaves all as it was, and is that of a full table or none of the session's
  pub marks_err : (error : LiveError) (held : Option (List ℕ)) → (error ≡ OutOfMemory) ⊎ (error ≡ TooMany Paths) → (error ≡ TooMany Paths → IsFullFor live.recorded.files path) → live' ≡ live
      → EndsLiveTurn (mark_turn s path kind) s error live' (held, held)
  marks_err error held (inl memory) full same = record {
    written = AppendsFront-nil held _;
    cut = λ e. absurd (cc);
    refused = λ refusal. absurd (let r : IsRefusal OutOfMemory = subst IsRefusal memory refusal in omega (arith, r));
    state = s;
    left = refl;
    holds = subst (λ l. Holds l s) (sym same) h;
  }
  marks_err error held (inr paths) full same = record {
    written = AppendsFront-nil held _;
    cut = λ e. absurd (cc);
    refused = λ refusal. subst (λ e. RefusesTurn live_rules (mark_turn s path kind) e [] live' (held, held)) (sym paths) (marks_full held (full paths) same);
    state = s;
    left = refl;
    holds = subst (λ l. Holds l s) (sym same) h;
  }
