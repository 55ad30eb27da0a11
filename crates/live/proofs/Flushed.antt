-- What a session holds after a flush, or after one that failed.
use Rattle.std.proofs.Common.{◌≡◌, ℕ, Bool, true, false, List, [], ◌∷◌, Option, Some, None, inl, inr, ◌⊎◌, refl, sym, ◌∙◌, ap, subst, arith, append-nil}
use Rattle.std.specs.Io.KnownBytes.{Appends}
use Rattle.std.specs.List.{concat}
use Rattle.base_text_outside.specs.Sink.{AppendsPart}
use Rattle.std.specs.declared.cmp.Ordering.{Ordering}
use Rattle.vfs_core.specs.Files.{existing_files, paths_of}
use Rattle.vfs_core.specs.VfsPath.{PathContent}
use Rattle.crate_graph.specs.Graph.{Graph}
use Rattle.input_db.specs.Database.{Database}
use Rattle.crate_graph.specs.Extend.{Id}
use Rattle.live_page.specs.declared.event.Event.TheVariants.{Flush as FlushEvent}
use Rattle.live_page.specs.Page.{page_of}
use Rattle.live_page.proofs.Stable.{same_identities}
use Rattle.live_page.specs.Refresh.{GivesCrates, KeepsDatabaseCrates, KeepsIdentities, Refreshes}
use Rattle.vfs_sets.specs.declared.file_root.FileRoot.{FileRoot}
use Rattle.live_project.specs.LiveTexts.{SparesChanges}
use Rattle.live_project.specs.Project.{ProjectContent}
use Rattle.live_project.proofs.SaidLemmas.{holds_spared, spares_same}
use Rattle.live_script.specs.declared.fault.LiveError.{LiveError}
use Rattle.live_script.specs.declared.fault.LiveError.TheVariants.{OutOfMemory, WriteFault}
use Rattle.live.specs.declared.last_flush.LastFlush.{LastFlush}
use Rattle.live.specs.declared.session.Live.{Live}
use Rattle.live_script.specs.Fault.{IsRefusal}
use Rattle.live.specs.Marked.{SparesFiles}
use Rattle.live.specs.Page.{Flushed, page, roots_by}
use Rattle.live.specs.Refresh.{IsGraphBy, KeepsLast, RefreshesLive}
use Rattle.live.specs.Session.{State, ended_state, flush_of, flush_turn}
use Rattle.live.specs.Turn.{CountsFlush, EndsLiveTurn, HasEnded, Holds, KeepsFlush, KeepsNames, LeavesAsWas, ShowsShape, TakesLiveTurn}
use Rattle.live_script.specs.Written.{AppendsFront}
use Rattle.live.proofs.Names.{numbers_same}
use Rattle.live.proofs.FlushPage.{IsStored, holds_flush, made, page_shown, shows_shape, turn_is}

-- a session has ended; the rest is as it was, but for the database, of which nothing is said
pub record IsEnded (old new : Live) : Type 0 where
  pub recorded : new.recorded ≡ old.recorded
  pub project : new.project ≡ old.project
  pub flushed : new.flushed ≡ old.flushed
  pub ended : new.ended ≡ true

-- a session that has not ended holds a state that has not
pub going_of : (live : Live) (s : State) → Holds live s → (HasEnded live → ⊥) → s.ended ≡ false
going_of live s h going = not-true s.ended (λ e. going (h.ended ∙ e))
  where
    not-true : (b : Bool) → (b ≡ true → ⊥) → b ≡ false
    not-true true h = absurd (h refl)
    not-true false h = refl

-- a page that was appended is the flush's turn
pub takes_flush : (live live' after : Live) (s : State) (last : LastFlush) (old new : Option (List ℕ)) → RefreshesLive live live' → KeepsLast live last → Holds live s → (HasEnded live → ⊥)
    → IsStored live' after last → Appends old new (page_of live'.db) → TakesLiveTurn (flush_turn s) after (old, new)
takes_flush live live' after s last old new r keeps h going is appended =
    let on = going_of live s h going in
    let done : Flushed = record { flush = flush_of s; crates = (made live live' r s h on).0 } in
    subst (λ t. TakesLiveTurn t after (old, new)) (sym (turn_is live live' r s h on)) (record {
      accepted = refl;
      holds = holds_flush live live' r s h on after last keeps is;
      appended = subst (Appends old new) (page_shown live live' r s h on ∙ sym (append-nil (page done))) appended;
    })

-- what a flush shows stays shown once it is kept
pub shows_after : (live live' after : Live) (s : State) (last : LastFlush) → RefreshesLive live live' → Holds live s → (HasEnded live → ⊥) → IsStored live' after last
    → ShowsShape after s
shows_after live live' after s last r h going is =
    let shown = shows_shape live live' r s h (going_of live s h going) in
    record { shows = rw (is.db, is.recorded) shown.shows; order = rw is.db shown.order; crates = rw is.db shown.crates }

-- a session that has ended holds the state that has, whatever its database is
pub holds_ended : (live ended : Live) (s : State) → Holds live s → SparesChanges live.recorded ended.recorded → ended.project ≡ live.project → ended.flushed ≡ live.flushed → ended.ended ≡ true
    → Holds ended (ended_state s)
holds_ended live ended s h spares project flushed has_ended = record {
  said = holds_spared live.recorded ended.recorded s.said h.said spares;
  project = project ∙ h.project;
  flushed = subst (λ last. KeepsFlush (paths_of ended.recorded.files) last s.flushed) (sym flushed)
      (subst (λ paths. KeepsFlush paths live.flushed s.flushed) (sym (ap paths_of spares.files)) h.flushed);
  ended = has_ended;
  database = λ going. absurd (cc);
}

-- a page that was not written whole ends the session
pub writes_flush : (live live' ended : Live) (s : State) (error : LiveError) (old new : Option (List ℕ)) → RefreshesLive live live' → Holds live s → (HasEnded live → ⊥)
    → (error ≡ OutOfMemory) ⊎ (error ≡ WriteFault) → (error ≡ WriteFault → AppendsPart old new (page_of live'.db))
    → AppendsFront (old, new) (page_of live'.db ∷ []) → IsEnded live' ended
    → EndsLiveTurn (flush_turn s) (ended_state s) error ended (old, new)
writes_flush live live' ended s error old new r h going only cut front is =
    let on = going_of live s h going in
    let shown = page_shown live live' r s h on in
    subst (λ t. EndsLiveTurn t (ended_state s) error ended (old, new)) (sym (turn_is live live' r s h on)) (record {
      written = subst (λ p. AppendsFront (old, new) (p ∷ [])) shown front;
      cut = λ e. subst (λ p. AppendsPart old new (concat (p ∷ []))) shown (subst (AppendsPart old new) (sym (append-nil (page_of live'.db))) (cut e));
      refused = λ refusal. absurd (no-refusal error only refusal);
      state = ended_state s;
      left = refl;
      holds = holds_ended live ended s h (spares_same live.recorded live'.recorded ended.recorded r.recorded is.recorded) (is.project ∙ r.project) (is.flushed ∙ r.flushed) is.ended;
    })
  where
    no-refusal : (error : LiveError) → (error ≡ OutOfMemory) ⊎ (error ≡ WriteFault) → IsRefusal error → ⊥
    no-refusal error (inl memory) refusal = let r : IsRefusal OutOfMemory = subst IsRefusal memory refusal in omega (arith, r)
    no-refusal error (inr fault) refusal = let r : IsRefusal WriteFault = subst IsRefusal fault refusal in omega (arith, r)

-- ---- what a call brings

-- of a session whose files, database and probes it was given, with the roots and the graph of its project
pub refreshes_live : (live live' : Live) (given : List FileRoot) (graph : Option Graph) (cmp : Id → Id → Ordering) → given ≡ roots_by live.project
    → IsGraphBy live.project (existing_files live.recorded.files) graph → GivesCrates cmp graph live.db live'.db → Refreshes given live.recorded.files live.db live'.db
    → KeepsIdentities live.db.crates live'.db.crates → live'.recorded.files ≡ record live.recorded.files { batch = [] }
    → live'.recorded.config ≡ live.recorded.config → live'.recorded.texts ≡ live.recorded.texts → live'.recorded.answers ≡ live.recorded.answers
    → live'.project ≡ live.project → live'.flushed ≡ live.flushed → live'.ended ≡ live.ended → RefreshesLive live live'
refreshes_live live live' given graph cmp same lowers crates brings stable files config texts answers project flushed ended = record {
  graph = graph;
  lowers = lowers;
  cmp = cmp;
  crates = crates;
  refreshes = subst (λ rs. Refreshes rs live.recorded.files live.db live'.db) same brings;
  stable = stable;
  recorded = record {
    config = config;
    texts = texts;
    answers = answers;
    files = files ∙ ap (λ b. record live.recorded.files { batch = b }) (sym taken);
  };
  taken = taken;
  project = project;
  flushed = flushed;
  ended = ended;
}
  where
    taken : live'.recorded.files.batch ≡ []
    taken = ap (λ f. f.batch) files

-- without a project no crate is made or changed: the same by what was given
keeps-split : (p : Option ProjectContent) (files : List (ℕ × PathContent)) (graph : Option Graph) (cmp : Id → Id → Ordering) (old new : Database) → IsGraphBy p files graph → p ≡ None
    → GivesCrates cmp graph old new → KeepsDatabaseCrates old new
keeps-split None files graph cmp old new none is given = subst (λ g. GivesCrates cmp g old new) none given
keeps-split (Some p) files graph cmp old new lowers is given = absurd (cc)

-- the names of a session after a refresh
refreshed_names : {Memory : Type 0} (live live' after : Live) → RefreshesLive live live' → after.recorded ≡ live'.recorded → after.db ≡ live'.db → KeepsNames Memory live after
refreshed_names live live' after r recorded db = record {
  paths = numbers_same live.recorded.files after.recorded.files (ap (λ rec. rec.files.entries) recorded ∙ ap (λ f. f.entries) r.recorded.files);
  crates = λ _. subst (λ d. KeepsIdentities live.db.crates d.crates) (sym db) r.stable;
}

-- what a flush that succeeds leaves as it was
pub flush_leaves : {Memory : Type 0} (live live' after : Live) (last : LastFlush) → RefreshesLive live live' → CountsFlush live live' → IsStored live' after last
    → LeavesAsWas FlushEvent false Memory live after
flush_leaves live live' after last r counts is = record {
  names = refreshed_names live live' after r is.recorded is.db;
  config = ap (λ rec. rec.config) is.recorded ∙ r.recorded.config;
  database = λ other. absurd (other refl);
  all = λ e. absurd (cc);
  crates = λ _ none. rw is.db (keeps-split live.project (existing_files live.recorded.files) r.graph r.cmp live.db live'.db r.lowers none r.crates);
  probes = λ other. absurd (other refl);
  counts = λ _. rw is.probes counts;
  going = λ _. is.ended ∙ r.ended;
  ends = λ e. absurd (cc);
}

-- and one that failed
pub failed_leaves : {Memory : Type 0} (live live' : Live) → KeepsNames Memory live live' → live'.recorded.config ≡ live.recorded.config → CountsFlush live live' → HasEnded live'
    → LeavesAsWas FlushEvent true Memory live live'
failed_leaves live live' names config counts ended = record {
  names = names;
  config = config;
  database = λ other. absurd (other refl);
  all = λ _ other. absurd (other refl);
  crates = λ e none. absurd (cc);
  probes = λ other. absurd (other refl);
  counts = λ _. counts;
  going = λ e. absurd (cc);
  ends = λ _ _. ended;
}

-- a page that was not written whole came after the crates were set
pub unwritten_leaves : {Memory : Type 0} (live live' ended : Live) → RefreshesLive live live' → CountsFlush live live' → ended.recorded ≡ live'.recorded → ended.db ≡ live'.db
    → ended.probes ≡ live'.probes → HasEnded ended → LeavesAsWas FlushEvent true Memory live ended
unwritten_leaves live live' ended r counts recorded db probes has_ended =
    failed_leaves live ended (refreshed_names live live' ended r recorded db) (ap (λ rec. rec.config) recorded ∙ r.recorded.config) (rw probes counts) has_ended

-- and a flush that is refused, before
pub refused_leaves : {Memory : Type 0} (live live' ended : Live) (error : LiveError) → SparesFiles live live' → (error ≡ OutOfMemory) ⊎ (live'.db ≡ live.db) → (error ≡ OutOfMemory → Memory)
    → CountsFlush live live' → ended.recorded ≡ live'.recorded → ended.db ≡ live'.db → ended.probes ≡ live'.probes → HasEnded ended
    → LeavesAsWas FlushEvent true Memory live ended
refused_leaves {Memory = Memory} live live' ended error spares spared memory counts recorded db probes has_ended =
    failed_leaves live ended (record {
      paths = numbers_same live.recorded.files ended.recorded.files (ap (λ rec. rec.files.entries) recorded ∙ ap (λ f. f.entries) spares.recorded.files);
      crates = λ other. by (other has_ended) spared;
    }) (ap (λ rec. rec.config) recorded ∙ spares.recorded.config) (rw probes counts) has_ended
  where
    by : (Memory → ⊥) → (error ≡ OutOfMemory) ⊎ (live'.db ≡ live.db) → KeepsIdentities live.db.crates ended.db.crates
    by none (inl out) = absurd (none (memory out))
    by none (inr same) = same_identities live.db.crates ended.db.crates (ap (λ d. d.crates) (db ∙ same))
