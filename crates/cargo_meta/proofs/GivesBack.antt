-- What a call shows of a command that it gives back, and of one that it leaves as it was. Assumes `Logic`.
--     alone                one machine value
--     some_of, none_of     an `Option` that is made owns what its value owns
--     stay_handed_on, Goes-handed_on      a parameter that is handed on to the call
--     on_return            what is shown where r is returned: the command goes back, or stays with the caller
--     gives_back, leaves   on_return after success and after an error
use Rattle.std.proofs.Common.{◌≡◌, refl, sym, subst, ℕ, List, [], ◌∷◌}
use Rattle.std.specs.Prelude.{Result, Ok, Err, Some, None, OnOk, OnErr, IsErr, IfOk}
use Rattle.std.specs.Borrow.{RattleType, MutBor, GName, Fml, name_if_ok}
use Rattle.std.specs.contracts.alloc.AllocError.{the_row as E}
use Rattle.std.specs.contracts.option.Option as O
use Rattle.std.specs.contracts.result.Result as T
use Rattle.cargo_meta.specs.Command.{Settings}
use Rattle.cargo_meta.specs.GivesBack.{unchanged_if_refused}
use Rattle.cargo_meta.specs.contracts.command.MetadataCommand.{the_row as R}
use seplogic.Ra.Ura.{Ura}
use lib.Dec.{T as Holds}
use mir.Syntax.{named}
use mir.Val.{Val, vptr, vcons, vnil, of_list}
use base.Logic.{SProp, ent, emp, sep, wand, via, ex_i}
use base.Fml.{Lft, Share, feq, fsep, fex, flft, fauth, fres}
use contract.Monad.{fact, fact_i}
use types.Logic.{Logic, sem}
use types.Kit.{‵, raw, ◌$◌, ◌∵◌, !, qed, done, by, each, assume, move, keep, use0, use1, group, join, fsplit3, fjoin, fpack, feq_i, frame}
use types.Match.{live}
use denote.Exit.{Kept, left}
use denote.Enum.Enum.{in_a_row}
use denote.Follow.{follows, follows_by, such_by}
use denote.RattleType.{Valss, owns}
use denote.Ref.{MutRef}
use denote.Steps.{nothing}
use denote.Signature.{Slot}
use denote.Struct.Members.{Lone}
use denote.Triple.Walked.{Stay, Goes}

pub alone : (vs : List Val) → Lone vs → (v : Val) × (vs ≡ v ∷ [])
alone [] one = absurd one
alone (v ∷ []) one = (v, refl)
alone (v ∷ w ∷ vs) one = absurd one

-- a parameter that is handed on: what the call says of it
abbrev pub stay_handed_on : {n : ℕ} (s : Slot n) (k : Kept) → Stay s k
stay_handed_on s k = record { fit = λ κs x w. Unit {0}; has = λ κs x w vs. left ((s.row κs).exit k) x w }

pub Goes-handed_on : {M : Type 1} {𝓤 : Ura M} (𝓛 : Logic 𝓤) (n : ℕ) (s : Slot n) (k : Kept) → Goes 𝓛 n s k (stay_handed_on s k)
Goes-handed_on 𝓛 n s k κs x w vs fits = 𝓛.laws.⇛_intro _

-- nothing is asked of the value of an error
no_value : {X F : Type 0} (P : X → Type 0) (r : Result X F) → IsErr r → IfOk r P
no_value P (Ok x) is_err = absurd (subst Holds (sym is_err) tt)
no_value P (Err e) is_err = tt

module _ {M : Type 1} {𝓤 : Ura M} (𝓛 : Logic 𝓤) where
  open 𝓛 use {A}

  -- an enum at its variant k, whose one field is x
  abbrev At : (X : RattleType) → ℕ → X.Denot → Val → List Val → Fml
  At X k x u us = fsep (feq (List Val) (u ∷ []) (live k (of_list us) ∷ [])) (fex (Valss (X ∷ [])) (in_a_row (X ∷ []) (owns (X ∷ []) (x, tt)) us))

  one_field : (X : RattleType) (k : ℕ) (x : X.Denot) (v : Val) → ent 𝓤 (sem 𝓛 (X.own_val x (v ∷ []))) (sem 𝓛 (fex (List Val) (At X k x (live k (vcons v vnil)))))
  one_field X k x v =
      let u = live k (vcons v vnil) in
      qed 𝓛 (‵ (X.own_val x (v ∷ [])) ∷ []) ∵ nothing ! $ move ! (1 ∷ 0 ∷ []) $ fjoin ! $ feq_i ! (List Val) (v ∷ []) (v ∷ []) refl $ fjoin ! $
      fpack ! (Valss (X ∷ [])) (in_a_row (X ∷ []) (owns (X ∷ []) (x, tt)) (v ∷ [])) (v ∷ [], tt) $ feq_i ! (List Val) (u ∷ []) (u ∷ []) refl $ fjoin ! $
      fpack ! (List Val) (At X k x u) (v ∷ []) $ done !

  pub some_of : (X : RattleType) (x : X.Denot) (v : Val) → ent 𝓤 (sem 𝓛 (X.own_val x (v ∷ []))) (sem 𝓛 ((O.the_row X).own_val (Some x) (live 1 (vcons v vnil) ∷ [])))
  some_of X = one_field X 1

  pub none_of : (X : RattleType) → ent 𝓤 (emp 𝓤) (sem 𝓛 ((O.the_row X).own_val None (live 0 vnil ∷ [])))
  none_of X =
      let u = live 0 vnil in let fields = λ (us : List Val). in_a_row [] (owns [] tt) us in
      qed 𝓛 [] ∵ nothing ! $ feq_i ! (List Val) [] [] refl $ fjoin ! $ fpack ! (Valss []) (fields []) tt $ feq_i ! (List Val) (u ∷ []) (u ∷ []) refl $ fjoin ! $
      fpack ! (List Val) (λ us. fsep (feq (List Val) (u ∷ []) (live 0 (of_list us) ∷ [])) (fex (Valss []) (fields us))) [] $ done !

  -- a name follows itself
  follows_same : (γ : GName) → ent 𝓤 (emp 𝓤) (sem 𝓛 (follows R R γ γ (λ w. w)))
  follows_same γ =
      let From : Settings → Settings → Fml = λ z w. fsep (feq Settings z w) (fauth γ (R.coded.code w)) in
      let said = qed 𝓛 [] ∵ each ! (λ (w : Settings). wand 𝓤 (A.res γ (R.coded.code w)) (A.res γ (R.coded.code w))) (λ w. assume ! (‵ (fres γ (R.coded.code w))) $ done !) in
      let back = qed 𝓛 [] ∵ each ! (λ (z : Settings). wand 𝓤 (A.auth γ (R.coded.code z)) (sem 𝓛 (fex Settings (From z)))) (λ z. assume ! (‵ (fauth γ (R.coded.code z))) $
      feq_i ! Settings z z refl $ fjoin ! $ fpack ! Settings (From z) z $ done !) in
      record { apply = λ a p. (said.apply a p, back.apply a p) }

  module _ (κ : Lft) (q : Share) (s : MutBor Settings) where
    abbrev Command : RattleType
    Command = MutRef (named 0) κ R

    abbrev Answer : Type 0
    Answer = Result (MutBor Settings) E.Denot

    -- what the command may end as
    abbrev Ends : Answer → Type 0
    Ends r = (F : (Settings → Settings) × Settings) × ((w : Settings) → OnOk r (F.0 w ≡ w)) × OnErr r (F.1 ≡ s.now)

    abbrev ended : (r : Answer) → Ends r → SProp 𝓤
    ended r t = sem 𝓛 (follows_by Settings Settings R.coded.code R.coded.code s.ghost_name (name_if_ok (λ c. c.ghost_name) r) t.0.0 t.0.1)

    same_command : (c : MutBor Settings) → c.ghost_name ≡ s.ghost_name → ent 𝓤 (emp 𝓤) (sem 𝓛 (unchanged_if_refused {E = E.Denot} s (Ok c)))
    unfolding such_by follows_by
    same_command c e = via 𝓤 _ (subst (λ (γ : GName). ent 𝓤 (emp 𝓤) (sem 𝓛 (follows R R s.ghost_name γ (λ w. w)))) (sym e) (follows_same s.ghost_name))
        (ex_i 𝓤 (ended (Ok c)) (((λ w. w), s.now), (λ w. refl), tt))

    same_value : (r : Answer) (n : Settings) → IsErr r → n ≡ s.now → ent 𝓤 (sem 𝓛 (fres s.ghost_name (R.coded.code n))) (sem 𝓛 (unchanged_if_refused s r))
    unfolding such_by follows_by
    same_value (Ok c) n is_err e = absurd (subst Holds (sym is_err) tt)
    same_value (Err f) n is_err e = ex_i 𝓤 (ended (Err f)) (((λ w. n), n), (λ w. tt), e)

    module _ (Set : Settings → Type 0) (had : Fml) where
      abbrev pub on_return : Answer → Val → SProp 𝓤
      on_return r v = sep 𝓤 (sep 𝓤 (sep 𝓤 (A.lft κ q) (emp 𝓤)) (sep 𝓤 (sem 𝓛 had) (sem 𝓛 ((T.the_row Command E).own_val r (v ∷ [])))))
          (sep 𝓤 (sem 𝓛 (unchanged_if_refused s r)) (sep 𝓤 (fact 𝓤 (IfOk r (λ c. c.ghost_name ≡ s.ghost_name))) (fact 𝓤 (IfOk r (λ c. Set c.now)))))

      pub gives_back : (n : Settings) → Set n → let c = record s { now = n } in let v = vptr s.ref_ptr.0 s.ref_ptr.1 in
          ent 𝓤 (sep 𝓤 (sem 𝓛 had) (sep 𝓤 (sem 𝓛 (Command.own_val c (v ∷ []))) (A.lft κ q))) (on_return (Ok c) (live 0 (vcons v vnil)))
      gives_back n set =
          let c = record s { now = n } in let v = vptr s.ref_ptr.0 s.ref_ptr.1 in
          qed 𝓛 (‵ had ∷ ‵ (Command.own_val c (v ∷ [])) ∷ ‵ (flft κ q) ∷ []) ∵ move ! (1 ∷ []) $ use1 𝓛 (‵ ((T.the_row Command E).own_val (Ok c) (live 0 (vcons v vnil) ∷ []))) (one_field Command 0 c v) $
          move ! (1 ∷ []) $ nothing ! $ move ! (3 ∷ 0 ∷ []) $ join ! $ group ! 3 $ frame ! $
          use0 𝓛 (‵ (unchanged_if_refused {E = E.Denot} s (Ok c))) (same_command c refl) $ frame ! $
          use0 𝓛 (raw (fact 𝓤 (c.ghost_name ≡ s.ghost_name))) (fact_i 𝓤 (c.ghost_name ≡ s.ghost_name) (emp 𝓤) refl) $ frame ! $ by ! (fact_i 𝓤 (Set n) (emp 𝓤) set)

      pub leaves : (n : Settings) (r : Answer) (v : Val) → IsErr r → n ≡ s.now
          → ent 𝓤 (sep 𝓤 (sem 𝓛 had) (sep 𝓤 (sem 𝓛 (Command.own_val (record s { now = n }) (vptr s.ref_ptr.0 s.ref_ptr.1 ∷ []))) (sep 𝓤 (sem 𝓛 ((T.the_row Command E).own_val r (v ∷ []))) (A.lft κ q)))) (on_return r v)
      leaves n r v is_err e =
          let same = λ (c : MutBor Settings). c.ghost_name ≡ s.ghost_name in
          qed 𝓛 (‵ had ∷ ‵ (Command.own_val (record s { now = n }) (vptr s.ref_ptr.0 s.ref_ptr.1 ∷ [])) ∷ ‵ ((T.the_row Command E).own_val r (v ∷ [])) ∷ ‵ (flft κ q) ∷ []) ∵
          move ! (1 ∷ []) $ fsplit3 ! $ move ! (1 ∷ []) $ use1 𝓛 (‵ (fres s.ghost_name (R.coded.code n))) (𝓛.names.obs-res s.ghost_name (R.coded.code n)) $
          use1 𝓛 (‵ (unchanged_if_refused s r)) (same_value r n is_err e) $ keep ! (3 ∷ 4 ∷ 5 ∷ 0 ∷ []) $
          nothing ! $ move ! (3 ∷ 0 ∷ []) $ join ! $ group ! 3 $ frame ! $ frame ! $
          use0 𝓛 (raw (fact 𝓤 (IfOk r same))) (fact_i 𝓤 (IfOk r same) (emp 𝓤) (no_value same r is_err)) $ frame ! $
          by ! (fact_i 𝓤 (IfOk r (λ c. Set c.now)) (emp 𝓤) (no_value (λ (c : MutBor Settings). Set c.now) r is_err))
