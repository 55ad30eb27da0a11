-- `features` hands the command on to `add_features`, and gives it back. The borrow checker proves no clause on the lender
-- where the result is the lender itself, so this proof walks the code.
use Rattle.std.proofs.Common.{◌≡◌, ◌∙◌, refl, sym, subst, ap, lit<, ℕ, List, [], ◌∷◌, MutBor}
use Rattle.std.proofs.raw_atomic.Walks.{proved_at}
use Rattle.std.specs.Prelude.{Ok, OnOk, OnErr, IsErr}
use Rattle.std.specs.Result.{result_from_control_flow}
use Rattle.cargo_meta.specs.Command.{Settings, IsFirstGiven, with_features}
use Rattle.cargo_meta.specs.contracts.command.CargoOpt.{the_row as Opt}
use Rattle.cargo_meta.proofs.command.CargoOpt.TheLaws.{the_row_laws as Opt-laws}
use Rattle.cargo_meta.specs.contracts.command.MetadataCommand.{the_row as R}
use Rattle.cargo_meta.proofs.command.MetadataCommand.TheLaws.{the_row_laws as R-laws}
use Rattle.cargo_meta.specs.contracts.command.MetadataCommand.features as f
use Rattle.cargo_meta.proofs.command.MetadataCommand.features.Statement.{statement}
use Rattle.cargo_meta.proofs.command.MetadataCommand.features.Code as code
use Rattle.cargo_meta.specs.contracts.command.MetadataCommand.add_features as g
use Rattle.cargo_meta.proofs.command.MetadataCommand.add_features.Met.{met}
use Rattle.cargo_meta.proofs.GivesBack.{alone, stay_handed_on, Goes-handed_on, gives_back, leaves}
use Rattle.cargo_meta.proofs.Try.{Step, Flow, Left, Returned, step_typed, returned_typed, flow_val, flow_stored, flow_is, left_val, left_of, Asked, asks, Refused, refuses}
use base.Fraction.{full_share}
use base.Fml.{Fml, Lft, fsep, ftrue, flft}
use base.Logic.{ent, id⊢, emp}
use contract.Monad.{fact, fact_i}
use contract.Running.{tables}
use mathlib.Core.Logic.{inl, inr}
use mir.Syntax.{named}
use mir.Val.{Val, vptr, vcons, vnil}
use native.Mathlib.Nat.{suc-ne-zero}
use prog.Wp.{WpFn}
use seplogic.Ra.Ura.{Ura}
use types.ByLocal.{alloc_all, pass_all, free_all, look_at, get, get_in, get_tag, through, sets, sets_last, lands_as, env}
use types.Kit.{‵, raw, ◌⊛◌, some, later, at_ret, ◌$◌, ◌∵◌, !, qed, by, move, keep, use0, use1, use2, use3, split, split3, join, group, fsplit, fjoin, pick, await, rewrite, suffices, done}
use types.Logic.{Logic, sem}
use types.Match.{live, vrt, by_variants, in_variant}
use types.Part.{whole, agg}
use types.Run.{enter, of_opd, lit, addr, stop, fld, no_more, and_then, first, exec, returns, returns_within}
use types.Tokens.{lft_new, lft_end}
use denote.Exit.{yes, no, left}
use denote.Laws.{Is, shows}
use denote.Lend.{lends_again, comes_back, LentAgain}
use denote.Ref.{MutRef, mut_vals}
use denote.Signature.{plain}
use denote.Steps.{nothing, heard, peeks}
use denote.Triple.Call.{calls_at, calls_from}
use denote.Triple.Clauses.{lasts, Lasts}
use denote.Triple.Entry.{Vals}
use denote.Triple.Spec.{triple_of}
use denote.Triple.Table.{framed}
use denote.Triple.Walked.{Stays, walk_of, stay_dropped, Goes-dropped, Goes-spent_ref, ends_at}

abbrev stayed : Stays f.ended.signature.params f.ended.kept
stayed = (stay_dropped _ no, (stay_handed_on _ yes, tt))

pub features_spec : {M : Type 1} → statement M
features_spec 𝓤 𝓛 𝓜 𝓡 wired =
    let c = f.clauses 𝓛 𝓜.mem 𝓡.returns in let W = walk_of 𝓛 f.ended stayed c in let 𝓣 = tables 𝓤 𝓛.H 𝓜 𝓡 𝓡.env in
    proved_at 𝓛 f.ended stayed c 𝓜 𝓡 (Goes-spent_ref 𝓛 1 (0 ∷ []) tt (plain (λ _. R)), (Goes-handed_on 𝓛 1 (plain (λ _. Opt)) yes, tt))
    f.Key.name code.function (code.unfolded 𝓤 𝓛.H 𝓜 𝓡 wired) (λ y₀ are.
    let κ = y₀.0.0.0 in let q = y₀.0.1.0 in let a = y₀.0.3 in let s = a.0 in let b = s.ref_ptr.0 in let o = s.ref_ptr.1 in let x = a.1.0 in
    let given = alone y₀.0.4.1.0 (Opt-laws.single x y₀.0.4.1.0 are.1.0) in let us = given.0 ∷ [] in let vs = mut_vals s in
    let y : Vals f.ended.signature y₀.0.0 → W.Ghost = λ vss. ((y₀.0.0, y₀.0.1, y₀.0.2, a, vss), y₀.1) in
    let typed = ((Opt-laws.lawful 𝓛).typed x us (subst (Is Opt x) given.1 are.1.0)).0 in
    subst (λ vss. ent 𝓤 (W.pre (y vss)) (WpFn 𝓤 𝓛.H 𝓣.C 𝓣.Λ code.function (W.args (y vss)) (W.post (y vss)))) (sym (λ i. (are.0.0 i, (given.1 i, tt)))) (
    let y' = y (vs, (us, tt)) in let Ref = λ (κ' : Lft) (p : MutBor Settings). (MutRef (named 0) κ' R).own_val p vs in
    qed 𝓛 (((‵ (flft κ q) ⊛ ‵ ftrue) ⊛ ‵ (Ref κ s) ⊛ ‵ (Opt.own_val x us) ⊛ ‵ ftrue) ∷ raw (fact 𝓤 (IsFirstGiven x s.now)) ∷ []) ∵
    move ! (1 ∷ []) $ heard ! _ (λ is_first. split ! $ split ! $ move ! (2 ∷ []) $ split3 ! $ keep ! (0 ∷ 1 ∷ 3 ∷ []) $
    -- [the command; the features; the token]
    enter ! _ _ _ _ _ $ alloc_all ! (λ l. pass_all ! refl ((tt, tt), (typed, tt)) $
    sets ! (addr ! (through ! refl (stop !))) refl (tt, tt) $ sets ! (of_opd ! (get ! refl)) refl typed $
    lft_new ! tt (λ α. move ! (1 ∷ 3 ∷ []) $
    use2 𝓛 (later (some (λ (δ : ℕ). ‵ (Ref (α ∷ []) (record s { ghost_name = δ })) ⊛ ‵ (LentAgain R κ (α ∷ []) q s.ghost_name b o δ s.now))))
    (lends_again 𝓛 R (named 0) κ (α ∷ []) q s.ghost_name b o (named 0) s.now) $ await ! tt $ pick ! (λ δ. split ! $
    -- [the loan; what the lender keeps; the token of α; the features]
    let G = triple_of 𝓛 g.signature (g.spec 𝓛 𝓜.mem 𝓡.returns) in
    let z : G.Ghost = (((α ∷ [], tt), (full_share, tt), tt, (record s { ghost_name = δ }, (x, tt)), (vs, (us, tt))), tt) in
    nothing ! $ move ! (4 ∷ 0 ∷ []) $ join ! $ move ! (1 ∷ 0 ∷ []) $ join ! $ nothing ! $ move ! (3 ∷ 0 ∷ []) $ join ! $ join ! $
    use0 𝓛 (raw (fact 𝓤 (IsFirstGiven x s.now))) (fact_i 𝓤 _ (emp 𝓤) is_first) $ move ! (1 ∷ 0 ∷ []) $ use2 𝓛 (raw (G.pre z)) (id⊢ 𝓤 _) $
    calls_at ! (framed 𝓤 𝓛.H 𝓜 𝓣) G (met 𝓤 𝓛 𝓜 𝓡 (code.calls-cargo_meta::command::MetadataCommand::add_features 𝓡.env wired)) z
    (and_then ! (get ! refl) (and_then ! (get ! refl) (no_more !))) (λ v.
    use1 𝓛 (later (some (λ (r : Step.Denot). ((‵ (flft (α ∷ []) full_share) ⊛ ‵ ftrue) ⊛ ‵ (Step.own_val r (v ∷ []))) ⊛
    some (λ (ws : Lasts g.ended z.0.0 z.0.3). ‵ (lasts g.ended z.0.0 z.0.3 ws) ⊛
    raw (fact 𝓤 (OnOk r (ws.0 ≡ with_features x s.now))) ⊛ raw (fact 𝓤 (OnErr r (ws.0 ≡ s.now))))))) (id⊢ 𝓤 _) $
    await ! tt $ pick ! (λ r. split ! $ split ! $ split ! $ lft_end ! tt $ move ! (3 ∷ []) $ pick ! (λ ws. let had = fsep ftrue (fsep (left (Opt.exit yes) x ws.1.0) ftrue) in split3 ! $
    move ! (1 ∷ []) $ heard ! _ (λ added. move ! (1 ∷ []) $ heard ! _ (λ unchanged. fsplit ! $ fsplit ! $
    move ! (3 ∷ 6 ∷ 0 ∷ []) $ use3 𝓛 (later (‵ (Ref κ (record s { now = ws.0 })) ⊛ ‵ (flft κ q)))
    (comes_back 𝓛 R (named 0) κ (α ∷ []) q s.ghost_name b o δ s.now ws.0) $ await ! tt $ split ! $
    -- [the command; its token; what is left of the loan; what is left of the features; nothing; what was returned]
    move ! (5 ∷ []) $ peeks ! Step (Is Step) (shows 𝓛 Step) r (v ∷ []) (λ is. lands_as ! refl refl (step_typed 𝓛 r (v ∷ []) is).0 $
    lft_new ! tt (λ β. lft_new ! tt (λ β'. group ! 3 $
    calls_from ! (framed 𝓤 𝓛.H 𝓜 𝓣) _ (v ∷ []) (Asked 𝓤 𝓛 𝓜 𝓡 r) (asks 𝓤 𝓛 𝓜 𝓡 (code.calls-core::result::ResultTry::branch 𝓡.env wired) r v β' β)
    (and_then ! (get ! refl) (no_more !)) (λ w.
    use1 𝓛 (later (some (λ (d : Flow.Denot). ‵ (Flow.own_val d (w ∷ [])) ⊛ raw (fact 𝓤 (r ≡ result_from_control_flow d))))) (id⊢ 𝓤 _) $ await ! tt $ pick ! (λ d.
    split ! $ move ! (1 ∷ []) $ heard ! _ (λ came. peeks ! Flow (Is Flow) (shows 𝓛 Flow) d (w ∷ []) (λ is'. let stored = flow_stored d w is' in
    -- [what was asked; the command; its token; what is left of the loan; what is left of the features; nothing]
    elim (flow_is d) [
      | inl goes_on ↦ lands_as ! (stored ∙ ap flow_val goes_on.1) refl (tt, (record { fits = lit< tt }, (tt, tt))) $
          first ! $ by_variants ! 14 (whole !) (get_tag ! (vrt ! refl (fld ! refl (stop !))) (whole !)) tt (
            (λ _. sets_last ! (of_opd ! (get_in ! (vrt ! refl (fld ! refl (stop !))) (in_variant ! 0 0 refl refl (whole !)))) refl (tt, tt) $
                exec ! 𝓣.C 𝓣.Λ (env code.Mir.locals l) code.Mir.t-6 (at_ret _ (W.post y')) $
                sets ! (addr ! (through ! refl (stop !))) refl (tt, tt) $
                sets ! (agg ! (and_then ! (lit ! tt) (and_then ! (get ! refl) (no_more !)))) refl (tt, (record { fits = lit< tt }, (tt, tt))) $
                returns ! (look_at ! 0 refl) $ free_all ! refl $ keep ! (4 ∷ 1 ∷ 2 ∷ []) $ nothing ! $ fjoin ! $
                suffices ! _ (ends_at 𝓛 f.ended stayed c y' (live 0 (vcons (vptr b o) vnil)) (Ok (record s { now = ws.0 })) (tt, (ws.1.0, tt)) (tt, (tt, tt))) $
                by ! (gives_back 𝓛 κ q s (λ n. n ≡ with_features x s.now) had ws.0 (subst (λ p. OnOk p (ws.0 ≡ with_features x s.now)) (came ∙ ap result_from_control_flow goes_on.1) added))),
            ((λ e. absurd (suc-ne-zero 0 (sym e))), tt),
          )
      | inr stops ↦ rewrite ! 0 (λ (d' : Flow.Denot). ‵ (Flow.own_val d' (w ∷ []))) stops.1 refl $
          lands_as ! (stored ∙ ap flow_val stops.1) refl (tt, (record { fits = lit< tt }, ((tt, tt), tt))) $
          first ! $ by_variants ! 14 (whole !) (get_tag ! (vrt ! refl (fld ! refl (stop !))) (whole !)) tt (
            (λ e. absurd (suc-ne-zero 0 e)),
            (
              (λ _. sets ! (of_opd ! (get_in ! (vrt ! refl (fld ! refl (stop !))) (in_variant ! 1 0 refl refl (whole !)))) refl (tt, (tt, tt)) $
                  use1 𝓛 (‵ (Left.own_val stops.0 (left_val stops.0 ∷ []))) (left_of 𝓛 stops.0 w) $
                  lft_new ! tt (λ ζ. lft_new ! tt (λ ζ'. move ! (4 ∷ 0 ∷ 1 ∷ 2 ∷ []) $ group ! 4 $
                  calls_from ! (framed 𝓤 𝓛.H 𝓜 𝓣) _ (left_val stops.0 ∷ []) (Refused 𝓤 𝓛 𝓜 𝓡 R κ q)
                  (refuses 𝓤 𝓛 𝓜 𝓡 (code.calls-core::result::ResultFromResidualErrResidual::from_residual 𝓡.env wired) (code.calls-core::convert::AnyFrom::from 𝓡.env wired) R R-laws refl κ q stops.0 ζ' ζ)
                  (and_then ! (get ! refl) (no_more !)) (λ u.
                  use1 𝓛 (later (some (λ (p : (Returned R κ).Denot). ‵ ((Returned R κ).own_val p (u ∷ [])) ⊛ raw (fact 𝓤 (IsErr p)) ⊛ ‵ (flft κ q)))) (id⊢ 𝓤 _) $ await ! tt $ pick ! (λ p.
                  split3 ! $ move ! (1 ∷ []) $ heard ! _ (λ is_err.
                  -- [what is returned; the token; the command; what is left of the loan; what is left of the features; nothing]
                  peeks ! (Returned R κ) (Is (Returned R κ)) (shows 𝓛 (Returned R κ)) p (u ∷ []) (λ is_p. lands_as ! refl refl (returned_typed 𝓛 R R-laws κ p (u ∷ []) is_p).0 $
                  returns_within ! (W.post y') refl (look_at ! 0 refl) $ free_all ! refl $ keep ! (4 ∷ 2 ∷ 0 ∷ 1 ∷ []) $ nothing ! $ fjoin ! $
                  suffices ! _ (ends_at 𝓛 f.ended stayed c y' u p (tt, (ws.1.0, tt)) (tt, (tt, tt))) $
                  by ! (leaves 𝓛 κ q s (λ n. n ≡ with_features x s.now) had ws.0 p u is_err (subst (λ p. OnErr p (ws.0 ≡ s.now)) (came ∙ ap result_from_control_flow stops.1) unchanged))))))))),
              tt,
            ),
          )
    ]))))))))))))))))))
