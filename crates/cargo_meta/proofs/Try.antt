-- What a walk of `?` cites, at a `Result<(), AllocError>` in a function that returns a `Result<&mut R, AllocError>`. Assumes `Logic`.
--     Step, Flow, Left       what is asked, what the first call returns of it, and what that holds of an error
--     step_typed, flow_stored, left_of      the machine values that are stored
--     flow_is                the `match` that `?` is
--     asks, refuses          its two calls
use Rattle.std.proofs.Common.{◌≡◌, refl, sym, subst, ap, ℕ, List, [], ◌∷◌}
use Rattle.std.specs.Prelude.{IsErr, IsErrAnd}
use Rattle.std.specs.Result.{result_from_control_flow}
use Rattle.std.specs.contracts.alloc.AllocError.{the_row as E}
use Rattle.std.proofs.alloc.AllocError.TheLaws as E-laws
use Rattle.std.specs.contracts.result.Result as R-type
use Rattle.std.proofs.result.Result.TheLaws as R-laws
use Rattle.std.specs.contracts.ops.ControlFlow as C-type
use Rattle.std.proofs.ops.ControlFlow.TheLaws as C-laws
use Rattle.std.below.core.specs.contracts.result.ErrResidual as Left-type
use Rattle.std.below.core.proofs.result.ErrResidual.TheLaws as Left-laws
use Rattle.std.specs.declared.ops.ControlFlow.TheVariants.{Continue, Break}
use mathlib.Core.Logic.{◌⊎◌, inl, inr}
use Rattle.std.specs.contracts.prelude.ResultTry.branch as branch
use Rattle.std.proofs.prelude.ResultTry.branch.Symbol as branch-symbol
use Rattle.std.proofs.prelude.ResultTry.branch.Met as branch-met
use Rattle.std.specs.contracts.prelude.ResultFromResidualErrResidual.from_residual as residual
use Rattle.std.proofs.prelude.ResultFromResidualErrResidual.from_residual.Symbol as residual-symbol
use Rattle.std.proofs.prelude.ResultFromResidualErrResidual.from_residual.Met as residual-met
use Rattle.std.specs.contracts.prelude.AnyFrom.TheImpl as any
use Rattle.std.proofs.prelude.AnyFrom.TheImpl.Met as any-met
use Rattle.std.proofs.prelude.AnyFrom.from.Symbol as from-symbol
use seplogic.Ra.Ura.{Ura}
use base.Fraction.{full_share}
use contract.BorrowLft.{◌⊑◌, ⊑_static, ⊑_meet, ⊑_refl}
use contract.Running.{Running, MachineTables, tables}
use prog.Model.{Model}
use prog.Wired.{Wired}
use denote.Steps.{heard, peeks, only}
use denote.Triple.Clauses.{lasts, Lasts}
use denote.Triple.Spec.{triple_of}
use denote.Triple.Table.{framed}
use base.Fml.{Lft, Share, ftrue, flft}
use mir.Syntax.{a_type, dcons, dnil, ty_unit, ty_struct, ty_ptr, tnil, named}
use mir.Val.{Val}
use base.Logic.{SProp, ent, emp, sep, ex, via}
use contract.Monad.{fact, fact_i, fm→mono}
use types.Logic.{Logic, sem}
use types.Kit.{Item, ‵, raw, ◌⊛◌, some, later, ◌$◌, ◌∵◌, !, qed, done, use0, move, keep, join, split, pick, await, updating, now, show, fpick, fsplit, feq_l, rewrite}
use denote.Steps.{nothing}
use denote.Builtin.{unit}
use denote.Enum.Laws as enum
use denote.Exit.{no}
use denote.Laws.{Is, Typed, shows}
use denote.Param.{arg, layouts, bounded}
use denote.Param.Laws.{Laws, Told, arg_laws, of_field, field_told, is_one}
use denote.Param.Shared.{copy_shared, mut_ref_shared}
use denote.Param.Laws as param
use denote.RattleType.{RattleType}
use denote.Ref.{MutRef}
use denote.Struct.Field.{unit-field, mut_ref_field}
use denote.Struct.Laws.{unit-laws, unit-copy, mut_ref_laws}

-- the types that the calls are made at
abbrev pub Nothing : RattleType
Nothing = arg ty_unit no unit

abbrev pub Error : RattleType
Error = arg (ty_struct [] tnil) no E

abbrev pub Ref : RattleType → Lft → RattleType
Ref R κ = arg ty_ptr no (MutRef (named 0) κ R)

pub unit_laws : Laws unit
unit_laws = of_field unit-field unit-laws refl (copy_shared unit-field unit-copy)

pub nothing_laws : Laws Nothing
nothing_laws = arg_laws ty_unit no unit unit_laws refl

pub error_laws : Laws Error
error_laws = arg_laws (ty_struct [] tnil) no E E-laws.the_row_laws refl

bare_laws : (R : RattleType) → Laws R → (κ : Lft) → Laws (MutRef (named 0) κ R)
bare_laws R L κ = of_field (mut_ref_field (record { mir = named 0; lft = κ }) R (is_one R L)) (mut_ref_laws (record { mir = named 0; lft = κ }) R (is_one R L)) refl (mut_ref_shared (record { mir = named 0; lft = κ }) R (is_one R L) (param.row_shared R L))

pub ref_laws : (R : RattleType) → Laws R → (κ : Lft) → Laws (Ref R κ)
ref_laws R L κ = arg_laws ty_ptr no (MutRef (named 0) κ R) (bare_laws R L κ) refl

-- the results
abbrev pub Step : RattleType
Step = R-type.the_row unit E

abbrev pub Returned : RattleType → Lft → RattleType
Returned R κ = R-type.the_row (MutRef (named 0) κ R) E

abbrev pub Left : RattleType
Left = Left-type.the_row E

pub left_laws : Laws Left
left_laws = Left-laws.the_row_laws E E-laws.the_row_laws

abbrev pub Flow : RattleType
Flow = C-type.the_row Left unit

abbrev flow : enum.Laws (C-type.the_type Left unit)
flow = C-laws.the_laws Left unit left_laws unit_laws (Left-laws.the_told E E-laws.the_row_laws E-laws.the_told) (field_told unit-field unit-laws)

abbrev pub flow_val : Flow.Denot → Val
flow_val = enum.val (C-type.the_type Left unit) flow

pub flow_stored : (w : Flow.Denot) (v : Val) → Is Flow w (v ∷ []) → v ≡ flow_val w
flow_stored w v is = ap only (enum.tells (C-type.the_type Left unit) flow w (v ∷ []) is)

-- the `match` that `?` is
pub flow_is : (w : Flow.Denot) → ((n : unit.Denot) × (w ≡ Continue n)) ⊎ ((e : Left.Denot) × (w ≡ Break e))
flow_is (Continue n) = inl (n, refl)
flow_is (Break e) = inr (e, refl)

abbrev left_told : Told Left
left_told = Left-laws.the_told E E-laws.the_row_laws E-laws.the_told

abbrev pub left_val : Left.Denot → Val
left_val e = (left_told).val e

module _ {M : Type 1} {𝓤 : Ura M} (𝓛 : Logic 𝓤) where
  pub step_typed : (r : Step.Denot) (vs : List Val) → Is Step r vs → Typed Step.mir vs
  step_typed = ((R-laws.the_row_laws unit E unit_laws E-laws.the_row_laws).lawful 𝓛).typed

  pub returned_typed : (R : RattleType) → Laws R → (κ : Lft) (r : (Returned R κ).Denot) (vs : List Val) → Is (Returned R κ) r vs → Typed (Returned R κ).mir vs
  returned_typed R L κ = ((R-laws.the_row_laws (MutRef (named 0) κ R) E (bare_laws R L κ) E-laws.the_row_laws).lawful 𝓛).typed

  pub left_of : (e : Left.Denot) (v : Val) → ent 𝓤 (sem 𝓛 (Flow.own_val (Break e) (v ∷ []))) (sem 𝓛 (Left.own_val e (left_val e ∷ [])))
  left_of e v =
      qed 𝓛 (‵ (Flow.own_val (Break e) (v ∷ [])) ∷ []) ∵ fpick ! (λ us. fsplit ! $ feq_l ! (λ _. fpick ! (λ vss. fsplit ! $ feq_l ! (λ _. fsplit ! $
      peeks ! Left (Is Left) (shows 𝓛 Left) e vss.0 (λ is. rewrite ! 0 (λ (vs : List Val). ‵ (Left.own_val e vs)) (left_told.tells e vss.0 is) refl $ keep ! (0 ∷ []) $ done !)))))

  two : {A B : Type 0} → A → B → ent 𝓤 (emp 𝓤) (sep 𝓤 (fact 𝓤 A) (sep 𝓤 (fact 𝓤 B) (emp 𝓤)))
  two {A} {B} a b = qed 𝓛 [] ∵ nothing ! $ use0 𝓛 (raw (fact 𝓤 B)) (fact_i 𝓤 B (emp 𝓤) b) $ use0 𝓛 (raw (fact 𝓤 A)) (fact_i 𝓤 A (emp 𝓤) a) $ done !

  three : {A B C : Type 0} → A → B → C → ent 𝓤 (emp 𝓤) (sep 𝓤 (fact 𝓤 A) (sep 𝓤 (fact 𝓤 B) (sep 𝓤 (fact 𝓤 C) (emp 𝓤))))
  three {A} {B} {C} a b c = qed 𝓛 [] ∵ use0 𝓛 (raw (sep 𝓤 (fact 𝓤 B) (sep 𝓤 (fact 𝓤 C) (emp 𝓤)))) (two b c) $ use0 𝓛 (raw (fact 𝓤 A)) (fact_i 𝓤 A (emp 𝓤) a) $ done !

module _ {M : Type 1} (𝓤 : Ura M) (𝓛 : Logic 𝓤) (𝓜 : Model 𝓤 𝓛.H) (𝓡 : Running 𝓤 𝓛.H 𝓜) where
  open 𝓛 use {H, A}

  abbrev 𝓣 : MachineTables 𝓤 H 𝓜
  𝓣 = tables 𝓤 H 𝓜 𝓡 𝓡.env

  abbrev one : ℕ → Item 𝓤
  one α = ‵ (flft (α ∷ []) full_share)

  -- it asks whether r is an error
  abbrev pub Asked : Step.Denot → Val → SProp 𝓤
  Asked r w = H.⇛ (ex 𝓤 (λ (f : Flow.Denot). sep 𝓤 (sem 𝓛 (Flow.own_val f (w ∷ []))) (fact 𝓤 (r ≡ result_from_control_flow f))))

  pub asks : Wired 𝓡.env branch-symbol.code → (r : Step.Denot) (v : Val) (α β : ℕ)
      → ent 𝓤 (sep 𝓤 (A.lft (α ∷ []) full_share) (sep 𝓤 (A.lft (β ∷ []) full_share) (sem 𝓛 (Step.own_val r (v ∷ [])))))
      (𝓣.C (branch-symbol.name (layouts (a_type ∷ a_type ∷ []) (Nothing, (Error, tt)))) (v ∷ []) (Asked r))
  asks wired r v α β =
      let B = triple_of 𝓛 (branch.signature Nothing Error) (branch.spec Nothing Error 𝓛 𝓜.mem 𝓡.returns) in
      let f = branch-symbol.name (layouts (a_type ∷ a_type ∷ []) (Nothing, (Error, tt))) in
      let s : B.Ghost = (((α ∷ [], (β ∷ [], tt)), (full_share, (full_share, tt)), tt, (r, tt), (v ∷ [], tt)), tt) in
      via 𝓤 (B.pre s) (qed 𝓛 (one α ∷ one β ∷ ‵ (Step.own_val r (v ∷ [])) ∷ []) ∵
      nothing ! $ move ! (3 ∷ 0 ∷ []) $ join ! $ nothing ! $ move ! (3 ∷ 0 ∷ []) $ join ! $ move ! (2 ∷ 0 ∷ []) $ join ! $ join ! $
      use0 𝓛 (raw ((branch.clauses Nothing Error 𝓛 𝓜.mem 𝓡.returns s.0.0 s.0.3).requires tt)) (two 𝓛 (⊑_static (α ∷ [])) (⊑_static (β ∷ []))) $ move ! (1 ∷ 0 ∷ []) $ done !)
      (via 𝓤 (𝓣.C f (v ∷ []) (B.post s)) (branch-met.met 𝓤 𝓛 𝓜 𝓡 wired Nothing Error nothing_laws error_laws s)
      (fm→mono 𝓤 (𝓣.C f (v ∷ [])) (framed 𝓤 H 𝓜 𝓣 f (v ∷ [])) (B.post s) (Asked r) (λ w.
      qed 𝓛 (later (some (λ (d : Flow.Denot). ((one α ⊛ one β ⊛ ‵ ftrue) ⊛ ‵ (Flow.own_val d (w ∷ []))) ⊛ some (λ (ws : Lasts (branch.ended Nothing Error) s.0.0 s.0.3).
      ‵ (lasts (branch.ended Nothing Error) s.0.0 s.0.3 ws) ⊛ raw (fact 𝓤 (r ≡ result_from_control_flow d))))) ∷ []) ∵
      updating ! $ await ! tt $ pick ! (λ d. split ! $ split ! $ move ! (2 ∷ []) $ pick ! (λ ws. split ! $ now ! $
      show ! (λ (d' : Flow.Denot). sep 𝓤 (sem 𝓛 (Flow.own_val d' (w ∷ []))) (fact 𝓤 (r ≡ result_from_control_flow d'))) d $ keep ! (3 ∷ 1 ∷ []) $ done !)))))

  -- it returns the error, where there is one
  abbrev pub Refused : (R : RattleType) → Lft → Share → Val → SProp 𝓤
  Refused R κ q w = H.⇛ (ex 𝓤 (λ (p : (Returned R κ).Denot). sep 𝓤 (sem 𝓛 ((Returned R κ).own_val p (w ∷ []))) (sep 𝓤 (fact 𝓤 (IsErr p)) (A.lft κ q))))

  pub refuses : Wired 𝓡.env residual-symbol.code → Wired 𝓡.env from-symbol.code → (R : RattleType) → Laws R → R.lives ≡ [] → (κ : Lft) (q : Share) (e : Left.Denot) (α β : ℕ)
      → ent 𝓤 (sep 𝓤 (A.lft κ q) (sep 𝓤 (A.lft (α ∷ []) full_share) (sep 𝓤 (A.lft (β ∷ []) full_share) (sem 𝓛 (Left.own_val e (left_val e ∷ []))))))
      (𝓣.C (residual-symbol.name (bounded (a_type ∷ a_type ∷ a_type ∷ []) (Ref R κ, (Error, (Error, tt))) (dcons (any.dict Error) dnil))) (left_val e ∷ []) (Refused R κ q))
  refuses wired froms R L alone κ q e α β =
      let T = Ref R κ in let gs = any.ghosts Error in let dict = any.dict Error in
      let B = triple_of 𝓛 (residual.signature T Error Error) (residual.spec T Error Error gs dict 𝓛 𝓜.mem 𝓡.returns) in
      let f = residual-symbol.name (bounded (a_type ∷ a_type ∷ a_type ∷ []) (T, (Error, (Error, tt))) (dcons dict dnil)) in
      let v = left_val e in let row = Returned R κ in
      let s : B.Ghost = (((κ, (α ∷ [], (β ∷ [], tt))), (q, (full_share, (full_share, tt))), tt, (e, tt), (v ∷ [], tt)), tt) in
      via 𝓤 (B.pre s) (qed 𝓛 (‵ (flft κ q) ∷ one α ∷ one β ∷ ‵ (Left.own_val e (v ∷ [])) ∷ []) ∵
      nothing ! $ move ! (4 ∷ 0 ∷ []) $ join ! $ nothing ! $ move ! (4 ∷ 0 ∷ []) $ join ! $ move ! (3 ∷ 0 ∷ []) $ join ! $ move ! (2 ∷ 0 ∷ []) $ join ! $ join ! $
      use0 𝓛 (raw ((residual.clauses T Error Error gs dict 𝓛 𝓜.mem 𝓡.returns s.0.0 s.0.3).requires tt))
      (three 𝓛 (⊑_meet κ κ R.lives (⊑_refl κ) (subst (λ (l : Lft). κ ⊑ l) (sym alone) (⊑_static κ))) (⊑_static (α ∷ [])) (⊑_static (β ∷ []))) $ move ! (1 ∷ 0 ∷ []) $ done !)
      (via 𝓤 (𝓣.C f (v ∷ []) (B.post s)) (residual-met.met 𝓤 𝓛 𝓜 𝓡 wired T Error Error (ref_laws R L κ) error_laws error_laws gs dict
      (record { from = (any-met.bound 𝓡.env froms Error error_laws M 𝓤 𝓛 𝓜 𝓡).from }) s)
      (fm→mono 𝓤 (𝓣.C f (v ∷ [])) (framed 𝓤 H 𝓜 𝓣 f (v ∷ [])) (B.post s) (Refused R κ q) (λ w.
      qed 𝓛 (later (some (λ (p : row.Denot). ((‵ (flft κ q) ⊛ one α ⊛ one β ⊛ ‵ ftrue) ⊛ ‵ (row.own_val p (w ∷ []))) ⊛ some (λ (ws : Lasts (residual.ended T Error Error gs dict) s.0.0 s.0.3).
      ‵ (lasts (residual.ended T Error Error gs dict) s.0.0 s.0.3 ws) ⊛ raw (fact 𝓤 (IsErr p × IsErrAnd p (λ d. d ≡ e.0)))))) ∷ []) ∵
      updating ! $ await ! tt $ pick ! (λ p. split ! $ split ! $ split ! $ move ! (3 ∷ []) $ pick ! (λ ws. split ! $ move ! (1 ∷ []) $ heard ! _ (λ is_err. now ! $
      show ! (λ (p' : row.Denot). sep 𝓤 (sem 𝓛 (row.own_val p' (w ∷ []))) (sep 𝓤 (fact 𝓤 (IsErr p')) (A.lft κ q))) p $
      use0 𝓛 (raw (fact 𝓤 (IsErr p))) (fact_i 𝓤 (IsErr p) (emp 𝓤) is_err.0) $ keep ! (4 ∷ 0 ∷ 2 ∷ []) $ done !))))))
