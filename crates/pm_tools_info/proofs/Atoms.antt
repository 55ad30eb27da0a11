-- The atoms of the lines that are left, when one more was taken.
use Rattle.std.proofs.Common.{◌≡◌, ℕ, List, [], ◌∷◌, ◌++◌, Option, Some, None, Result, Ok, Err, refl, sym, ap, ◌∙◌, append_assoc}
use Rattle.std.specs.Option.{option_and_then, option_map}
use Rattle.std.specs.Result.{OnOk}
use Rattle.base_text_outside.specs.Cfg.{atom_of}
use Rattle.base_text_outside.specs.declared.cfg.CfgAtom.{CfgAtom}
use Rattle.pm_tools_info.specs.Cfgs.{atoms_in}

-- one atom more stands before those that are to come
joined : (xs : List CfgAtom) (x : CfgAtom) (more : Option (List CfgAtom)) → option_map (λ more. (xs ++ x ∷ []) ++ more) more ≡ option_map (λ more. xs ++ more) (option_map (λ more. x ∷ more) more)
joined xs x None = refl
joined xs x (Some more) = ap Some (append_assoc xs (x ∷ []) more)

-- the line names an atom
pub atom_taken : (xs ys : List CfgAtom) (x : CfgAtom) (line : List ℕ) (lines : List (List ℕ)) → atom_of line ≡ Some x → ys ≡ xs ++ x ∷ [] → option_map (λ more. ys ++ more) (atoms_in lines) ≡ option_map (λ more. xs ++ more) (atoms_in (line ∷ lines))
atom_taken xs ys x line lines is more =
    ap (λ l. option_map (λ more. l ++ more) (atoms_in lines)) more
    ∙ joined xs x (atoms_in lines)
    ∙ ap (λ o. option_map (λ more. xs ++ more) (option_and_then (λ atom. option_map (λ atoms. atom ∷ atoms) (atoms_in lines)) o)) (sym is)

-- the line names none
pub none_taken : (xs : List CfgAtom) (line : List ℕ) (lines : List (List ℕ)) → atom_of line ≡ None → None ≡ option_map (λ more. xs ++ more) (atoms_in (line ∷ lines))
none_taken xs line lines is =
    ap (λ o. option_map (λ more. xs ++ more) (option_and_then (λ atom. option_map (λ atoms. atom ∷ atoms) (atoms_in lines)) o)) (sym is)

-- the five groups one behind another
pub five : {T E : Type 0} (r : Result T E) (a b c d e x0 x1 x2 x3 x4 x5 : List CfgAtom) → x1 ≡ x0 ++ a → x2 ≡ x1 ++ b → x3 ≡ x2 ++ c → x4 ≡ x3 ++ d → OnOk r (x5 ≡ x4 ++ e) → OnOk r (x5 ≡ x0 ++ (a ++ (b ++ (c ++ (d ++ e)))))
five (Ok y) a b c d e x0 x1 x2 x3 x4 x5 p q r s t =
    t
    ∙ ap (λ l. l ++ e) (s ∙ ap (λ l. l ++ d) (r ∙ ap (λ l. l ++ c) (q ∙ ap (λ l. l ++ b) p)))
    ∙ append_assoc (((x0 ++ a) ++ b) ++ c) d e
    ∙ append_assoc ((x0 ++ a) ++ b) c (d ++ e)
    ∙ append_assoc (x0 ++ a) b (c ++ (d ++ e))
    ∙ append_assoc x0 a (b ++ (c ++ (d ++ e)))
five (Err y) a b c d e x0 x1 x2 x3 x4 x5 p q r s t = t
