-- The atoms of a build script, taken one after another.
use Rattle.std.proofs.Common.{◌≡◌, ℕ, suc, ◌+◌, ◌<◌, ◌≤◌, List, [], ◌∷◌, ◌++◌, length, drop, get_or, Some, None, Result, Ok, Err, add-one, ap, append-nil, append_assoc, refl, sym, ◌∙◌}
use Rattle.std.proofs.Math.Seq.{drop-cons}
use Rattle.std.proofs.lemmas.List.{drop_all}
use Rattle.base_text_outside.specs.Cfg.{atom_of}
use Rattle.base_text_outside.specs.declared.cfg.CfgAtom.{CfgAtom}
use Rattle.pm_tools.specs.Script.{GivesAtom, GivesAtoms, named_atoms, with_first}
use Rattle.pm_tools.specs.declared.script.AtomsError.{AtomsError}
use Rattle.pm_tools.specs.declared.script.AtomsError.TheVariants.{Invalid, OutOfMemory}

-- atoms that are taken, before those of the rest
abbrev pub with_before : List CfgAtom → Result (List CfgAtom) (List ℕ) → Result (List CfgAtom) (List ℕ)
with_before atoms (Ok rest) = Ok (atoms ++ rest)
with_before atoms (Err invalid) = Err invalid

-- none are taken
pub before-none : (r : Result (List CfgAtom) (List ℕ)) → r ≡ with_before [] r
before-none (Ok rest) = refl
before-none (Err invalid) = refl

moved : (atoms : List CfgAtom) (text : List ℕ) (atom : CfgAtom) (r : Result (List CfgAtom) (List ℕ)) → with_before atoms (with_first text (Some atom) r) ≡ with_before (atoms ++ atom ∷ []) r
moved atoms text atom (Ok rest) = ap Ok (sym (append_assoc atoms (atom ∷ []) rest))
moved atoms text atom (Err invalid) = refl

first : (texts : List (List ℕ)) (i : ℕ) (text : List ℕ) → i < length texts → text ≡ get_or texts i text → named_atoms (drop i texts) ≡ with_first text (atom_of text) (named_atoms (drop (i + 1) texts))
unfolding named_atoms
first texts i text within here =
    ap named_atoms (drop-cons texts i text within ∙ ap (λ t. t ∷ drop (suc i) texts) (sym here) ∙ ap (λ k. text ∷ drop k texts) (sym (add-one i)))

-- one more text, which names an atom
pub before-more : (texts : List (List ℕ)) (i : ℕ) (text : List ℕ) (atoms : List CfgAtom) (atom : CfgAtom) (all : Result (List CfgAtom) (List ℕ)) → i < length texts → text ≡ get_or texts i text
    → all ≡ with_before atoms (named_atoms (drop i texts)) → atom_of text ≡ Some atom → all ≡ with_before (atoms ++ atom ∷ []) (named_atoms (drop (i + 1) texts))
before-more texts i text atoms atom all within here before is =
    before ∙ ap (with_before atoms) (first texts i text within here ∙ ap (λ o. with_first text o (named_atoms (drop (i + 1) texts))) is)
    ∙ moved atoms text atom (named_atoms (drop (i + 1) texts))

-- a text that names none
pub before-invalid : (texts : List (List ℕ)) (i : ℕ) (text : List ℕ) (atoms : List CfgAtom) (all : Result (List CfgAtom) (List ℕ)) → i < length texts → text ≡ get_or texts i text
    → all ≡ with_before atoms (named_atoms (drop i texts)) → atom_of text ≡ None → all ≡ Err text
before-invalid texts i text atoms all within here before is =
    before ∙ ap (with_before atoms) (first texts i text within here ∙ ap (λ o. with_first text o (named_atoms (drop (i + 1) texts))) is)

-- no text is left
pub before-all : (texts : List (List ℕ)) (i : ℕ) (atoms : List CfgAtom) (all : Result (List CfgAtom) (List ℕ)) → length texts ≤ i → all ≡ with_before atoms (named_atoms (drop i texts)) → all ≡ Ok atoms
unfolding named_atoms
before-all texts i atoms all end before = before ∙ ap (λ l. with_before atoms (named_atoms l)) (drop_all i texts end) ∙ ap Ok (append-nil atoms)

-- a text for which a call gives no atom ends the call for all texts
pub before-refused : (texts : List (List ℕ)) (i : ℕ) (text : List ℕ) (atoms : List CfgAtom) (all : Result (List CfgAtom) (List ℕ)) (e : AtomsError) → i < length texts → text ≡ get_or texts i text
    → all ≡ with_before atoms (named_atoms (drop i texts)) → GivesAtom (Err e) text → GivesAtoms (Err e) all
before-refused texts i text atoms all (Invalid invalid) within here before is = before-invalid texts i text atoms all within here before is.0 ∙ ap Err (sym is.1)
before-refused texts i text atoms all OutOfMemory within here before is = tt
