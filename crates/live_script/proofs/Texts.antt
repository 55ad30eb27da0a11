-- Texts in a row, whole and a front of more, in a sink.
use Rattle.std.proofs.Common.{◌≡◌, ℕ, ◌+◌, ◌≤◌, List, [], ◌∷◌, ◌++◌, Option, length, take, sym, ap, subst, ◌∙◌, append_assoc, append-nil, length-append, arith}
use Rattle.std.specs.List.{concat}
use Rattle.std.specs.Io.KnownBytes.{Appends}
use Rattle.std.proofs.KnownBytes.{Appends-nil, Appends-trans}
use Rattle.std.proofs.lemmas.List.Folds.{concat-append}
use Rattle.std.proofs.lemmas.List.{take-append-le}
use Rattle.std.proofs.Math.Seq.{take-append-add, take-append_seam}
use Rattle.base_text.specs.Reader.{IsFrontOf}
use Rattle.live_script.specs.Session.{texts_by}
use Rattle.live_script.specs.Written.{AppendsFront, AppendsTexts}

-- the texts of flushes and then of more
pub texts-append : {F : Type 0} (text : List F → F → List ℕ) (before fs gs : List F) → texts_by text before (fs ++ gs) ≡ texts_by text before fs ++ texts_by text (before ++ fs) gs
texts-append text before [] gs = ap (λ b. texts_by text b gs) (sym (append-nil before))
texts-append text before (f ∷ fs) gs =
    ap (λ ts. text before f ∷ ts)
    (texts-append text (before ++ f ∷ []) fs gs ∙ ap (λ b. texts_by text (before ++ f ∷ []) fs ++ texts_by text b gs) (append_assoc before (f ∷ []) fs))

-- the texts of the first of some flushes are the first of their texts
pub texts-first : {F : Type 0} (text : List F → F → List ℕ) (before short long : List F) → IsFrontOf short long → IsFrontOf (texts_by text before short) (texts_by text before long)
texts-first text before short long first = record {
  rest = texts_by text (before ++ short) first.rest;
  is = ap (texts_by text before) first.is ∙ texts-append text before short first.rest;
}

-- texts, and then those of more flushes
pub AppendsTexts-more : {F : Type 0} (text : List F → F → List ℕ) (before fs gs : List F) (old mid new : Option (List ℕ))
    → AppendsTexts (old, mid) (texts_by text before fs) → AppendsTexts (mid, new) (texts_by text (before ++ fs) gs) → AppendsTexts (old, new) (texts_by text before (fs ++ gs))
AppendsTexts-more text before fs gs old mid new first more =
    subst (Appends old new) (sym (ap concat (texts-append text before fs gs) ∙ concat-append (texts_by text before fs) (texts_by text (before ++ fs) gs)))
    (Appends-trans old mid new _ _ first more)

-- a front of some texts is a front of more
pub AppendsFront-longer : (old new : Option (List ℕ)) (short long : List (List ℕ)) → IsFrontOf short long → AppendsFront (old, new) short → AppendsFront (old, new) long
AppendsFront-longer old new short long more front =
    let whole : concat long ≡ concat short ++ concat more.rest = ap concat more.is ∙ concat-append short more.rest in
    let inside : front.count ≤ length (concat short) = front.within in
    record {
      count = front.count;
      within = rw whole (omega (arith, length-append (concat short) (concat more.rest)));
      front = rw (whole, take-append-le) front.front;
    }

take_whole : (xs : List ℕ) → take (length xs) xs ≡ xs
take_whole xs = ap (take (length xs)) (sym (append-nil xs)) ∙ take-append_seam xs []

-- all of some texts is a front of them
pub AppendsFront-all : (old new : Option (List ℕ)) (texts : List (List ℕ)) → AppendsTexts (old, new) texts → AppendsFront (old, new) texts
AppendsFront-all old new texts whole = record { count = length (concat texts); within = omega arith; front = subst (Appends old new) (sym (take_whole (concat texts))) whole }

-- texts, and then a front of more
AppendsFront-after : (old mid new : Option (List ℕ)) (first second : List (List ℕ)) → AppendsTexts (old, mid) first → AppendsFront (mid, new) second → AppendsFront (old, new) (first ++ second)
AppendsFront-after old mid new first second whole front =
    let both = concat-append first second in
    let inside : front.count ≤ length (concat second) = front.within in
    record {
      count = length (concat first) + front.count;
      within = rw both (omega (arith, length-append (concat first) (concat second)));
      front = rw (both, take-append-add) (Appends-trans old mid new (concat first) (take front.count (concat second)) whole front.front);
    }

-- texts, and then a front of those of more flushes
pub AppendsFront-more : {F : Type 0} (text : List F → F → List ℕ) (before fs gs : List F) (old mid new : Option (List ℕ))
    → AppendsTexts (old, mid) (texts_by text before fs) → AppendsFront (mid, new) (texts_by text (before ++ fs) gs) → AppendsFront (old, new) (texts_by text before (fs ++ gs))
AppendsFront-more text before fs gs old mid new first front =
    subst (AppendsFront (old, new)) (sym (texts-append text before fs gs)) (AppendsFront-after old mid new (texts_by text before fs) (texts_by text (before ++ fs) gs) first front)

-- nothing is a front of any texts
pub AppendsFront-nil : (held : Option (List ℕ)) (texts : List (List ℕ)) → AppendsFront (held, held) texts
AppendsFront-nil held texts = record { count = 0; within = omega arith; front = Appends-nil held }

-- nothing was written
pub AppendsFront-none : (old new : Option (List ℕ)) (texts : List (List ℕ)) → Appends old new [] → AppendsFront (old, new) texts
AppendsFront-none old new texts nothing = record { count = 0; within = omega arith; front = nothing }
