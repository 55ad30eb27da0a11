-- What `strip_prefix` leaves of a text, as a function.
use Rattle.std.proofs.Common.{◌≡◌, ℕ, true, false, List, ◌++◌, drop, length, Option, Some, None, refl, sym, ap, ◌∙◌, Bor}
use Rattle.std.specs.Option.{MatchOption, option_copied}
use Rattle.std.specs.Str.Pattern.{FindsTextPrefix, StripsPrefix}
use Rattle.std.proofs.lemmas.Str.Pattern.{starts_text}
use Rattle.pm_tools_info.specs.Behind.{behind}

-- a front that is taken off
pub behind_front : (r : Option (Bor (List ℕ))) (front text : List ℕ) → MatchOption r (FindsTextPrefix front text None) (λ x. StripsPrefix (FindsTextPrefix front) text x.now) → option_copied r ≡ behind front text
behind_front None front text h = rw (sym (starts_text false front text h))
behind_front (Some x) front text h =
    let is : x.now ≡ drop (length front) text = h.2 ∙ ap (λ k. drop k text) h.1.0 in
    rw (sym (starts_text true front text (length front, (refl, h.1.1 ∙ ap (λ k. front ++ drop k text) h.1.0, h.1.2), h.1.2)), is)
