-- Texts in quotes, as TOML writes them: between two `"` a `\` takes the byte behind it along, and between two
-- `'` nothing does.
use Rattle.std.specs.Prelude.{ℕ, Bool, true, false, ◌&&◌, ◌==◌, if◌then◌else◌, List, [], ◌∷◌, Option, Some, None}
use Rattle.std.specs.List.{onto_first}
use Rattle.std.specs.Option.{option_map}
use Rattle.pm_tools_ask.specs.declared.quotes.Quotes.{Quotes}
use Rattle.pm_tools_ask.specs.declared.quotes.Quotes.TheVariants.{Outside, Basic, Escape, Literal}

-- no quotes are open
abbrev pub is_unquoted : Quotes → Bool
is_unquoted Outside = true
is_unquoted Basic = false
is_unquoted Escape = false
is_unquoted Literal = false

-- which quotes are open behind one more byte
unfoldable pub after_byte : Quotes → ℕ → Quotes
after_byte Outside b = if b == 34 then Basic else if b == 39 then Literal else Outside
after_byte Basic b = if b == 34 then Outside else if b == 92 then Escape else Basic
after_byte Escape b = Basic
after_byte Literal b = if b == 39 then Outside else Literal

-- what follows the quote that closes those that are open, where one does
unfoldable pub after_quotes : Quotes → List ℕ → Option (List ℕ)
after_quotes quotes [] = None
after_quotes quotes (b ∷ bs) =
    if is_unquoted (after_byte quotes b) then Some bs else after_quotes (after_byte quotes b) bs

-- what stands before and behind the first byte `at` outside of quotes, where there is one
unfoldable pub cut_outside : ℕ → Quotes → List ℕ → Option (List ℕ × List ℕ)
cut_outside at quotes [] = None
cut_outside at quotes (b ∷ bs) =
    if is_unquoted quotes && b == at then Some ([], bs)
    else option_map (λ cut. (b ∷ cut.0, cut.1)) (cut_outside at (after_byte quotes b) bs)

-- the parts between the bytes `at` outside of quotes
unfoldable pub parts_outside : ℕ → Quotes → List ℕ → List (List ℕ)
parts_outside at quotes [] = [] ∷ []
parts_outside at quotes (b ∷ bs) =
    if is_unquoted quotes && b == at then [] ∷ parts_outside at Outside bs
    else onto_first b (parts_outside at (after_byte quotes b) bs)
