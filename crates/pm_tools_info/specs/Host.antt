-- The platform that a compiler runs on, as `rustc -vV` prints it.
use Rattle.std.specs.Prelude.{ℕ, List, [], ◌∷◌, codes, Option, None}
use Rattle.std.specs.Option.{option_or}
use Rattle.std.specs.Str.Lines.{lines}
use Rattle.pm_tools_info.specs.Behind.{behind}

-- what follows `host: ` on the first line that begins so
abbrev pub host_in : List (List ℕ) → Option (List ℕ)
host_in [] = None
host_in (line ∷ more) = option_or (behind (codes "host: ") line) (host_in more)

-- the platform that an answer names, where one of its lines does
abbrev pub host_of : List ℕ → Option (List ℕ)
host_of text = host_in (lines text)
