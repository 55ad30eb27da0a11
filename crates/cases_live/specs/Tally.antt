-- A session that counts the files of which a script speaks: its state is the count since the last flush,
-- which is what a flush brings. The text of a flush says whether it brought as many as the one before.
use Rattle.std.specs.Prelude.{◌≡◌, ℕ, ◌+◌, ◌==◌, List, [], ◌∷◌, ◌++◌, Option, Some, None, codes, decimal, nat_lt, if◌then◌else◌}
use Rattle.base_text_outside.specs.declared.limits.Limit.TheVariants.{Paths}
use Rattle.live_page.specs.declared.event.Event.{Event}
use Rattle.live_page.specs.declared.event.Event.TheVariants.{Answer, Build, Exclude, File, Flush, Load}
use Rattle.live_script.specs.declared.fault.LiveError.TheVariants.{TooMany}
use Rattle.live_script.specs.Session.{Rules, Turn, refuses, takes}
use Rattle.cases_live.specs.declared.tally.Tally.{Tally}

-- how many files were spoken of since the last flush
pub record TallyState : Type 0 where
  pub files : ℕ

-- no more than this many are counted
abbrev pub most_files : ℕ
most_files = 1000

-- one more file
abbrev pub count_turn : TallyState → Turn TallyState ℕ
count_turn s =
    if nat_lt s.files most_files then takes (record { files = s.files + 1 }) [] else refuses s (TooMany Paths)

-- one event
abbrev pub tally_turn : TallyState → Event → Turn TallyState ℕ
tally_turn s (File path text) = count_turn s
tally_turn s (Exclude path) = takes s []
tally_turn s (Answer line output) = takes s []
tally_turn s (Load path) = takes s []
tally_turn s (Build output) = takes s []
tally_turn s Flush = takes (record { files = 0 }) (s.files ∷ [])

-- the last of some flushes
abbrev pub last_of : List ℕ → Option ℕ
last_of [] = None
last_of (f ∷ []) = Some f
last_of (f ∷ g ∷ fs) = last_of (g ∷ fs)

-- what is written at a flush, where this was the one before it
abbrev pub tally_text : Option ℕ → ℕ → List ℕ
tally_text None files = decimal files ++ codes " files\n"
tally_text (Some before) files =
    if before == files then decimal files ++ codes " files, as before\n"
    else decimal files ++ codes " files\n"

-- a value holds a state, and knows the flush before
pub record HoldsTally (p : Tally) (before : List ℕ) (s : TallyState) : Type 0 where
  pub files : p.files ≡ s.files
  pub last : p.last ≡ last_of before

-- the rules
abbrev pub tally_rules : Rules Tally
tally_rules = record {
  State = TallyState;
  Flush = ℕ;
  turn = tally_turn;
  may_leave = λ s event left. left ≡ s;
  text = λ before files. tally_text (last_of before) files;
  holds = HoldsTally;
}
