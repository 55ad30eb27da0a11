-- The table of options, and what words give by it: in any order, each option at most once but those that add
-- to a list or a map.
use Rattle.std.specs.Prelude.{ℕ, ◌≤◌, Bool, true, false, ◌&&◌, ◌||◌, String, IfSome, is_some, map, string_bytes, List, [], ◌∷◌, Option, Some, None, codes, if◌then◌else◌}
use Rattle.std.specs.Option.{option_and_then, option_map}
use Rattle.std.specs.declared.alloc.Global.{Global}
use Rattle.std.specs.Borrow.{Bor}
use Rattle.std.specs.Str.{bytes_eq}
use Rattle.base_text_outside.specs.declared.limits.Limit.{Limit}
use Rattle.base_text_outside.specs.declared.limits.Limit.TheVariants.{Bytes, Paths, Packages, Targets, Crates}
use Rattle.live_config.specs.declared.options.Given.{Given}
use Rattle.live_config.specs.declared.options.GivenFeatures.{GivenFeatures}
use Rattle.live_config.specs.declared.options.GivenLimits.{GivenLimits}
use Rattle.live_config.specs.declared.options.LiveOption.{LiveOption}
use Rattle.live_config.specs.declared.options.LiveOption.TheVariants.{Target, Features, NoDefaultFeatures, AllFeatures, NoDeps, ExtraInclude, Env, ProcessEnv, Limit as LimitOption}
use Rattle.live_config.specs.declared.options.OptionForm.{OptionForm}
use Rattle.live_config.specs.declared.options.OptionForm.TheVariants.{Flag, Valued}
use Rattle.live_config.specs.declared.options.OptionRow.{OptionRow}
use Rattle.live_config.specs.Limits.{greatest}
use Rattle.live_config.specs.Values.{feature_names, number_up_to, with_extra, with_option_path, with_process}

-- a row of the table whose option is its word alone
abbrev pub flag_row : LiveOption → OptionRow
flag_row option = record { option = option; form = Flag }

-- a row whose value is the next word
abbrev pub valued_row : LiveOption → OptionRow
valued_row option = record { option = option; form = Valued }

-- the table of options, by their words
unfoldable pub option_row : List ℕ → Option OptionRow
option_row word =
    if bytes_eq word (codes "--target") then Some (valued_row Target)
    else if bytes_eq word (codes "--features") then Some (valued_row Features)
    else if bytes_eq word (codes "--no-default-features") then Some (flag_row NoDefaultFeatures)
    else if bytes_eq word (codes "--all-features") then Some (flag_row AllFeatures)
    else if bytes_eq word (codes "--no-deps") then Some (flag_row NoDeps)
    else if bytes_eq word (codes "--extra-include") then Some (valued_row ExtraInclude)
    else if bytes_eq word (codes "--env") then Some (valued_row Env)
    else if bytes_eq word (codes "--process-env") then Some (valued_row ProcessEnv)
    else if bytes_eq word (codes "--limit-bytes") then Some (valued_row (LimitOption Bytes))
    else if bytes_eq word (codes "--limit-paths") then Some (valued_row (LimitOption Paths))
    else if bytes_eq word (codes "--limit-packages") then Some (valued_row (LimitOption Packages))
    else if bytes_eq word (codes "--limit-targets") then Some (valued_row (LimitOption Targets))
    else if bytes_eq word (codes "--limit-crates") then Some (valued_row (LimitOption Crates))
    else None

-- no option is given yet
abbrev pub nothing_given : Given
nothing_given = record {
  target = None;
  features = record { names = None; no_default = false; all = false };
  no_deps = false;
  extra_includes = [];
  env = [];
  process_env = [];
  limits = record { bytes = None; paths = None; packages = None; targets = None; crates = None };
}

-- the value of an option that was not given before
abbrev pub set_once : {T : Type 0} → Option T → Option T → Option (Option T)
set_once before value = if is_some before then None else option_map Some value

-- a flag that was not given before
abbrev pub with_flag : Bool → Option Bool
with_flag flag = if flag then None else Some true

-- a limit that was not given before
unfoldable pub with_limit : GivenLimits → Limit → List ℕ → Option GivenLimits
with_limit given Bytes text =
    option_map (λ n. record given { bytes = n }) (set_once given.bytes (number_up_to greatest.bytes text))
with_limit given Paths text =
    option_map (λ n. record given { paths = n }) (set_once given.paths (number_up_to greatest.paths text))
with_limit given Packages text =
    option_map (λ n. record given { packages = n })
    (set_once given.packages (number_up_to greatest.packages text))
with_limit given Targets text =
    option_map (λ n. record given { targets = n })
    (set_once given.targets (number_up_to greatest.targets text))
with_limit given Crates text =
    option_map (λ n. record given { crates = n }) (set_once given.crates (number_up_to greatest.crates text))

-- what an option with its value makes of those that were given before, where it may be given. The value of a
-- flag is empty
unfoldable pub with_option : Given → LiveOption → List ℕ → Option Given
with_option given Target value =
    option_map (λ target. record given { target = target }) (set_once given.target (Some value))
with_option given Features value =
    option_map (λ names. record given { features = record given.features { names = names } })
    (set_once given.features.names (feature_names value))
with_option given NoDefaultFeatures value =
    option_map (λ flag. record given { features = record given.features { no_default = flag } })
    (with_flag given.features.no_default)
with_option given AllFeatures value =
    option_map (λ flag. record given { features = record given.features { all = flag } })
    (with_flag given.features.all)
with_option given NoDeps value =
    option_map (λ flag. record given { no_deps = flag }) (with_flag given.no_deps)
with_option given ExtraInclude value =
    option_map (λ paths. record given { extra_includes = paths })
    (with_option_path given.extra_includes value)
with_option given Env value = option_map (λ env. record given { env = env }) (with_extra given.env value)
with_option given ProcessEnv value =
    option_map (λ env. record given { process_env = env }) (with_process given.process_env value)
with_option given (LimitOption limit) value =
    option_map (λ limits. record given { limits = limits }) (with_limit given.limits limit value)

-- what follows the word of an option, by the option's form
abbrev pub by_form : {T : Type 0} → OptionForm → T → T → T
by_form Flag as_flag as_valued = as_flag
by_form Valued as_flag as_valued = as_valued

-- the options that words give beside these, in any order, where an option may wait for its value: a value is
-- the next word, whatever it begins with
abbrev pub options_from : Given → Option LiveOption → List (List ℕ) → Option Given
options_from given None [] = Some given
options_from given (Some option) [] = None
options_from given None (word ∷ words) =
    option_and_then
    (λ row. by_form row.form
    (option_and_then (λ more. options_from more None words) (with_option given row.option []))
    (options_from given (Some row.option) words))
    (option_row word)
options_from given (Some option) (value ∷ words) =
    option_and_then (λ more. options_from more None words) (with_option given option value)

-- the same where none waits
abbrev pub with_options : Given → List (List ℕ) → Option Given
with_options given words = options_from given None words

-- all features were asked for, and beside them names or that the default ones are left out
abbrev pub has_conflict : GivenFeatures → Bool
has_conflict given = given.all && (given.no_default || is_some given.names)

-- the options, unless those of features exclude one another
abbrev pub without_conflict : Given → Option Given
without_conflict given = if has_conflict given.features then None else Some given

-- the options that words give
abbrev pub given_options : List (List ℕ) → Option Given
given_options words = option_and_then without_conflict (with_options nothing_given words)

-- no limit that was given is above its greatest
pub record FitsGiven (given : GivenLimits) : Type 0 where
  pub bytes : IfSome given.bytes (λ n. n ≤ greatest.bytes)
  pub paths : IfSome given.paths (λ n. n ≤ greatest.paths)
  pub packages : IfSome given.packages (λ n. n ≤ greatest.packages)
  pub targets : IfSome given.targets (λ n. n ≤ greatest.targets)
  pub crates : IfSome given.crates (λ n. n ≤ greatest.crates)

-- a word, and the words that follow it, as their texts
abbrev pub split_texts : Option (Bor (List ℕ) × Bor (List (String Global))) → Option (List ℕ × List (List ℕ))
split_texts split = option_map (λ found. (found.0.now, map string_bytes found.1.now)) split

-- the value of an option, and the words that follow it
abbrev pub option_value : OptionForm → List (List ℕ) → Option (List ℕ × List (List ℕ))
option_value Flag words = Some ([], words)
option_value Valued [] = None
option_value Valued (value ∷ words) = Some (value, words)
