-- What is known of a toolchain by the answers of its tools.
use Rattle.std.specs.Prelude.{ℕ, List, [], ◌∷◌, Option, Some, None, Result, Ok, Err}
use Rattle.std.specs.Option.{ok_or, option_and_then, option_map}
use Rattle.base_text_outside.specs.declared.cfg.CfgAtom.{CfgAtom}
use Rattle.base_values.specs.Version.{Parts}
use Rattle.crate_graph_values.specs.declared.target.TargetData.{TargetData}
use Rattle.pm_tools_ask.specs.Ask.{Means}
use Rattle.pm_tools_info.specs.Cfgs.{atoms_of}
use Rattle.pm_tools_info.specs.Host.{host_of}
use Rattle.pm_tools_info.specs.TargetSpec.{machine_of, spec_of}
use Rattle.pm_tools_info.specs.Version.{version_behind}
use Rattle.pm_tools_info.specs.Asked.{answer_to, reading_of_answer}
use Rattle.pm_tools_info.specs.BuildTarget.{build_targets}
use Rattle.pm_tools_info.specs.Config.{Query, front_of}
use Rattle.pm_tools_info.specs.Questions.{cfg_questions, host_questions, spec_questions, version_questions}
use Rattle.pm_tools_info.specs.declared.query_error.QueryError.{QueryError}
use Rattle.pm_tools_info.specs.declared.query_error.QueryError.TheVariants.{BadSpec, NoHost}

-- the version of the tool, where its answer has one
abbrev pub version_answer : Query → Means → Result (Option Parts) QueryError
version_answer query means =
    reading_of_answer (λ text. Ok (version_behind (front_of query) text))
    (answer_to means.answers (version_questions query means))

-- the platform that the compiler runs on
abbrev pub host_answer : Query → Means → Result (List ℕ) QueryError
host_answer query means =
    reading_of_answer (λ text. ok_or (host_of text) NoHost)
    (answer_to means.answers (host_questions query means))

-- one platform
abbrev pub one_target : Result (List ℕ) QueryError → Result (List (List ℕ)) QueryError
one_target (Ok target) = Ok (target ∷ [])
one_target (Err error) = Err error

-- the platforms that are stated, or else those that an answer gives
abbrev pub unless_stated : Option (List (List ℕ)) → Result (List (List ℕ)) QueryError
    → Result (List (List ℕ)) QueryError
unless_stated None answer = answer
unless_stated (Some targets) answer = Ok targets

-- the platform that is given, or else what is said without one
abbrev pub unless_given : Option (List ℕ) → Result (List (List ℕ)) QueryError
    → Result (List (List ℕ)) QueryError
unless_given None answer = answer
unless_given (Some target) answer = Ok (target ∷ [])

-- the platforms that are built for: the given one, or else those of the configuration, or else that of the
-- compiler
abbrev pub target_answer : Query → Option (List ℕ) → Means → Result (List (List ℕ)) QueryError
target_answer query target means =
    unless_given target
    (unless_stated (option_and_then build_targets query.printed) (one_target (host_answer query means)))

-- the machine of a platform
abbrev pub data_answer : Query → Option (List ℕ) → Option Parts → Means → Result TargetData QueryError
data_answer query target version means =
    reading_of_answer (λ text. ok_or (option_map machine_of (spec_of text)) BadSpec)
    (answer_to means.answers (spec_questions query target version means))

-- the atoms of an answer, which are none where there is no answer
abbrev pub atoms_of_answer : Result (List ℕ) QueryError → List CfgAtom
atoms_of_answer (Ok text) = atoms_of text
atoms_of_answer (Err error) = []

-- the atoms that hold for a platform
abbrev pub cfg_answer : Query → Option (List ℕ) → Means → List CfgAtom
cfg_answer query target means = atoms_of_answer (answer_to means.answers (cfg_questions query target means))
