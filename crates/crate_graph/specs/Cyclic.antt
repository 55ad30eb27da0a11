-- A path of crates that a dependency would close to a cycle.
use Rattle.std.specs.Prelude.{ℕ, ◌-◌, List, [], ◌++◌, codes, decimal, length, map, reverse, Option, Some, None, slice_get}
use Rattle.std.specs.List.{join_by}
use Rattle.std.specs.Option.{option_and_then}
use Rattle.base_text_paths.specs.Arena.{number_of}
use Rattle.base_text_paths.specs.declared.arena.Idx.{Idx}
use Rattle.crate_graph_values.specs.Names.{DisplayName}
use Rattle.crate_graph_values.specs.declared.builder.CrateBuilder.{CrateBuilder}
use Rattle.crate_graph_values.specs.declared.crate_data.CrateTag.{CrateTag}

-- a crate of a path: its number, and the names that it is shown under
abbrev pub Step : Type 0
Step = Idx CrateTag × Option DisplayName

-- the numbers of a path
abbrev pub numbers : List Step → List ℕ
numbers path = map (λ step. number_of step.0) path

-- the names that the crate of a number is shown under
abbrev pub shown_of : List CrateBuilder → ℕ → Option DisplayName
shown_of crates n = option_and_then (λ krate. krate.extra.display_name) (slice_get crates n)

-- the names of a path
abbrev pub names : List Step → List (Option DisplayName)
names path = map (λ step. step.1) path

-- a crate of a path as it is printed: the name that it is shown under with its number, or its number alone
abbrev pub step_text : Step → List ℕ
step_text (id, Some name) = name.crate_name ++ (codes "(" ++ (decimal (number_of id) ++ codes ")"))
step_text (id, None) = decimal (number_of id)

-- an end of a path as it is printed
abbrev pub end_text : Option Step → List ℕ
end_text None = []
end_text (Some step) = step_text step

-- the crates of a path from its last to its first, joined by arrows
unfoldable pub back_text : List Step → List ℕ
back_text path = join_by step_text (codes " -> ") (reverse path)

-- a refused dependency as it is printed: the first crate of its path, the last one, and the path from the
-- last to the first
abbrev pub cyclic_text : List Step → List ℕ
cyclic_text path =
    codes "cyclic deps: "
    ++ (end_text (slice_get path 0) ++ (codes " -> " ++ (end_text (slice_get path (length path - 1))
    ++ (codes ", alternative path: " ++ back_text path))))
