-- The rows of a JSON project: the crates of its document that become crates of a graph, each where the file
-- of its root module is live. Rows are numbered through in the order of the document, behind those of parts
-- before; no number of a graph plays a part. The rule is that of rust-analyzer's
-- `project_json_to_crate_graph`.
use Rattle.std.specs.Prelude.{ℕ, ◌+◌, List, [], ◌∷◌, length, Option, slice_get}
use Rattle.std.specs.List.{flat_map}
use Rattle.std.specs.Option.{option_and_then, option_map, option_to_list}
use Rattle.pm_json.specs.Queries.{crates_in}
use Rattle.pm_json.specs.declared.krate.Crate.{Crate}
use Rattle.pm_json.specs.declared.project_json.ProjectJson.{ProjectJson}
use Rattle.pm_lower_crates.specs.Loader.{FileNumbers, file_number}

-- a row: a crate of a document that becomes a crate of a graph
pub record JsonRow : Type 0 where
  -- how many rows of the project come before it, those of other parts too
  pub number : ℕ
  -- the crate of the document, and its number there
  pub of : Crate
  pub of_number : ℕ
  -- the file that the crate begins in
  pub file : ℕ

-- the row of the crate with a number that begins in a file, under a number
abbrev pub row_in : ℕ → ℕ → Crate → ℕ → JsonRow
row_in c n krate file = record { number = n; of = krate; of_number = c; file = file }

-- the row of the crate with a number, under a number: there is one where the file of its root module is live
unfoldable pub json_row : FileNumbers → ℕ → ℕ → Crate → Option JsonRow
json_row files c n krate = option_map (row_in c n krate) (file_number files krate.root_module)

-- of each crate from the one with a number on its row, if it has one, numbered from n on
abbrev pub json_rows_from : FileNumbers → ℕ → ℕ → List Crate → List (Option JsonRow)
json_rows_from files c n [] = []
json_rows_from files c n (krate ∷ more) =
    json_row files c n krate
    ∷ json_rows_from files (c + 1) (n + length (option_to_list (json_row files c n krate))) more

-- of each crate of a project its row, if it has one, by the crate's number; rows are numbered from n on
abbrev pub rows_by_place : FileNumbers → ℕ → ProjectJson → List (Option JsonRow)
rows_by_place files n project = json_rows_from files 0 n (crates_in project)

-- the rows alone, in their order
abbrev pub rows_among : List (Option JsonRow) → List JsonRow
rows_among by_place = flat_map option_to_list by_place

-- the row of the crate at a place: there is none where the crate has none, and none where the document has no
-- such crate
abbrev pub json_row_at : List (Option JsonRow) → ℕ → Option JsonRow
json_row_at by_place place = option_and_then (λ row. row) (slice_get by_place place)
