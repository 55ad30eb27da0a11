-- What is asked of a file that is read in an edition.
use Rattle.std.specs.Prelude.{ℕ}
use Rattle.base_text_paths.specs.declared.edition.Edition.{Edition}
use Rattle.input_db_files.specs.declared.editioned_file_id.EditionedFileId.{EditionedFileId}

-- the file
abbrev pub file_of : EditionedFileId → ℕ
file_of file = file.file_id

-- the edition that it is read in
abbrev pub edition_of_file : EditionedFileId → Edition
edition_of_file file = file.edition
