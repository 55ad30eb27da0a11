use Rattle.std.proofs.Common.{◌∙◌, ℕ, nat_eq}
use Rattle.input_db_files.proofs.Entries.{found_among}
use Rattle.input_db_files.proofs.source_root.SourceRoot.has_file.Goals as goal

pub returns : goal.returns
returns c =
    c.is_some.ensures
    ∙ found_among {K = ℕ} _ (nat_eq c.args.file) c.args.self.now.file_set.paths c.path_for_file.ensures
