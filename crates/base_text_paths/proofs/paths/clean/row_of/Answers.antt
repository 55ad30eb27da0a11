use Rattle.std.proofs.Common.{sym}
use Rattle.std.proofs.lemmas.Bool.{both_ways}
use Rattle.std.proofs.lemmas.Slice.Eq.{bytes_eq-Decides}
use Rattle.base_text_paths.proofs.Parents.{row_of_clean, row_of_root}
use Rattle.base_text_paths.proofs.paths.clean.row_of.Goals as goal

pub returns-then-eq : goal.returns-then-eq
returns-then-eq c = row_of_root _ ((bytes_eq-Decides _ _).0 (sym c.if-eq.ensures))

pub returns-else-eq : goal.returns-else-eq
returns-else-eq c = row_of_clean _ c.requires (λ e. both_ways _ (sym c.if-eq.ensures) ((bytes_eq-Decides _ _).1 e))
