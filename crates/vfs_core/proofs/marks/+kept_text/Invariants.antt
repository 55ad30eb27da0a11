use Rattle.std.proofs.Common.{length}
use Rattle.vfs_core.proofs.marks.+kept_text.Given as goal

abbrev pub decreases-kept_text : goal.decreases-kept_text
decreases-kept_text l = length l.marks.now
