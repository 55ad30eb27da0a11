-- Names that stay: the numbers of paths, and the crates of identities.
use Rattle.std.proofs.Common.{◌≡◌, ℕ, ap, ◌∙◌, position}
use Rattle.std.specs.Map.{keys_of}
use Rattle.std.specs.Prelude.{slice_get}
use Rattle.input_db.specs.Identity.{Table}
use Rattle.live_page.proofs.Stable.{same_identities}
use Rattle.live_page.specs.Refresh.{KeepsIdentities}
use Rattle.vfs_core.specs.Files.{Files, KeepsNumbers}
use Rattle.vfs_core.specs.VfsPath.{vfs_path_eq}
use Rattle.live.specs.declared.session.Live.{Live}
use Rattle.live.specs.Turn.{KeepsNames}

-- files of the same paths
pub numbers_same : (old new : Files) → new.entries ≡ old.entries → KeepsNumbers old new
numbers_same old new same = record {
  numbers = λ path number is. ap (λ entries. position (vfs_path_eq path) (keys_of entries)) same ∙ is;
  paths = λ path number is. ap (λ entries. slice_get (keys_of entries) number) same ∙ is;
}

-- one step after another
pub numbers_both : (old mid new : Files) → KeepsNumbers old mid → KeepsNumbers mid new → KeepsNumbers old new
numbers_both old mid new first second = record {
  numbers = λ path number is. second.numbers path number (first.numbers path number is);
  paths = λ path number is. second.paths path number (first.paths path number is);
}

pub identities_both : (old mid new : Table) → KeepsIdentities old mid → KeepsIdentities mid new → KeepsIdentities old new
identities_both old mid new first second = record {
  crates = λ unique krate is. second.crates unique krate (first.crates unique krate is);
  identities = λ krate unique is. second.identities krate unique (first.identities krate unique is);
}

-- of a session whose database has the crates that it had
pub names_by : {Memory : Type 0} (old new : Live) → KeepsNumbers old.recorded.files new.recorded.files → new.db.crates ≡ old.db.crates → KeepsNames Memory old new
names_by old new numbers same = record { paths = numbers; crates = λ _. same_identities old.db.crates new.db.crates same }

-- and of one that is as it was
pub names_equal : {Memory : Type 0} (old new : Live) → new ≡ old → KeepsNames Memory old new
names_equal old new same = names_by old new (numbers_same old.recorded.files new.recorded.files (ap (λ l. l.recorded.files.entries) same)) (ap (λ l. l.db.crates) same)

-- what is said of less is said of more
pub names_wider : {Memory More : Type 0} (old new : Live) → (Memory → More) → KeepsNames Memory old new → KeepsNames More old new
names_wider old new more names = record { paths = names.paths; crates = λ spared. names.crates (λ ended memory. spared ended (more memory)) }

-- a step with memory, and then another
pub names_both : {Memory : Type 0} (old mid new : Live) → KeepsNames ⊥ old mid → KeepsNames Memory mid new → KeepsNames Memory old new
names_both old mid new first second = record {
  paths = numbers_both old.recorded.files mid.recorded.files new.recorded.files first.paths second.paths;
  crates = λ spared. identities_both old.db.crates mid.db.crates new.db.crates (first.crates (λ ended none. none)) (second.crates spared);
}

-- another configuration, which changes the limit of paths alone
pub configured_names : {Memory : Type 0} (old new : Live) {limit : ℕ} → new.recorded.files ≡ record old.recorded.files { limit = limit } → new.db ≡ old.db → KeepsNames Memory old new
configured_names old new files db = names_by old new (numbers_same old.recorded.files new.recorded.files (ap (λ f. f.entries) files)) (ap (λ d. d.crates) db)
