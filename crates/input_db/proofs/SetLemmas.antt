-- What one crate of a graph owes when it is finished, and what the database is with its list.
use Rattle.std.proofs.Common.{◌≡◌, ℕ, ◌<◌, inl, inr, Bool, true, false, List, ap, arith, length, refl, sym, ◌∙◌}
use Rattle.std.specs.Prelude.{if◌then◌else◌, nat_eq}
use Rattle.std.specs.List.{All}
use Rattle.std.specs.Cmp.Lexicographic.{pointwise}
use Rattle.std.specs.Cmp.{unsigned_Decides}
use Rattle.std.specs.Cmp.Lexicographic.{pointwise_decides}
use Rattle.std.proofs.lemmas.Bool.{cases_Bool}
use Rattle.std.proofs.lemmas.List.{take_all}
use Rattle.crate_graph_values.specs.declared.builder.CrateBuilder.{CrateBuilder}
use Rattle.base_text_outside.specs.declared.cfg.CfgAtom.{CfgAtom}
use Rattle.crate_graph_values.specs.declared.crate_data.CrateData.{CrateData}
use Rattle.input_db.specs.Database.{Database, with_crate_list}
use Rattle.input_db.specs.Identity.{named_in, names_of}
use Rattle.input_db.specs.Identity.{full_identity, root_identity}
use Rattle.input_db.specs.FinishSteps.{progress_after, with_new_list}
use Rattle.input_db.specs.SetInDb.{KeepsFiles}
use Rattle.input_db_files.specs.declared.durability.Durability.TheVariants.{Medium}
use Rattle.input_db.proofs.KnownLemmas.{files-progress_after, library-progress_after, local-progress_after, nonce-progress_after}
use Rattle.input_db.proofs.RunLemmas.{long}

-- an identity names no crate that the data of its crate does not name
pub names_present : (is_first : Bool) (file : ℕ) (krate : CrateData ℕ) (cfgs : List CfgAtom) (count : ℕ)
    → All (λ named. named < count) (named_in krate)
    → All (λ named. named < count) (names_of (if is_first then root_identity file else full_identity file krate cfgs))
names_present true file krate cfgs count known = λ k d within. absurd (omega (arith, within))
names_present false file krate cfgs count known = known

-- there is a number for each crate
pub progress_after-long : (crates : List CrateBuilder) (old : Database) (order : List ℕ)
    → length (progress_after crates old order).finished.numbers ≡ length crates
progress_after-long crates old order =
    sym (ap (λ ns. length (progress_after crates old ns).finished.numbers) (take_all (length order) order (omega arith)))
    ∙ long crates old order (length order)

-- the table is not touched by the list
pub crates-with_new_list : (db : Database) (given : List ℕ) → (with_new_list db given).crates ≡ db.crates
crates-with_new_list db given =
    elim (pointwise nat_eq db.listed given) as (λ (b : Bool). (if b then db else with_crate_list db given Medium).crates ≡ db.crates) [
      | true ↦ refl
      | false ↦ refl
    ]

-- the list is what was given
pub listed-with_new_list : (db : Database) (given : List ℕ) → (with_new_list db given).listed ≡ given
listed-with_new_list db given = elim (cases_Bool (pointwise nat_eq db.listed given)) [
  | inl same ↦
      ap (λ (b : Bool). (if b then db else with_crate_list db given Medium).listed) same
      ∙ (pointwise_decides unsigned_Decides db.listed given).0 same
  | inr differ ↦ ap (λ (b : Bool). (if b then db else with_crate_list db given Medium).listed) differ
]

-- what the list does not touch
kept_part : {X : Type 0} (part : Database → X) → ((db : Database) (given : List ℕ) → part (with_crate_list db given Medium) ≡ part db)
    → (db : Database) (given : List ℕ) → part (with_new_list db given) ≡ part db
kept_part part stays db given =
    elim (pointwise nat_eq db.listed given) as (λ (b : Bool). part (if b then db else with_crate_list db given Medium) ≡ part db) [
      | true ↦ refl
      | false ↦ stays db given
    ]

-- what is no crate is as it was
pub keeps_files : (crates : List CrateBuilder) (old : Database) (order given : List ℕ) (new : Database)
    → new ≡ with_new_list (progress_after crates old order).db given → KeepsFiles old new
keeps_files crates old order given new is =
    let db = (progress_after crates old order).db in
    record {
      files = ap (λ (d : Database). d.files) is ∙ kept_part (λ d. d.files) (λ d ns. refl) db given ∙ files-progress_after crates old order;
      local = ap (λ (d : Database). d.local) is ∙ kept_part (λ d. d.local) (λ d ns. refl) db given ∙ local-progress_after crates old order;
      library = ap (λ (d : Database). d.library) is ∙ kept_part (λ d. d.library) (λ d ns. refl) db given
          ∙ library-progress_after crates old order;
      nonce = ap (λ (d : Database). d.nonce) is ∙ kept_part (λ d. d.nonce) (λ d ns. refl) db given ∙ nonce-progress_after crates old order;
    }
