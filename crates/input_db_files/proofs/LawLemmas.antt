-- Equality of source roots and of what is held of them, part by part.
use Rattle.std.proofs.Common.{◌≡◌, Bool, ◌&&◌, nat_eq, ap, refl}
use Rattle.std.proofs.lemmas.Bool.Decides.{Decides-and}
use Rattle.std.specs.Bool.{beq}
use Rattle.std.specs.Cmp.{booleans_Decides}
use Rattle.std.specs.Cmp.Lexicographic.{pointwise, pointwise_decides}
use Rattle.std.specs.Ordering.{nat_cmp}
use Rattle.base_values.specs.Equality.{IsContentEquality}
use Rattle.base_values.proofs.Equalities.{numbers, texts}
use Rattle.vfs_sets.specs.FileSet.{FileSetContent}
use Rattle.input_db_files.specs.contracts.durability.DurabilityOrd.TheImpl as order
use Rattle.input_db_files.specs.Durability.{durability_level}
use Rattle.input_db_files.specs.declared.durability.Durability.{Durability}
use Rattle.input_db_files.specs.declared.durability.Durability.TheVariants.{Low, Medium, High}
use Rattle.input_db_files.specs.declared.inputs.FileSourceRootInput.{FileSourceRootInput}
use Rattle.input_db_files.specs.declared.inputs.FileText.{FileText}
use Rattle.input_db_files.specs.declared.inputs.SourceRootInput.{SourceRootInput}
use Rattle.input_db_files.specs.declared.roots.LibraryRoots.{LibraryRoots}
use Rattle.input_db_files.specs.declared.roots.LocalRoots.{LocalRoots}
use Rattle.input_db_files.specs.declared.source_root.SourceRoot.{SourceRoot}

-- of source roots
pub roots_are_equal : (set_eq : FileSetContent → FileSetContent → Bool) → IsContentEquality set_eq
    → IsContentEquality {A = SourceRoot} (λ x y. beq x.is_library y.is_library && set_eq x.file_set y.file_set)
roots_are_equal set_eq sets x y =
    let both = Decides-and _ _ (booleans_Decides x.is_library y.is_library) (sets x.file_set y.file_set) in (
      λ h. let parts = both.0 h in λ i. record { is_library = parts.0 i; file_set = parts.1 i },
      λ same. both.1 (ap (λ root. root.is_library) same, ap (λ root. root.file_set) same),
    )

module _ (durability_eq : Durability → Durability → Bool) (durabilities : IsContentEquality durability_eq) where
  -- of texts of files
  pub texts_are_equal : IsContentEquality {A = FileText}
      (λ x y. pointwise nat_eq x.text y.text && (nat_eq x.file_id y.file_id && durability_eq x.durability y.durability))
  texts_are_equal x y =
      let rest = Decides-and _ _ (numbers x.file_id y.file_id) (durabilities x.durability y.durability) in
      let all = Decides-and _ _ (texts x.text y.text) rest in (
        λ h. let parts = all.0 h in λ i. record { text = parts.0 i; file_id = parts.1.0 i; durability = parts.1.1 i },
        λ same. all.1 (ap (λ held. held.text) same, (ap (λ held. held.file_id) same, ap (λ held. held.durability) same)),
      )

  -- of the source roots that files are in
  pub places_are_equal : IsContentEquality {A = FileSourceRootInput}
      (λ x y. nat_eq x.source_root_id y.source_root_id && durability_eq x.durability y.durability)
  places_are_equal x y =
      let both = Decides-and _ _ (numbers x.source_root_id y.source_root_id) (durabilities x.durability y.durability) in (
        λ h. let parts = both.0 h in λ i. record { source_root_id = parts.0 i; durability = parts.1 i },
        λ same. both.1 (ap (λ held. held.source_root_id) same, ap (λ held. held.durability) same),
      )

  -- of source roots as they are held
  pub held_roots_are_equal : (root_eq : SourceRoot → SourceRoot → Bool) → IsContentEquality root_eq
      → IsContentEquality {A = SourceRootInput}
      (λ x y. root_eq x.source_root y.source_root && durability_eq x.durability y.durability)
  held_roots_are_equal root_eq roots x y =
      let both = Decides-and _ _ (roots x.source_root y.source_root) (durabilities x.durability y.durability) in (
        λ h. let parts = both.0 h in λ i. record { source_root = parts.0 i; durability = parts.1 i },
        λ same. both.1 (ap (λ held. held.source_root) same, ap (λ held. held.durability) same),
      )

-- of lists of local roots, and of libraries
pub local_lists_are_equal : IsContentEquality {A = LocalRoots} (λ x y. pointwise nat_eq x.roots.keys y.roots.keys)
local_lists_are_equal x y =
    let keys = pointwise_decides numbers x.roots.keys y.roots.keys in (
      λ h. let same = keys.0 h in λ i. record { roots = record { keys = same i } },
      λ same. keys.1 (ap (λ list. list.roots.keys) same),
    )

pub library_lists_are_equal : IsContentEquality {A = LibraryRoots} (λ x y. pointwise nat_eq x.roots.keys y.roots.keys)
library_lists_are_equal x y =
    let keys = pointwise_decides numbers x.roots.keys y.roots.keys in (
      λ h. let same = keys.0 h in λ i. record { roots = record { keys = same i } },
      λ same. keys.1 (ap (λ list. list.roots.keys) same),
    )

-- durabilities are ordered by their levels
pub ordered_by_level : (x y : Durability) → (order.ghosts).cmp x y ≡ nat_cmp (durability_level x) (durability_level y)
ordered_by_level Low Low = refl
ordered_by_level Low Medium = refl
ordered_by_level Low High = refl
ordered_by_level Medium Low = refl
ordered_by_level Medium Medium = refl
ordered_by_level Medium High = refl
ordered_by_level High Low = refl
ordered_by_level High Medium = refl
ordered_by_level High High = refl
