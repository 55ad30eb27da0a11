-- The crates that stay where only some are kept, numbered anew in their order.
use Rattle.std.specs.Prelude.{◌≡◌, ℕ, suc, ◌<◌, true, List, [], ◌∷◌, length, slice_index_or, if◌then◌else◌}
use Rattle.base_text_paths.specs.Arena.{number_of}
use Rattle.base_text_paths.specs.declared.arena.Idx.{Idx}
use Rattle.graph_base.specs.Edges.{HasEdge}
use Rattle.graph_base.specs.Kept.{is_named, kept_below}
use Rattle.crate_graph.specs.Suborder.{kept_nodes}
use Rattle.crate_graph.specs.Graph.{Graph}
use Rattle.crate_graph_values.specs.Laws.{renamed_crate}
use Rattle.crate_graph_values.specs.declared.builder.CrateBuilder.{CrateBuilder}
use Rattle.crate_graph_values.specs.declared.crate_data.CrateTag.{CrateTag}

-- a number under a new name
abbrev pub renumbered_id : (ℕ → ℕ) → Idx CrateTag → Idx CrateTag
renumbered_id new id = record id { raw = new (number_of id) }

-- a crate whose dependencies go by new numbers
abbrev pub renumbered_crate : (ℕ → ℕ) → CrateBuilder → CrateBuilder
renumbered_crate new krate = record krate { basic = renamed_crate (renumbered_id new) krate.basic }

-- the crates from n on that are kept, by the new numbers
abbrev pub kept_crates : List ℕ → ℕ → List CrateBuilder → List CrateBuilder
kept_crates keep n [] = []
kept_crates keep n (c ∷ cs) =
    if is_named keep n then renumbered_crate (kept_below keep) c ∷ kept_crates keep (suc n) cs
    else kept_crates keep (suc n) cs

-- the new graph has the named crates alone, numbered anew in their order, which keep the order of their
-- ranks, and the same limit
pub record KeepsNamed (old new : Graph) (keep : List ℕ) : Type 0 where
  pub limit : new.limit ≡ old.limit
  pub crates : new.crates ≡ kept_crates keep 0 old.crates
  pub order : new.order.nodes ≡ kept_nodes keep old.order.nodes

-- the new number of a crate, by a list of them
abbrev pub number_after_prune : List ℕ → ℕ → ℕ
number_after_prune numbers n = slice_index_or numbers n 0

-- a crate that is of the graph and depends on named crates alone
pub record Stays (g : List (List ℕ)) (keep : List ℕ) (n : ℕ) : Type 0 where
  pub known : n < length g
  pub closed : (b : ℕ) → HasEdge g n b → is_named keep b ≡ true
