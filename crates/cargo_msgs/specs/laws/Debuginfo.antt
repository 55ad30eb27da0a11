-- debug information is read again from what is written of it
use Rattle.std.specs.Prelude.{◌≡◌, max, ℕ, ℤ, pos, Bool, true, false, List, bytes_eq, codes, Ok, IfOk, refl}
use Rattle.std.specs.Ordering.{int_eq}
use Rattle.std.proofs.Common.{arith, ap, ◌∙◌, cond}
use Rattle.serde_json.specs.Data.{Data, null, boolean, number, string, array, object, unsigned, negative, float, depth}
use Rattle.serde_json.specs.Written.{has_float}
use Rattle.json_fields.specs.Fields.{under}
use Rattle.json_fields.specs.Laws.Numbers.{i64-round_trips}
use Rattle.json_fields.specs.Laws.RoundTrips.{under-as, weaker}
use Rattle.json_fields.specs.Numbers.{i64_at, i64_data}
use Rattle.json_fields.specs.RoundTrip.{IsKept, RoundTrips}
use Rattle.cargo_msgs.specs.Debuginfo.{debuginfo_at, debuginfo_data, debuginfo_named, debuginfo_numbered}
use Rattle.cargo_msgs.specs.declared.debuginfo.ArtifactDebuginfo.TheVariants.{None, LineDirectivesOnly, LineTablesOnly, Limited, Full, UnknownInt, UnknownString}

-- a number that is none of the three stays a number
number-kept : (z : ℤ) → IsKept i64_at i64_data false 0 z → (b₀ b₁ b₂ : Bool) → int_eq z (pos 0) ≡ b₀
    → int_eq z (pos 1) ≡ b₁ → int_eq z (pos 2) ≡ b₂
    → (deep : ℕ) (may_float : Bool)
    → IsKept debuginfo_at debuginfo_data may_float deep
    (cond b₀ None (cond b₁ Limited (cond b₂ Full (UnknownInt z))))
unfolding debuginfo_numbered
number-kept z h true b₁ b₂ e₀ e₁ e₂ deep may_float = record {
  again = refl;
  clean = λ _. refl;
  nests = omega arith;
}
number-kept z h false true b₂ e₀ e₁ e₂ deep may_float = record {
  again = refl;
  clean = λ _. refl;
  nests = omega arith;
}
number-kept z h false false true e₀ e₁ e₂ deep may_float = record {
  again = refl;
  clean = λ _. refl;
  nests = omega arith;
}
number-kept z h false false false e₀ e₁ e₂ deep may_float = record {
  again = ap (under debuginfo_numbered) h.again ∙ ap Ok (rw (e₀, e₁, e₂) refl);
  clean = λ _. h.clean refl;
  nests = omega (arith, h.nests);
}

numbered-kept : (z : ℤ) → IsKept i64_at i64_data false 0 z → (deep : ℕ) (may_float : Bool)
    → IsKept debuginfo_at debuginfo_data may_float deep (debuginfo_numbered z)
unfolding debuginfo_numbered
numbered-kept z h deep may_float =
    number-kept z h (int_eq z (pos 0)) (int_eq z (pos 1)) (int_eq z (pos 2)) refl refl refl deep may_float

-- a name that is none of the five stays a name
name-kept : (s : List ℕ) (b₀ b₁ b₂ b₃ b₄ : Bool) → bytes_eq s (codes "none") ≡ b₀
    → bytes_eq s (codes "limited") ≡ b₁ → bytes_eq s (codes "full") ≡ b₂
    → bytes_eq s (codes "line-directives-only") ≡ b₃ → bytes_eq s (codes "line-tables-only") ≡ b₄
    → (deep : ℕ) (may_float : Bool)
    → IsKept debuginfo_at debuginfo_data may_float deep
    (cond b₀ None (cond b₁ Limited (cond b₂ Full (cond b₃ LineDirectivesOnly (cond b₄ LineTablesOnly (UnknownString s))))))
unfolding debuginfo_named debuginfo_numbered
name-kept s true b₁ b₂ b₃ b₄ e₀ e₁ e₂ e₃ e₄ deep may_float = record {
  again = refl;
  clean = λ _. refl;
  nests = omega arith;
}
name-kept s false true b₂ b₃ b₄ e₀ e₁ e₂ e₃ e₄ deep may_float = record {
  again = refl;
  clean = λ _. refl;
  nests = omega arith;
}
name-kept s false false true b₃ b₄ e₀ e₁ e₂ e₃ e₄ deep may_float = record {
  again = refl;
  clean = λ _. refl;
  nests = omega arith;
}
name-kept s false false false true b₄ e₀ e₁ e₂ e₃ e₄ deep may_float = record {
  again = refl;
  clean = λ _. refl;
  nests = omega arith;
}
name-kept s false false false false true e₀ e₁ e₂ e₃ e₄ deep may_float = record {
  again = refl;
  clean = λ _. refl;
  nests = omega arith;
}
name-kept s false false false false false e₀ e₁ e₂ e₃ e₄ deep may_float = record {
  again = ap Ok (rw (e₀, e₁, e₂, e₃, e₄) refl);
  clean = λ _. refl;
  nests = omega arith;
}

named-kept : (s : List ℕ) (deep : ℕ) (may_float : Bool)
    → IsKept debuginfo_at debuginfo_data may_float deep (debuginfo_named s)
unfolding debuginfo_named
named-kept s deep may_float = name-kept s _ _ _ _ _ refl refl refl refl refl deep may_float

debuginfo-keeps : (d : Data)
    → IfOk (debuginfo_at d) (IsKept debuginfo_at debuginfo_data (has_float d) (max 0 (depth d)))
unfolding debuginfo_numbered
debuginfo-keeps null = record { again = refl; clean = λ _. refl; nests = omega arith }
debuginfo-keeps (boolean b) = tt
debuginfo-keeps (number (unsigned n)) =
    (under-as debuginfo_numbered {r = i64_at (number (unsigned n))} (weaker (λ z h. numbered-kept z (record { again = h.again; clean = λ _. h.clean refl; nests = h.nests }) _ _) (record {
      holds = i64-round_trips.keeps (number (unsigned n));
    }))).holds
debuginfo-keeps (number (negative z)) =
    (under-as debuginfo_numbered {r = i64_at (number (negative z))} (weaker (λ z h. numbered-kept z (record { again = h.again; clean = λ _. h.clean refl; nests = h.nests }) _ _) (record {
      holds = i64-round_trips.keeps (number (negative z));
    }))).holds
debuginfo-keeps (number (float x)) = tt
debuginfo-keeps (string s) = named-kept s _ _
debuginfo-keeps (array ds) = tt
debuginfo-keeps (object ms) = tt

-- debug information
pub debuginfo-round_trips : RoundTrips debuginfo_at debuginfo_data 0
debuginfo-round_trips = record { keeps = debuginfo-keeps }
