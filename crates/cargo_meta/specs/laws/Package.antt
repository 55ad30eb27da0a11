-- what is read of a package's document is read again from what is written of it
use Rattle.std.specs.Prelude.{◌≡◌, ◌≤◌, ℕ, suc, max, Bool, [], codes, refl, Ok}
use Rattle.std.proofs.Common.{◌∙◌, arith}
use Rattle.serde_json.specs.Data.{members_depth, Members, no_members, null}
use Rattle.serde_json.specs.Written.{members_have_float}
use Rattle.json_fields.specs.Fields.{members_at}
use Rattle.base_values.specs.Outcome.{◌>>=◌}
use Rattle.json_fields.specs.Laws.Rows.{required_member-set_member, optional_member-set_member, default_member-set_member, optional_member-set_unless_null, default_member-set_unless_null, default_member-no_members, null-or_not}
use Rattle.json_fields.specs.Laws.RoundTrips.{AreWithin, AreWritten, ReadsAs, and_then, any-round_trips, at_last, default_member-kept, list-round_trips, list_member-kept, map-round_trips, no_members-written, optional_member-kept, required_member-kept, set_member-written, set_unless_null-written, table-round_trips, text-round_trips, weaker}
use Rattle.json_fields.specs.Laws.TextForms.{bare-round_trips, version-round_trips}
use Rattle.json_fields.specs.RoundTrip.{IsKept, RoundTrips}
use Rattle.cargo_meta_values.specs.Kinds.{edition_of}
use Rattle.cargo_meta.specs.NewPackage.{new_package}
use Rattle.cargo_meta.specs.Package.{body_from, body_set, package_head_from, head_rows, package_head_set, of_head, package_at, package_data, package_from, package_members, package_tail_from, package_tail_set}
use Rattle.cargo_meta_values.specs.declared.kinds.Edition.TheVariants.{E2015}
use Rattle.cargo_meta.specs.declared.package.Package.{Package}
use Rattle.cargo_meta_values.specs.laws.Dependency.{dependency-round_trips}
use Rattle.cargo_meta_values.specs.laws.Kinds.{edition-round_trips}
use Rattle.cargo_meta_values.specs.laws.Names.{package_id-round_trips, source-round_trips}
use Rattle.cargo_meta_values.specs.laws.Target.{target-round_trips}

-- a package with the first rows of another, and otherwise new
abbrev with_head : Package → Package
with_head p =
    record (new_package p.name p.version p.id []) {
      authors = p.authors;
      source = p.source;
      description = p.description;
      dependencies = p.dependencies;
      license = p.license;
    }

-- a package with the next rows of another
abbrev with_body : Package → Package → Package
with_body q p = record q {
  license_file = p.license_file;
  targets = p.targets;
  features = p.features;
  manifest_path = p.manifest_path;
  categories = p.categories;
  keywords = p.keywords;
  readme = p.readme;
  repository = p.repository;
}

-- a package with the last rows of another
abbrev with_tail : Package → Package → Package
with_tail q p = record q {
  homepage = p.homepage;
  documentation = p.documentation;
  edition = p.edition;
  metadata = p.metadata;
  links = p.links;
  publish = p.publish;
  default_run = p.default_run;
  rust_version = p.rust_version;
}

-- the rows of one group do not read what another sets
body_from-head_set : (q p : Package) (ms : Members) → body_from q (package_head_set p ms) ≡ body_from q ms
unfolding body_from package_head_set
body_from-head_set q p ms =
    simp (required_member-set_member, optional_member-set_member, default_member-set_member)

tail_from-head_set : (q p : Package) (ms : Members)
    → package_tail_from q (package_head_set p ms) ≡ package_tail_from q ms
unfolding package_tail_from package_head_set
tail_from-head_set q p ms =
    simp (required_member-set_member, optional_member-set_member, default_member-set_member)

tail_from-body_set : (q p : Package) (ms : Members)
    → package_tail_from q (body_set p ms) ≡ package_tail_from q ms
unfolding package_tail_from body_set
tail_from-body_set q p ms =
    simp (required_member-set_member, optional_member-set_member, default_member-set_member)

-- the rows of each group are kept
record HeadKept (may_float : Bool) (n : ℕ) (p : Package) : Type 0 where
  pub again : (ms : Members) → package_head_from (package_head_set p ms) ≡ Ok (with_head p)
  pub written : (ws : Members) → AreWritten may_float n ws → AreWritten may_float n (package_head_set p ws)

-- the middle group
record BodyKept (may_float : Bool) (n : ℕ) (p : Package) : Type 0 where
  pub again : (q : Package) (ms : Members) → body_from q (body_set p ms) ≡ Ok (with_body q p)
  pub written : (ws : Members) → AreWritten may_float n ws → AreWritten may_float n (body_set p ws)

-- the last group
record TailKept (may_float : Bool) (n : ℕ) (p : Package) : Type 0 where
  pub again : (q : Package) → package_tail_from q (package_tail_set p no_members) ≡ Ok (with_tail q p)
  pub written : (ws : Members) → AreWritten may_float n ws → AreWritten may_float n (package_tail_set p ws)

module _ (ms : Members) {n : ℕ} (within : AreWithin n ms) (low : 3 ≤ n) (some : 1 ≤ n) (none : 0 ≤ n) where
  head_rows-kept : ReadsAs (head_rows ms) (λ h. HeadKept (members_have_float ms) n (of_head h))
  unfolding package_head_from head_rows package_head_set
  head_rows-kept =
      and_then (required_member-kept text-round_trips none within (codes "name")) λ name name_h.
      and_then (required_member-kept version-round_trips none within (codes "version")) λ version version_h.
      and_then (list_member-kept text-round_trips none some within (codes "authors")) λ authors authors_h.
      and_then (required_member-kept package_id-round_trips none within (codes "id")) λ id id_h.
      and_then (optional_member-kept source-round_trips none within (λ x. refl) (codes "source"))
      λ source source_h.
      and_then (optional_member-kept text-round_trips none within (λ x. refl) (codes "description"))
      λ description description_h.
      and_then
      (required_member-kept (list-round_trips _ _ _ dependency-round_trips) none within (codes "dependencies"))
      λ dependencies dependencies_h.
      and_then (optional_member-kept text-round_trips none within (λ x. refl) (codes "license"))
      λ license license_h.
      at_last (record {
        again = λ ws. simp (required_member-set_member, optional_member-set_member, default_member-set_member)
            (rw (version_h.again, authors_h.again, source_h.again, description_h.again, dependencies_h.again, license_h.again));
        written = λ ws before.
            set_member-written (codes "license") license_h
            (set_member-written (codes "dependencies") dependencies_h
            (set_member-written (codes "description") description_h
            (set_member-written (codes "source") source_h
            (set_member-written (codes "id") id_h
            (set_member-written (codes "authors") authors_h
            (set_member-written (codes "version") version_h
            (set_member-written (codes "name") name_h
            before)))))));
      })

  head-kept : ReadsAs (package_head_from ms) (HeadKept (members_have_float ms) n)
  unfolding package_head_from
  head-kept = and_then head_rows-kept λ h kept. at_last kept

  body-kept : (h : Package) → HeadKept (members_have_float ms) n h
      → ReadsAs (body_from h ms)
      (λ p. HeadKept (members_have_float ms) n p × BodyKept (members_have_float ms) n p)
  unfolding body_from body_set package_head_set
  body-kept h head =
      and_then (optional_member-kept text-round_trips none within (λ x. refl) (codes "license_file"))
      λ license_file license_file_h.
      and_then (required_member-kept (list-round_trips _ _ _ target-round_trips) low within (codes "targets"))
      λ targets targets_h.
      and_then
      (required_member-kept (map-round_trips _ _ _ (list-round_trips _ _ _ text-round_trips)) none within (codes "features"))
      λ features features_h.
      and_then (required_member-kept text-round_trips none within (codes "manifest_path"))
      λ manifest_path manifest_path_h.
      and_then (list_member-kept text-round_trips none some within (codes "categories"))
      λ categories categories_h.
      and_then (list_member-kept text-round_trips none some within (codes "keywords")) λ keywords keywords_h.
      and_then (optional_member-kept text-round_trips none within (λ x. refl) (codes "readme"))
      λ readme readme_h.
      and_then (optional_member-kept text-round_trips none within (λ x. refl) (codes "repository"))
      λ repository repository_h.
      at_last (
        record { again = head.again; written = head.written },
        record {
          again =
              λ q ws. simp (required_member-set_member, optional_member-set_member, default_member-set_member)
              (rw (license_file_h.again, targets_h.again, features_h.again, categories_h.again, keywords_h.again, readme_h.again, repository_h.again));
          written = λ ws before.
              set_member-written (codes "repository") repository_h
              (set_member-written (codes "readme") readme_h
              (set_member-written (codes "keywords") keywords_h
              (set_member-written (codes "categories") categories_h
              (set_member-written (codes "manifest_path") manifest_path_h
              (set_member-written (codes "features") features_h
              (set_member-written (codes "targets") targets_h
              (set_member-written (codes "license_file") license_file_h
              before)))))));
        },
      )

  tail-kept : (b : Package) → HeadKept (members_have_float ms) n b → BodyKept (members_have_float ms) n b
      → ReadsAs (package_tail_from b ms)
      (λ p. HeadKept (members_have_float ms) n p × BodyKept (members_have_float ms) n p
      × TailKept (members_have_float ms) n p)
  unfolding package_tail_from package_tail_set package_head_set body_set edition_of
  tail-kept b head body =
      and_then (optional_member-kept text-round_trips none within (λ x. refl) (codes "homepage"))
      λ homepage homepage_h.
      and_then (optional_member-kept text-round_trips none within (λ x. refl) (codes "documentation"))
      λ documentation documentation_h.
      and_then
      (default_member-kept edition-round_trips none within (codes "edition") E2015 (record {
        again = refl;
        clean = λ _. refl;
        nests = omega arith;
      })) λ edition edition_h.
      and_then
      (default_member-kept any-round_trips none within (codes "metadata") null (record {
        again = refl;
        clean = λ _. refl;
        nests = omega arith;
      })) λ metadata metadata_h.
      and_then (optional_member-kept text-round_trips none within (λ x. refl) (codes "links"))
      λ links links_h.
      and_then
      (optional_member-kept (list-round_trips _ _ _ text-round_trips) none within (λ x. refl) (codes "publish"))
      λ publish publish_h.
      and_then (optional_member-kept text-round_trips none within (λ x. refl) (codes "default_run"))
      λ default_run default_run_h.
      and_then (optional_member-kept bare-round_trips none within (λ x. refl) (codes "rust_version"))
      λ rust_version rust_version_h.
      at_last (
        record { again = head.again; written = head.written },
        record { again = body.again; written = body.written },
        record {
          again =
              λ q. simp (required_member-set_member, optional_member-set_member, default_member-set_member, optional_member-set_unless_null, default_member-set_unless_null, default_member-no_members, null-or_not)
              (rw (homepage_h.again, documentation_h.again, edition_h.again, links_h.again, publish_h.again, default_run_h.again, rust_version_h.again));
          written = λ ws before.
              set_member-written (codes "rust_version") rust_version_h
              (set_member-written (codes "default_run") default_run_h
              (set_member-written (codes "publish") publish_h
              (set_member-written (codes "links") links_h
              (set_unless_null-written (codes "metadata") metadata_h
              (set_member-written (codes "edition") edition_h
              (set_member-written (codes "documentation") documentation_h
              (set_member-written (codes "homepage") homepage_h
              before)))))));
        },
      )

-- a package whose groups are each kept is read again
package_from-again : (p : Package)
    → ((ms : Members) → package_head_from (package_head_set p ms) ≡ Ok (with_head p))
    → ((q : Package) (ms : Members) → body_from q (body_set p ms) ≡ Ok (with_body q p))
    → ((q : Package) → package_tail_from q (package_tail_set p no_members) ≡ Ok (with_tail q p))
    → package_from (package_members p) ≡ Ok p
unfolding package_from package_members
package_from-again p head body tail =
    let last = package_tail_set p no_members in
    let below = body_set p last in
    let body_read : body_from (with_head p) (package_head_set p below) ≡ Ok (with_body (with_head p) p) =
    body_from-head_set (with_head p) p below ∙ body (with_head p) last in
    let tail_read : package_tail_from (with_body (with_head p) p) (package_head_set p below) ≡ Ok p =
    tail_from-head_set (with_body (with_head p) p) p below
    ∙ (tail_from-body_set (with_body (with_head p) p) p last ∙ tail (with_body (with_head p) p)) in
    rw (head below, body_read) tail_read

package-kept : (ms : Members) (p : Package)
    → HeadKept (members_have_float ms) (max 3 (members_depth ms)) p
    × BodyKept (members_have_float ms) (max 3 (members_depth ms)) p
    × TailKept (members_have_float ms) (max 3 (members_depth ms)) p
    → IsKept (λ d. members_at d >>= package_from) package_data (members_have_float ms)
    (max 4 (suc (members_depth ms))) p
unfolding package_data package_members
package-kept ms p kept =
    let written = kept.0.written _ (kept.1.written _ (kept.2.written _ (no_members-written _ _))) in
    record {
      again = package_from-again p kept.0.again kept.1.again kept.2.again;
      clean = written.clean;
      nests = omega (arith, written.nests);
    }

-- a package
pub package-round_trips : RoundTrips package_at package_data 4
unfolding package_at package_from
package-round_trips = table-round_trips _ package_data 4 λ ms.
    let n = max 3 (members_depth ms) in
    let within : AreWithin n ms = record { within = omega arith } in
    let low : 3 ≤ n = omega arith in
    let some : 1 ≤ n = omega arith in
    let none : 0 ≤ n = omega arith in
    and_then (head-kept ms within low some none) λ h head.
    and_then (body-kept ms within low some none h head) λ b both.
    weaker (package-kept ms) (tail-kept ms within low some none b both.0 both.1)
