-- A load step by step: which manifest a path names, what is read of it, and which limit a refusal names.
use Rattle.std.proofs.Common.{◌≡◌, ℕ, Bool, true, false, cond, List, Some, None, Err, refl, sym, ap, ◌∙◌, true≢false}
use Rattle.std.specs.Option.{option_and_then}
use Rattle.base_text_paths.specs.Paths.{components, is_absolute, path_text}
use Rattle.pm_lower_load.specs.declared.load_error.LoadError.{LoadError}
use Rattle.pm_lower_load.specs.declared.load_error.LoadError.TheVariants as load
use Rattle.pm_tools_ask.specs.Manifest.{manifest_of}
use Rattle.pm_tools_ask.specs.declared.project_manifest.ProjectManifest.{ProjectManifest}
use Rattle.live_project.specs.Project.{NamesLoadLimit, manifest_named, of_load_error, read_named, read_sources}
use Rattle.live_project.specs.declared.project_error.ProjectError.TheVariants.{BadManifest}
use Rattle.live_project.specs.declared.sources.Sources.{Sources}
use Rattle.pm_lower_load.specs.Loading.{NamesDocumentLimit}

-- ---- the manifest

-- an absolute text names what its path does
pub absolute_named : (text path : List ℕ) → is_absolute text ≡ true → path ≡ path_text (components text) → manifest_of path ≡ manifest_named text
unfolding manifest_named
absolute_named text path absolute is = ap manifest_of is ∙ sym (by (is_absolute text) absolute)
  where
    by : (b : Bool) → b ≡ true → option_and_then manifest_of (cond b (Some (path_text (components text))) None) ≡ manifest_of (path_text (components text))
    by true e = refl
    by false e = absurd (true≢false (sym e))

-- any other text names none
pub relative_named : (text : List ℕ) → is_absolute text ≡ false → None ≡ manifest_named text
unfolding manifest_named
relative_named text relative = sym (by (is_absolute text) relative)
  where
    by : (b : Bool) → b ≡ false → option_and_then manifest_of (cond b (Some (path_text (components text))) None) ≡ None
    by true e = absurd (true≢false e)
    by false e = refl

-- ---- what is read

-- a load where the path names no manifest
pub reads_none : (s : Sources) → None ≡ manifest_named s.path → read_sources s ≡ Err (BadManifest s.path)
unfolding read_sources
reads_none s none = ap (read_named s) (sym none)

-- and where it names one
pub reads_some : (s : Sources) (manifest : ProjectManifest) → Some manifest ≡ manifest_named s.path → read_named s (Some manifest) ≡ read_sources s
unfolding read_sources
reads_some s manifest some = ap (read_named s) some

-- the limit that a refused load names
pub names_limit : (error : LoadError) → NamesDocumentLimit error → NamesLoadLimit (of_load_error error)
names_limit (load.NoSuchFile path) h = tt
names_limit (load.CargoMetadata stderr) h = tt
names_limit (load.Io line) h = tt
names_limit (load.Json field) h = tt
names_limit load.NoJson h = tt
names_limit (load.NotAbsolute text) h = tt
names_limit (load.NoParent text) h = tt
names_limit (load.UnknownPackage id) h = tt
names_limit (load.TooMany limit) h = h
names_limit load.OutOfMemory h = tt
