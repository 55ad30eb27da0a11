-- The document of a JSON project is read step by step: each step is that of the definition, where the code's values are those of the definition.
use Rattle.std.proofs.Common.{◌≡◌, ℕ, List, Option, Some, None, Ok, Err, refl, sym, ap, subst, ◌∙◌}
use Rattle.base_text_paths.specs.Paths.{parent_text}
use Rattle.json_fields.specs.Document.{document}
use Rattle.json_fields.specs.Outcome as fields
use Rattle.json_fields.specs.declared.place.ReadError.{ReadError}
use Rattle.base_text_outside.specs.declared.limits.Limits.{Limits}
use Rattle.pm_json.specs.Project as json
use Rattle.pm_json.specs.Refusals as refusals
use Rattle.pm_json.specs.declared.project_json.ProjectJson.{ProjectJson}
use Rattle.pm_json.specs.declared.workspace_json_error.WorkspaceJsonError.{WorkspaceJsonError}
use Rattle.pm_json.specs.ProjectJsonData.{project_at}
use Rattle.pm_json.specs.declared.project_json_data.ProjectJsonData.{ProjectJsonData}
use Rattle.pm_lower_load.specs.JsonDocument.{document_at, document_text, json_content, project_of_document, toolchain_member, without_toolchain}
use Rattle.base_values.specs.Outcome.{◌>>=◌}
use Rattle.pm_lower_load.specs.Loading.{Loading, Refuses, of_document, of_json_error, of_json_reading, of_read_error}
use Rattle.pm_lower_load.specs.declared.load_error.LoadError.{LoadError}
use Rattle.pm_lower_load.proofs.LoadingLemmas.{refuses_document, refuses_first, refuses_json}
use Rattle.pm_lower_load.proofs.MetadataLemmas.{above}
use Rattle.base_text.specs.Tree.{TreeFiles}

-- ---- the document

module _ (files : TreeFiles) (path : List ℕ) where
  -- there is no file
  pub text-refused : (e : LoadError) → Refuses e (document_text files path) → Refuses e (document_at files path)
  unfolding document_at
  text-refused e h = refuses_first e (document_text files path) (λ (text : List ℕ). of_document (document project_at text)) h

  module _ (text shown : List ℕ) (is_text : document_text files path ≡ Ok text) (is_shown : shown ≡ text) where
    at_shown : document_at files path ≡ of_document (document project_at shown)
    unfolding document_at
    at_shown =
        ap (λ (l : Loading (List ℕ)). l >>= λ t. of_document (document project_at t)) is_text
        ∙ ap (λ (t : List ℕ). of_document (document project_at t)) (sym is_shown)

    -- the text is no document
    pub document-refused : (e : ReadError) → fields.Gives {T = ProjectJsonData} (Err e) (document project_at shown) → Refuses (of_read_error e) (document_at files path)
    document-refused e h = subst (Refuses (of_read_error e)) (sym at_shown) (refuses_document e (document project_at shown) h)

    -- the text is one
    pub document-read : (stated : ProjectJsonData) → document project_at shown ≡ Ok stated → document_at files path ≡ Ok stated
    document-read stated is = at_shown ∙ ap of_document is

-- ---- the project of the document

-- what is read of a document is refused where its toolchain is
then_read : {T : Type 0} (member : Option (List ℕ)) (x : T) → (without_toolchain member (tt {0}) >>= λ (u : Unit {0}). Ok x) ≡ without_toolchain member x
then_read None x = refl
then_read (Some member) x = refl

module _ (path : List ℕ) (limits : Limits) (files : TreeFiles) where
  -- there is no document
  pub content-refused : (e : LoadError) → Refuses e (document_at files path) → Refuses e (json_content path limits files)
  unfolding json_content project_of_document
  content-refused e h = refuses_first e (document_at files path) (λ (stated : ProjectJsonData). project_of_document path limits.crates stated) h

  module _ (stated : ProjectJsonData) (copy dir : List ℕ) (is_stated : document_at files path ≡ Ok stated) (is_copy : copy ≡ path) (is_dir : Some dir ≡ parent_text path) where
    -- the reading of its crates, by the code's values
    abbrev crates_read : refusals.Reading ProjectJson
    crates_read = json.project_of limits.crates stated (Some copy) dir

    content_is : json_content path limits files ≡ (of_json_reading crates_read >>= λ (p : ProjectJson). without_toolchain (toolchain_member stated) p)
    unfolding json_content project_of_document
    content_is =
        ap (λ (l : Loading ProjectJsonData). l >>= λ s. project_of_document path limits.crates s) is_stated
        ∙ ap (λ (r : refusals.Reading ProjectJson). of_json_reading r >>= λ p. without_toolchain (toolchain_member stated) p)
        (sym (λ i. json.project_of limits.crates stated (Some (is_copy i)) (above path dir is_dir i)))

    -- its crates are refused
    pub crates-refused : (e : WorkspaceJsonError) → refusals.Gives {T = ProjectJson} (Err e) crates_read → Refuses (of_json_error e) (json_content path limits files)
    crates-refused e h =
        subst (Refuses (of_json_error e)) (sym content_is)
        (refuses_first (of_json_error e) (of_json_reading crates_read) (λ (p : ProjectJson). without_toolchain (toolchain_member stated) p) (refuses_json e crates_read h))

    module _ (project : ProjectJson) (member : Option (List ℕ)) (is_project : crates_read ≡ Ok project) (is_member : member ≡ toolchain_member stated) where
      with_member : json_content path limits files ≡ (without_toolchain member (tt {0}) >>= λ (u : Unit {0}). Ok project)
      with_member =
          content_is
          ∙ ap (λ (r : refusals.Reading ProjectJson). of_json_reading r >>= λ p. without_toolchain (toolchain_member stated) p) is_project
          ∙ ap (λ (m : Option (List ℕ)). without_toolchain m project) (sym is_member)
          ∙ sym (then_read member project)

      -- the document states a toolchain
      pub toolchain-refused : (e : LoadError) → Refuses e (without_toolchain member (tt {0})) → Refuses e (json_content path limits files)
      toolchain-refused e h = subst (Refuses e) (sym with_member) (refuses_first e (without_toolchain member (tt {0})) (λ (u : Unit {0}). Ok project) h)

      -- it states none
      pub content-read : (u : Unit {0}) → without_toolchain member (tt {0}) ≡ Ok u → json_content path limits files ≡ Ok project
      content-read u is = with_member ∙ ap (λ (l : Loading (Unit {0})). l >>= λ (v : Unit {0}). Ok project) is
