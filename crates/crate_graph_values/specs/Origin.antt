-- Where crates come from, and the names of the language's crates as they are written in manifests.
use Rattle.std.specs.Prelude.{ℕ, Bool, true, false, List, codes, if◌then◌else◌, ◌||◌}
use Rattle.std.specs.Str.{bytes_eq}
use Rattle.crate_graph_values.specs.declared.origin.CrateOrigin.{CrateOrigin}
use Rattle.crate_graph_values.specs.declared.origin.CrateOrigin.TheVariants.{Rustc, Local, Library, Lang}
use Rattle.crate_graph_values.specs.declared.origin.LangCrateOrigin.{LangCrateOrigin}
use Rattle.crate_graph_values.specs.declared.origin.LangCrateOrigin.TheVariants as lang

-- a member of the project's workspace
abbrev pub is_local : CrateOrigin → Bool
is_local (Rustc name) = false
is_local (Local repo name) = true
is_local (Library repo name) = false
is_local (Lang origin) = false

-- a library that is no member
abbrev pub is_library_origin : CrateOrigin → Bool
is_library_origin (Rustc name) = false
is_library_origin (Local repo name) = false
is_library_origin (Library repo name) = true
is_library_origin (Lang origin) = false

-- a crate that comes with the language
abbrev pub is_lang : CrateOrigin → Bool
is_lang (Rustc name) = false
is_lang (Local repo name) = false
is_lang (Library repo name) = false
is_lang (Lang origin) = true

-- the crate of the language that has a name
abbrev pub lang_origin_of : List ℕ → LangCrateOrigin
lang_origin_of text =
    if bytes_eq text (codes "alloc") then lang.Alloc
    else if bytes_eq text (codes "core") then lang.Core
    else if bytes_eq text (codes "proc-macro") || bytes_eq text (codes "proc_macro") then lang.ProcMacro
    else if bytes_eq text (codes "std") then lang.Std
    else if bytes_eq text (codes "test") then lang.Test
    else lang.Other

-- the name of a crate of the language
abbrev pub lang_text : LangCrateOrigin → List ℕ
lang_text lang.Alloc = codes "alloc"
lang_text lang.Core = codes "core"
lang_text lang.ProcMacro = codes "proc_macro"
lang_text lang.Std = codes "std"
lang_text lang.Test = codes "test"
lang_text lang.Dependency = codes "other"
lang_text lang.Other = codes "other"
