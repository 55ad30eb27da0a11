-- What a database is to show after a flush, by paths: its roots and their lists, and the files.
use Rattle.std.specs.Prelude.{ℕ, List, map}
use Rattle.vfs_core.specs.VfsPath.{PathContent}
use Rattle.live_page.specs.Shape.{Shape, shape}
use Rattle.live.specs.Page.{Flush, roots_by}

-- the files of a flush with their texts
abbrev pub texts_of_flush : Flush → List (PathContent × List ℕ)
texts_of_flush flush = map (λ file. (file.path, file.text)) flush.files

-- what is to be shown of a flush: its files are placed by the roots of its project
abbrev pub shape_of_flush : Flush → Shape
shape_of_flush flush = shape (roots_by flush.project) (texts_of_flush flush)
