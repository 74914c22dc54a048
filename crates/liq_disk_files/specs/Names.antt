-- The names of the two files, and paths.
use Rattle.std.specs.Prelude.{ℕ, List, Option, codes, option_map}
use Rattle.std.specs.Path.{path_buf_bytes}
use Rattle.std.specs.declared.path.PathBuf.{PathBuf}
use Rattle.liq_disk_files.specs.declared.calls.Name.{Name}
use Rattle.liq_disk_files.specs.declared.calls.Name.TheVariants.{Left, Right}

abbrev pub text_of : Name → List ℕ
text_of Left = codes "left.liq"
text_of Right = codes "right.liq"

-- the text of the path, where there is one
abbrev pub path_in : {A : Type 0} → Option (PathBuf A) → Option (List ℕ)
path_in path = option_map path_buf_bytes path
