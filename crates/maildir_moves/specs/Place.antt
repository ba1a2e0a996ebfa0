-- Where the mail of a user's folder goes: each user's Maildir has one for each folder.
use Rattle.std.specs.Prelude.{ℕ, List, ◌∷◌, ◌++◌}
use Rattle.maildir_files.specs.Directory.{directory}
use Rattle.maildir_files.specs.declared.separator.Separator.{Separator}

-- two parts of a path
abbrev pub joined_path : List ℕ → List ℕ → List ℕ
joined_path head tail = head ++ 47 ∷ tail

-- the Maildir of a folder in it: as `folders --maildir` names it
abbrev pub folder_path : Separator → List ℕ → List ℕ → List ℕ
folder_path separator home folder = joined_path home (directory separator folder)
