-- Folders counted from the names of their copies, in order.
use Rattle.std.specs.Prelude.{◌≡◌, ◌+◌, ℕ, List, [], ◌∷◌, map, fold, length, if◌then◌else◌}
use Rattle.std.specs.FinMap.{entries}
use Rattle.std.specs.Ordering.{is_eq}
use Rattle.sqlite_value.specs.declared.value.Value.TheVariants.{Blob}
use Rattle.sqlite_value.specs.Order.{Row}
use Rattle.store_accounts.specs.declared.folder.Folder.{Folder}
use Rattle.store_accounts.specs.Account.{bytes_cmp, Account}

-- one more of the last name, or the first of a new one
abbrev pub counted : List Folder → List ℕ → List Folder
counted [] name = record { name = name; count = 1 } ∷ []
counted (f ∷ []) name = if is_eq (bytes_cmp f.name name) then record { name = name; count = f.count + 1 } ∷ [] else f ∷ record { name = name; count = 1 } ∷ []
counted (f ∷ g ∷ more) name = f ∷ counted (g ∷ more) name

abbrev pub tallied : List (List ℕ) → List Folder
tallied = fold counted []

abbrev pub folder_count : Folder → List ℕ × ℕ
folder_count f = (f.name, f.count)

abbrev pub folder_size : List ℕ × List (List ℕ) → List ℕ × ℕ
folder_size e = (e.0, length e.1)

-- the folders of the account, each with the number of its messages, in the order of their names
abbrev pub AreFolders : List Folder → Account → Type 0
AreFolders folders a = map folder_count folders ≡ map folder_size (entries a.folders)

-- the rows are the folder of each copy, in order
abbrev pub AreFolderRows : List Row → Account → Type 0
AreFolderRows rows a = (names : List (List ℕ)) × (rows ≡ map (λ name. Blob name ∷ []) names) × AreFolders (tallied names) a
