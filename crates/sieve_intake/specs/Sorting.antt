-- What the members of an archive are for a user's scripts.
use Rattle.std.specs.Prelude.{ℕ, Bool, true, false, nat_le, List, [], ◌∷◌, ◌++◌, length, cond, fold, Option, Some, None}
use Rattle.tar_entries.specs.declared.entry.TarEntry.{TarEntry}
use Rattle.tar_entries.specs.declared.entry.TarEntry.TheVariants as entry
use Rattle.sieve_intake.specs.declared.sorting.LeftOut.{LeftOut}
use Rattle.sieve_intake.specs.declared.sorting.LeftOut.TheVariants.{TooLarge, TooMany, NoFile}
use Rattle.sieve_intake.specs.declared.sorting.SortedFiles.{SortedFiles}
use Rattle.sieve_intake.specs.Names.{script_name_at, is_dovecot_sieve}

-- nothing has come
abbrev pub no_files : SortedFiles
no_files = record { scripts = []; active = None; left_out = []; has_more = false }

-- a file with a script's name isn't taken; the names of the first thousand of these are kept
unfoldable pub leaving_out : SortedFiles → List ℕ → LeftOut → SortedFiles
leaving_out sorted name why =
    cond (nat_le 1000 (length sorted.left_out)) (record sorted { has_more = true })
    (record sorted { left_out = sorted.left_out ++ record { name = name; why = why } ∷ [] })

-- a script came; the first 32 of them are taken
unfoldable pub with_taken : SortedFiles → List ℕ → List ℕ → SortedFiles
with_taken sorted name text =
    cond (nat_le 32 (length sorted.scripts)) (leaving_out sorted name TooMany)
    (record sorted { scripts = sorted.scripts ++ record { name = name; text = text } ∷ [] })

-- where a file has a script's name
abbrev pub if_script : Option (List ℕ) → SortedFiles → (List ℕ → SortedFiles) → SortedFiles
if_script None sorted then = sorted
if_script (Some name) sorted then = then name

-- this script is the active one, if the path is that which says so
abbrev pub made_active : Bool → Option (List ℕ) → SortedFiles → SortedFiles
made_active true active sorted = record sorted { active = active }
made_active false active sorted = sorted

-- a file came: `NAME.sieve`, wherever it lies, is the script NAME; `.dovecot.sieve` is the active script itself
abbrev pub with_file_at : SortedFiles → List ℕ → List ℕ → SortedFiles
with_file_at sorted path text =
    if_script (script_name_at path) sorted
    (λ name. made_active (is_dovecot_sieve path) (Some name) (with_taken sorted name text))

-- a symbolic link came: `.dovecot.sieve` says which script is active, another one isn't taken
abbrev pub with_link_at : SortedFiles → List ℕ → List ℕ → SortedFiles
with_link_at sorted path target =
    cond (is_dovecot_sieve path) (made_active true (script_name_at target) sorted)
    (if_script (script_name_at path) sorted (λ name. leaving_out sorted name NoFile))

-- a member of the archive came; what has no script's name doesn't count
unfoldable pub sorted_with : SortedFiles → TarEntry → SortedFiles
sorted_with sorted (entry.File path text) = with_file_at sorted path text
sorted_with sorted (entry.LargeFile path size) =
    if_script (script_name_at path) sorted (λ name. leaving_out sorted name TooLarge)
sorted_with sorted (entry.Link path target) = with_link_at sorted path target
sorted_with sorted (entry.Other path kind) =
    if_script (script_name_at path) sorted (λ name. leaving_out sorted name NoFile)

-- all members came, in order
abbrev pub sorted_by : List TarEntry → SortedFiles
sorted_by entries = fold sorted_with no_files entries
