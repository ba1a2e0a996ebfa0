-- Folders that rest, since a message of theirs couldn't be moved.
use Rattle.std.specs.Prelude.{ℕ, ◌*◌, ◌&&◌, nat_eq, nat_lt, Bool, true, List, filter, length, Option, Some, None, if◌then◌else◌}
use Rattle.std.specs.List.{list_any}
use Rattle.std.specs.Cmp.Lexicographic.{pointwise}
use Rattle.maildir_moves.specs.declared.rest.Rest.{Rest}

-- that one, or all of the user's
abbrev pub is_folder : List ℕ → Option (List ℕ) → Bool
is_folder folder None = true
is_folder folder (Some other) = pointwise nat_eq other folder

abbrev pub is_rest_of : List ℕ → List ℕ → Rest → Bool
is_rest_of user folder rest = pointwise nat_eq rest.user user && is_folder folder rest.folder

abbrev pub lasts_by : ℕ → List ℕ → List ℕ → Rest → Bool
lasts_by now user folder rest = nat_lt now rest.until && is_rest_of user folder rest

-- whether a folder rests at a moment
abbrev pub rests_at : ℕ → List ℕ → List ℕ → List Rest → Bool
rests_at now user folder rests = list_any (lasts_by now user folder) rests

-- how many rests of a user are known
abbrev pub rests_of : List ℕ → List Rest → ℕ
rests_of user rests = length (filter (λ rest. pointwise nat_eq rest.user user) rests)

-- of how many folders of a user it is known that they rest
abbrev pub max_folders : ℕ
max_folders = 16

-- what rests of a user of whom this many folders rest already: one more folder, or all of them
abbrev pub what_rests : ℕ → List ℕ → Option (List ℕ)
what_rests many folder = if nat_lt many max_folders then Some folder else None

-- for how many milliseconds it rests: a minute, and after each further failure twice as long, an hour at most
abbrev pub span_after : Option ℕ → ℕ
span_after None = 60000
span_after (Some span) = if nat_lt 3600000 (span * 2) then 3600000 else span * 2
