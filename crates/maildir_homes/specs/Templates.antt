-- Where the users' Maildirs are, as it is written: a path of which whole parts stand for what a user's name has.
use Rattle.std.specs.Prelude.{◌≡◌, ◌⊎◌, ℕ, ◌==◌, ◌&&◌, ◌||◌, not, Bool, true, false, List, [], ◌∷◌, ◌++◌, map, Option, Some, None, if◌then◌else◌, nat_eq, IsTrue}
use Rattle.std.specs.Cmp.Lexicographic.{pointwise}
use Rattle.std.specs.List.{list_all, list_any, slice_split}
use Rattle.maildir_homes.specs.declared.homes.HomePart.{HomePart}
use Rattle.maildir_homes.specs.declared.homes.HomePart.TheVariants.{Named, User, Local, Domain}
use Rattle.maildir_homes.specs.declared.homes.MailHomes.{MailHomes}

abbrev pub is_slash : ℕ → Bool
is_slash octet = octet == 47

abbrev pub is_text : List ℕ → List ℕ → Bool
is_text text name = pointwise nat_eq name text

-- `%u`, `%n`, `%d`
abbrev pub is_variable : List ℕ → Bool
is_variable name = is_text (37 ∷ 117 ∷ []) name || is_text (37 ∷ 110 ∷ []) name || is_text (37 ∷ 100 ∷ []) name

-- neither `%` nor NUL
abbrev pub has_no_percent : List ℕ → Bool
has_no_percent name = list_all (λ octet. not (octet == 37) && not (octet == 0)) name

abbrev pub is_empty_name : List ℕ → Bool
is_empty_name [] = true
is_empty_name (octet ∷ rest) = false

-- a name of a directory: not empty, neither `.` nor `..`, and without `%`
abbrev pub is_plain_name : List ℕ → Bool
is_plain_name name = not (is_empty_name name) && not (is_text (46 ∷ []) name) && not (is_text (46 ∷ 46 ∷ []) name) && has_no_percent name

abbrev pub is_home_part : List ℕ → Bool
is_home_part name = is_variable name || is_plain_name name

-- what a part stands for
abbrev pub home_part_named : List ℕ → HomePart
home_part_named name =
    if is_text (37 ∷ 117 ∷ []) name then User else (if is_text (37 ∷ 110 ∷ []) name then Local else (if is_text (37 ∷ 100 ∷ []) name then Domain else Named name))

abbrev pub is_user_part : HomePart → Bool
is_user_part (Named name) = false
is_user_part User = true
is_user_part Local = false
is_user_part Domain = false

abbrev pub is_local_part : HomePart → Bool
is_local_part (Named name) = false
is_local_part User = false
is_local_part Local = true
is_local_part Domain = false

abbrev pub is_domain_part : HomePart → Bool
is_domain_part (Named name) = false
is_domain_part User = false
is_domain_part Local = false
is_domain_part Domain = true

-- only users of one domain have a Maildir, and that isn't empty
abbrev pub is_one_domain : Option (List ℕ) → Bool
is_one_domain None = false
is_one_domain (Some domain) = not (is_empty_name domain)

-- two users who have one differ in one of the parts: the whole name, or one of its halves, where the domain isn't the same for all
abbrev pub tell_apart : Option (List ℕ) → List HomePart → Bool
tell_apart domain parts =
    list_any is_user_part parts || list_any is_local_part parts && (list_any is_domain_part parts || is_one_domain domain)

-- the parts of a path
abbrev pub path_parts : List ℕ → List (List ℕ)
path_parts = slice_split is_slash

-- what stands behind a directory is read as these homes, of the users of the domain alone, if one is given; or it can't be
abbrev pub IsReadIn : List ℕ → List ℕ → Option (List ℕ) → Option MailHomes → Type 0
IsReadIn dir tail domain (Some homes) =
    IsTrue (list_all is_home_part (path_parts tail)) × (homes.dir ≡ dir) × (homes.parts ≡ map home_part_named (path_parts tail))
    × (homes.domain ≡ domain) × IsTrue (tell_apart domain homes.parts)
IsReadIn dir tail domain None =
    IsTrue (list_all is_home_part (path_parts tail)) × IsTrue (tell_apart domain (map home_part_named (path_parts tail))) → ⊥

-- the directory ends where the part with the first `%` begins
abbrev pub IsReadBehind : List ℕ → List ℕ → Option (List ℕ) → Option MailHomes → Type 0
IsReadBehind front tail domain result =
    ((dir : List ℕ) × (front ≡ dir ++ 47 ∷ []) × IsReadIn dir tail domain result) ⊎ (((dir : List ℕ) → front ≡ dir ++ 47 ∷ [] → ⊥) × (result ≡ None))

abbrev pub is_percent : ℕ → Bool
is_percent octet = octet == 37

abbrev pub has_percent : List ℕ → Bool
has_percent text = list_any is_percent text

-- each user has a Maildir of the user's own name in the directory
abbrev pub IsDirectoryOfAll : List ℕ → Option (List ℕ) → Option MailHomes → Type 0
IsDirectoryOfAll text domain (Some homes) = (homes.dir ≡ text) × (homes.parts ≡ User ∷ []) × (homes.domain ≡ domain)
IsDirectoryOfAll text domain None = ⊥

-- a path without `%` is the directory of all; otherwise the parts from the first `%` on are read
abbrev pub IsReadAs : List ℕ → Option (List ℕ) → Option MailHomes → Type 0
IsReadAs text domain result =
    ((has_percent text ≡ false) × IsDirectoryOfAll text domain result)
    ⊎ ((front tail : List ℕ) × (text ≡ front ++ 37 ∷ tail) × (has_percent front ≡ false)
    × IsReadBehind front (37 ∷ tail) domain result)
