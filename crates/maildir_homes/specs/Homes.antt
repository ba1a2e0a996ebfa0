-- Where the users' Maildirs are: within one directory, each by the same parts of a path, which differ from user to user.
use Rattle.std.specs.Prelude.{◌≡◌, ◌⊎◌, ℕ, ◌==◌, ◌&&◌, not, Bool, true, false, List, [], ◌∷◌, ◌++◌, Option, Some, None, Contains, if◌then◌else◌, nat_eq}
use Rattle.std.specs.Cmp.Lexicographic.{pointwise}
use Rattle.std.specs.List.{list_all, flat_map}
use Rattle.sieve_exec.specs.Parts.{local_of, domain_of}
use Rattle.maildir_homes.specs.declared.homes.HomePart.{HomePart}
use Rattle.maildir_homes.specs.declared.homes.HomePart.TheVariants.{Named, User, Local, Domain}
use Rattle.maildir_homes.specs.declared.homes.MailHomes.{MailHomes}

-- neither `/` nor NUL
abbrev pub has_no_mark : List ℕ → Bool
has_no_mark name = list_all (λ octet. not (octet == 47) && not (octet == 0)) name

-- a name that may be a directory's: not empty, no `.` at its start, and no mark
abbrev pub is_directory_name : List ℕ → Bool
is_directory_name [] = false
is_directory_name (first ∷ rest) = not (first == 46) && has_no_mark (first ∷ rest)

-- what a part is for a user
abbrev pub home_part_text : HomePart → List ℕ → List ℕ
home_part_text (Named name) user = name
home_part_text User user = user
home_part_text Local user = local_of user
home_part_text Domain user = domain_of user

-- whether it can be a directory for a user
abbrev pub part_fits : HomePart → List ℕ → Bool
part_fits (Named name) user = true
part_fits User user = is_directory_name user
part_fits Local user = is_directory_name (local_of user)
part_fits Domain user = is_directory_name (domain_of user)

-- the parts of a path one after the other, each behind a `/`
abbrev pub part_path : List ℕ → HomePart → List ℕ
part_path user part = 47 ∷ home_part_text part user

abbrev pub parts_path : List HomePart → List ℕ → List ℕ
parts_path parts user = flat_map (part_path user) parts

abbrev pub front_path : List ℕ → List HomePart → List ℕ → List ℕ
front_path dir parts user = dir ++ parts_path parts user

-- whether a user can have a Maildir there
abbrev pub has_home : List HomePart → List ℕ → Bool
has_home parts user = is_directory_name user && list_all (λ part. part_fits part user) parts

-- whether a user is of the domain, octet by octet, if only those of one have a Maildir: it follows the last `@` of the name
abbrev pub is_of_domain : Option (List ℕ) → List ℕ → Bool
is_of_domain None user = true
is_of_domain (Some domain) user = pointwise nat_eq (domain_of user) domain

-- a user's Maildir
abbrev pub home : MailHomes → List ℕ → Option (List ℕ)
home homes user =
    if is_of_domain homes.domain user && has_home homes.parts user then Some (front_path homes.dir homes.parts user) else None

-- only users of one domain have a Maildir; it isn't empty, as that of a name without `@` is
abbrev pub IsOneDomain : Option (List ℕ) → Type 0
IsOneDomain None = ⊥
IsOneDomain (Some domain) = domain ≡ [] → ⊥

-- any two users who have one are told apart: by the whole name, or by both halves of it, of which the domain may be the same for all
abbrev pub TellApart : MailHomes → Type 0
TellApart homes =
    Contains homes.parts User ⊎ (Contains homes.parts Local × (Contains homes.parts Domain ⊎ IsOneDomain homes.domain))

-- two users have no Maildir in common
abbrev pub HomesDiffer : Type 0
HomesDiffer = (homes : MailHomes) (one other path : List ℕ) → TellApart homes → home homes one ≡ Some path → home homes other ≡ Some path → one ≡ other
