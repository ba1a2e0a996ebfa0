-- What is known of the files of a Maildir.
use Rattle.std.specs.Prelude.{◌≡◌, ℕ, List, ◌++◌, codes, Option, Some}
use Rattle.maildir_files.specs.declared.file_place.Subdirectory.{Subdirectory}
use Rattle.maildir_files.specs.declared.file_place.Subdirectory.TheVariants.{New, Cur}
use Rattle.maildir_files.specs.declared.new_names.NewNames.{NewNames}

-- the path of `new` or `cur` in the Maildir at a path
abbrev pub path_in : List ℕ → Subdirectory → List ℕ
path_in path New = path ++ codes "/new"
path_in path Cur = path ++ codes "/cur"

-- a path of `tmp` in a Maildir
abbrev pub IsInTmp : List ℕ → Type 0
IsInTmp path = (maildir name : List ℕ) × (path ≡ maildir ++ (codes "/tmp/" ++ name))

-- what is kept at a path, under a name, still is
abbrev pub StaysHeld : {F : Type 0} → (F → List ℕ → List ℕ → List ℕ → Type 0) → F → F → Type 0
StaysHeld keeps_file old new = (path name text : List ℕ) → keeps_file old path name text → keeps_file new path name text

module _ {F D : Type 0} where
  -- what a directory got at a path, under a name, it still has
  abbrev pub StaysGot : (F → D → List ℕ → List ℕ → List ℕ → Type 0) → F → F → Type 0
  StaysGot got_file old new = (directory : D) (path name text : List ℕ) → got_file old directory path name text → got_file new directory path name text

  -- what a path led to it still leads to
  abbrev pub StaysLed : (F → List ℕ → D → Type 0) → F → F → Type 0
  StaysLed leads_to old new = (path : List ℕ) (directory : D) → leads_to old path directory → leads_to new path directory

  -- the directory is open, and the path leads to it
  abbrev pub IsOpenAt : (F → List ℕ → D → Type 0) → F → List ℕ → Option D → Type 0
  IsOpenAt leads_to files path opened = (directory : D) × (opened ≡ Some directory) × leads_to files path directory

  -- if a directory is open, the path leads to it
  abbrev pub LeadsThere : (F → List ℕ → D → Type 0) → F → List ℕ → Option D → Type 0
  LeadsThere leads_to files path opened = (directory : D) → opened ≡ Some directory → leads_to files path directory

  -- the paths of those that are open lead to them
  pub record LeadToAll (leads_to : F → List ℕ → D → Type 0) (files : F) (path : List ℕ) (names : NewNames D) : Type 0 where
    pub in_new : LeadsThere leads_to files (path ++ codes "/new") names.in_new
    pub in_cur : LeadsThere leads_to files (path ++ codes "/cur") names.in_cur

module _ {D : Type 0} where
  -- a directory that is open stays so
  abbrev pub StaysOpen : Option D → Option D → Type 0
  StaysOpen old new = (directory : D) → old ≡ Some directory → new ≡ Some directory

  -- those that are open stay so
  pub record StayOpen (old new : NewNames D) : Type 0 where
    pub in_new : StaysOpen old.in_new new.in_new
    pub in_cur : StaysOpen old.in_cur new.in_cur

  -- the directory that got names in `new` or `cur`
  abbrev pub opened_in : NewNames D → Subdirectory → Option D
  opened_in names New = names.in_new
  opened_in names Cur = names.in_cur

-- one that is open got the file of that name, with this text
abbrev pub HasGot : {F D : Type 0} → (F → D → List ℕ → List ℕ → List ℕ → Type 0) → F → List ℕ → NewNames D → Subdirectory → List ℕ → List ℕ → Type 0
HasGot {D = D} got_file files path names place name text =
    (directory : D) × (opened_in names place ≡ Some directory) × got_file files directory (path_in path place) name text
