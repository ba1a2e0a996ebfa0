-- What a sink over files has put, and keeps.
use Rattle.std.specs.Prelude.{◌≡◌, ℕ, List, Option, Some}
use Rattle.mail_flags.specs.Flags.{named_flags, letters}
use Rattle.maildir_files.specs.FileName.{file_name, name_by, subdirectory_by}
use Rattle.maildir_files.specs.Known.{HasGot, path_in}
use Rattle.maildir_files.specs.declared.file_place.Subdirectory.{Subdirectory}
use Rattle.maildir_files.specs.declared.kept.KeptMail.{KeptMail}
use Rattle.maildir_files.specs.declared.new_names.NewNames.{NewNames}

-- the letters of a message's flags
abbrev pub mail_letters : KeptMail → List ℕ
mail_letters mail = letters (named_flags mail.flags)

-- the directory of a message's file
abbrev pub mail_subdirectory : KeptMail → Subdirectory
mail_subdirectory mail = subdirectory_by (mail_letters mail)

-- what a message's file is called there
abbrev pub mail_file : KeptMail → List ℕ
mail_file mail = name_by (file_name mail.user mail.folder mail.number mail.message) (mail_letters mail)

-- whether the Maildir at a path got the file of that name, with this text, since it was settled last
abbrev pub IsWaiting : {F D : Type 0} → (F → D → List ℕ → List ℕ → List ℕ → Type 0) → F → Option (NewNames D) → List ℕ → Subdirectory → List ℕ → List ℕ → Type 0
IsWaiting {D = D} got_file files found path place name text =
    (names : NewNames D) × (found ≡ Some names) × HasGot got_file files path names place name text

-- what waits goes on waiting
abbrev pub StaysWaiting : {F D : Type 0} → (F → D → List ℕ → List ℕ → List ℕ → Type 0) → F → Option (NewNames D) → F → Option (NewNames D) → Type 0
StaysWaiting got_file old before new after =
    (path : List ℕ) (place : Subdirectory) (name text : List ℕ) → IsWaiting got_file old before path place name text → IsWaiting got_file new after path place name text

-- the Maildir that is open is at this path, and a file of it with this message waits
abbrev pub HasPut : {F D : Type 0} → (F → D → List ℕ → List ℕ → List ℕ → Type 0) → F → Option (List ℕ) → Option (NewNames D) → List ℕ → KeptMail → Type 0
HasPut got_file files opened found path mail =
    (opened ≡ Some path) × IsWaiting got_file files found path (mail_subdirectory mail) (mail_file mail) mail.message

-- the Maildir at this path has a file with this message, which a crash doesn't lose
abbrev pub KeepsMail : {F : Type 0} → (F → List ℕ → List ℕ → List ℕ → Type 0) → F → List ℕ → KeptMail → Type 0
KeepsMail keeps_file files path mail = keeps_file files (path_in path (mail_subdirectory mail)) (mail_file mail) mail.message
