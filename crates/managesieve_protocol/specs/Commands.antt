-- The commands of ManageSieve as they are spelled (RFC 5804, section 2).
use Rattle.std.specs.Prelude.{ℕ, Bool, true, false, List, [], ◌∷◌, ◌++◌, Some, None, codes}
use Rattle.managesieve_protocol.specs.declared.commands.ClientCommand.{ClientCommand}
use Rattle.managesieve_protocol.specs.declared.commands.ClientCommand.TheVariants.{Capability, Noop, Logout, Authenticate, Unauthenticate, HaveSpace, PutScript, CheckScript, ListScripts, SetActive, GetScript, DeleteScript, RenameScript, Response}
use Rattle.managesieve_protocol.specs.Arguments.{LineArgument, Text, Figure, IsNamedLine, IsStringLine}

-- how a command is written: its name and its arguments, or one string alone
pub data Form : Type 0 where
  Named : List ℕ → List LineArgument → Form
  Alone : List ℕ → Form

-- the table of the commands
abbrev pub form_of : ClientCommand → Form
form_of Capability = Named (codes "CAPABILITY") []
form_of (Noop None) = Named (codes "NOOP") []
form_of (Noop (Some tag)) = Named (codes "NOOP") (Text tag ∷ [])
form_of Logout = Named (codes "LOGOUT") []
form_of (Authenticate mechanism None) = Named (codes "AUTHENTICATE") (Text mechanism ∷ [])
form_of (Authenticate mechanism (Some response)) = Named (codes "AUTHENTICATE") (Text mechanism ∷ Text response ∷ [])
form_of Unauthenticate = Named (codes "UNAUTHENTICATE") []
form_of (HaveSpace name size) = Named (codes "HAVESPACE") (Text name ∷ Figure size ∷ [])
form_of (PutScript name script) = Named (codes "PUTSCRIPT") (Text name ∷ Text script ∷ [])
form_of (CheckScript script) = Named (codes "CHECKSCRIPT") (Text script ∷ [])
form_of ListScripts = Named (codes "LISTSCRIPTS") []
form_of (SetActive name) = Named (codes "SETACTIVE") (Text name ∷ [])
form_of (GetScript name) = Named (codes "GETSCRIPT") (Text name ∷ [])
form_of (DeleteScript name) = Named (codes "DELETESCRIPT") (Text name ∷ [])
form_of (RenameScript old new) = Named (codes "RENAMESCRIPT") (Text old ∷ Text new ∷ [])
form_of (Response text) = Alone text

-- what is written in a form; one string alone if and only if a challenge is pending
abbrev pub IsFormed : Bool → Form → List ℕ → Type 0
IsFormed false (Named word arguments) text = IsNamedLine word arguments text
IsFormed false (Alone value) text = ⊥
IsFormed true (Named word arguments) text = ⊥
IsFormed true (Alone value) text = IsStringLine value text

-- the text is a spelling of the command, with its CRLF
abbrev pub IsSpelling : Bool → ClientCommand → List ℕ → Type 0
IsSpelling pending command text = IsFormed pending (form_of command) text

-- the text is a spelling of some command
abbrev pub IsCommand : Bool → List ℕ → Type 0
IsCommand pending text = (command : ClientCommand) × IsSpelling pending command text

-- the text is the prefix of some spelling, so a command may still follow
abbrev pub IsViable : Bool → List ℕ → Type 0
IsViable pending text = (more : List ℕ) × IsCommand pending (text ++ more)
