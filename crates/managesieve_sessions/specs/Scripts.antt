-- The reply to a command about scripts, and how it changes an account (RFC 5804, sections 2.5 to 2.12).
use Rattle.std.specs.Prelude.{◌≡◌, ℕ, ◌+◌, ◌<◌, ◌≤◌, ◌⊎◌, Bool, false, cond, nat_eq, List, [], ◌∷◌, length, map, codes, Option, Some, None, IsSome}
use Rattle.std.specs.Cmp.Lexicographic.{pointwise}
use Rattle.std.specs.FinMap.{get, len, keys}
use Rattle.sieve_lex.specs.declared.fault.FaultKind.{FaultKind}
use Rattle.sieve_lex.specs.declared.fault.ScriptFault.{ScriptFault}
use Rattle.sieve_lex.specs.Faults.{fault_line}
use Rattle.sieve_lex.specs.Text.{line_ends}
use Rattle.sieve_syntax.specs.Tree.{Commands}
use Rattle.sieve_syntax.specs.Means.{Means}
use Rattle.managesieve_protocol.specs.declared.commands.ClientCommand.{ClientCommand}
use Rattle.managesieve_protocol.specs.declared.commands.ClientCommand.TheVariants.{HaveSpace, PutScript, ListScripts, SetActive, GetScript, DeleteScript, RenameScript}
use Rattle.managesieve_protocol.specs.declared.replies.ServerReply.{ServerReply}
use Rattle.managesieve_protocol.specs.declared.replies.DataLine.{DataLine}
use Rattle.managesieve_protocol.specs.declared.replies.DataLine.TheVariants as line
use Rattle.managesieve_protocol.specs.declared.replies.Status.{Status}
use Rattle.managesieve_protocol.specs.declared.replies.ReplyCode.TheVariants.{MaxSize, MaxScripts, NonExistent, Active, AlreadyExists}
use Rattle.store_accounts.specs.Account.{Account, keeps_script, activates, deletes_script, renames_script}
use Rattle.managesieve_sessions.specs.Limits.{script_limit, scripts_limit, IsScriptName}
use Rattle.managesieve_sessions.specs.Replies.{ok_reply, negative_reply, listed, done_reply, is_ok}

-- ---- checks in their order

-- the first if the fact holds, else the second
abbrev pub IfElse : Type 0 → Type 0 → Type 0 → Type 0
IfElse fact holds fails = (fact × holds) ⊎ ((fact → ⊥) × fails)

-- a script of that name is there
abbrev pub HasScript : Account → List ℕ → Type 0
HasScript a name = IsSome (get a.scripts name)

-- a script of that name is there, or there are fewer than the limit
abbrev pub HasRoom : Account → List ℕ → Type 0
HasRoom a name = HasScript a name ⊎ (len a.scripts < scripts_limit)

-- a name that can be made active: a script's, or the empty one for none
abbrev pub CanActivate : Account → List ℕ → Type 0
CanActivate a name = (name ≡ []) ⊎ HasScript a name

-- the text has a tree
abbrev pub IsValidScript : List ℕ → Type 0
IsValidScript text = (tree : Commands) × Means text tree

-- ---- replies that several commands have

abbrev pub bad_name : ServerReply
bad_name = negative_reply None (codes "Bad script name.")

abbrev pub too_large : ServerReply
too_large = negative_reply (Some MaxSize) (codes "Script too large.")

abbrev pub too_many : ServerReply
too_many = negative_reply (Some MaxScripts) (codes "Too many scripts.")

abbrev pub absent : ServerReply
absent = negative_reply (Some NonExistent) (codes "No such script.")

-- a reply that reports a fault on one of the text's lines; which line and which fault isn't specified
abbrev pub TellsFault : List ℕ → ServerReply → Type 0
TellsFault text reply =
    (line : ℕ) × (kind : FaultKind) × (1 ≤ line) × (line ≤ 1 + line_ends text) × (reply ≡ negative_reply None (fault_line line kind))

-- what is wrong with a text as a script: nothing, or a fault on one of its lines
abbrev pub IsVerdict : List ℕ → Option ScriptFault → Type 0
IsVerdict text None = IsValidScript text
IsVerdict text (Some fault) = (IsValidScript text → ⊥) × (1 ≤ fault.line) × (fault.line ≤ 1 + line_ends text)

-- to a text that is checked as a script: this reply if it is one, else its fault
abbrev pub RepliesToText : List ℕ → ServerReply → ServerReply → Type 0
RepliesToText text right reply = IfElse (IsValidScript text) (reply ≡ right) (TellsFault text reply)

-- ---- the table, row by row

-- `HAVESPACE` (RFC 5804, 2.5)
abbrev pub RepliesToHaveSpace : Account → List ℕ → ℕ → ServerReply → Type 0
RepliesToHaveSpace a name size reply =
    IfElse (IsScriptName name)
    (IfElse (size ≤ script_limit)
    (IfElse (HasRoom a name) (reply ≡ done_reply) (reply ≡ too_many))
    (reply ≡ too_large))
    (reply ≡ bad_name)

-- `PUTSCRIPT` (RFC 5804, 2.6)
abbrev pub RepliesToPut : Account → List ℕ → List ℕ → ServerReply → Type 0
RepliesToPut a name text reply =
    IfElse (IsScriptName name)
    (IfElse (length text ≤ script_limit)
    (IfElse (HasRoom a name) (RepliesToText text (ok_reply (codes "Stored.")) reply) (reply ≡ too_many))
    (reply ≡ too_large))
    (reply ≡ bad_name)

-- `CHECKSCRIPT` (RFC 5804, 2.12), which needs no account
abbrev pub RepliesToCheck : List ℕ → ServerReply → Type 0
RepliesToCheck text reply = IfElse (length text ≤ script_limit) (RepliesToText text (ok_reply (codes "Valid.")) reply) (reply ≡ too_large)

-- whether the name is the active one
abbrev pub is_active : Option (List ℕ) → List ℕ → Bool
is_active None name = false
is_active (Some active) name = pointwise nat_eq active name

-- the names of scripts as lines, each with the mark of the active one
abbrev pub script_lines : Option (List ℕ) → List (List ℕ) → List DataLine
script_lines active names = map (λ name. line.Script name (is_active active name)) names

-- `LISTSCRIPTS` (RFC 5804, 2.7): the names in the order of their octets
abbrev pub list_reply : Account → ServerReply
list_reply a = listed (script_lines a.active (keys a.scripts))

-- `SETACTIVE` (RFC 5804, 2.8): the empty name makes none active
abbrev pub RepliesToSet : Account → List ℕ → ServerReply → Type 0
RepliesToSet a name reply = IfElse (CanActivate a name) (reply ≡ done_reply) (reply ≡ absent)

-- `GETSCRIPT` (RFC 5804, 2.9), given the text of that name
abbrev pub get_reply : Option (List ℕ) → ServerReply
get_reply None = absent
get_reply (Some text) = listed (line.Text text ∷ [])

-- `DELETESCRIPT` (RFC 5804, 2.10)
abbrev pub RepliesToDelete : Account → List ℕ → ServerReply → Type 0
RepliesToDelete a name reply =
    IfElse (HasScript a name)
    (IfElse (a.active ≡ Some name) (reply ≡ negative_reply (Some Active) (codes "Script is active.")) (reply ≡ done_reply))
    (reply ≡ absent)

-- `RENAMESCRIPT` (RFC 5804, 2.11): the new name must be free, so it isn't the old one
abbrev pub RepliesToRename : Account → List ℕ → List ℕ → ServerReply → Type 0
RepliesToRename a old new reply =
    IfElse (HasScript a old)
    (IfElse (IsScriptName new)
    (IfElse (HasScript a new) (reply ≡ negative_reply (Some AlreadyExists) (codes "Name is taken.")) (reply ≡ done_reply))
    (reply ≡ bad_name))
    (reply ≡ absent)

-- the reply to a command about the account's scripts; to another command there is none
abbrev pub RepliesTo : Account → ClientCommand → ServerReply → Type 0
RepliesTo a (HaveSpace name size) reply = RepliesToHaveSpace a name size reply
RepliesTo a (PutScript name script) reply = RepliesToPut a name script reply
RepliesTo a ListScripts reply = reply ≡ list_reply a
RepliesTo a (SetActive name) reply = RepliesToSet a name reply
RepliesTo a (GetScript name) reply = reply ≡ get_reply (get a.scripts name)
RepliesTo a (DeleteScript name) reply = RepliesToDelete a name reply
RepliesTo a (RenameScript old new) reply = RepliesToRename a old new reply
RepliesTo a _ reply = ⊥

-- ---- what changes

-- the script that a name makes active
abbrev pub active_name : List ℕ → Option (List ℕ)
active_name [] = None
active_name (octet ∷ rest) = Some (octet ∷ rest)

-- the account after a command that was carried out
abbrev pub carried_out : ClientCommand → Account → Account
carried_out (PutScript name script) a = keeps_script name script a
carried_out (SetActive name) a = activates (active_name name) a
carried_out (DeleteScript name) a = deletes_script name a
carried_out (RenameScript old new) a = renames_script old new a
carried_out _ a = a

-- the account after a command whose reply has this status: it changes if the status is OK, and only then
abbrev pub obeyed : ClientCommand → Option Status → Account → Account
obeyed command word a = cond (is_ok word) (carried_out command a) a
