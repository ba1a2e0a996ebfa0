-- What an administrator does to one account: the answer, and what the account becomes.
use Rattle.std.specs.Prelude.{◌≡◌, ℕ, ◌≤◌, Bool, true, cond, not, ◌&&◌, List, length, Option, Some, None, MatchBool}
use Rattle.std.specs.FinMap.{get, insert}
use Rattle.sasl_plain.specs.Password.{digest_of}
use Rattle.sieve_lex.specs.declared.fault.ScriptFault.{ScriptFault}
use Rattle.store_accounts.specs.Account.{Account, Accounts, Password, is_closed_account, open_one, known_one, has_mail, keeps_script, keeps_active, changes_address, changes_password, closes, opens, takes_notices, removes}
use Rattle.store_accounts.specs.declared.refusal.Refusal.TheVariants.{NoUser, BadUser, BadScriptName, ScriptTooLarge, TooManyScripts, UserIsOpen, UserHasMail}
use Rattle.managesieve_sessions.specs.Limits.{script_limit, IsScriptName}
use Rattle.managesieve_sessions.specs.Scripts.{IfElse, HasRoom, IsValidScript, IsVerdict}
use Rattle.store_engine.specs.declared.answer.Answer.{Answer}
use Rattle.store_engine.specs.declared.answer.Answer.TheVariants.{Changed, Stored, Invalid, Edited, Objected, Closed, Opened, Removed, NoticesTaken, Refused}
use Rattle.store_engine.specs.declared.script_edit.ScriptEdit.{ScriptEdit}
use Rattle.store_engine.specs.declared.script_edit.ScriptObjection.{ScriptObjection}
use Rattle.store_engine.specs.declared.upkeep.Upkeep.{Upkeep}
use Rattle.store_engine.specs.declared.upkeep.Upkeep.TheVariants.{SetPassword, SetAddress, StoreScript, EditScripts, CloseAccount, OpenAccount, RemoveAccount, TakeNotices}
use Rattle.store_engine.specs.Limits.{is_password, IsOwnAddress}
use Rattle.store_engine.specs.ScriptEdits.{GivesScriptName, edited, objection_to}

-- ---- passwords

-- how many times the digest of a new password is hashed again
abbrev pub rounds : ℕ
rounds = 10000

-- a password as it is stored
abbrev pub kept_password : List ℕ → List ℕ → Password
kept_password salt password = record { salt = salt; rounds = rounds; digest = digest_of salt password rounds }

-- ---- an answer, and what the account becomes: another one, or, if none is given, it stays as it is

-- this is answered, and the account becomes that
pub record Alters (said : Answer) (account : Account) (answer : Answer) (change : Option Account) : Type 0 where
  pub says : answer ≡ said
  pub changed : change ≡ Some account

-- this is answered, and the account stays
pub record OnlyAnswers (said : Answer) (answer : Answer) (change : Option Account) : Type 0 where
  pub says : answer ≡ said
  pub stays : change ≡ None

-- for the account that is found this; if there is none, there is no such user
abbrev pub InAccount : Option Account → (Account → Answer → Option Account → Type 0) → Answer → Option Account → Type 0
InAccount None row answer change = OnlyAnswers (Refused NoUser) answer change
InAccount (Some a) row answer change = row a answer change

-- ---- row by row

-- the script takes the place of one that has its name; it becomes the active one, or the active one stays
abbrev pub stores : List ℕ → List ℕ → Bool → Account → Account
stores name text activate a = cond activate (keeps_active name text a) (keeps_script name text a)

-- what is wrong with the text is answered: a fault on one of its lines; which one isn't specified
abbrev pub AnswersFault : List ℕ → Answer → Option Account → Type 0
AnswersFault text answer change = (fault : ScriptFault) × IsVerdict text (Some fault) × OnlyAnswers (Invalid fault) answer change

-- the script is stored if there is room for its name and the text means a tree
abbrev pub Stores : List ℕ → List ℕ → Bool → Account → Answer → Option Account → Type 0
Stores name text activate a answer change =
    IfElse (HasRoom a name)
    (IfElse (IsValidScript text) (Alters Stored (stores name text activate a) answer change) (AnswersFault text answer change))
    (OnlyAnswers (Refused TooManyScripts) answer change)

-- a change of the scripts is made, or this stands against it, which is answered
abbrev pub EditsUnless : Option ScriptObjection → ScriptEdit → Account → Answer → Option Account → Type 0
EditsUnless None edit a answer change = Alters Edited (edited edit a) answer change
EditsUnless (Some objection) edit a answer change = OnlyAnswers (Objected objection) answer change

-- the same of what stands against it in the account
abbrev pub Edits : ScriptEdit → Account → Answer → Option Account → Type 0
Edits edit a answer change = EditsUnless (objection_to edit a) edit a answer change

-- a closed account is opened
abbrev pub OpensClosed : Account → Answer → Option Account → Type 0
OpensClosed a answer change = MatchBool (is_closed_account a) (Alters Opened (opens rounds a) answer change) (OnlyAnswers (Refused UserIsOpen) answer change)

-- the account is removed, its mail too only if asked for
abbrev pub Removes : Bool → Account → Answer → Option Account → Type 0
Removes mail a answer change =
    MatchBool (not mail && has_mail a) (OnlyAnswers (Refused UserHasMail) answer change) (Alters Removed (removes a) answer change)

-- ---- the table: the answer, and what the account becomes, if there is one

abbrev pub DoesUpkeep : Upkeep → Option Account → Answer → Option Account → Type 0
DoesUpkeep (SetPassword salt password) account answer change =
    IfElse (is_password password ≡ true)
    (InAccount (open_one account) (λ a. Alters Changed (changes_password (kept_password salt password) a)) answer change)
    (OnlyAnswers (Refused BadUser) answer change)
DoesUpkeep (SetAddress address) account answer change =
    IfElse (IsOwnAddress address)
    (InAccount (open_one account) (λ a. Alters Changed (changes_address address a)) answer change)
    (OnlyAnswers (Refused BadUser) answer change)
DoesUpkeep (StoreScript name text activate) account answer change =
    IfElse (IsScriptName name)
    (IfElse (length text ≤ script_limit)
    (InAccount (open_one account) (Stores name text activate) answer change)
    (OnlyAnswers (Refused ScriptTooLarge) answer change))
    (OnlyAnswers (Refused BadScriptName) answer change)
DoesUpkeep (EditScripts edit) account answer change =
    IfElse (GivesScriptName edit) (InAccount (open_one account) (Edits edit) answer change)
    (OnlyAnswers (Refused BadScriptName) answer change)
DoesUpkeep CloseAccount account answer change = InAccount (open_one account) (λ a. Alters Closed (closes a)) answer change
DoesUpkeep OpenAccount account answer change = InAccount (known_one account) OpensClosed answer change
DoesUpkeep (RemoveAccount mail) account answer change = InAccount (known_one account) (Removes mail) answer change
DoesUpkeep (TakeNotices until) account answer change = InAccount (open_one account) (λ a. Alters NoticesTaken (takes_notices until a)) answer change

-- ---- the accounts, and one of them

-- the account that was given, or the one that there was
abbrev pub instead : Option Account → Option Account → Option Account
instead None account = account
instead (Some a) account = Some a

-- the same among all accounts
abbrev pub put_instead : Option Account → List ℕ → Accounts → Accounts
put_instead None user accounts = accounts
put_instead (Some a) user accounts = insert accounts user a

-- this is done to the user's account, and no other changes
abbrev pub Keeping : Accounts → List ℕ → Upkeep → Answer → Accounts → Type 0
Keeping accounts user upkeep answer later =
    (change : Option Account) × DoesUpkeep upkeep (get accounts user) answer change × (later ≡ put_instead change user accounts)

-- the same for the user's account alone
abbrev pub KeepingAlone : Option Account → Upkeep → Answer → Option Account → Type 0
KeepingAlone account upkeep answer later = (change : Option Account) × DoesUpkeep upkeep account answer change × (later ≡ instead change account)

-- ---- what may be refused without visible cause

-- whether nothing in its arguments forbids it
abbrev pub IsFit : Upkeep → Type 0
IsFit (SetPassword salt password) = is_password password ≡ true
IsFit (SetAddress address) = IsOwnAddress address
IsFit (StoreScript name text activate) = IsScriptName name × (length text ≤ script_limit)
IsFit (EditScripts edit) = GivesScriptName edit
IsFit CloseAccount = Unit {0}
IsFit OpenAccount = Unit {0}
IsFit (RemoveAccount mail) = Unit {0}
IsFit (TakeNotices until) = Unit {0}

-- whether memory may be lacking: checking an address takes memory, whatever it is
abbrev pub MayLackFor : Upkeep → Type 0
MayLackFor (SetAddress address) = Unit {0}
MayLackFor upkeep = IsFit upkeep
