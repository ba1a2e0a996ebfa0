-- When a user replies again to one sender under one handle: at least the later reply's period later (RFC 5230, 4.2).
use Rattle.std.specs.Prelude.{◌≡◌, ℕ, ◌+◌, ◌<◌, ◌≤◌, List, [], ◌∷◌, ◌++◌, Option, Some, None}
use mathlib.Core.Logic.{inl, inr}
use Rattle.std.specs.FinMap.{get}
use Rattle.octets.specs.Ascii.{lowered}
use Rattle.store_text.specs.Text.{IsAccountText}
use Rattle.store_text.specs.declared.head.AccountHead.{AccountHead}
use Rattle.store_text.specs.declared.part.Part.{Part}
use Rattle.sieve_syntax.specs.declared.extension.vacation.VacationArgs.{VacationArgs}
use Rattle.sieve_exec.specs.declared.envelope.Envelope.{Envelope}
use Rattle.sieve_vacation.specs.Cases.{period_of}
use Rattle.sieve_vacation.specs.Handles.{Handle, handle_of, handle_key_of}
use Rattle.store_accounts.specs.Account.{Account, Accounts, open_account_of}
use Rattle.store_accounts.specs.Whole.{IsCopyOf}
use Rattle.store_accounts.specs.declared.report.Report.{Report}
use Rattle.store_accounts.specs.declared.report.VacationReport.{VacationReport}
use Rattle.store_accounts.specs.declared.report.VacationReport.TheVariants as V
use Rattle.store_accounts.specs.declared.refusal.Refusal.{Refusal}
use Rattle.store_engine.specs.declared.event.Event.{Event}
use Rattle.store_engine.specs.declared.event.Event.TheVariants.{Deliver}
use Rattle.store_engine.specs.declared.answer.Answer.{Answer}
use Rattle.store_engine.specs.declared.answer.Answer.TheVariants.{Imported}
use Rattle.store_engine.specs.Limits.{limit_refusal}
use Rattle.store_engine.specs.AccountEvents.{DeliversTo, DeliversIn, DeliversUnder, Importing}
use Rattle.store_engine.specs.declared.terms.Terms.{Terms}
use Rattle.store_engine.specs.World.{World, EventHappens, Next, Runs}

-- to whom a reply went: the user, the handle's key, and the sender, ignoring case
pub record Thread : Type 0 where
  pub user : List ℕ
  pub handle : Handle
  pub sender : List ℕ

-- a reply that was sent
pub record SentReply : Type 0 where
  pub thread : Thread
  -- when, in seconds since 1970-01-01 UTC
  pub moment : ℕ
  -- for how many seconds no other one follows
  pub period : ℕ

-- ---- what a run sends

abbrev pub entry_of : List ℕ → List ℕ → ℕ → VacationArgs → SentReply
entry_of user sender moment args =
    record { thread = record { user = user; handle = handle_of args; sender = lowered sender }; moment = moment; period = period_of args }

-- the entry of a `vacation` that was executed, if the report says that a reply was sent
abbrev pub entries_if : VacationReport → List ℕ → List ℕ → ℕ → Option VacationArgs → List SentReply
entries_if V.Sent user sender moment (Some args) = entry_of user sender moment args ∷ []
entries_if vacation user sender moment reply = []

-- for a delivery to the user's account as it is: the answer is that of the scripts' deeds
abbrev pub sent_to_account : List ℕ → (terms : Terms) (envelope : Envelope) (message : List ℕ) (a : Account) (report : Report) (a2 : Account)
    → DeliversTo terms envelope message a report a2 → List SentReply
sent_to_account user terms envelope message a report a2 made = entries_if report.vacation user envelope.from terms.when.moment made.delivers.settled.deeds.reply

abbrev pub sent_in : (accounts : Accounts) (user : List ℕ) (terms : Terms) (envelope : Envelope) (message : List ℕ)
    (account : Option Account) (answer : Answer) (later : Accounts)
    → DeliversIn accounts user terms envelope message account answer later → List SentReply
sent_in accounts user terms envelope message None answer later made = []
sent_in accounts user terms envelope message (Some a) answer later made = sent_to_account user terms envelope message a made.report made.account made.delivers

abbrev pub sent_under : (refusal : Option Refusal) (accounts : Accounts) (user : List ℕ) (terms : Terms) (envelope : Envelope)
    (message : List ℕ) (answer : Answer) (later : Accounts)
    → DeliversUnder refusal accounts user terms envelope message answer later → List SentReply
sent_under (Some refusal) accounts user terms envelope message answer later made = []
sent_under None accounts user terms envelope message answer later made = sent_in accounts user terms envelope message (open_account_of accounts user) answer later made

abbrev pub sent_by : (w : World) (event : Event) (answer : Answer) (next : World) → EventHappens w event answer next → List SentReply
sent_by w (Deliver user envelope message terms) answer next made =
    sent_under (limit_refusal envelope message terms.when.moment) w.accounts user terms envelope message answer made.0 made.1
sent_by w event answer next made = []

-- for one event; one that is refused sends nothing
abbrev pub sent_at : (w : World) (event : Event) (answer : Answer) (next : World) → Next w event answer next → List SentReply
sent_at w event answer next (inl made) = sent_by w event answer next made
sent_at w event answer next (inr refused) = []

-- the replies that a run sends, in their order
abbrev pub sent : (w : World) (events : List Event) (told : List Answer) (end : World) → Runs w events told end → List SentReply
sent w [] [] end run = []
sent w (event ∷ events) (answer ∷ told) end run = sent_at w event answer run.0 run.1 ++ sent run.0 events told end run.2
sent w [] (answer ∷ told) end run = []
sent w (event ∷ events) [] end run = []

-- ---- how they are spaced

-- the moment that an account keeps of a reply, if one is kept; a closed or removed one keeps it too
abbrev pub kept_in : Option Account → Thread → Option ℕ
kept_in None thread = None
kept_in (Some a) thread = get a.replies (handle_key_of thread.handle, thread.sender)

abbrev pub kept_moment : Accounts → Thread → Option ℕ
kept_moment accounts thread = kept_in (get accounts thread.user) thread

-- a moment is at least a period later than the one that is kept, if one is; a period of 0 requires nothing
abbrev pub IsPast : Option ℕ → ℕ → ℕ → Type 0
IsPast None period moment = Unit {0}
IsPast (Some last) period moment = 0 < period → last + period ≤ moment

-- each entry is its period later than what the accounts keep
abbrev pub ComeAfter : Accounts → List SentReply → Type 0
ComeAfter accounts [] = Unit {0}
ComeAfter accounts (entry ∷ more) = IsPast (kept_moment accounts entry.thread) entry.period entry.moment × ComeAfter accounts more

-- each of these is its period later than the entry, if it goes to the same and has a period
abbrev pub Follow : SentReply → List SentReply → Type 0
Follow entry [] = Unit {0}
Follow entry (later ∷ more) = (entry.thread ≡ later.thread → 0 < later.period → entry.moment + later.period ≤ later.moment) × Follow entry more

-- any two entries that go to the same are spaced by the later one's period, if it has one
abbrev pub AreSpaced : List SentReply → Type 0
AreSpaced [] = Unit {0}
AreSpaced (entry ∷ more) = Follow entry more × AreSpaced more

-- what is kept is at least each entry's moment
abbrev pub IsAtLeast : Option ℕ → ℕ → Type 0
IsAtLeast None moment = ⊥
IsAtLeast (Some last) moment = moment ≤ last

abbrev pub AreMomentsKept : Accounts → List SentReply → Type 0
AreMomentsKept accounts [] = Unit {0}
AreMomentsKept accounts (entry ∷ more) = IsAtLeast (kept_moment accounts entry.thread) entry.moment × AreMomentsKept accounts more

-- the replies of a run, from these accounts to those
pub record IsSpacing (start end : Accounts) (entries : List SentReply) : Type 0 where
  pub after_start : ComeAfter start entries
  pub spaced : AreSpaced entries
  pub kept_in_the_end : AreMomentsKept end entries

-- a run's replies are
abbrev pub IsSpaced : (w : World) (events : List Event) (told : List Answer) (end : World) → Runs w events told end → Type 0
IsSpaced w events told end run = IsSpacing w.accounts end.accounts (sent w events told end run)

-- ---- an account that moves

-- a user's account is taken out of these accounts as a text, and added to others
pub record IsMove (user : List ℕ) (left here came : Accounts) : Type 0 where
  pub account : Account
  pub had : get left user ≡ Some account
  pub text : List ℕ
  pub copied : IsCopyOf text user account
  pub head : AccountHead
  pub parts : List Part
  pub read : IsAccountText text head parts
  pub imported : Importing here head parts Imported came

-- each of the user's earlier entries is followed by these
abbrev pub GoOn : List ℕ → List SentReply → List SentReply → Type 0
GoOn user [] later = Unit {0}
GoOn user (entry ∷ more) later = (entry.thread.user ≡ user → Follow entry later) × GoOn user more later
