-- A refused event changes no account.
use Rattle.std.proofs.Common.{◌≡◌, ◌&&◌, not, ℕ, Bool, true, false, List, [], ◌∷◌, Option, Some, None, MatchBool, refl, sym, ◌∙◌, ap, subst, inl, inr}
use Rattle.std.specs.FinMap.{get}
use Rattle.store_text.specs.declared.head.AccountHead.{AccountHead}
use Rattle.store_text.specs.declared.part.Part.{Part}
use Rattle.store_accounts.specs.Account.{Account, Accounts, open_account_of, open_one, known_one, is_closed_account, has_mail, messages_in, row_with}
use Rattle.store_accounts.specs.declared.queue.QueuedMessage.{QueuedMessage}
use Rattle.store_accounts.specs.declared.refusal.Refusal.{Refusal}
use Rattle.store_accounts.specs.declared.refusal.Refusal.TheVariants.{UserHasMail, UserIsOpen}
use Rattle.sieve_exec.specs.declared.envelope.Envelope.{Envelope}
use Rattle.managesieve_sessions.specs.Clients.{Client}
use Rattle.managesieve_sessions.specs.Scripts.{IfElse}
use Rattle.store_engine.specs.AccountEvents.{DeliversIn, DeliversUnder, AddsOver, AddsUnder, ImportsOver, ImportsUnder, TakesFromQueue, TakesQueueRow, TakesMailIn, TakesFirst}
use Rattle.store_engine.specs.Hosts.{IsMade}
use Rattle.store_engine.specs.Limits.{limit_refusal}
use Rattle.store_engine.specs.ScriptEdits.{objection_to}
use Rattle.store_engine.specs.Upkeep.{Alters, OnlyAnswers, InAccount, Stores, Edits, EditsUnless, DoesUpkeep, Keeping, put_instead}
use Rattle.store_engine.specs.World.{World, InSession, OpensSession, StepsSession, Ignores, WorldBecomes, EventHappens, Next}
use Rattle.store_engine.specs.declared.answer.Answer.{Answer}
use Rattle.store_engine.specs.declared.answer.Answer.TheVariants.{Delivered, Added, Imported, Taken, MailTaken, Changed, Stored, Edited, Closed, Opened, Removed, NoticesTaken, Out, Refused}
use Rattle.store_engine.specs.declared.event.Event.{Event}
use Rattle.store_engine.specs.declared.event.Event.TheVariants.{Open, Give, Step, GiveUp, Close, Deliver, AddUser, Import, TakeOut, TakeMail, DoUpkeep}
use Rattle.store_engine.specs.declared.script_edit.ScriptEdit.{ScriptEdit}
use Rattle.store_engine.specs.declared.script_edit.ScriptObjection.{ScriptObjection}
use Rattle.store_engine.specs.declared.upkeep.Upkeep.{Upkeep}
use Rattle.store_engine.specs.declared.terms.Terms.{Terms}
use Rattle.store_engine.specs.declared.upkeep.Upkeep.TheVariants.{SetPassword, SetAddress, StoreScript, EditScripts, CloseAccount, OpenAccount, RemoveAccount, TakeNotices}

either : {P A B C : Type 0} → (A → C) → (B → C) → IfElse P A B → C
either a b (inl it) = a it.1
either a b (inr it) = b it.1

by_bool : {A B C : Type 0} (t : Bool) → (A → C) → (B → C) → MatchBool t A B → C
by_bool true a b it = a it
by_bool false a b it = b it

module _ (refusal : Refusal) (answer : Answer) (is : answer ≡ Refused refusal) where
  -- another answer is none
  never : {C : Type 0} (said : Answer) → IsMade said → answer ≡ said → C
  never said made says = absurd (subst IsMade (sym says ∙ is) made)

  -- ---- an administrator's act

  alters : (said : Answer) (a : Account) (change : Option Account) → IsMade said → Alters said a answer change → change ≡ None
  alters said a change made it = never said made it.says

  in_account : (o : Option Account) (row : Account → Answer → Option Account → Type 0) (change : Option Account) → ((a : Account) → row a answer change → change ≡ None) → InAccount o row answer change → change ≡ None
  in_account None row change rows it = it.stays
  in_account (Some a) row change rows it = rows a it

  module _ (change : Option Account) where
    edits_none : (edit : ScriptEdit) (a : Account) (o : Option ScriptObjection) → EditsUnless o edit a answer change → change ≡ None
    edits_none edit a None it = alters Edited _ change tt it
    edits_none edit a (Some objection) it = it.stays

    keeps_none : (u : Upkeep) (o : Option Account) → DoesUpkeep u o answer change → change ≡ None
    keeps_none (SetPassword salt password) o = either (in_account (open_one o) _ change (λ a. alters Changed _ change tt)) (λ it. it.stays)
    keeps_none (SetAddress address) o = either (in_account (open_one o) _ change (λ a. alters Changed _ change tt)) (λ it. it.stays)
    keeps_none (StoreScript name text activate) o =
        either (either (in_account (open_one o) (Stores name text activate) change (λ a. either (either (alters Stored _ change tt) (λ it. it.2.stays)) (λ it. it.stays))) (λ it. it.stays)) (λ it. it.stays)
    keeps_none (EditScripts edit) o = either (in_account (open_one o) (Edits edit) change (λ a. edits_none edit a (objection_to edit a))) (λ it. it.stays)
    keeps_none CloseAccount o = in_account (open_one o) _ change (λ a. alters Closed _ change tt)
    keeps_none OpenAccount o = in_account (known_one o) _ change (λ a. by_bool (is_closed_account a) (alters Opened _ change tt) (λ (it : OnlyAnswers (Refused UserIsOpen) answer change). it.stays))
    keeps_none (RemoveAccount mail) o = in_account (known_one o) _ change (λ a. by_bool (not mail && has_mail a) (λ (it : OnlyAnswers (Refused UserHasMail) answer change). it.stays) (alters Removed _ change tt))
    keeps_none (TakeNotices until) o = in_account (open_one o) _ change (λ a. alters NoticesTaken _ change tt)

  keeping : (accounts later : Accounts) (user : List ℕ) (u : Upkeep) → Keeping accounts user u answer later → later ≡ accounts
  keeping accounts later user u it = it.2 ∙ ap (λ change. put_instead change user accounts) (keeps_none it.0 u (get accounts user) it.1)

  -- ---- other events of accounts

  module _ (accounts later : Accounts) where
    delivers_in : (user : List ℕ) (terms : Terms) (envelope : Envelope) (message : List ℕ) (o : Option Account) → DeliversIn accounts user terms envelope message o answer later → later ≡ accounts
    delivers_in user terms envelope message None it = it.stays
    delivers_in user terms envelope message (Some a) it = never (Delivered it.report) tt it.reported

    delivers : (user : List ℕ) (terms : Terms) (envelope : Envelope) (message : List ℕ) (limit : Option Refusal) → DeliversUnder limit accounts user terms envelope message answer later → later ≡ accounts
    delivers user terms envelope message (Some refusal) it = it.stays
    delivers user terms envelope message None it = delivers_in user terms envelope message (open_account_of accounts user) it

    adds_over : (name address salt password : List ℕ) (a : Account) → AddsOver accounts name address salt password a answer later → later ≡ accounts
    adds_over name address salt password a = by_bool (is_closed_account a) (by_bool (has_mail a) (λ it. it.stays) (λ it. never Added tt it.added)) (λ it. it.stays)

    adds_under : (name address salt password : List ℕ) (o : Option Account) → AddsUnder accounts name address salt password o answer later → later ≡ accounts
    adds_under name address salt password None it = never Added tt it.added
    adds_under name address salt password (Some a) it = adds_over name address salt password a it

    imports_over : (head : AccountHead) (parts : List Part) (a : Account) → ImportsOver accounts head parts a answer later → later ≡ accounts
    imports_over head parts a = by_bool (is_closed_account a) (by_bool (has_mail a) (λ it. it.stays) (λ it. never Imported tt it.imported)) (λ it. it.stays)

    imports_under : (head : AccountHead) (parts : List Part) (o : Option Account) → ImportsUnder accounts head parts o answer later → later ≡ accounts
    imports_under head parts None it = never Imported tt it.imported
    imports_under head parts (Some a) it = imports_over head parts a it

    takes_row : (user : List ℕ) (o : Option QueuedMessage) → TakesQueueRow accounts user o answer later → later ≡ accounts
    takes_row user None it = it.stays
    takes_row user (Some row) it = never (Taken row) tt it.taken

    takes_in : (user : List ℕ) (id : ℕ) (o : Option Account) → TakesFromQueue accounts user id o answer later → later ≡ accounts
    takes_in user id None it = it.stays
    takes_in user id (Some a) it = takes_row user (row_with id a.queue) it

    takes_first : (user folder : List ℕ) (messages : List (List ℕ)) → TakesFirst accounts user folder messages answer later → later ≡ accounts
    takes_first user folder [] it = it.stays
    takes_first user folder (message ∷ more) it = never MailTaken tt it.taken

    takes_mail : (user folder : List ℕ) (o : Option Account) → TakesMailIn accounts user folder o answer later → later ≡ accounts
    takes_mail user folder None it = it.stays
    takes_mail user folder (Some a) it = takes_first user folder (messages_in a.folders folder) it

  -- ---- events of sessions

  module _ (w next : World) where
    becomes : (said : Answer) (v : World) → v.accounts ≡ w.accounts → WorldBecomes said v answer next → next.accounts ≡ w.accounts
    becomes said v same it = ap (λ (x : World). x.accounts) it.changed ∙ same

    ignores : Ignores w answer next → next.accounts ≡ w.accounts
    ignores it = ap (λ (x : World). x.accounts) it.stays

    opens : (s : ℕ) (o : Option Client) → OpensSession w s o answer next → next.accounts ≡ w.accounts
    opens s None it = becomes _ _ refl it
    opens s (Some c) it = ignores it

    in_session : (o : Option Client) (row : Client → Answer → World → Type 0) → ((c : Client) → row c answer next → next.accounts ≡ w.accounts) → InSession w o row answer next → next.accounts ≡ w.accounts
    in_session None row rows it = ignores it
    in_session (Some c) row rows it = rows c it

    steps : (s : ℕ) (c : Client) → StepsSession w s c answer next → next.accounts ≡ w.accounts
    steps s c it = never (Out it.goes_on it.octets) tt it.says

    with_later : (later : Accounts) → later ≡ w.accounts → next ≡ record { accounts = later; sessions = w.sessions } → next.accounts ≡ w.accounts
    with_later later same is_next = ap (λ (x : World). x.accounts) is_next ∙ same

    happens : (event : Event) → EventHappens w event answer next → next.accounts ≡ w.accounts
    happens (Open s) it = opens s (get w.sessions s) it
    happens (Give s piece) it = in_session (get w.sessions s) _ (λ c. becomes _ _ refl) it
    happens (Step s) it = in_session (get w.sessions s) (StepsSession w s) (λ c. steps s c) it
    happens (GiveUp s) it = in_session (get w.sessions s) _ (λ c. becomes _ _ refl) it
    happens (Close s) it = in_session (get w.sessions s) _ (λ c. becomes _ _ refl) it
    happens (Deliver user envelope message terms) it = with_later it.0 (delivers w.accounts it.0 user terms envelope message (limit_refusal envelope message terms.when.moment) it.1) it.2
    happens (AddUser name address salt password) it = with_later it.0 (either (adds_under w.accounts it.0 name address salt password (get w.accounts name)) (λ refused. refused.stays) it.1) it.2
    happens (Import file) it = with_later it.0 (either (imports_under w.accounts it.0 file.head file.parts (get w.accounts file.head.owner.name)) (λ refused. refused.stays) it.1) it.2
    happens (TakeOut user id) it = with_later it.0 (takes_in w.accounts it.0 user id (open_account_of w.accounts user) it.1) it.2
    happens (TakeMail user folder) it = with_later it.0 (takes_mail w.accounts it.0 user folder (open_account_of w.accounts user) it.1) it.2
    happens (DoUpkeep user upkeep) it = with_later it.0 (keeping w.accounts it.0 user upkeep it.1) it.2

-- an event that is refused changes no account
pub refused_same : (w next : World) (event : Event) (refusal : Refusal) → Next w event (Refused refusal) next → next.accounts ≡ w.accounts
refused_same w next event refusal (inl made) = happens refusal (Refused refusal) refl w next event made
refused_same w next event refusal (inr refused) = ap (λ (x : World). x.accounts) refused.stays
