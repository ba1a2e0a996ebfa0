-- What becomes of one user's account in a run, by the user's acts alone.
use Rattle.std.proofs.Common.{◌≡◌, ℕ, ◌⊎◌, Bool, true, false, cond, List, [], ◌∷◌, ◌++◌, Option, Some, None, option_map, refl, sym, ◌∙◌, ap, subst, inl, inr, codes}
use Rattle.std.specs.Prelude.{◌&&◌, not, is_some, is_none, nat_lt, MatchBool}
use Rattle.std.specs.FinMap.{empty, get, insert, get-insert}
use Rattle.std.proofs.lemmas.Cmp.{nat_list_cmp_total}
use Rattle.managesieve_protocol.specs.declared.commands.ClientCommand.{ClientCommand}
use Rattle.managesieve_protocol.specs.declared.commands.ClientCommand.TheVariants.{Capability, Noop, Logout, Authenticate, Unauthenticate, HaveSpace, PutScript, CheckScript, ListScripts, SetActive, GetScript, DeleteScript, RenameScript, Response}
use Rattle.managesieve_protocol.specs.declared.items.ClientItem.{ClientItem}
use Rattle.managesieve_protocol.specs.declared.items.ClientItem.TheVariants as item
use Rattle.managesieve_protocol.specs.declared.replies.ServerReply.{ServerReply}
use Rattle.managesieve_protocol.specs.declared.replies.Status.{Status}
use Rattle.managesieve_protocol.specs.Replies.{reply_octets}
use Rattle.sasl_plain.specs.Parts.{login_of}
use Rattle.sieve_exec.specs.declared.envelope.Envelope.{Envelope}
use Rattle.store_accounts.specs.Account.{Account, Accounts, is_closed_account, open_account_of, has_mail, renews, in_place, with_user, messages_in, takes_out, takes_mail}
use Rattle.store_accounts.proofs.StandingLemmas.{open_there}
use Rattle.sqlite_typed.proofs.TestLemmas.{bytes_eq_refl, same_bytes}
use Rattle.store_text.specs.declared.head.AccountHead.{AccountHead}
use Rattle.store_text.specs.declared.part.Part.{Part}
use Rattle.store_accounts.specs.Whole.{whole, takes_whole}
use Rattle.store_accounts.specs.declared.queue.QueuedMessage.{QueuedMessage}
use Rattle.store_accounts.specs.declared.refusal.Refusal.{Refusal}
use Rattle.store_accounts.specs.declared.refusal.Refusal.TheVariants.{Memory, Store, NotOurs, NoUser, TooLarge, BadEnvelope, BadMoment, UserExists, BadUser, NoRow, AccountClosed, UserIsOpen, UserHasMail, BadScriptName, ScriptTooLarge, TooManyScripts, BadAccount}
use Rattle.managesieve_sessions.specs.Clients.{Client, item_in, without_octets}
use Rattle.managesieve_sessions.specs.Logins.{admitted, admitted_by, checked_by, has_password, is_plain_mechanism, is_star, login_reply}
use Rattle.managesieve_sessions.specs.Replies.{is_ok, negative_reply, bye_reply}
use Rattle.managesieve_sessions.specs.Scripts.{obeyed}
use Rattle.managesieve_sessions.specs.Steps.{changed_for, ObeysCommand, StepAnswers, StepsAt, IsStep}
use Rattle.managesieve_sessions.specs.Table.{needs_login, early_reply, account_of, RepliesOf, RepliesIn, RepliesTaken}
use Rattle.managesieve_sessions.specs.CommandOutcomes.{login_text}
use Rattle.managesieve_sessions.specs.declared.progress.Progress.{Progress}
use Rattle.managesieve_sessions.specs.declared.progress.Progress.TheVariants as p
use Rattle.store_engine.specs.declared.event.Event.{Event}
use Rattle.store_engine.specs.declared.event.Event.TheVariants.{Open, Give, Step, GiveUp, Close, Deliver, AddUser, Import, TakeOut, TakeMail, DoUpkeep}
use Rattle.store_engine.specs.declared.answer.Answer.{Answer}
use Rattle.store_engine.specs.declared.answer.Answer.TheVariants.{Delivered, Added, Imported, Taken, Refused, MailTaken}
use Rattle.store_engine.specs.Limits.{limit_refusal}
use Rattle.store_accounts.specs.Account.{row_with}
use Rattle.store_engine.specs.AccountEvents.{MachineRefuses, Renews, Replaces, absence, DeliversIn, DeliversUnder, Delivery, AddsUnder, Addition, ImportsUnder, Importing, TakesQueueRow, TakesFromQueue, Taking, TakesFirst, TakesMailIn, MailTaking}
use Rattle.store_engine.specs.declared.upkeep.Upkeep.{Upkeep}
use Rattle.store_engine.specs.Upkeep.{kept_password, instead, put_instead, Keeping}
use Rattle.store_engine.proofs.UpkeepLemmas.{lost_stays}
use Rattle.store_engine.specs.OwnActs.{UserAct, Commands, LogsIn, Receives, Joins, IsImported, TakesOut, TakesMail, IsKept, TakesFirstAlone, TakesMailOpen, RepliesAlone, CommandsAlone, admits, ReceivesOpen, ReceivesIn, RenewsAlone, JoinsIn, ReplacesAlone, ImportsIn, TakesRowAlone, TakesOpen, ActsAlone, ActsInTurn, is_user, when_of, is_welcome, login_acts, text_acts, command_acts, item_acts, step_acts, is_lost, event_acts, acts_in, user_acts, IsAlone}
use Rattle.store_engine.specs.declared.terms.Terms.{Terms}
use Rattle.store_engine.specs.World.{World, InSession, OpensSession, StepsSession, EventHappens, MayRefuseEvent, IsEventRefused, Next, Runs}

-- ---- accounts by name

-- the same name, by the order of octets
pub same_name : (user name : List ℕ) → is_user user name ≡ true → user ≡ name
same_name user name is = same_bytes user name is

-- an account that was put under a name
pub put_own : (accounts : Accounts) (user : List ℕ) (a : Account) → is_user user user ≡ true → get (insert accounts user a) user ≡ Some a
put_own accounts user a is = get-insert nat_list_cmp_total accounts user a user ∙ ap (λ b. cond b (Some a) (get accounts user)) is

pub put_other : (accounts : Accounts) (user name : List ℕ) (a : Account) → is_user user name ≡ false → get (insert accounts name a) user ≡ get accounts user
put_other accounts user name a is = get-insert nat_list_cmp_total accounts name a user ∙ ap (λ b. cond b (Some a) (get accounts user)) is

-- an account that was changed under its name
pub changed_own : (accounts : Accounts) (user : List ℕ) (change : Account → Account) → is_user user user ≡ true → get (with_user accounts user change) user ≡ option_map change (get accounts user)
changed_own accounts user change is = go (get accounts user) refl
  where
    go : (o : Option Account) → get accounts user ≡ o → get (in_place accounts user change o) user ≡ option_map change o
    go None has = has
    go (Some a) has = put_own accounts user (change a) is

pub changed_other : (accounts : Accounts) (user name : List ℕ) (change : Account → Account) → is_user user name ≡ false → get (with_user accounts name change) user ≡ get accounts user
changed_other accounts user name change is = go (get accounts name)
  where
    go : (o : Option Account) → get (in_place accounts name change o) user ≡ get accounts user
    go None = refl
    go (Some a) = put_other accounts user name (change a) is

-- a change that changes nothing
pub changed_quietly : (accounts : Accounts) (user : List ℕ) (name : Option (List ℕ)) (change : Account → Account) → ((a : Account) → change a ≡ a) → get (changed_for name change accounts) user ≡ get accounts user
changed_quietly accounts user None change quiet = refl
changed_quietly accounts user (Some name) change quiet = go (get accounts name) refl
  where
    own : (a : Account) (b : Bool) → is_user user name ≡ b → get accounts name ≡ Some a → cond b (Some (change a)) (get accounts user) ≡ get accounts user
    own a true is has = ap (λ x. Some x) (quiet a) ∙ sym (subst (λ n. get accounts n ≡ Some a) (sym (same_name user name is)) has)
    own a false is has = refl

    go : (o : Option Account) → get accounts name ≡ o → get (in_place accounts name change o) user ≡ get accounts user
    go None has = refl
    go (Some a) has = get-insert nat_list_cmp_total accounts name (change a) user ∙ own a (is_user user name) refl has

-- ---- acts in turn

pub alone_one : (user : List ℕ) (account later : Option Account) (act : UserAct) → ActsAlone user account act later → ActsInTurn user account (act ∷ []) later
alone_one user account later act is = (later, is, refl)

pub alone_then : (user : List ℕ) (one two : List UserAct) (account mid end : Option Account) → ActsInTurn user account one mid → ActsInTurn user mid two end → ActsInTurn user account (one ++ two) end
alone_then user [] two account mid end is was = subst (λ a. ActsInTurn user a two end) is was
alone_then user (act ∷ more) two account mid end is was = (is.0, is.1, alone_then user more two is.0 mid end is.2 was)

-- an act under a name, of this user or another: it may be lost, where nothing changed
pub alone_of : (user name : List ℕ) (lost : Bool) (act : UserAct) (account later : Option Account)
    → (is_user user name ≡ false → later ≡ account) → (lost ≡ true → later ≡ account) → (is_user user name ≡ true → ActsAlone user account act later)
    → ActsInTurn user account (cond lost [] (when_of user (Some name) act)) later
alone_of user name true act account later other gone own = gone refl
alone_of user name false act account later other gone own = go (is_user user name) refl
  where
    go : (b : Bool) → is_user user name ≡ b → ActsInTurn user account (cond b (act ∷ []) []) later
    go true is = alone_one user account later act (own is)
    go false is = other is

-- ---- deliveries, new users, rows taken out

-- an answer that is lost is no other
not_lost : (answer said : Answer) → answer ≡ said → is_lost said ≡ false → is_lost answer ≡ true → ⊥
not_lost answer said is found lost = absurd (let bad : true ≡ false = sym lost ∙ (ap is_lost is ∙ found) in cc)

module _ (user name : List ℕ) (accounts later : Accounts) (answer : Answer) where
  -- what stands for the user where nobody's account changed
  pub refused_stays : (refusal : Refusal) → MachineRefuses refusal accounts answer later → get later user ≡ get accounts user
  refused_stays refusal is = ap (λ all. get all user) is.stays

  -- a delivery: to another, or lost
  pub delivery_other : (envelope : Envelope) (message : List ℕ) (terms : Terms) → Delivery accounts name envelope message terms answer later
      → (is_user user name ≡ false) ⊎ (is_lost answer ≡ true) → get later user ≡ get accounts user
  delivery_other envelope message terms made why = go (limit_refusal envelope message terms.when.moment) made
    where
      inserted : (o : Option Account) → DeliversIn accounts name terms envelope message o answer later → get later user ≡ get accounts user
      inserted None is = refused_stays (absence (get accounts name)) is
      inserted (Some a) is = by why
        where
          by : (is_user user name ≡ false) ⊎ (is_lost answer ≡ true) → get later user ≡ get accounts user
          by (inl other) = ap (λ all. get all user) is.changed ∙ put_other accounts user name is.account other
          by (inr lost) = absurd (not_lost answer (Delivered is.report) is.reported refl lost)

      go : (o : Option Refusal) → DeliversUnder o accounts name terms envelope message answer later → get later user ≡ get accounts user
      go (Some refusal) is = refused_stays refusal is
      go None is = inserted (open_account_of accounts name) is

  pub addition_other : (address salt password : List ℕ) → Addition accounts name address salt password answer later
      → (is_user user name ≡ false) ⊎ (is_lost answer ≡ true) → get later user ≡ get accounts user
  addition_other address salt password (inr (bad, is)) why = refused_stays BadUser is
  addition_other address salt password (inl (new, made)) why = go (get accounts name) made
    where
      over : (closed full : Bool) → MatchBool closed (MatchBool full (MachineRefuses UserHasMail accounts answer later) (Renews accounts name address salt password answer later)) (MachineRefuses UserExists accounts answer later) → get later user ≡ get accounts user
      over true true is = refused_stays UserHasMail is
      over true false is = by why
        where
          by : (is_user user name ≡ false) ⊎ (is_lost answer ≡ true) → get later user ≡ get accounts user
          by (inl other) = ap (λ all. get all user) is.changed ∙ changed_other accounts user name (renews address (kept_password salt password)) other
          by (inr lost) = absurd (not_lost answer Added is.added refl lost)
      over false full is = refused_stays UserExists is

      go : (o : Option Account) → AddsUnder accounts name address salt password o answer later → get later user ≡ get accounts user
      go (Some a) is = over (is_closed_account a) (has_mail a) is
      go None is = by why
        where
          by : (is_user user name ≡ false) ⊎ (is_lost answer ≡ true) → get later user ≡ get accounts user
          by (inl other) = ap (λ all. get all user) is.changed ∙ put_other accounts user name _ other
          by (inr lost) = absurd (not_lost answer Added is.added refl lost)

  pub importing_other : (head : AccountHead) (parts : List Part) → head.owner.name ≡ name → Importing accounts head parts answer later
      → (is_user user name ≡ false) ⊎ (is_lost answer ≡ true) → get later user ≡ get accounts user
  importing_other head parts named (inr (bad, is)) why = refused_stays BadAccount is
  importing_other head parts named (inl (fit, made)) why = go (get accounts head.owner.name) made
    where
      elsewhere : is_user user name ≡ false → is_user user head.owner.name ≡ false
      elsewhere other = ap (is_user user) named ∙ other

      over : (closed full : Bool) → MatchBool closed (MatchBool full (MachineRefuses UserHasMail accounts answer later) (Replaces accounts head parts answer later)) (MachineRefuses UserExists accounts answer later) → get later user ≡ get accounts user
      over true true is = refused_stays UserHasMail is
      over true false is = by why
        where
          by : (is_user user name ≡ false) ⊎ (is_lost answer ≡ true) → get later user ≡ get accounts user
          by (inl other) = ap (λ all. get all user) is.changed ∙ changed_other accounts user head.owner.name (takes_whole head parts) (elsewhere other)
          by (inr lost) = absurd (not_lost answer Imported is.imported refl lost)
      over false full is = refused_stays UserExists is

      go : (o : Option Account) → ImportsUnder accounts head parts o answer later → get later user ≡ get accounts user
      go (Some a) is = over (is_closed_account a) (has_mail a) is
      go None is = by why
        where
          by : (is_user user name ≡ false) ⊎ (is_lost answer ≡ true) → get later user ≡ get accounts user
          by (inl other) = ap (λ all. get all user) is.changed ∙ put_other accounts user head.owner.name _ (elsewhere other)
          by (inr lost) = absurd (not_lost answer Imported is.imported refl lost)

  pub taking_other : (id : ℕ) → Taking accounts name id answer later → (is_user user name ≡ false) ⊎ (is_lost answer ≡ true) → get later user ≡ get accounts user
  taking_other id made why = go (open_account_of accounts name) made
    where
      row : (o : Option QueuedMessage) → TakesQueueRow accounts name o answer later → get later user ≡ get accounts user
      row None is = refused_stays NoRow is
      row (Some out) is = by why
        where
          by : (is_user user name ≡ false) ⊎ (is_lost answer ≡ true) → get later user ≡ get accounts user
          by (inl other) = ap (λ all. get all user) is.changed ∙ changed_other accounts user name (takes_out out.id) other
          by (inr lost) = absurd (not_lost answer (Taken out) is.taken refl lost)

      go : (o : Option Account) → TakesFromQueue accounts name id o answer later → get later user ≡ get accounts user
      go None is = refused_stays NoUser is
      go (Some a) is = row (row_with id a.queue) is

  pub mail_taking_other : (folder : List ℕ) → MailTaking accounts name folder answer later → (is_user user name ≡ false) ⊎ (is_lost answer ≡ true) → get later user ≡ get accounts user
  mail_taking_other folder made why = go (open_account_of accounts name) made
    where
      row : (messages : List (List ℕ)) → TakesFirst accounts name folder messages answer later → get later user ≡ get accounts user
      row [] is = refused_stays NoRow is
      row (message ∷ more) is = by why
        where
          by : (is_user user name ≡ false) ⊎ (is_lost answer ≡ true) → get later user ≡ get accounts user
          by (inl other) = ap (λ all. get all user) is.changed ∙ changed_other accounts user name (takes_mail folder 1) other
          by (inr lost) = absurd (not_lost answer MailTaken is.taken refl lost)

      go : (o : Option Account) → TakesMailIn accounts name folder o answer later → get later user ≡ get accounts user
      go None is = refused_stays NoUser is
      go (Some a) is = row (messages_in a.folders folder) is

  pub keeping_other : (upkeep : Upkeep) → Keeping accounts name upkeep answer later → (is_user user name ≡ false) ⊎ (is_lost answer ≡ true) → get later user ≡ get accounts user
  keeping_other upkeep (change, keeps, is) (inl other) = ap (λ all. get all user) is ∙ go change
    where
      go : (o : Option Account) → get (put_instead o name accounts) user ≡ get accounts user
      go None = refl
      go (Some a) = put_other accounts user name a other
  keeping_other upkeep (change, keeps, is) (inr lost) =
      ap (λ all. get all user) is ∙ ap (λ o. get (put_instead o name accounts) user) (lost_stays answer change (λ said same found. not_lost answer said same found lost) upkeep (get accounts name) keeps)

module _ (user : List ℕ) (accounts later : Accounts) (answer : Answer) (itself : is_user user user ≡ true) where
  -- what the machine refuses changes nothing of the account
  refused_alone : (refusal : Refusal) (account : Option Account) → get accounts user ≡ account → MachineRefuses refusal accounts answer later → MachineRefuses refusal account answer (get later user)
  refused_alone refusal account has is = record { refused = is.refused; stays = ap (λ all. get all user) is.stays ∙ has }

  pub delivery_own : (envelope : Envelope) (message : List ℕ) (terms : Terms) → Delivery accounts user envelope message terms answer later
      → ActsAlone user (get accounts user) (Receives envelope message terms answer) (get later user)
  delivery_own envelope message terms made = go (limit_refusal envelope message terms.when.moment) made
    where
      inserted : (o : Option Account) → DeliversIn accounts user terms envelope message o answer later → ReceivesOpen (get accounts user) o envelope message terms answer (get later user)
      inserted None is = refused_alone (absence (get accounts user)) (get accounts user) refl is
      inserted (Some a) is = record { report = is.report; after = is.account; delivers = is.delivers; says = is.reported; changed = ap (λ all. get all user) is.changed ∙ put_own accounts user is.account itself }

      go : (o : Option Refusal) → DeliversUnder o accounts user terms envelope message answer later → ReceivesIn o (get accounts user) envelope message terms answer (get later user)
      go (Some refusal) is = refused_alone refusal (get accounts user) refl is
      go None is = inserted (open_account_of accounts user) is

  pub addition_own : (address salt password : List ℕ) → Addition accounts user address salt password answer later → ActsAlone user (get accounts user) (Joins address salt password answer) (get later user)
  addition_own address salt password (inr (bad, is)) = inr (bad, refused_alone BadUser (get accounts user) refl is)
  addition_own address salt password (inl (new, made)) = inl (new, go (get accounts user) refl made)
    where
      over : (a : Account) → get accounts user ≡ Some a → (closed full : Bool)
          → MatchBool closed (MatchBool full (MachineRefuses UserHasMail accounts answer later) (Renews accounts user address salt password answer later)) (MachineRefuses UserExists accounts answer later)
          → MatchBool closed (MatchBool full (MachineRefuses UserHasMail (Some a) answer (get later user)) (RenewsAlone a address salt password answer (get later user))) (MachineRefuses UserExists (Some a) answer (get later user))
      over a has true true is = refused_alone UserHasMail (Some a) has is
      over a has true false is = record {
        says = is.added;
        changed = ap (λ all. get all user) is.changed ∙ (changed_own accounts user (renews address (kept_password salt password)) itself ∙ ap (λ o. option_map (renews address (kept_password salt password)) o) has);
      }
      over a has false full is = refused_alone UserExists (Some a) has is

      go : (o : Option Account) → get accounts user ≡ o → AddsUnder accounts user address salt password o answer later → JoinsIn o address salt password answer (get later user)
      go (Some a) has is = over a has (is_closed_account a) (has_mail a) is
      go None has is = record { says = is.added; changed = ap (λ all. get all user) is.changed ∙ put_own accounts user _ itself }

  pub importing_own : (head : AccountHead) (parts : List Part) → head.owner.name ≡ user → Importing accounts head parts answer later → ActsAlone user (get accounts user) (IsImported head parts answer) (get later user)
  importing_own head parts named (inr (bad, is)) = inr (bad, refused_alone BadAccount (get accounts user) refl is)
  importing_own head parts named (inl (fit, made)) = inl (fit, go (get accounts user) refl (subst (λ n. ImportsUnder accounts head parts (get accounts n) answer later) named made))
    where
      over : (a : Account) → get accounts user ≡ Some a → (closed full : Bool)
          → MatchBool closed (MatchBool full (MachineRefuses UserHasMail accounts answer later) (Replaces accounts head parts answer later)) (MachineRefuses UserExists accounts answer later)
          → MatchBool closed (MatchBool full (MachineRefuses UserHasMail (Some a) answer (get later user)) (ReplacesAlone a head parts answer (get later user))) (MachineRefuses UserExists (Some a) answer (get later user))
      over a has true true is = refused_alone UserHasMail (Some a) has is
      over a has true false is = record {
        says = is.imported;
        changed = ap (λ all. get all user) (is.changed ∙ ap (λ n. with_user accounts n (takes_whole head parts)) named)
            ∙ (changed_own accounts user (takes_whole head parts) itself ∙ ap (λ o. option_map (takes_whole head parts) o) has);
      }
      over a has false full is = refused_alone UserExists (Some a) has is

      go : (o : Option Account) → get accounts user ≡ o → ImportsUnder accounts head parts o answer later → ImportsIn o head parts answer (get later user)
      go (Some a) has is = over a has (is_closed_account a) (has_mail a) is
      go None has is = record {
        says = is.imported;
        changed = ap (λ all. get all user) (is.changed ∙ ap (λ n. insert accounts n (whole head parts empty)) named) ∙ put_own accounts user (whole head parts empty) itself;
      }

  pub taking_own : (id : ℕ) → Taking accounts user id answer later → ActsAlone user (get accounts user) (TakesOut id answer) (get later user)
  taking_own id made = go (open_account_of accounts user) refl made
    where
      row : (a : Account) (o : Option QueuedMessage) → get accounts user ≡ Some a → TakesQueueRow accounts user o answer later → TakesRowAlone a o answer (get later user)
      row a None has is = refused_alone NoRow (Some a) has is
      row a (Some out) has is =
          record { says = is.taken; changed = ap (λ all. get all user) is.changed ∙ (changed_own accounts user (takes_out out.id) itself ∙ ap (λ o. option_map (takes_out out.id) o) has) }

      go : (o : Option Account) → open_account_of accounts user ≡ o → TakesFromQueue accounts user id o answer later → TakesOpen (get accounts user) o id answer (get later user)
      go None none is = refused_alone NoUser (get accounts user) refl is
      go (Some a) has is = row a (row_with id a.queue) (open_there (get accounts user) a has) is

  pub mail_taking_own : (folder : List ℕ) → MailTaking accounts user folder answer later → ActsAlone user (get accounts user) (TakesMail folder answer) (get later user)
  mail_taking_own folder made = go (open_account_of accounts user) refl made
    where
      row : (a : Account) (messages : List (List ℕ)) → get accounts user ≡ Some a → TakesFirst accounts user folder messages answer later → TakesFirstAlone a folder messages answer (get later user)
      row a [] has is = refused_alone NoRow (Some a) has is
      row a (message ∷ more) has is =
          record { says = is.taken; changed = ap (λ all. get all user) is.changed ∙ (changed_own accounts user (takes_mail folder 1) itself ∙ ap (λ o. option_map (takes_mail folder 1) o) has) }

      go : (o : Option Account) → open_account_of accounts user ≡ o → TakesMailIn accounts user folder o answer later → TakesMailOpen (get accounts user) o folder answer (get later user)
      go None none is = refused_alone NoUser (get accounts user) refl is
      go (Some a) has is = row a (messages_in a.folders folder) (open_there (get accounts user) a has) is

  pub keeping_own : (upkeep : Upkeep) → Keeping accounts user upkeep answer later → ActsAlone user (get accounts user) (IsKept upkeep answer) (get later user)
  keeping_own upkeep (change, keeps, is) = (change, keeps, ap (λ all. get all user) is ∙ go change)
    where
      go : (o : Option Account) → get (put_instead o user accounts) user ≡ instead o (get accounts user)
      go None = refl
      go (Some a) = put_own accounts user a itself

-- ---- commands

-- a command of a session in which nobody has to be logged in changes no account
quiet_word : (word : Option Status) (a b : Account) → b ≡ a → cond (is_ok word) b a ≡ a
quiet_word word a b same = go (is_ok word)
  where
    go : (w : Bool) → cond w b a ≡ a
    go true = same
    go false = refl

pub free_is_quiet : (command : ClientCommand) (word : Option Status) (a : Account) → needs_login command ≡ false → obeyed command word a ≡ a
free_is_quiet Capability word a free = quiet_word word a a refl
free_is_quiet (Noop tag) word a free = quiet_word word a a refl
free_is_quiet Logout word a free = quiet_word word a a refl
free_is_quiet (Authenticate mechanism response) word a free = quiet_word word a a refl
free_is_quiet (Response text) word a free = quiet_word word a a refl
free_is_quiet Unauthenticate word a free = absurd (let no : true ≡ false = free in cc)
free_is_quiet (HaveSpace name size) word a free = absurd (let no : true ≡ false = free in cc)
free_is_quiet (PutScript name script) word a free = absurd (let no : true ≡ false = free in cc)
free_is_quiet (CheckScript text) word a free = absurd (let no : true ≡ false = free in cc)
free_is_quiet ListScripts word a free = absurd (let no : true ≡ false = free in cc)
free_is_quiet (SetActive name) word a free = absurd (let no : true ≡ false = free in cc)
free_is_quiet (GetScript name) word a free = absurd (let no : true ≡ false = free in cc)
free_is_quiet (DeleteScript name) word a free = absurd (let no : true ≡ false = free in cc)
free_is_quiet (RenameScript old new) word a free = absurd (let no : true ≡ false = free in cc)

-- what is answered in a session to a command that needs a login is by the account of the user who is logged in
pub replies_alone : (accounts : Accounts) (c : Client) (user : List ℕ) (command : ClientCommand) (reply : ServerReply) → needs_login command ≡ true → c.user ≡ Some user → RepliesTaken accounts c command reply
    → RepliesAlone (get accounts user) command reply
replies_alone accounts c user Capability reply late has is = absurd (let no : false ≡ true = late in cc)
replies_alone accounts c user (Noop tag) reply late has is = absurd (let no : false ≡ true = late in cc)
replies_alone accounts c user Logout reply late has is = absurd (let no : false ≡ true = late in cc)
replies_alone accounts c user (Authenticate mechanism response) reply late has is = absurd (let no : false ≡ true = late in cc)
replies_alone accounts c user (Response text) reply late has is = absurd (let no : false ≡ true = late in cc)
replies_alone accounts c user Unauthenticate reply late has is = is
replies_alone accounts c user (CheckScript text) reply late has is = is
replies_alone accounts c user (HaveSpace name size) reply late has is = subst (λ o. RepliesOf (account_of accounts o) (HaveSpace name size) reply) has is
replies_alone accounts c user (PutScript name script) reply late has is = subst (λ o. RepliesOf (account_of accounts o) (PutScript name script) reply) has is
replies_alone accounts c user ListScripts reply late has is = subst (λ o. RepliesOf (account_of accounts o) ListScripts reply) has is
replies_alone accounts c user (SetActive name) reply late has is = subst (λ o. RepliesOf (account_of accounts o) (SetActive name) reply) has is
replies_alone accounts c user (GetScript name) reply late has is = subst (λ o. RepliesOf (account_of accounts o) (GetScript name) reply) has is
replies_alone accounts c user (DeleteScript name) reply late has is = subst (λ o. RepliesOf (account_of accounts o) (DeleteScript name) reply) has is
replies_alone accounts c user (RenameScript old new) reply late has is = subst (λ o. RepliesOf (account_of accounts o) (RenameScript old new) reply) has is

-- a command of the user who is logged in, or of another
pub late_alone : (user : List ℕ) (accounts : Accounts) (c : Client) (command : ClientCommand) (octets : List ℕ) (reply : ServerReply) → needs_login command ≡ true
    → RepliesIn accounts c command reply → octets ≡ reply_octets reply
    → ActsInTurn user (get accounts user) (when_of user c.user (Commands command octets)) (get (changed_for c.user (obeyed command reply.word) accounts) user)
late_alone user accounts c command octets reply late is told = go c.user refl
  where
    taken : (name : List ℕ) → c.user ≡ Some name → RepliesTaken accounts c command reply
    taken name has = subst (λ b. MatchBool b (reply ≡ early_reply) (RepliesTaken accounts c command reply)) (ap (λ b. b && is_none c.user) late ∙ ap is_none has) is

    own : (name : List ℕ) → c.user ≡ Some name → user ≡ name → CommandsAlone (get accounts user) command octets (get (with_user accounts name (obeyed command reply.word)) user)
    own name has same =
        let mine : c.user ≡ Some user = has ∙ ap (λ n. Some n) (sym same) in
        record { reply = reply; replies = replies_alone accounts c user command reply late mine (taken user mine); spells = told; changed = ap (λ n. get (with_user accounts n (obeyed command reply.word)) user) (sym same) ∙ changed_own accounts user (obeyed command reply.word) (bytes_eq_refl user) }

    go : (o : Option (List ℕ)) → c.user ≡ o → ActsInTurn user (get accounts user) (when_of user o (Commands command octets)) (get (changed_for o (obeyed command reply.word) accounts) user)
    go None has = refl
    go (Some name) has = by (is_user user name) refl
      where
        by : (b : Bool) → is_user user name ≡ b → ActsInTurn user (get accounts user) (cond b (Commands command octets ∷ []) []) (get (with_user accounts name (obeyed command reply.word)) user)
        by true is = alone_one user (get accounts user) _ (Commands command octets) (own name has (same_name user name is))
        by false is = changed_other accounts user name (obeyed command reply.word) is

-- ---- logins

-- whether a login is answered by the welcome
welcome_is : (who : Option (List ℕ)) (failures : ℕ) → is_welcome (reply_octets (login_reply who failures)) ≡ is_some who
welcome_is (Some user) failures = refl
welcome_is None failures = go (nat_lt failures 2)
  where
    go : (b : Bool) → is_welcome (reply_octets (cond b (negative_reply None (codes "Authentication failed.")) (bye_reply (codes "Too many failures.")))) ≡ false
    go true = refl
    go false = refl

-- whether a login succeeds is whether the account has the password
admitted_is : (login : List ℕ × List ℕ) (account : Option Account) → is_some (checked_by login account) ≡ admits login.1 account
admitted_is login None = refl
admitted_is login (Some a) = go (has_password login.1 a.password)
  where
    go : (b : Bool) → is_some (cond b (Some login.0) None) ≡ b
    go true = refl
    go false = refl

-- a text that decides a login: by whomever it names
text_alone : (user : List ℕ) (accounts : Accounts) (later : Option Account) (text octets : List ℕ) (failures : ℕ) → later ≡ get accounts user → octets ≡ reply_octets (login_reply (admitted accounts text) failures)
    → ActsInTurn user (get accounts user) (text_acts user (Some text) octets) later
text_alone user accounts later text octets failures stays told = go (login_of text) refl
  where
    succeeds : (login : List ℕ × List ℕ) → login_of text ≡ Some login → is_welcome octets ≡ admits login.1 (open_account_of accounts login.0)
    succeeds login has = ap is_welcome told ∙ (welcome_is (admitted accounts text) failures ∙ (ap (λ o. is_some (admitted_by accounts o)) has ∙ admitted_is login (open_account_of accounts login.0)))

    go : (o : Option (List ℕ × List ℕ)) → login_of text ≡ o → ActsInTurn user (get accounts user) (login_acts user o octets) later
    go None has = stays
    go (Some login) has = by (is_user user login.0) refl
      where
        by : (b : Bool) → is_user user login.0 ≡ b → ActsInTurn user (get accounts user) (cond b (LogsIn login.1 (is_welcome octets) ∷ []) []) later
        by true is = alone_one user (get accounts user) later (LogsIn login.1 (is_welcome octets)) (record { says = succeeds login has ∙ ap (λ n. admits login.1 (open_account_of accounts n)) (sym (same_name user login.0 is)); stays = stays })
        by false is = stays

-- a command that needs no login: a login, or nobody's act
pub free_alone : (user : List ℕ) (accounts : Accounts) (later : Option Account) (c : Client) (command : ClientCommand) (octets : List ℕ) (reply : ServerReply) → needs_login command ≡ false → later ≡ get accounts user
    → RepliesTaken accounts c command reply → octets ≡ reply_octets reply → ActsInTurn user (get accounts user) (text_acts user (login_text c.user command) octets) later
free_alone user accounts later c Capability octets reply free stays is told = stays
free_alone user accounts later c (Noop tag) octets reply free stays is told = stays
free_alone user accounts later c Logout octets reply free stays is told = stays
free_alone user accounts later c (Authenticate mechanism None) octets reply free stays is told = stays
free_alone user accounts later c (Authenticate mechanism (Some text)) octets reply free stays is told = go c.user refl
  where
    go : (o : Option (List ℕ)) → c.user ≡ o → ActsInTurn user (get accounts user) (text_acts user (cond (is_none o && is_plain_mechanism mechanism) (Some text) None) octets) later
    go (Some name) has = stays
    go None has = by (is_plain_mechanism mechanism) refl
      where
        by : (b : Bool) → is_plain_mechanism mechanism ≡ b → ActsInTurn user (get accounts user) (text_acts user (cond b (Some text) None) octets) later
        by false odd = stays
        by true plain =
            let same : reply ≡ login_reply (admitted accounts text) c.failures =
            is ∙ (ap (λ o. cond (is_some o) (negative_reply None (codes "Already logged in.")) (cond (not (is_plain_mechanism mechanism)) (negative_reply None (codes "Unknown mechanism.")) (login_reply (admitted accounts text) c.failures))) has
            ∙ ap (λ b. cond (not b) (negative_reply None (codes "Unknown mechanism.")) (login_reply (admitted accounts text) c.failures)) plain) in
            text_alone user accounts later text octets c.failures stays (told ∙ ap reply_octets same)
free_alone user accounts later c (Response text) octets reply free stays is told = go (is_star text) refl
  where
    go : (b : Bool) → is_star text ≡ b → ActsInTurn user (get accounts user) (text_acts user (cond b None (Some text)) octets) later
    go true star = stays
    go false star =
        let same : reply ≡ login_reply (admitted accounts text) c.failures = is ∙ ap (λ b. cond b (negative_reply None (codes "Cancelled.")) (login_reply (admitted accounts text) c.failures)) star in
        text_alone user accounts later text octets c.failures stays (told ∙ ap reply_octets same)
free_alone user accounts later c Unauthenticate octets reply free stays is told = absurd (let no : true ≡ false = free in cc)
free_alone user accounts later c (HaveSpace name size) octets reply free stays is told = absurd (let no : true ≡ false = free in cc)
free_alone user accounts later c (PutScript name script) octets reply free stays is told = absurd (let no : true ≡ false = free in cc)
free_alone user accounts later c (CheckScript text) octets reply free stays is told = absurd (let no : true ≡ false = free in cc)
free_alone user accounts later c ListScripts octets reply free stays is told = absurd (let no : true ≡ false = free in cc)
free_alone user accounts later c (SetActive name) octets reply free stays is told = absurd (let no : true ≡ false = free in cc)
free_alone user accounts later c (GetScript name) octets reply free stays is told = absurd (let no : true ≡ false = free in cc)
free_alone user accounts later c (DeleteScript name) octets reply free stays is told = absurd (let no : true ≡ false = free in cc)
free_alone user accounts later c (RenameScript old new) octets reply free stays is told = absurd (let no : true ≡ false = free in cc)

-- ---- a step

-- a command in a session
command_alone : (user : List ℕ) (accounts later : Accounts) (c d : Client) (command : ClientCommand) (progress : Progress) (octets : List ℕ) → ObeysCommand accounts c command progress octets d later
    → ActsInTurn user (get accounts user) (command_acts user c command octets) (get later user)
command_alone user accounts later c d command progress octets made = subst (λ all. ActsInTurn user (get accounts user) (command_acts user c command octets) (get all user)) (sym made.changed) (go (needs_login command) refl)
  where
    after : Accounts
    after = changed_for c.user (obeyed command made.reply.word) accounts

    go : (b : Bool) → needs_login command ≡ b → ActsInTurn user (get accounts user) (cond b (when_of user c.user (Commands command octets)) (text_acts user (login_text c.user command) octets)) (get after user)
    go true late = late_alone user accounts c command octets made.reply late made.replies made.spelled
    go false free =
        let taken : RepliesTaken accounts c command made.reply = subst (λ b. MatchBool (b && is_none c.user) (made.reply ≡ early_reply) (RepliesTaken accounts c command made.reply)) free made.replies in
        free_alone user accounts (get after user) c command octets made.reply free (changed_quietly accounts user c.user (obeyed command made.reply.word) (λ a. free_is_quiet command made.reply.word a free)) taken made.spelled

pub step_alone : (user : List ℕ) (accounts later : Accounts) (c d : Client) (progress : Progress) (octets : List ℕ) → IsStep accounts c progress octets d later
    → ActsInTurn user (get accounts user) (cond c.closed [] (item_acts user c (item_in c) octets)) (get later user)
step_alone user accounts later c d progress octets made = go c.closed made
  where
    taken : (i : ClientItem) → StepsAt accounts c i progress octets d later → ActsInTurn user (get accounts user) (item_acts user c i octets) (get later user)
    taken item.Need is = ap (λ all. get all user) is.3
    taken (item.Command command used) is = command_alone user accounts later (without_octets used c) d command progress octets is
    taken (item.Bad used) is = ap (λ all. get all user) is.3
    taken item.TooBig is = ap (λ all. get all user) is.3

    go : (b : Bool) → MatchBool b (StepAnswers accounts p.Close [] c progress octets d later) (StepsAt accounts c (item_in c) progress octets d later) → ActsInTurn user (get accounts user) (cond b [] (item_acts user c (item_in c) octets)) (get later user)
    go true is = ap (λ all. get all user) is.3
    go false is = taken (item_in c) is

-- ---- one event

-- an event that touches no account
untouched : (user : List ℕ) (accounts : Accounts) (account : Option Account) (answer : Answer) → account ≡ get accounts user → ActsInTurn user (get accounts user) (cond (is_lost answer) [] []) account
untouched user accounts account answer same = go (is_lost answer)
  where
    go : (b : Bool) → ActsInTurn user (get accounts user) (cond b [] []) account
    go true = same
    go false = same

-- an event of an open session, which changes no account
in_session : (user : List ℕ) (w next : World) (answer : Answer) (o : Option Client) (row : Client → Answer → World → Type 0) → ((c : Client) → row c answer next → next.accounts ≡ w.accounts)
    → InSession w o row answer next → ActsInTurn user (get w.accounts user) (cond (is_lost answer) [] []) (get next.accounts user)
in_session user w next answer None row stays is = untouched user w.accounts (get next.accounts user) answer (ap (λ v. get v.accounts user) is.stays)
in_session user w next answer (Some c) row stays is = untouched user w.accounts (get next.accounts user) answer (ap (λ all. get all user) (stays c is))

-- the events of the accounts
account_alone : (user name : List ℕ) (w next : World) (answer : Answer) (act : UserAct) (later : Accounts) → next ≡ record { accounts = later; sessions = w.sessions }
    → ((is_user user name ≡ false) ⊎ (is_lost answer ≡ true) → get later user ≡ get w.accounts user) → (is_user user name ≡ true → ActsAlone user (get w.accounts user) act (get later user))
    → ActsInTurn user (get w.accounts user) (cond (is_lost answer) [] (when_of user (Some name) act)) (get next.accounts user)
account_alone user name w next answer act later is other own =
    subst (λ o. ActsInTurn user (get w.accounts user) (cond (is_lost answer) [] (when_of user (Some name) act)) o) (sym (ap (λ v. get v.accounts user) is))
    (alone_of user name (is_lost answer) act (get w.accounts user) (get later user) (λ is. other (inl is)) (λ is. other (inr is)) own)

-- a step of an open session
steps_alone : (user : List ℕ) (w next : World) (s : ℕ) (c : Client) (answer : Answer) → StepsSession w s c answer next
    → ActsInTurn user (get w.accounts user) (cond (is_lost answer) [] (step_acts user (Some c) answer)) (get next.accounts user)
steps_alone user w next s c answer made =
    subst (λ a. ActsInTurn user (get w.accounts user) (cond (is_lost a) [] (step_acts user (Some c) a)) (get next.accounts user)) (sym made.says)
    (subst (λ v. ActsInTurn user (get w.accounts user) (cond c.closed [] (item_acts user c (item_in c) made.octets)) (get v.accounts user)) (sym made.changed)
    (step_alone user w.accounts made.accounts c made.client made.goes_on made.octets made.step))

happens_alone : (user : List ℕ) (w next : World) (event : Event) (answer : Answer) → EventHappens w event answer next → ActsInTurn user (get w.accounts user) (acts_in user w event answer) (get next.accounts user)
happens_alone user w next (Open s) answer made = go (get w.sessions s) made
  where
    go : (o : Option Client) → OpensSession w s o answer next → ActsInTurn user (get w.accounts user) (cond (is_lost answer) [] []) (get next.accounts user)
    go None is = untouched user w.accounts (get next.accounts user) answer (ap (λ v. get v.accounts user) is.changed)
    go (Some c) is = untouched user w.accounts (get next.accounts user) answer (ap (λ v. get v.accounts user) is.stays)
happens_alone user w next (Give s piece) answer made = in_session user w next answer (get w.sessions s) _ (λ c is. ap (λ v. v.accounts) is.changed) made
happens_alone user w next (Step s) answer made = go (get w.sessions s) made
  where
    go : (o : Option Client) → InSession w o (StepsSession w s) answer next → ActsInTurn user (get w.accounts user) (cond (is_lost answer) [] (step_acts user o answer)) (get next.accounts user)
    go None is = untouched user w.accounts (get next.accounts user) answer (ap (λ v. get v.accounts user) is.stays)
    go (Some c) is = steps_alone user w next s c answer is
happens_alone user w next (GiveUp s) answer made = in_session user w next answer (get w.sessions s) _ (λ c is. ap (λ v. v.accounts) is.changed) made
happens_alone user w next (Close s) answer made = in_session user w next answer (get w.sessions s) _ (λ c is. ap (λ v. v.accounts) is.changed) made
happens_alone user w next (Deliver name envelope message terms) answer made =
    account_alone user name w next answer (Receives envelope message terms answer) made.0 made.2 (delivery_other user name w.accounts made.0 answer envelope message terms made.1)
    (λ is. delivery_own user w.accounts made.0 answer (bytes_eq_refl user) envelope message terms (subst (λ n. Delivery w.accounts n envelope message terms answer made.0) (sym (same_name user name is)) made.1))
happens_alone user w next (AddUser name address salt password) answer made =
    account_alone user name w next answer (Joins address salt password answer) made.0 made.2 (addition_other user name w.accounts made.0 answer address salt password made.1)
    (λ is. addition_own user w.accounts made.0 answer (bytes_eq_refl user) address salt password (subst (λ n. Addition w.accounts n address salt password answer made.0) (sym (same_name user name is)) made.1))
happens_alone user w next (Import file) answer made =
    account_alone user file.head.owner.name w next answer (IsImported file.head file.parts answer) made.0 made.2 (importing_other user file.head.owner.name w.accounts made.0 answer file.head file.parts refl made.1)
    (λ is. importing_own user w.accounts made.0 answer (bytes_eq_refl user) file.head file.parts (sym (same_name user file.head.owner.name is)) made.1)
happens_alone user w next (TakeOut name id) answer made =
    account_alone user name w next answer (TakesOut id answer) made.0 made.2 (taking_other user name w.accounts made.0 answer id made.1)
    (λ is. taking_own user w.accounts made.0 answer (bytes_eq_refl user) id (subst (λ n. Taking w.accounts n id answer made.0) (sym (same_name user name is)) made.1))
happens_alone user w next (TakeMail name folder) answer made =
    account_alone user name w next answer (TakesMail folder answer) made.0 made.2 (mail_taking_other user name w.accounts made.0 answer folder made.1)
    (λ is. mail_taking_own user w.accounts made.0 answer (bytes_eq_refl user) folder (subst (λ n. MailTaking w.accounts n folder answer made.0) (sym (same_name user name is)) made.1))
happens_alone user w next (DoUpkeep name upkeep) answer made =
    account_alone user name w next answer (IsKept upkeep answer) made.0 made.2 (keeping_other user name w.accounts made.0 answer upkeep made.1)
    (λ is. keeping_own user w.accounts made.0 answer (bytes_eq_refl user) upkeep (subst (λ n. Keeping w.accounts n upkeep answer made.0) (sym (same_name user name is)) made.1))

-- a refusal for memory or by the store is no act
refused_alone_of : (user : List ℕ) (w next : World) (event : Event) (answer : Answer) → IsEventRefused w event answer next → ActsInTurn user (get w.accounts user) (acts_in user w event answer) (get next.accounts user)
refused_alone_of user w next event answer is = subst (λ b. ActsInTurn user (get w.accounts user) (cond b [] (event_acts user w event answer)) (get next.accounts user)) (sym (ap is_lost is.refused ∙ go is.refusal is.may)) (ap (λ v. get v.accounts user) is.stays)
  where
    go : (refusal : Refusal) → MayRefuseEvent w event refusal → is_lost (Refused refusal) ≡ true
    go Memory may = refl
    go Store may = refl
    go NotOurs may = absurd may
    go NoUser may = absurd may
    go TooLarge may = absurd may
    go BadEnvelope may = absurd may
    go BadMoment may = absurd may
    go UserExists may = absurd may
    go BadUser may = absurd may
    go NoRow may = absurd may
    go AccountClosed may = absurd may
    go UserIsOpen may = absurd may
    go UserHasMail may = absurd may
    go BadScriptName may = absurd may
    go ScriptTooLarge may = absurd may
    go TooManyScripts may = absurd may
    go BadAccount may = absurd may

pub next_alone : (user : List ℕ) (w next : World) (event : Event) (answer : Answer) → Next w event answer next → ActsInTurn user (get w.accounts user) (acts_in user w event answer) (get next.accounts user)
next_alone user w next event answer (inl made) = happens_alone user w next event answer made
next_alone user w next event answer (inr refused) = refused_alone_of user w next event answer refused

-- ---- runs

pub projection : (events : List Event) (told : List Answer) (w end : World) (run : Runs w events told end) → IsAlone w events told end run
projection [] [] w end run user = ap (λ v. get v.accounts user) run
projection (event ∷ events) (answer ∷ told) w end run user =
    alone_then user (acts_in user w event answer) (user_acts user run.0 events told end run.2) (get w.accounts user) (get run.0.accounts user) (get end.accounts user) (next_alone user w run.0 event answer run.1)
    (projection events told run.0 end run.2 user)
projection [] (answer ∷ told) w end run user = absurd run
projection (event ∷ events) [] w end run user = absurd run
