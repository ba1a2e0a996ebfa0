-- Sound accounts stay sound, whatever happens to them.
use Rattle.std.proofs.Common.{◌≡◌, ◌≢◌, ◌⊎◌, ℕ, ◌+◌, ◌-◌, ◌<◌, ◌≤◌, Bool, true, false, cond, List, [], ◌∷◌, ◌++◌, drop, Option, Some, None, IsSome, IfSome, MatchBool, option_map, refl, sym, ◌∙◌, ap, subst, inl, inr, arith, true≢false}
use Rattle.std.specs.declared.cmp.Ordering.{Ordering}
use Rattle.std.specs.declared.cmp.Ordering.TheVariants.{Less, Equal, Greater}
use Rattle.std.specs.Ordering.{is_eq}
use Rattle.std.specs.FinMap.{FinMap, empty, get, insert, remove, len, contains_key, get-empty, get-insert, get-remove, len-empty, len-insert, len-remove}
use Rattle.std.proofs.lemmas.Cmp.{nat_list_cmp_total}
use Rattle.sqlite_typed.proofs.TestLemmas.{bytes_eq_refl, same_bytes}
use Rattle.store_text.specs.declared.head.AccountHead.{AccountHead}
use Rattle.store_text.specs.declared.part.Part.{Part}
use Rattle.mail_address.specs.declared.address.Addr.{Addr}
use Rattle.mail_address.specs.Spelling.{address_spelling}
use Rattle.mail_flags.specs.declared.placement.Placement.{Placement}
use Rattle.sieve_exec.specs.Mails.{MailSpec, mail_spec_of}
use Rattle.managesieve_protocol.specs.declared.commands.ClientCommand.{ClientCommand}
use Rattle.managesieve_protocol.specs.declared.commands.ClientCommand.TheVariants.{Capability, Noop, Logout, Authenticate, Unauthenticate, HaveSpace, PutScript, CheckScript, ListScripts, SetActive, GetScript, DeleteScript, RenameScript}
use Rattle.managesieve_protocol.specs.declared.commands.ClientCommand.TheVariants as verb
use Rattle.managesieve_protocol.specs.declared.replies.ServerReply.{ServerReply}
use Rattle.store_accounts.specs.Account.{bytes_cmp, Account, Accounts, Folders, is_closed_account, open_one, has_mail, changes_address, empties, removes, renews, keeps_script, activates, deletes_script, renames_script, moved, other_name, messages_in, holding, filed, filed_in, files_copies, forgets, keeps_moment, keeps_sent, adds_notice_if_any, queues}
use Rattle.store_accounts.specs.declared.reply.ReplyKey.{ReplyKey}
use Rattle.store_tables.specs.declared.queue.QueuedKind.TheVariants as kind
use Rattle.store_accounts.specs.Whole.{whole, takes_whole}
use Rattle.store_accounts.specs.declared.queue.QueuedMessage.{QueuedMessage}
use Rattle.store_accounts.specs.declared.report.Report.{Report}
use Rattle.store_accounts.specs.declared.refusal.Refusal.{Refusal}
use Rattle.store_accounts.proofs.AccountLemmas.{bytes_antisymmetric}
use Rattle.managesieve_sessions.specs.Limits.{scripts_limit, IsScriptName}
use Rattle.managesieve_sessions.specs.Replies.{is_ok}
use Rattle.managesieve_sessions.proofs.ScriptLemmas.{active_not}
use Rattle.managesieve_sessions.specs.Scripts.{is_active, HasRoom, RepliesToPut, RepliesToSet, RepliesToDelete, RepliesToRename, RepliesTo, active_name, carried_out, obeyed}
use Rattle.sieve_plan.specs.Delivered.{Response, Silent, NoRoom, Quiet, Sent, acts, done_of, held_of, redirects, responds}
use Rattle.sieve_plan.specs.Sequences.{Settled, CarriesOutSettled, notice_left, forgotten_unless}
use Rattle.sieve_plan.specs.Sent.{kept_handles, redirect_key, over_keys}
use Rattle.store_engine.specs.declared.event.Event.{Event}
use Rattle.store_engine.specs.declared.answer.Answer.{Answer}
use Rattle.store_engine.specs.Limits.{limit_refusal, IsNewUser, IsOwnAddress}
use Rattle.store_engine.specs.AccountEvents.{MachineRefuses}
use Rattle.store_engine.specs.ScriptEdits.{GivesScriptName, edited, has_script, objection_to}
use Rattle.store_engine.specs.Upkeep.{kept_password, stores, instead}
use Rattle.store_engine.specs.declared.script_edit.ScriptEdit.{ScriptEdit}
use Rattle.store_engine.specs.declared.script_edit.ScriptEdit.TheVariants as change
use Rattle.store_engine.specs.declared.script_edit.ScriptObjection.TheVariants.{NoScript, IsActive, NameTaken}
use Rattle.store_engine.proofs.EditLemmas.{passed, passed_by}
use Rattle.store_engine.proofs.UpkeepLemmas.{LastsThrough, keeps_holds}
use Rattle.store_accounts.specs.declared.refusal.Refusal.TheVariants.{UserExists, UserHasMail}
use Rattle.store_accounts.proofs.StandingLemmas.{open_there}
use Rattle.managesieve_sessions.specs.Table.{RepliesOf}
use Rattle.store_accounts.specs.Account.{row_with}
use Rattle.store_engine.specs.OwnActs as own
use Rattle.store_engine.specs.OwnActs.{UserAct, ActsAlone, ActsInTurn, CommandsAlone, RepliesAlone, ReceivesOpen, ReceivesIn, RenewsAlone, JoinsIn, ReplacesAlone, ImportsIn, TakesRowAlone, TakesOpen, TakesFirstAlone, TakesMailOpen, fresh_account}
use Rattle.store_engine.specs.Sound.{IsSoundScript, IsSoundAccount, AreSound}
use Rattle.store_engine.specs.World.{World, Next, Runs}
use Rattle.store_engine.proofs.AloneLemmas.{next_alone, projection}
use Rattle.store_accounts.proofs.TakingLemmas.{held_get, unless_none}

-- ---- maps

-- what a map has after one more entry is that entry, or was there
pub inserted : {X : Type 0} (m : FinMap bytes_cmp X) (k : List ℕ) (v : X) (q : List ℕ) (x : X) → get (insert m k v) q ≡ Some x → ((q ≡ k) × (v ≡ x)) ⊎ (get m q ≡ Some x)
inserted {X} m k v q x is = go (bytes_cmp q k) refl (sym (get-insert nat_list_cmp_total m k v q) ∙ is)
  where
    go : (o : Ordering) → bytes_cmp q k ≡ o → cond (is_eq o) (Some v) (get m q) ≡ Some x → ((q ≡ k) × (v ≡ x)) ⊎ (get m q ≡ Some x)
    go Less at e = inr e
    go Equal at e = let same : v ≡ x = cc in inl (bytes_antisymmetric q k at, same)
    go Greater at e = inr e

-- what was there is there after one more entry
pub still_there : {X : Type 0} (m : FinMap bytes_cmp X) (k : List ℕ) (v : X) (q : List ℕ) → IsSome (get m q) → IsSome (get (insert m k v) q)
still_there {X} m k v q there = subst IsSome (sym (get-insert nat_list_cmp_total m k v q)) (go (is_eq (bytes_cmp q k)))
  where
    go : (b : Bool) → IsSome (cond b (Some v) (get m q))
    go true = refl
    go false = there

pub few_more : {X : Type 0} (m : FinMap bytes_cmp X) (k : List ℕ) (v : X) (n : ℕ) → IsSome (get m k) ⊎ (len m < n) → len m ≤ n → len (insert m k v) ≤ n
few_more {X} m k v n room few = subst (λ l. l ≤ n) (sym (len-insert nat_list_cmp_total m k v)) (go (contains_key m k) refl room)
  where
    go : (b : Bool) → contains_key m k ≡ b → IsSome (get m k) ⊎ (len m < n) → cond b (len m) (len m + 1) ≤ n
    go true is h = few
    go false is (inl there) = absurd (let no : true ≡ false = sym there ∙ is in cc)
    go false is (inr less) = omega arith

-- what is there without a key was there
removed_was : {X : Type 0} (m : FinMap bytes_cmp X) (k q : List ℕ) (x : X) → get (remove m k) q ≡ Some x → get m q ≡ Some x
removed_was {X} m k q x is = go (is_eq (bytes_cmp q k)) (sym (get-remove nat_list_cmp_total m k q) ∙ is)
  where
    go : (b : Bool) → cond b None (get m q) ≡ Some x → get m q ≡ Some x
    go true told = absurd (let never : None ≡ Some x = told in cc)
    go false told = told

-- and what has another key stays
stays_there : {X : Type 0} (m : FinMap bytes_cmp X) (k q : List ℕ) → (q ≡ k → ⊥) → IsSome (get m q) → IsSome (get (remove m k) q)
stays_there {X} m k q other there = subst IsSome (sym (get-remove nat_list_cmp_total m k q)) (go (is_eq (bytes_cmp q k)) refl)
  where
    go : (b : Bool) → is_eq (bytes_cmp q k) ≡ b → IsSome (cond b None (get m q))
    go true same = absurd (other (same_bytes q k same))
    go false apart = there

fewer_less : {X : Type 0} (m : FinMap bytes_cmp X) (k : List ℕ) (n : ℕ) → len m ≤ n → len (remove m k) ≤ n
fewer_less {X} m k n few = subst (λ l. l ≤ n) (sym (len-remove nat_list_cmp_total m k)) (go (contains_key m k))
  where
    go : (b : Bool) → cond b (len m - 1) (len m) ≤ n
    go true = omega arith
    go false = few

-- an entry under another key in place of one that is there
moved_few : {X : Type 0} (m : FinMap bytes_cmp X) (k j : List ℕ) (v : X) (n : ℕ) → IsSome (get m k) → 1 ≤ n → len m ≤ n → len (insert (remove m k) j v) ≤ n
moved_few {X} m k j v n there some few = subst (λ l. l ≤ n) (sym (len-insert nat_list_cmp_total (remove m k) j v)) (go (contains_key (remove m k) j))
  where
    less : len (remove m k) ≡ len m - 1
    less = len-remove nat_list_cmp_total m k ∙ ap (λ b. cond b (len m - 1) (len m)) there

    go : (b : Bool) → cond b (len (remove m k)) (len (remove m k) + 1) ≤ n
    go true = omega (arith, less)
    go false = omega (arith, less)

-- ---- one account

not_empty : {X : Type 0} (xs : List X) (x : X) → xs ++ x ∷ [] ≡ [] → ⊥
not_empty [] x e = cc
not_empty (y ∷ ys) x e = cc

-- where no folder is empty, none is after a message has joined one
pub filled_one : (folders : Folders) (name message : List ℕ) → ((f : List ℕ) → get folders f ≢ Some []) → (f : List ℕ) → get (filed folders name message) f ≢ Some []
filled_one folders name message full f is = go (inserted folders name (messages_in folders name ++ message ∷ []) f [] is)
  where
    go : ((f ≡ name) × (messages_in folders name ++ message ∷ [] ≡ [])) ⊎ (get folders f ≡ Some []) → ⊥
    go (inl new) = not_empty (messages_in folders name) message new.1
    go (inr old) = full f old

-- nor after it has joined some
filled_in : (what : Placement → List ℕ) (copies : List Placement) (folders : Folders) → ((f : List ℕ) → get folders f ≢ Some []) → (f : List ℕ) → get (filed_in what folders copies) f ≢ Some []
filled_in what [] folders full = full
filled_in what (copy ∷ copies) folders full = filled_in what copies (filed folders copy.mailbox (what copy)) (filled_one folders copy.mailbox (what copy) full)

module _ (a : Account) (own : IsSoundAccount a) where
  pub sound_filed : (message : List ℕ) (copies : List Placement) → IsSoundAccount (files_copies copies message a)
  sound_filed message copies = record { address = own.address; scripts = own.scripts; few = own.few; active = own.active; filled = filled_in (λ copy. message) copies a.folders own.filled }

  pub sound_put : (name text : List ℕ) → IsSoundScript name text → HasRoom a name → IsSoundAccount (keeps_script name text a)
  sound_put name text new room = record {
    address = own.address;
    scripts = λ n t is. each n t (inserted a.scripts name text n t is);
    few = few_more a.scripts name text scripts_limit room own.few;
    active = still a.active own.active;
    filled = own.filled;
  }
    where
      each : (n t : List ℕ) → ((n ≡ name) × (text ≡ t)) ⊎ (get a.scripts n ≡ Some t) → IsSoundScript n t
      each n t (inl is) = subst (λ m. IsSoundScript m t) (sym is.0) (subst (IsSoundScript name) is.1 new)
      each n t (inr old) = own.scripts n t old

      still : (o : Option (List ℕ)) → IfSome o (λ n. IsSome (get a.scripts n)) → IfSome o (λ n. IsSome (get (insert a.scripts name text) n))
      still None h = tt
      still (Some n) h = still_there a.scripts name text n h

  pub sound_set : (name : List ℕ) → (name ≡ []) ⊎ IsSome (get a.scripts name) → IsSoundAccount (activates (active_name name) a)
  sound_set name known = record { address = own.address; scripts = own.scripts; few = own.few; active = there name known; filled = own.filled }
    where
      there : (n : List ℕ) → (n ≡ []) ⊎ IsSome (get a.scripts n) → IfSome (active_name n) (λ m. IsSome (get a.scripts m))
      there [] h = tt
      there (octet ∷ rest) (inl none) = absurd (let no = none in cc)
      there (octet ∷ rest) (inr h) = h

  -- a script that isn't the active one is gone
  pub sound_deleted : (name : List ℕ) → (a.active ≡ Some name → ⊥) → IsSoundAccount (deletes_script name a)
  sound_deleted name idle = record {
    address = own.address;
    scripts = λ n t is. own.scripts n t (removed_was a.scripts name n t is);
    few = fewer_less a.scripts name scripts_limit own.few;
    active = still a.active refl own.active;
    filled = own.filled;
  }
    where
      still : (o : Option (List ℕ)) → a.active ≡ o → IfSome o (λ n. IsSome (get a.scripts n)) → IfSome o (λ n. IsSome (get (remove a.scripts name) n))
      still None is h = tt
      still (Some n) is h = stays_there a.scripts name n (λ same. idle (is ∙ ap (λ m. Some m) same)) h

  -- a script has another name, which was free
  pub sound_renamed : (name other : List ℕ) → IsScriptName other → IsSome (get a.scripts name) → (IsSome (get a.scripts other) → ⊥) → IsSoundAccount (renames_script name other a)
  sound_renamed name other named there free = go (get a.scripts name) refl there
    where
      go : (o : Option (List ℕ)) → get a.scripts name ≡ o → IsSome o → IsSoundAccount (record a { scripts = moved a.scripts name other o; active = option_map (other_name name other) a.active })
      go None has some = absurd (let no_text = some in cc)
      go (Some text) has some = record {
        address = own.address;
        scripts = λ n t is. each n t (inserted (remove a.scripts name) other text n t is);
        few = moved_few a.scripts name other text scripts_limit (subst IsSome (sym has) some) (omega arith) own.few;
        active = still a.active refl own.active;
        filled = own.filled;
      }
        where
          old : IsSoundScript name text
          old = own.scripts name text has

          each : (n t : List ℕ) → ((n ≡ other) × (text ≡ t)) ⊎ (get (remove a.scripts name) n ≡ Some t) → IsSoundScript n t
          each n t (inl is) = subst (λ m. IsSoundScript m t) (sym is.0) (subst (IsSoundScript other) is.1 (record { named = named; short = old.short; valid = old.valid }))
          each n t (inr was) = own.scripts n t (removed_was a.scripts name n t was)

          still : (o : Option (List ℕ)) → a.active ≡ o → IfSome o (λ n. IsSome (get a.scripts n)) → IfSome (option_map (other_name name other) o) (λ n. IsSome (get (insert (remove a.scripts name) other text) n))
          still None is h = tt
          still (Some n) is h = by (is_eq (bytes_cmp n name)) refl
            where
              by : (b : Bool) → is_eq (bytes_cmp n name) ≡ b → IsSome (get (insert (remove a.scripts name) other text) (cond b other n))
              by true same = subst IsSome (sym (get-insert nat_list_cmp_total (remove a.scripts name) other text other ∙ ap (λ e. cond e (Some text) (get (remove a.scripts name) other)) (bytes_eq_refl other))) refl
              by false apart = still_there (remove a.scripts name) other text n (stays_there a.scripts name n (λ same. true≢false (sym (ap (λ m. is_eq (bytes_cmp m name)) same ∙ bytes_eq_refl name) ∙ apart)) h)

-- ---- one command

-- a reply that declines isn't OK
declined_no : {P : Type 0} (reply other : ServerReply) → is_ok reply.word ≡ true → is_ok other.word ≡ false → reply ≡ other → P
declined_no reply other ok declined is = absurd (true≢false (sym ok ∙ (ap (λ (r : ServerReply). is_ok r.word) is ∙ declined)))

module _ (a : Account) (own : IsSoundAccount a) (reply : ServerReply) (ok : is_ok reply.word ≡ true) where
  put_obeyed : (name text : List ℕ) → RepliesToPut a name text reply → IsSoundAccount (keeps_script name text a)
  put_obeyed name text (inl (named, inl (short, inl (room, inl (valid, is))))) = sound_put a own name text (record { named = named; short = short; valid = valid }) room
  put_obeyed name text (inl (named, inl (short, inl (room, inr (none, fault))))) = declined_no reply _ ok refl fault.4
  put_obeyed name text (inl (named, inl (short, inr (many, is)))) = declined_no reply _ ok refl is
  put_obeyed name text (inl (named, inr (long, is))) = declined_no reply _ ok refl is
  put_obeyed name text (inr (other, is)) = declined_no reply _ ok refl is

  set_obeyed : (name : List ℕ) → RepliesToSet a name reply → IsSoundAccount (activates (active_name name) a)
  set_obeyed name (inl (known, is)) = sound_set a own name known
  set_obeyed name (inr (unknown, is)) = declined_no reply _ ok refl is

  delete_obeyed : (name : List ℕ) → RepliesToDelete a name reply → IsSoundAccount (deletes_script name a)
  delete_obeyed name (inl (there, inl (active, is))) = declined_no reply _ ok refl is
  delete_obeyed name (inl (there, inr (idle, is))) = sound_deleted a own name idle
  delete_obeyed name (inr (unknown, is)) = declined_no reply _ ok refl is

  rename_obeyed : (old new : List ℕ) → RepliesToRename a old new reply → IsSoundAccount (renames_script old new a)
  rename_obeyed old new (inl (there, inl (named, inl (taken, is)))) = declined_no reply _ ok refl is
  rename_obeyed old new (inl (there, inl (named, inr (free, is)))) = sound_renamed a own old new named there free
  rename_obeyed old new (inl (there, inr (bad, is))) = declined_no reply _ ok refl is
  rename_obeyed old new (inr (unknown, is)) = declined_no reply _ ok refl is

  carried_sound : (command : ClientCommand) → RepliesTo a command reply → IsSoundAccount (carried_out command a)
  carried_sound Capability h = absurd h
  carried_sound (Noop tag) h = absurd h
  carried_sound Logout h = absurd h
  carried_sound (Authenticate mechanism response) h = absurd h
  carried_sound (verb.Response text) h = absurd h
  carried_sound Unauthenticate h = absurd h
  carried_sound (HaveSpace name size) h = own
  carried_sound (PutScript name text) h = put_obeyed name text h
  carried_sound (CheckScript text) h = absurd h
  carried_sound ListScripts h = own
  carried_sound (SetActive name) h = set_obeyed name h
  carried_sound (GetScript name) h = own
  carried_sound (DeleteScript name) h = delete_obeyed name h
  carried_sound (RenameScript old new) h = rename_obeyed old new h

pub sound_obeyed : (a : Account) → IsSoundAccount a → (command : ClientCommand) (reply : ServerReply) → RepliesTo a command reply → IsSoundAccount (obeyed command reply.word a)
sound_obeyed a own command reply told = go (is_ok reply.word) refl
  where
    go : (b : Bool) → is_ok reply.word ≡ b → IsSoundAccount (cond b (carried_out command a) a)
    go true ok = carried_sound a own reply ok command told
    go false ok = own

-- ---- one delivery

-- redirects and answers leave all that soundness is about
redirects_sound : (mail : MailSpec) (targets : List Addr) (a : Account) → IsSoundAccount a → IsSoundAccount (redirects mail targets a)
redirects_sound mail [] a own = own
redirects_sound mail (target ∷ more) a own =
    redirects_sound mail more (queues kind.Redirect mail.from (address_spelling target) mail.octets a) (record { address = own.address; scripts = own.scripts; few = own.few; active = own.active; filled = own.filled })

responds_sound : (mail : MailSpec) (response : Response) (a : Account) → IsSoundAccount a → IsSoundAccount (responds mail response a)
responds_sound mail Silent a own = own
responds_sound mail NoRoom a own = own
responds_sound mail (Quiet reason) a own = own
responds_sound mail (Sent key octets kept) a own = record { address = own.address; scripts = own.scripts; few = own.few; active = own.active; filled = own.filled }

-- so does what is remembered and forgotten, and a notice
forgets_sound : (over : List ReplyKey) (a : Account) → IsSoundAccount a → IsSoundAccount (forgets over a)
forgets_sound over a own = record { address = own.address; scripts = own.scripts; few = own.few; active = own.active; filled = own.filled }

keeps_sound : (message : List ℕ) (moment : ℕ) (handles : List (List ℕ)) (a : Account) → IsSoundAccount a → IsSoundAccount (keeps_sent message moment handles a)
keeps_sound message moment [] a own = own
keeps_sound message moment (handle ∷ more) a own =
    keeps_sound message moment more (keeps_moment (handle, message) moment a) (record { address = own.address; scripts = own.scripts; few = own.few; active = own.active; filled = own.filled })

notes_sound : (moment : ℕ) (held : Option (List ℕ)) (a : Account) → IsSoundAccount a → IsSoundAccount (adds_notice_if_any moment held a)
notes_sound moment None a own = own
notes_sound moment (Some text) a own = record { address = own.address; scripts = own.scripts; few = own.few; active = own.active; filled = own.filled }

delivers_sound : (addr : Addr) (moment : ℕ) (mail : MailSpec) (settled : Settled) (a a2 : Account) (report : Report) → IsSoundAccount a → CarriesOutSettled addr moment mail settled a report a2 → IsSoundAccount a2
delivers_sound addr moment mail settled a a2 report own is =
    let done = done_of a mail settled.deeds in
    let over = forgotten_unless settled.notice (over_keys a moment) in
    let sent = redirects mail done.sent (files_copies done.filed mail.octets a) in
    subst IsSoundAccount (sym is.changed)
    (notes_sound moment (notice_left settled.notice (held_of a mail settled.deeds)) (responds mail is.response (acts mail done over a))
    (responds_sound mail is.response (acts mail done over a)
    (keeps_sound (redirect_key mail) mail.moment (kept_handles mail done.sent) (forgets over sent)
    (forgets_sound over sent (redirects_sound mail done.sent (files_copies done.filed mail.octets a) (sound_filed a own mail.octets done.filed))))))

-- ---- the acts of one user

-- an account without scripts and folders
sound_bare : (address : List ℕ) (a : Account) → IsOwnAddress address → IsSoundAccount (changes_address address (empties a))
sound_bare address a own = record {
  address = own;
  scripts = λ script text is. absurd (none_some text (sym (get-empty bytes_cmp script) ∙ is));
  few = let none : len (empties a).scripts ≡ 0 = len-empty bytes_cmp (List ℕ) in omega arith;
  active = tt;
  filled = λ folder is. none_some {X = List (List ℕ)} [] (sym (get-empty bytes_cmp folder) ∙ is);
}
  where
    none_some : {X : Type 0} (x : X) → None ≡ Some x → ⊥
    none_some x is = cc

-- an account that was just added, or opened anew, and one that was removed
sound_fresh : (name address salt password : List ℕ) → IsNewUser name address password → IsSoundAccount (fresh_account address salt password)
sound_fresh name address salt password new =
    let bare = sound_bare address (fresh_account address salt password) new.addressed in
    record { address = bare.address; scripts = bare.scripts; few = bare.few; active = bare.active; filled = bare.filled }

sound_renewed : (name address salt password : List ℕ) (a : Account) → IsNewUser name address password → IsSoundAccount (renews address (kept_password salt password) a)
sound_renewed name address salt password a new =
    let bare = sound_bare address a new.addressed in
    record { address = bare.address; scripts = bare.scripts; few = bare.few; active = bare.active; filled = bare.filled }

-- an account of a text, over moments of replies that are there
sound_replaced : (head : AccountHead) (parts : List Part) (a : Account) → IsSoundAccount (whole head parts empty) → IsSoundAccount (takes_whole head parts a)
sound_replaced head parts a own = record { address = own.address; scripts = own.scripts; few = own.few; active = own.active; filled = own.filled }

sound_removed : (a : Account) → IsSoundAccount a → IsSoundAccount (removes a)
sound_removed a own =
    let bare = sound_bare a.address a own.address in
    record { address = bare.address; scripts = bare.scripts; few = bare.few; active = bare.active; filled = bare.filled }

-- and whatever else an administrator makes of one
sound_stored : (a : Account) → IsSoundAccount a → (name text : List ℕ) → IsSoundScript name text → HasRoom a name → (activate : Bool) → IsSoundAccount (stores name text activate a)
sound_stored a own name text new room true =
    let put = sound_put a own name text new room in
    record { address = put.address; scripts = put.scripts; few = put.few; active = there; filled = put.filled }
  where
    there : IsSome (get (insert a.scripts name text) name)
    there = subst IsSome (sym (get-insert nat_list_cmp_total a.scripts name text name ∙ ap (λ b. cond b (Some text) (get a.scripts name)) (bytes_eq_refl name))) refl
sound_stored a own name text new room false = sound_put a own name text new room

sound_edited : (a : Account) → IsSoundAccount a → (edit : ScriptEdit) → GivesScriptName edit → objection_to edit a ≡ None → IsSoundAccount (edited edit a)
sound_edited a own (change.Activate name) named free = record {
  address = own.address;
  scripts = own.scripts;
  few = own.few;
  active = (passed (has_script a name) None NoScript free).0;
  filled = own.filled;
}
sound_edited a own change.Deactivate named free = record { address = own.address; scripts = own.scripts; few = own.few; active = tt; filled = own.filled }
sound_edited a own (change.Delete name) named free =
    let idle = passed_by (is_active a.active name) IsActive (passed (has_script a name) (cond (is_active a.active name) (Some IsActive) None) NoScript free).1 in
    sound_deleted a own name (active_not a.active name idle)
sound_edited a own (change.Rename name other) named free =
    let tests = passed (has_script a name) (cond (has_script a other) (Some NameTaken) None) NoScript free in
    sound_renamed a own name other named tests.0 (λ there. true≢false (sym there ∙ passed_by (has_script a other) NameTaken tests.1))

sound_lasts : LastsThrough IsSoundAccount
sound_lasts = record {
  guarded = λ a password own. record { address = own.address; scripts = own.scripts; few = own.few; active = own.active; filled = own.filled };
  addressed = λ a address new own. record { address = new; scripts = own.scripts; few = own.few; active = own.active; filled = own.filled };
  stored = λ a name text activate named short valid room own. sound_stored a own name text (record { named = named; short = short; valid = valid }) room activate;
  edits = λ a edit named free own. sound_edited a own edit named free;
  counted = λ a rounds own. record { address = own.address; scripts = own.scripts; few = own.few; active = own.active; filled = own.filled };
  removed = λ a own. sound_removed a own;
  noticed = λ a until own. record { address = own.address; scripts = own.scripts; few = own.few; active = own.active; filled = own.filled };
}

commands_sound : (account later : Option Account) (command : ClientCommand) (octets : List ℕ) → IfSome account IsSoundAccount → CommandsAlone account command octets later → IfSome later IsSoundAccount
commands_sound account later command octets own is = subst (λ o. IfSome o IsSoundAccount) (sym is.changed) (go account command own is.replies)
  where
    -- to an account that is closed the command is early, and changes nothing
    shown : (a : Account) → IsSoundAccount a → (c : ClientCommand) (closed : Bool) → RepliesOf (cond closed None (Some a)) c is.reply → IsSoundAccount (obeyed c is.reply.word a)
    shown a sound c true told = subst (λ (r : ServerReply). IsSoundAccount (obeyed c r.word a)) (sym told) sound
    shown a sound c false told = sound_obeyed a sound c is.reply told

    go : (o : Option Account) (c : ClientCommand) → IfSome o IsSoundAccount → RepliesAlone o c is.reply → IfSome (option_map (obeyed c is.reply.word) o) IsSoundAccount
    go None c sound told = tt
    go (Some a) Unauthenticate sound told = quiet (is_ok is.reply.word)
      where
        quiet : (b : Bool) → IsSoundAccount (cond b a a)
        quiet true = sound
        quiet false = sound
    go (Some a) (CheckScript text) sound told = quiet (is_ok is.reply.word)
      where
        quiet : (b : Bool) → IsSoundAccount (cond b a a)
        quiet true = sound
        quiet false = sound
    go (Some a) Capability sound told = shown a sound Capability (is_closed_account a) told
    go (Some a) (Noop tag) sound told = shown a sound (Noop tag) (is_closed_account a) told
    go (Some a) Logout sound told = shown a sound Logout (is_closed_account a) told
    go (Some a) (Authenticate mechanism response) sound told = shown a sound (Authenticate mechanism response) (is_closed_account a) told
    go (Some a) (verb.Response text) sound told = shown a sound (verb.Response text) (is_closed_account a) told
    go (Some a) (HaveSpace name size) sound told = shown a sound (HaveSpace name size) (is_closed_account a) told
    go (Some a) (PutScript name text) sound told = shown a sound (PutScript name text) (is_closed_account a) told
    go (Some a) ListScripts sound told = shown a sound ListScripts (is_closed_account a) told
    go (Some a) (SetActive name) sound told = shown a sound (SetActive name) (is_closed_account a) told
    go (Some a) (GetScript name) sound told = shown a sound (GetScript name) (is_closed_account a) told
    go (Some a) (DeleteScript name) sound told = shown a sound (DeleteScript name) (is_closed_account a) told
    go (Some a) (RenameScript old new) sound told = shown a sound (RenameScript old new) (is_closed_account a) told

-- a folder that keeps no message goes
filled_left : (folder : List ℕ) (left : List (List ℕ)) (folders : Folders) → ((f : List ℕ) → get folders f ≢ Some []) → (f : List ℕ) → get (holding folders folder left) f ≢ Some []
filled_left folder left folders full f is = go (is_eq (bytes_cmp f folder)) (sym (held_get folders folder left f) ∙ is)
  where
    some : (xs : List (List ℕ)) → unless_none xs ≡ Some [] → ⊥
    some [] e = let no = e in cc
    some (x ∷ xs) e = let no : x ∷ xs ≡ [] = cc in let never = no in cc

    go : (b : Bool) → cond b (unless_none left) (get folders f) ≡ Some [] → ⊥
    go true e = some left e
    go false e = full f e

act_sound : (user : List ℕ) (account later : Option Account) (act : UserAct) → IfSome account IsSoundAccount → ActsAlone user account act later → IfSome later IsSoundAccount
act_sound user account later (own.Commands command octets) sound is = commands_sound account later command octets sound is
act_sound user account later (own.LogsIn password succeeds) sound is = subst (λ o. IfSome o IsSoundAccount) (sym is.stays) sound
act_sound user account later (own.Receives envelope message terms answer) sound is = go (limit_refusal envelope message terms.when.moment) account sound is
  where
    go : (o : Option Refusal) (account : Option Account) → IfSome account IsSoundAccount → ReceivesIn o account envelope message terms answer later → IfSome later IsSoundAccount
    go (Some refusal) account sound is = subst (λ o. IfSome o IsSoundAccount) (sym is.stays) sound
    go None account sound is = opened (open_one account) refl is
      where
        opened : (o : Option Account) → open_one account ≡ o → ReceivesOpen account o envelope message terms answer later → IfSome later IsSoundAccount
        opened None none is = subst (λ o. IfSome o IsSoundAccount) (sym is.stays) sound
        opened (Some a) has is =
            subst (λ o. IfSome o IsSoundAccount) (sym is.changed)
            (delivers_sound is.delivers.own terms.when.moment (mail_spec_of message envelope terms.when) is.delivers.delivers.settled a is.after is.report (subst (λ o. IfSome o IsSoundAccount) (open_there account a has) sound) is.delivers.delivers.delivers)
act_sound user account later (own.Joins address salt password answer) sound (inl (new, is)) = go account sound is
  where
    over : (a : Account) → IsSoundAccount a → (closed full : Bool) → MatchBool closed (MatchBool full (MachineRefuses UserHasMail (Some a) answer later) (RenewsAlone a address salt password answer later)) (MachineRefuses UserExists (Some a) answer later) → IfSome later IsSoundAccount
    over a sound true true is = subst (λ o. IfSome o IsSoundAccount) (sym is.stays) sound
    over a sound true false is = subst (λ o. IfSome o IsSoundAccount) (sym is.changed) (sound_renewed user address salt password a new)
    over a sound false full is = subst (λ o. IfSome o IsSoundAccount) (sym is.stays) sound

    go : (account : Option Account) → IfSome account IsSoundAccount → JoinsIn account address salt password answer later → IfSome later IsSoundAccount
    go None sound is = subst (λ o. IfSome o IsSoundAccount) (sym is.changed) (sound_fresh user address salt password new)
    go (Some a) sound is = over a sound (is_closed_account a) (has_mail a) is
act_sound user account later (own.Joins address salt password answer) sound (inr (bad, is)) = subst (λ o. IfSome o IsSoundAccount) (sym is.stays) sound
act_sound user account later (own.IsImported head parts answer) sound (inl (fit, is)) = go account sound is
  where
    over : (a : Account) → IsSoundAccount a → (closed full : Bool) → MatchBool closed (MatchBool full (MachineRefuses UserHasMail (Some a) answer later) (ReplacesAlone a head parts answer later)) (MachineRefuses UserExists (Some a) answer later) → IfSome later IsSoundAccount
    over a sound true true is = subst (λ o. IfSome o IsSoundAccount) (sym is.stays) sound
    over a sound true false is = subst (λ o. IfSome o IsSoundAccount) (sym is.changed) (sound_replaced head parts a fit.sound)
    over a sound false full is = subst (λ o. IfSome o IsSoundAccount) (sym is.stays) sound

    go : (account : Option Account) → IfSome account IsSoundAccount → ImportsIn account head parts answer later → IfSome later IsSoundAccount
    go None sound is = subst (λ o. IfSome o IsSoundAccount) (sym is.changed) fit.sound
    go (Some a) sound is = over a sound (is_closed_account a) (has_mail a) is
act_sound user account later (own.IsImported head parts answer) sound (inr (bad, is)) = subst (λ o. IfSome o IsSoundAccount) (sym is.stays) sound
act_sound user account later (own.TakesOut id answer) sound is = go (open_one account) refl is
  where
    row : (a : Account) (o : Option QueuedMessage) → IsSoundAccount a → TakesRowAlone a o answer later → IfSome later IsSoundAccount
    row a None sound is = subst (λ o. IfSome o IsSoundAccount) (sym is.stays) sound
    row a (Some out) sound is = subst (λ o. IfSome o IsSoundAccount) (sym is.changed) (record { address = sound.address; scripts = sound.scripts; few = sound.few; active = sound.active; filled = sound.filled })

    go : (o : Option Account) → open_one account ≡ o → TakesOpen account o id answer later → IfSome later IsSoundAccount
    go None none is = subst (λ o. IfSome o IsSoundAccount) (sym is.stays) sound
    go (Some a) has is = row a (row_with id a.queue) (subst (λ o. IfSome o IsSoundAccount) (open_there account a has) sound) is
act_sound user account later (own.TakesMail folder answer) sound is = go (open_one account) refl is
  where
    row : (a : Account) (messages : List (List ℕ)) → IsSoundAccount a → TakesFirstAlone a folder messages answer later → IfSome later IsSoundAccount
    row a [] sound is = subst (λ o. IfSome o IsSoundAccount) (sym is.stays) sound
    row a (message ∷ more) sound is =
        subst (λ o. IfSome o IsSoundAccount) (sym is.changed)
        (record { address = sound.address; scripts = sound.scripts; few = sound.few; active = sound.active; filled = filled_left folder (drop 1 (messages_in a.folders folder)) a.folders sound.filled })

    go : (o : Option Account) → open_one account ≡ o → TakesMailOpen account o folder answer later → IfSome later IsSoundAccount
    go None none is = subst (λ o. IfSome o IsSoundAccount) (sym is.stays) sound
    go (Some a) has is = row a (messages_in a.folders folder) (subst (λ o. IfSome o IsSoundAccount) (open_there account a has) sound) is
act_sound user account later (own.IsKept upkeep answer) sound (change, keeps, is) = subst (λ o. IfSome o IsSoundAccount) (sym is) (go change (keeps_holds IsSoundAccount sound_lasts answer change upkeep account sound keeps))
  where
    go : (o : Option Account) → IfSome o IsSoundAccount → IfSome (instead o account) IsSoundAccount
    go None holds = sound
    go (Some b) holds = holds

alone_sound : (user : List ℕ) (acts : List UserAct) (account end : Option Account) → IfSome account IsSoundAccount → ActsInTurn user account acts end → IfSome end IsSoundAccount
alone_sound user [] account end sound is = subst (λ o. IfSome o IsSoundAccount) (sym is) sound
alone_sound user (act ∷ more) account end sound is = alone_sound user more is.0 end (act_sound user account is.0 act sound is.1) is.2

-- ---- the machine

sound_at : (accounts : Accounts) (user : List ℕ) → AreSound accounts → IfSome (get accounts user) IsSoundAccount
sound_at accounts user sound = go (get accounts user) refl
  where
    go : (o : Option Account) → get accounts user ≡ o → IfSome o IsSoundAccount
    go None is = tt
    go (Some a) is = sound user a is

-- an event keeps accounts sound: each user's by the user's own acts
pub next_sound : (w next : World) (event : Event) (answer : Answer) → AreSound w.accounts → Next w event answer next → AreSound next.accounts
next_sound w next event answer sound step user a is =
    subst (λ o. IfSome o IsSoundAccount) is (alone_sound user (own.acts_in user w event answer) (get w.accounts user) (get next.accounts user) (sound_at w.accounts user sound) (next_alone user w next event answer step))

-- and so do events in turn
pub runs_sound : (events : List Event) (told : List Answer) (w end : World) → AreSound w.accounts → Runs w events told end → AreSound end.accounts
runs_sound events told w end sound run user a is =
    subst (λ o. IfSome o IsSoundAccount) is (alone_sound user (own.user_acts user w events told end run) (get w.accounts user) (get end.accounts user) (sound_at w.accounts user sound) (projection events told w end run user))
