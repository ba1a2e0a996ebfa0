-- The events of accounts on small cases: what is right, and beside it what nearly is.
use Rattle.std.proofs.Common.{◌≡◌, ℕ, true, false, cond, List, [], ◌∷◌, codes, Some, None, MatchBool, refl, sym, ap, ◌∙◌, subst, inl, inr, Option, pos, rules}
use Rattle.std.proofs.lemmas.Int.{ints}
use Rattle.std.specs.FinMap.{get, insert, get-empty}
use Rattle.mail_address.specs.declared.address.Addr.{Addr}
use Rattle.mail_address.specs.Outbound.{IsBareAddress}
use Rattle.sasl_plain.specs.Password.{digest_of}
use Rattle.sieve_syntax.specs.RunState.{inbox}
use Rattle.sieve_exec.specs.Mails.{mail_spec_of}
use Rattle.sieve_exec.specs.declared.envelope.Envelope.{Envelope}
use Rattle.store_accounts.specs.Account.{bytes_cmp, Account, Accounts, no_accounts, is_closed_account, open_one, open_account_of, has_mail, files_copies, forgets, new_user, with_user, takes_out}
use Rattle.store_tables.specs.declared.queue.QueuedKind.TheVariants.{Redirect}
use Rattle.store_accounts.specs.declared.queue.QueuedMessage.{QueuedMessage}
use Rattle.store_accounts.specs.declared.refusal.Refusal.TheVariants.{NoUser, BadMoment, UserExists, UserHasMail, BadUser, NoRow}
use Rattle.sieve_plan.specs.Sent.{over_keys}
use Rattle.sieve_plan.specs.Delivered.{kept, Silent, report_of, unflagged_copy}
use Rattle.sieve_plan.specs.Sequences.{no_host_scripts, settled_well}
use Rattle.sieve_plan.proofs.PlanLemmas.{none_goes, none_told}
use Rattle.store_engine.specs.declared.answer.Answer.{Answer}
use Rattle.store_engine.specs.declared.answer.Answer.TheVariants.{Delivered, Added, Taken, Refused}
use Rattle.store_engine.specs.Limits.{IsNewUser}
use Rattle.store_accounts.specs.Account.{row_with}
use Rattle.store_engine.specs.AccountEvents.{MachineRefuses, Renews, absence, active_text, script_or_default, deciding_text, DeliversIn, Delivery, AddsUnder, Addition, TakesFromQueue, TakesQueueRow, Taking}
use Rattle.mail_dates.specs.declared.host_zone.HostZone.TheVariants.{Always}
use Rattle.store_engine.specs.declared.terms.HostSettings.{HostSettings}
use Rattle.store_engine.specs.declared.terms.Terms.{Terms}
use Rattle.store_engine.proofs.AloneLemmas.{put_own, put_other, delivery_other}

abbrev pub alice : List ℕ
alice = codes "alice"

abbrev pub bob : List ℕ
bob = codes "bob"

abbrev pub envelope : Envelope
envelope = record { from = codes "bob@example.net"; to = codes "alice@example.org" }

abbrev pub message : List ℕ
message = codes "Hi"

abbrev row : ℕ → QueuedMessage
row id = record { id = id; kind = Redirect; sender = codes "bob@example.net"; target = codes "carol@example.com"; message = message }

-- a host in UTC, without scripts of its own
abbrev pub in_utc : HostSettings
in_utc = record { zone = Always (record { minutes = pos 0; within = (search (rules, ints), search (rules, ints)) }); default = None; scripts = no_host_scripts }

-- the fifth second of 1970 there, and one past the year 9999
abbrev pub at_five : Terms
at_five = record { when = record { moment = 5; zone = pos 0; within = (search (rules, ints), search (rules, ints)) }; host = in_utc }

abbrev too_late : Terms
too_late = record { when = record { moment = 253402300800; zone = pos 0; within = (search (rules, ints), search (rules, ints)) }; host = in_utc }

-- where no script is active the host's default decides, and where none is there nothing does
default_decides : (a : Account) (default : Option (List ℕ)) → a.active ≡ None → deciding_text default a ≡ default
default_decides a default none = rw none refl

-- an active script decides, whatever the default is
active_decides : (a : Account) (default : Option (List ℕ)) (text : List ℕ) → active_text a ≡ Some text → deciding_text default a ≡ Some text
active_decides a default text has = ap (λ o. script_or_default o default) has

-- near miss: the default decides over an active script
default_over_active : (a : Account) (default text : List ℕ) → active_text a ≡ Some text → (default ≡ text → ⊥) → deciding_text (Some default) a ≡ Some default → ⊥
default_over_active a default text has other is = let same : Some default ≡ Some text = sym is ∙ active_decides a (Some default) text has in other (cc same)

-- an account that is there is another world than none
there : (accounts : Accounts) (user : List ℕ) (a : Account) → get accounts user ≡ Some a → accounts ≡ no_accounts → ⊥
there accounts user a has is = let no : Some a ≡ None = sym has ∙ (ap (λ all. get all user) is ∙ get-empty bytes_cmp user) in cc

module _ (a : Account) (open_is : is_closed_account a ≡ false) where
  -- one account, alice's
  one : Accounts
  one = insert no_accounts alice a

  has_alice : get one alice ≡ Some a
  unfolding one
  has_alice = put_own no_accounts alice a refl

  open_alice : open_account_of one alice ≡ Some a
  open_alice = ap open_one has_alice ∙ ap (λ b. cond b None (Some a)) open_is

  -- ---- a delivery

  -- a user without an account has none, and stays so; near miss: the delivery makes the account
  unknown_user : Delivery no_accounts alice envelope message at_five (Refused NoUser) no_accounts
  unknown_user =
      let none : open_account_of no_accounts alice ≡ None = ap open_one (get-empty bytes_cmp alice) in
      let why : absence (get no_accounts alice) ≡ NoUser = ap absence (get-empty bytes_cmp alice) in
      subst (λ o. DeliversIn no_accounts alice at_five envelope message o (Refused NoUser) no_accounts) (sym none) (record { refused = ap Refused (sym why); stays = refl })

  unknown_user_joins : Delivery no_accounts alice envelope message at_five (Refused NoUser) one → ⊥
  unfolding one
  unknown_user_joins is =
      let made = subst (λ o. DeliversIn no_accounts alice at_five envelope message o (Refused NoUser) one) (ap open_one (get-empty bytes_cmp alice)) is in
      there one alice a has_alice made.stays

  -- the limit goes before the account
  unknown_user_late : Delivery no_accounts alice envelope message too_late (Refused BadMoment) no_accounts
  unknown_user_late = record { refused = refl; stays = refl }

  -- without an active script the message joins INBOX, and what is over of messages that were sent on goes
  filed : (own : Addr) → IsBareAddress a.address own → a.active ≡ None → Delivery one alice envelope message at_five (Delivered (report_of kept Silent None)) (insert one alice (forgets (over_keys a 5) (files_copies (unflagged_copy inbox ∷ []) message a)))
  unfolding one
  filed own address none =
      let mail = mail_spec_of message envelope at_five.when in
      subst (λ o. DeliversIn one alice at_five envelope message o (Delivered (report_of kept Silent None)) (insert one alice (forgets (over_keys a 5) (files_copies (unflagged_copy inbox ∷ []) message a)))) (sym open_alice)
      (record {
        report = report_of kept Silent None;
        account = forgets (over_keys a 5) (files_copies (unflagged_copy inbox ∷ []) message a);
        delivers = record {
          own = own;
          address = address;
          delivers = record {
            settled = settled_well kept;
            settles = rw none refl;
            delivers = record { response = Silent; is_response = refl; reported = rw (none_goes a mail, none_told a mail) refl; changed = rw (none_goes a mail, none_told a mail) refl };
          };
        };
        reported = refl;
        changed = refl;
      })

  -- near miss: another user's account changes, whatever is answered
  delivered_to_another : (b : Account) (answer : Answer) (later : Accounts) → get later bob ≡ Some b → Delivery one alice envelope message at_five answer later → ⊥
  unfolding one
  delivered_to_another b answer later has is =
      let no : Some b ≡ None = sym has ∙ (delivery_other bob alice one later answer envelope message at_five is (inl refl) ∙ (put_other no_accounts bob alice a refl ∙ get-empty bytes_cmp bob)) in
      cc

  -- ---- a new user

  module _ (address salt password : List ℕ) where
    -- an account joins the others, empty
    joined : IsNewUser alice address password → Addition no_accounts alice address salt password Added (new_user alice address salt 10000 (digest_of salt password 10000) no_accounts)
    joined new =
        inl (new, subst (λ o. AddsUnder no_accounts alice address salt password o Added (new_user alice address salt 10000 (digest_of salt password 10000) no_accounts)) (sym (get-empty bytes_cmp alice)) (record { added = refl; changed = refl }))

    -- near misses: the name has an account; the name has a blank
    joined_twice : (later : Accounts) → Addition one alice address salt password Added later → ⊥
    unfolding one
    joined_twice later (inl (new, is)) =
        let made = subst (λ o. AddsUnder one alice address salt password o Added later) has_alice is in
        let row = subst (λ b. MatchBool b (MatchBool (has_mail a) (MachineRefuses UserHasMail one Added later) (Renews one alice address salt password Added later)) (MachineRefuses UserExists one Added later)) open_is made in
        let no : Added ≡ Refused UserExists = row.refused in
        cc
    joined_twice later (inr (bad, is)) = let no : Added ≡ Refused BadUser = is.refused in cc

    joined_with_blank : (accounts later : Accounts) → Addition accounts (codes "a b") address salt password Added later → ⊥
    joined_with_blank accounts later (inl (new, is)) = let no : false ≡ true = new.named in cc
    joined_with_blank accounts later (inr (bad, is)) = let no : Added ≡ Refused BadUser = is.refused in cc

  -- ---- a row taken out of the queue

  module _ (queued : a.queue ≡ row 1 ∷ row 2 ∷ []) where
    -- the row with the number is handed out, and leaves the queue
    taken : Taking one alice 2 (Taken (row 2)) (with_user one alice (takes_out 2))
    unfolding one
    taken = subst (λ o. TakesFromQueue one alice 2 o (Taken (row 2)) (with_user one alice (takes_out 2))) (sym open_alice)
        (subst (λ rows. TakesQueueRow one alice (row_with 2 rows) (Taken (row 2)) (with_user one alice (takes_out 2))) (sym queued) (record { taken = refl; changed = refl }))

    -- near miss: another row is handed out
    another_taken : (later : Accounts) → Taking one alice 2 (Taken (row 1)) later → ⊥
    unfolding one
    another_taken later is =
        let made = subst (λ rows. TakesQueueRow one alice (row_with 2 rows) (Taken (row 1)) later) queued (subst (λ o. TakesFromQueue one alice 2 o (Taken (row 1)) later) open_alice is) in
        let same : row 1 ≡ row 2 = let told : Taken (row 1) ≡ Taken (row 2) = made.taken in cc in
        let no : ◌≡◌ {A = ℕ} 1 2 = ap (λ r. r.id) same in
        cc

    -- a number that isn't queued is no row's, and nothing changes; near miss: the account goes
    not_queued : Taking one alice 3 (Refused NoRow) one
    unfolding one
    not_queued = subst (λ o. TakesFromQueue one alice 3 o (Refused NoRow) one) (sym open_alice) (subst (λ rows. TakesQueueRow one alice (row_with 3 rows) (Refused NoRow) one) (sym queued) (record { refused = refl; stays = refl }))

    not_queued_gone : Taking one alice 3 (Refused NoRow) no_accounts → ⊥
    unfolding one
    not_queued_gone is =
        let made = subst (λ rows. TakesQueueRow one alice (row_with 3 rows) (Refused NoRow) no_accounts) queued (subst (λ o. TakesFromQueue one alice 3 o (Refused NoRow) no_accounts) open_alice is) in
        there one alice a has_alice (sym made.stays)
