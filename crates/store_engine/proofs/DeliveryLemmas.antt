-- A delivery: the limits, the reads, and then the write.
use Rattle.std.proofs.Common.{◌≡◌, ◌≤◌, ◌⊎◌, ℕ, Bool, true, false, cond, not, nat_lt, length, List, Option, Some, None, Ok, Err, Result, OnOk, IfOk, IfErr, IsSome, IsTrue, refl, sym, ap, subst, inl, inr}
use Rattle.std.specs.FinMap.{get}
use Rattle.std.proofs.lemmas.Bool.{ltb-false}
use Rattle.store_tables.proofs.WriteLemmas.{clean_before}
use Rattle.sqlite.specs.State.{State, HasCleanDisk}
use Rattle.sieve_exec.specs.declared.envelope.Envelope.{Envelope}
use Rattle.sieve_exec.specs.Mails.{MailSpec, mail_spec_of}
use Rattle.mail_address.specs.declared.address.Addr.{Addr}
use Rattle.sieve_plan.specs.Sequences.{Settled, SettlesUnder, CarriesOutSettled, DeliversInSequence}
use Rattle.store_accounts.specs.declared.refusal.Refusal.{Refusal}
use Rattle.store_accounts.specs.declared.refusal.Refusal.TheVariants.{NoUser, TooLarge, BadEnvelope, BadMoment, AccountClosed}
use Rattle.store_accounts.specs.declared.report.Plan.{Plan}
use Rattle.store_accounts.specs.declared.report.Report.{Report}
use Rattle.store_accounts.specs.Account.{Account, Accounts, open_account_of, in_place, with_user, delivers}
use Rattle.store_accounts.specs.Promises.{HasUser, HasNoOpen, KeepsTables, OfOpen, WritesAccount}
use Rattle.store_accounts.proofs.StandingLemmas.{open_there, has_there}
use Rattle.store_accounts.specs.Refusals.{IsTransient}
use Rattle.store_accounts.specs.Shows.{Presents}
use Rattle.managesieve_sessions.specs.Acts.{HasAccounts, Glances, ReadsAccounts}
use Rattle.managesieve_sessions.proofs.ActLemmas.{no_glance, glanced, glances_then, accounts_stay, acts_read, acts_made, acts_undone}
use Rattle.store_engine.specs.declared.answer.Answer.{Answer}
use Rattle.store_engine.specs.declared.answer.Answer.TheVariants.{Delivered, Refused}
use Rattle.store_engine.specs.declared.delivery.Lookup.{Lookup}
use Rattle.store_engine.specs.AccountEvents.{absence, DeliversIn, DeliversTo, DeliversUnder, Delivery}
use Rattle.store_engine.specs.Hosts.{TurnsBy, MayTurnBy, MayRefuseDelivery, RefusesDelivery, ActsDelivery}
use Rattle.store_engine.specs.Limits.{limit_refusal, message_limit, is_envelope, moment_limit}
use Rattle.store_engine.specs.declared.terms.Terms.{Terms}
use Rattle.store_engine.specs.Lookups.{LooksUp, IsLookup}

-- a moment that no limit stands against
pub moment_within : (envelope : Envelope) (message : List ℕ) (moment : ℕ) → limit_refusal envelope message moment ≡ None → nat_lt moment_limit moment ≡ false
moment_within envelope message moment none = go (nat_lt message_limit (length message)) (not (is_envelope envelope)) (nat_lt moment_limit moment) none
  where
    go : (large bad late : Bool) → cond large (Some TooLarge) (cond bad (Some BadEnvelope) (cond late (Some BadMoment) None)) ≡ None → late ≡ false
    go true bad late is = absurd (let no = is in cc)
    go false true late is = absurd (let no = is in cc)
    go false false true is = absurd (let no = is in cc)
    go false false false is = refl

pub moment_fits : (envelope : Envelope) (message : List ℕ) (moment : ℕ) → limit_refusal envelope message moment ≡ None → moment ≤ 253402300799
moment_fits envelope message moment none = ltb-false moment_limit moment (moment_within envelope message moment none)

-- the refusals of a write that asks for the account, after the limits
pub transient_refuses : {X : Type 0} (envelope : Envelope) (message : List ℕ) (moment : ℕ) (q : Result X Refusal) → limit_refusal envelope message moment ≡ None → IfErr q IsTransient → IfErr q (RefusesDelivery envelope message moment)
transient_refuses envelope message moment (Ok x) none transient = tt
transient_refuses envelope message moment (Err e) none transient = inr (none, inr (inr transient))

-- the refusals of a user without an open account, after the limits
pub absent_refuses : {X : Type 0} (envelope : Envelope) (message : List ℕ) (moment : ℕ) (q : Result X Refusal) (refusal : Refusal) → limit_refusal envelope message moment ≡ None → q ≡ Err refusal → (refusal ≡ NoUser) ⊎ (refusal ≡ AccountClosed)
    → IfErr q (RefusesDelivery envelope message moment)
absent_refuses envelope message moment q refusal none is (inl absent) = subst (λ o. IfErr o (RefusesDelivery envelope message moment)) (sym is) (inr (none, inl absent))
absent_refuses envelope message moment q refusal none is (inr shut) = subst (λ o. IfErr o (RefusesDelivery envelope message moment)) (sym is) (inr (none, inr (inl shut)))

-- what the plan says of the mail that was read, of the message under the envelope
pub planned_at : (own : Addr) (text active : Option (List ℕ)) (mail : MailSpec) (settled : Settled) (envelope : Envelope) (message : List ℕ) (terms : Terms) (a : Account) (plan : Plan) → mail ≡ mail_spec_of message envelope terms.when
    → active ≡ text → SettlesUnder terms.host.scripts active mail settled → CarriesOutSettled own mail.moment mail settled a plan.report (delivers plan a)
    → DeliversInSequence own terms.host.scripts (mail_spec_of message envelope terms.when) text a plan.report (delivers plan a)
planned_at own text active mail settled envelope message terms a plan read same settles delivered =
    subst (λ o. DeliversInSequence own terms.host.scripts (mail_spec_of message envelope terms.when) o a plan.report (delivers plan a)) same
    (subst (λ (m : MailSpec). DeliversInSequence own terms.host.scripts m active a plan.report (delivers plan a)) read (record { settled = settled; settles = settles; delivers = delivered }))

module _ (user : List ℕ) (envelope : Envelope) (message : List ℕ) (terms : Terms) where
  abbrev Row : Accounts → Answer → Accounts → Type 0
  Row accounts = Delivery accounts user envelope message terms

  abbrev May : Refusal → Type 0
  May = MayRefuseDelivery envelope message terms.when.moment

  -- a limit stands against it
  pub delivery_limited : (a : State) (e : Refusal) → limit_refusal envelope message terms.when.moment ≡ Some e → ActsDelivery user envelope message terms a a (Err e)
  delivery_limited a e is = acts_read a a (TurnsBy Row May (Refused e)) (MayTurnBy Row) (Err e) (λ clean open_before. tt) (no_glance a)
      (λ clean accounts shown. inl (subst (λ o. DeliversUnder o accounts user terms envelope message (Refused e) accounts) (sym is) (record { refused = refl; stays = refl })))

  module _ (none : limit_refusal envelope message terms.when.moment ≡ None) where
    -- the event without visible cause
    transient_turn : (e : Refusal) (accounts : Accounts) → IsTransient e → TurnsBy Row May (Refused e) accounts accounts
    transient_turn e accounts transient = inr (e, (transient, none), refl, refl)

    -- nothing was done for want of memory
    pub delivery_lacks : (a : State) (q : Result Report Refusal) → OnOk q ⊥ → IfErr q IsTransient → ActsDelivery user envelope message terms a a q
    delivery_lacks a (Ok report) undone transient = absurd undone
    delivery_lacks a (Err e) undone transient = acts_read a a (TurnsBy Row May (Refused e)) (MayTurnBy Row) (Err e) (λ clean open_before. tt) (no_glance a) (λ clean accounts shown. transient_turn e accounts transient)

    in_row : (accounts later : Accounts) (answer : Answer) → DeliversIn accounts user terms envelope message (open_account_of accounts user) answer later → Row accounts answer later
    in_row accounts later answer is = subst (λ o. DeliversUnder o accounts user terms envelope message answer later) (sym none) is

    -- the account couldn't be read, without visible cause
    pub delivery_unread : (a b : State) (e : Refusal) (q : Result Report Refusal) → q ≡ Err e → (e ≡ NoUser → ⊥) → LooksUp user IsLookup a b (Err e) → ActsDelivery user envelope message terms a b q
    delivery_unread a b e q is there look = subst (λ o. ActsDelivery user envelope message terms a b o) (sym is)
        (acts_read a b (TurnsBy Row May (Refused e)) (MayTurnBy Row) (Err e) (λ clean open_before. tt) (glanced a b (Err e) look.reads.keeps) (λ clean accounts shown. turn accounts look.reads.named))
      where
        turn : (accounts : Accounts) → (e ≡ NoUser) ⊎ IsTransient e → TurnsBy Row May (Refused e) accounts accounts
        turn accounts (inl absent) = absurd (there absent)
        turn accounts (inr transient) = transient_turn e accounts transient

    -- the user has no open account, and why is asked
    module _ (a b c : State) (r : Result Lookup Refusal) (was : r ≡ Err NoUser) (look : LooksUp user IsLookup a b r) (w : Result Refusal Refusal) (late : ReadsAccounts (λ refusal accounts. refusal ≡ absence (get accounts user)) b c w) where
      clean_mid : HasCleanDisk c → HasCleanDisk b
      clean_mid = clean_before b c _ late.glances.crash

      asked : Glances a c
      asked = glances_then a b c (λ clean. subst (λ q. IfErr q (λ e. e ≡ NoUser → IsTrue b.is_open)) was (look.reads.sure clean) refl) (glanced a b r look.reads.keeps) late.glances

      none_open : HasCleanDisk c → (accounts : Accounts) → HasAccounts a accounts → HasNoOpen user accounts
      none_open clean accounts shown =
          let before = clean_mid clean in
          let seen = shown (subst (λ q. IfErr q (λ e. e ≡ NoUser → IsTrue a.is_open)) was (look.sure before) refl) in
          subst (λ q. IfErr q (λ e. e ≡ NoUser → HasNoOpen user accounts)) was (look.reads.absent before accounts seen) refl

      pub delivery_absent : (refusal : Refusal) (q : Result Report Refusal) → w ≡ Ok refusal → q ≡ Err refusal → ActsDelivery user envelope message terms a c q
      delivery_absent refusal q told is = subst (λ o. ActsDelivery user envelope message terms a c o) (sym is)
          (acts_read a c (TurnsBy Row May (Refused refusal)) (MayTurnBy Row) (Err refusal) (λ clean open_before. tt) asked
          (λ clean accounts shown.
          let why : refusal ≡ absence (get accounts user) =
          subst (λ o. IfOk o (λ f. f ≡ absence (get accounts user))) told (late.found clean accounts (accounts_stay a b (glanced a b r look.reads.keeps) (clean_mid clean) accounts shown)) in
          inl (in_row accounts accounts (Refused refusal) (subst (λ o. DeliversIn accounts user terms envelope message o (Refused refusal) accounts) (sym (none_open clean accounts shown)) (record { refused = ap Refused why; stays = refl })))))

      pub delivery_unasked : (q : Result Report Refusal) → OnOk q ⊥ → IfErr q IsTransient → ActsDelivery user envelope message terms a c q
      delivery_unasked (Ok report) undone transient = absurd undone
      delivery_unasked (Err e) undone transient = acts_read a c (TurnsBy Row May (Refused e)) (MayTurnBy Row) (Err e) (λ clean open_before. tt) asked (λ clean accounts shown. transient_turn e accounts transient)

    -- no memory for what comes after what was read
    pub delivery_stopped : {X : Type 0} (a b : State) (r : Result X Refusal) → KeepsTables a b r → (q : Result Report Refusal) → OnOk q ⊥ → IfErr q IsTransient → ActsDelivery user envelope message terms a b q
    delivery_stopped a b r keeps (Ok report) undone transient = absurd undone
    delivery_stopped a b r keeps (Err e) undone transient =
        acts_read a b (TurnsBy Row May (Refused e)) (MayTurnBy Row) (Err e) (λ clean open_before. tt) (glanced a b r keeps) (λ clean accounts shown. transient_turn e accounts transient)

    -- what is known of the account, by what was read of it
    module _ {X : Type 0} (Part : X → Account → Type 0) (a b : State) (r : Result X Refusal) (x : X) (was : r ≡ Ok x) (look : LooksUp user Part a b r)
        (plan : Plan) (planned : (account : Account) → Part x account → DeliversTo terms envelope message account plan.report (delivers plan account)) where
      -- what the plan does is the delivery
      planned_row : (accounts : Accounts) → OfOpen accounts user (Part x) → Row accounts (Delivered plan.report) (with_user accounts user (delivers plan))
      planned_row accounts own =
          in_row accounts (with_user accounts user (delivers plan)) (Delivered plan.report)
          (subst (λ o. DeliversIn accounts user terms envelope message o (Delivered plan.report) (with_user accounts user (delivers plan))) (sym own.1)
          (record {
            report = plan.report;
            account = delivers plan own.0;
            delivers = planned own.0 own.2;
            reported = refl;
            changed = ap (in_place accounts user (delivers plan)) (open_there (get accounts user) own.0 own.1);
          }))

      found : HasCleanDisk b → (accounts : Accounts) → Presents a.now accounts → OfOpen accounts user (Part x)
      found clean accounts p = subst (λ q. IfOk q (λ y. OfOpen accounts user (Part y))) was (look.reads.found clean accounts p)

      fits : HasCleanDisk b → (accounts : Accounts) → Presents a.now accounts → HasUser user accounts × Row accounts (Delivered plan.report) (with_user accounts user (delivers plan))
      fits clean accounts p =
          let own = found clean accounts p in
          (has_there accounts user (subst IsSome (sym own.1) refl), planned_row accounts own)

      delivery_made : (c : State) (w : Result Report Refusal) → WritesAccount user (delivers plan) b c w → (y : Report) → w ≡ Ok y → ActsDelivery user envelope message terms a c (Ok plan.report)
      delivery_made c w late y is =
          acts_made a b c r x was look.reads.keeps (HasUser user) (λ all. with_user all user (delivers plan)) w late.made late.settled late.same late.crash (TurnsBy Row May (Delivered plan.report)) (MayTurnBy Row) y plan.report is
          (λ clean accounts p. let f = fits clean accounts p in (f.0, inl f.1, (Delivered plan.report, f.1)))

      delivery_undone : (c : State) (w : Result Report Refusal) → WritesAccount user (delivers plan) b c w → (e : Refusal) → w ≡ Err e → IsTransient e → ActsDelivery user envelope message terms a c (Err e)
      delivery_undone c w late e is transient =
          (acts_undone a b c r x was look.reads.keeps (HasUser user) (λ all. with_user all user (delivers plan)) w late.made late.settled late.same late.crash (TurnsBy Row May (Refused e)) (MayTurnBy Row) e (Err e) is
          (λ told. told transient) (λ accounts. transient_turn e accounts transient) (λ clean accounts p. let f = fits clean accounts p in (f.0, (Delivered plan.report, f.1))))

      -- and so it is told
      pub delivery_written : (c : State) (w : Result Report Refusal) → WritesAccount user (delivers plan) b c w → IfOk w (λ report. report ≡ plan.report) → IfErr w IsTransient → ActsDelivery user envelope message terms a c w
      delivery_written c (Ok report) late told transient = subst (λ r. ActsDelivery user envelope message terms a c (Ok r)) (sym told) (delivery_made c (Ok report) late report refl)
      delivery_written c (Err e) late told transient = delivery_undone c (Err e) late e refl transient
