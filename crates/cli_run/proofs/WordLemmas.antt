-- What a word does, from what its steps do.
use Prim.Native.Nat.{zero}
use Rattle.std.proofs.Common.{◌≡◌, ◌⊎◌, ℕ, suc, List, Option, Some, None, Result, Ok, Err, Bool, true, false, MatchBool, IfOk, IfErr, IsTrue, codes, slice_get, refl, sym, ◌∙◌, ap, subst, inl, inr}
use Rattle.std.specs.FinMap.{get}
use Rattle.std.specs.Io.KnownBytes as output
use Rattle.std.specs.Io.KnownBytes.{IsAtEnd}
use Rattle.sqlite_schema.specs.declared.schema.Schema.{Schema}
use Rattle.sqlite.specs.Effect.{Database}
use Rattle.sqlite.specs.State.{State, HasCleanDisk}
use Rattle.store_accounts.specs.Account.{Account, Accounts, is_closed_account, open_account_of, has_mail, no_accounts, messages_in, row_with}
use Rattle.store_accounts.specs.Schema.{no_schema}
use Rattle.store_accounts.specs.OldSchema.{IsOldSchema}
use Rattle.store_accounts.specs.Opening.{IsKnown}
use Rattle.store_accounts.specs.Shows.{Presents, OffersAccounts, OpensAs}
use Rattle.store_accounts.specs.Promises.{HasNoOpen, OfOpen, KeepsTables, ReadsOpenAccount}
use Rattle.store_accounts.specs.Refusals.{IsTransient}
use Rattle.store_accounts.specs.declared.refusal.Refusal.{Refusal}
use Rattle.store_accounts.specs.declared.refusal.Refusal.TheVariants.{NoUser, UserExists, UserHasMail}
use Rattle.store_accounts.specs.declared.queue.QueuedMessage.{QueuedMessage}
use Rattle.store_accounts.specs.declared.report.Report.{Report}
use Rattle.managesieve_sessions.specs.Acts.{TurnsAccounts}
use Rattle.sieve_exec.specs.declared.envelope.Envelope.{Envelope}
use Rattle.store_engine.specs.declared.event.Event.{Event}
use Rattle.store_engine.specs.declared.event.Event.TheVariants.{Deliver, AddUser, TakeOut}
use Rattle.store_engine.specs.declared.answer.Answer.{Answer}
use Rattle.store_engine.specs.declared.answer.Answer.TheVariants as answer
use Rattle.store_engine.specs.AccountEvents.{MachineRefuses, Renews, Delivery, DeliversIn, DeliversUnder, Addition, AddsUnder, Taking, TakesFromQueue, TakesQueueRow}
use Rattle.store_engine.specs.Limits.{limit_refusal}
use Rattle.store_engine.specs.Hosts.{TurnsBy, MayRefuseDelivery, MayRefuseAddition}
use Rattle.store_engine.specs.World.{EventHappens, MayRefuseEvent, Next}
use Rattle.store_engine.proofs.HostLemmas.{delivery_may, addition_may, taking_may}
use Rattle.cli_run.specs.declared.fault.RunFault.{RunFault}
use Rattle.cli_run.specs.declared.fault.RunFault.TheVariants.{Refused, Stream, BadArgument}
use Rattle.cli_run.specs.Draining.{TurnsTables}
use Rattle.cli_run.specs.Faults.{memory, status_of, IsFailure, IsSudden, IsHindered, IsPrinted}
use Rattle.cli_run.specs.Promise.{world_of_accounts}
use Rattle.store_engine.specs.declared.terms.Terms.{Terms}
use Rattle.cli_run.specs.Subcommands.{FinishesPrinted, DeniedAtEnd, TellsEvent, MakesEvent, RefusesEvent, Puts, DoesEvent, Shows, FindsIn, ShowsNothing, DoesRead, HasMessage, DoesInit, LacksNothing, account_part}
use Rattle.cli_run.specs.Transitions.{from_to}

-- ---- the output

-- nothing is printed
pub kept_same : (o : Option (List ℕ)) → output.Keeps o o
kept_same None = tt
kept_same (Some held) = refl

-- ---- faults

-- a refusal that may come without visible cause comes without one that is seen
pub sudden_refusal : (Broken : Type 0) (refusal : Refusal) → IsTransient refusal → IsSudden Broken (Refused refusal)
sudden_refusal Broken refusal transient = elim transient [ inl e ↦ inl (ap Refused e) | inr e ↦ inr (inl (ap Refused e)) ]

-- another try may help then
pub sudden_status : (Broken : Type 0) (fault : RunFault) → IsSudden Broken fault → status_of fault ≡ 75
sudden_status Broken fault sudden = elim sudden [ inl e ↦ ap status_of e | inr more ↦ elim more [ inl e ↦ ap status_of e | inr e ↦ ap status_of e.0 ] ]

pub sudden_statuses : {X : Type 0} (Broken : Type 0) (r : Result X RunFault) → IfErr r (IsSudden Broken) → IfErr r (λ fault. status_of fault ≡ 75)
sudden_statuses Broken (Ok x) h = tt
sudden_statuses Broken (Err fault) h = sudden_status Broken fault h

pub sudden_or : {X : Type 0} (Broken : Type 0) (r : Result X RunFault) (other : RunFault) → IfErr r (IsSudden Broken) → IfErr r (λ fault. IsSudden Broken fault ⊎ (fault ≡ other))
sudden_or Broken (Ok x) other h = tt
sudden_or Broken (Err fault) other h = inl h

-- where nothing can break, it comes wherever something can
pub sudden_wider : (Broken : Type 0) (fault : RunFault) → IsSudden ⊥ fault → IsSudden Broken fault
sudden_wider Broken fault sudden = elim sudden [ inl e ↦ inl e | inr more ↦ elim more [ inl e ↦ inr (inl e) | inr none ↦ absurd none.1 ] ]

-- where something broke, a failure is one
pub failure_sudden : (Broken : Type 0) (fault : RunFault) → IsFailure fault → Broken → IsSudden Broken fault
failure_sudden Broken fault failure why = elim failure [ inl e ↦ inl e | inr e ↦ inr (inr (e, why)) ]

module _ (Broken Wrong : Type 0) (Denied : RunFault → Type 0) where
  pub no_memory : IsHindered Broken Wrong Denied memory
  no_memory = inl refl

  pub broken : (fault : RunFault) → fault ≡ Stream → Broken → IsHindered Broken Wrong Denied fault
  broken fault is why = inr (inr (inl (is, why)))

  pub wrong : (fault : RunFault) → fault ≡ BadArgument → Wrong → IsHindered Broken Wrong Denied fault
  wrong fault is why = inr (inr (inr (inl (is, why))))

  pub denied : (fault : RunFault) → Denied fault → (Wrong → ⊥) → IsHindered Broken Wrong Denied fault
  denied fault why right = inr (inr (inr (inr (why, right))))

  -- memory was refused, or a read of the input failed
  pub unread : (fault : RunFault) → IsFailure fault → (fault ≡ Stream → Broken) → IsHindered Broken Wrong Denied fault
  unread fault failure why = elim failure [ inl e ↦ inl e | inr e ↦ broken fault e (why e) ]

  -- a refusal that may come without visible cause
  pub transient_hinders : (refusal : Refusal) → IsTransient refusal → IsHindered Broken Wrong Denied (Refused refusal)
  transient_hinders refusal transient = elim transient [ inl e ↦ inl (ap Refused e) | inr e ↦ inr (inl (ap Refused e)) ]

  -- what keeps every word from its work keeps one from it whose values are right
  pub hindered_wider : (Wrong → ⊥) → (fault : RunFault) → IsHindered ⊥ ⊥ Denied fault → IsHindered Broken Wrong Denied fault
  hindered_wider right fault h = elim h [
    | inl e ↦ inl e
    | inr more ↦ elim more [
      | inl e ↦ inr (inl e)
      | inr more ↦ elim more [
        | inl none ↦ absurd none.1
        | inr more ↦ elim more [ inl none ↦ absurd none.1 | inr why ↦ denied fault why.0 right ]
      ]
    ]
  ]

-- what breaks suddenly keeps a word from its work
pub sudden_hinders : (Broken Wrong : Type 0) (Denied : RunFault → Type 0) (fault : RunFault) → IsSudden Broken fault → IsHindered Broken Wrong Denied fault
sudden_hinders Broken Wrong Denied fault sudden = elim sudden [ inl e ↦ inl e | inr more ↦ elim more [ inl e ↦ inr (inl e) | inr e ↦ broken Broken Wrong Denied fault e.0 e.1 ] ]

-- ---- tables

-- our tables are some tables
pub ours_not_none : (db : Database) → IsKnown db → db.schema ≡ no_schema → ⊥
ours_not_none db (inl ours) none = let e = ap (λ (s : Schema). s.tables) (sym ours.schema ∙ none) in cc
ours_not_none db (inr (inl second)) none = elim second.schema as (λ _. ⊥) [
  | inl is ↦ let e = ap (λ (s : Schema). s.tables) (sym is ∙ none) in cc
  | inr is ↦ let e = ap (λ (s : Schema). s.tables) (sym is ∙ none) in cc
]
ours_not_none db (inr (inr old)) none = older old.schema
  where
    older : IsOldSchema db.schema → ⊥
    older (inl is) = let e = ap (λ (s : Schema). s.tables) (sym is ∙ none) in cc
    older (inr is) = let e = ap (λ (s : Schema). s.tables) (sym is ∙ none) in cc

-- they were left alone
pub stays_turned : (Became : Accounts → Accounts → Type 0) (old new : Database) → new ≡ old → ((accounts : Accounts) → Became accounts accounts) → TurnsTables Became old new
stays_turned Became old new same became = record {
  accounts = λ accounts p. (accounts, became accounts, inr (same, refl));
  none = λ blank. ap (λ (db : Database). db.schema) same ∙ blank;
}

-- what became of the accounts is told by another name
pub turned_wider : (Became Wider : Accounts → Accounts → Type 0) (old new : Database) → ((accounts later : Accounts) → Became accounts later → Wider accounts later) → TurnsTables Became old new → TurnsTables Wider old new
turned_wider Became Wider old new wider moves = record {
  accounts = λ accounts p. let h = moves.accounts accounts p in (h.0, wider accounts h.0 h.1, h.2);
  none = moves.none;
}

-- a store that saw what `open` makes of what was held, and was handed back, open and over a disk that keeps what is written
module _ (held new : Database) (taken given : State) (opened : OpensAs held taken.now) (ours : IsKnown held) (clean : HasCleanDisk given) (live : IsTrue given.is_open) (back : new ≡ given.now) where
  stood : (accounts : Accounts) → OffersAccounts held accounts → Presents taken.now accounts
  stood accounts p = opened.shown accounts p

  -- its accounts turned
  pub carried_turned : (Became : Accounts → Accounts → Type 0) → TurnsAccounts Became taken given → TurnsTables Became held new
  carried_turned Became carries = record {
    accounts = λ accounts p.
        let h = carries clean accounts (λ _. stood accounts p) in
        (h.0, h.1, inl (subst (λ db. Presents db h.0) (sym back) (h.2 live)));
    none = λ blank. absurd (ours_not_none held ours blank);
  }

  -- it was read
  pub read_turned : {X : Type 0} (Denied : RunFault → Type 0) (user : List ℕ) (Part : X → Account → Type 0) (q : Result X Refusal) → ReadsOpenAccount user Part taken given q → (r : Result X RunFault)
      → ((accounts : Accounts) → IfOk q (λ x. OfOpen accounts user (Part x)) → IfErr q (λ e. e ≡ NoUser → HasNoOpen user accounts) → FindsIn Denied user Part r accounts)
      → TurnsTables (λ accounts later. (later ≡ accounts) × FindsIn Denied user Part r accounts) held new
  read_turned Denied user Part q reads r finds = record {
    accounts = λ accounts p.
        let was = stood accounts p in
        let same = (reads.keeps.same clean (was.0, was.1)).now_is live in
        (accounts, (refl, finds accounts (reads.found clean accounts was) (reads.absent clean accounts was)), inl (subst (λ db. Presents db accounts) (sym back) (subst (λ db. Presents db accounts) (sym same) was)));
    none = λ blank. absurd (ours_not_none held ours blank);
  }

-- ---- an event of the machine

-- where the machine refuses an event of accounts, none changes
delivers_kept : (user message : List ℕ) (envelope : Envelope) (terms : Terms) (accounts later : Accounts) (refusal : Refusal) → Delivery accounts user envelope message terms (answer.Refused refusal) later → later ≡ accounts
delivers_kept user message envelope terms accounts later refusal = under (limit_refusal envelope message terms.when.moment)
  where
    by : (o : Option Account) → DeliversIn accounts user terms envelope message o (answer.Refused refusal) later → later ≡ accounts
    by None h = h.stays
    by (Some a) h = absurd (let no = h.reported in cc)

    under : (limit : Option Refusal) → DeliversUnder limit accounts user terms envelope message (answer.Refused refusal) later → later ≡ accounts
    under (Some e) h = h.stays
    under None h = by (open_account_of accounts user) h

adds_kept : (name address salt password : List ℕ) (accounts later : Accounts) (refusal : Refusal) → Addition accounts name address salt password (answer.Refused refusal) later → later ≡ accounts
adds_kept name address salt password accounts later refusal = go
  where
    over : (closed full : Bool) → MatchBool closed (MatchBool full (MachineRefuses UserHasMail accounts (answer.Refused refusal) later) (Renews accounts name address salt password (answer.Refused refusal) later)) (MachineRefuses UserExists accounts (answer.Refused refusal) later) → later ≡ accounts
    over true true h = h.stays
    over true false h = absurd (let no = h.added in cc)
    over false full h = h.stays

    by : (o : Option Account) → AddsUnder accounts name address salt password o (answer.Refused refusal) later → later ≡ accounts
    by None h = absurd (let no = h.added in cc)
    by (Some a) h = over (is_closed_account a) (has_mail a) h

    go : Addition accounts name address salt password (answer.Refused refusal) later → later ≡ accounts
    go (inl h) = by (get accounts name) h.1
    go (inr h) = h.1.stays

takes_kept : (user : List ℕ) (id : ℕ) (accounts later : Accounts) (refusal : Refusal) → Taking accounts user id (answer.Refused refusal) later → later ≡ accounts
takes_kept user id accounts later refusal = by (open_account_of accounts user)
  where
    row : (o : Option QueuedMessage) → TakesQueueRow accounts user o (answer.Refused refusal) later → later ≡ accounts
    row None h = h.stays
    row (Some out) h = absurd (let no = h.taken in cc)

    by : (o : Option Account) → TakesFromQueue accounts user id o (answer.Refused refusal) later → later ≡ accounts
    by None h = h.stays
    by (Some a) h = row (row_with id a.queue) h

-- the accounts turned by the event's row
module _ (event : Event) (Row : Accounts → Answer → Accounts → Type 0) (May : Refusal → Type 0) (rows : (accounts later : Accounts) (said : Answer) → Row accounts said later → EventHappens (world_of_accounts accounts) event said (world_of_accounts later))
    (refuses : (accounts : Accounts) (refusal : Refusal) → May refusal → MayRefuseEvent (world_of_accounts accounts) event refusal) (kept : (accounts later : Accounts) (refusal : Refusal) → Row accounts (answer.Refused refusal) later → later ≡ accounts) where
  pub next_by : (said : Answer) (accounts later : Accounts) → TurnsBy Row May said accounts later → Next (world_of_accounts accounts) event said (world_of_accounts later)
  next_by said accounts later (inl row) = inl (rows accounts later said row)
  next_by said accounts later (inr h) = inr (record { refusal = h.0; may = refuses accounts h.0 h.1; refused = h.2; stays = ap world_of_accounts h.3 })

  stays_by : (refusal : Refusal) (accounts later : Accounts) → TurnsBy Row May (answer.Refused refusal) accounts later → later ≡ accounts
  stays_by refusal accounts later (inl row) = kept accounts later refusal row
  stays_by refusal accounts later (inr h) = h.3

  -- and this is the event, put to the machine
  put_by : {X : Type 0} (Denied : RunFault → Type 0) (told : X → Answer) (x : X) (accounts later : Accounts) → TurnsBy Row May (told x) accounts later → Puts Denied event told (Ok x) accounts later
  put_by Denied told x accounts later turned = next_by (told x) accounts later turned

  pub refused_by : {X : Type 0} (Denied : RunFault → Type 0) (told : X → Answer) (refusal : Refusal) (accounts later : Accounts) → TurnsBy Row May (answer.Refused refusal) accounts later → Puts Denied event told (Err (Refused refusal)) accounts later
  refused_by Denied told refusal accounts later turned =
      let same = stays_by refusal accounts later turned in (
        same,
        inr (record {
          event = event;
          own = refl;
          refusal = refusal;
          told = refl;
          next = subst (λ all. Next (world_of_accounts accounts) event (answer.Refused refusal) (world_of_accounts all)) same (next_by (answer.Refused refusal) accounts later turned);
        }),
      )

-- a delivery
module _ (Denied : RunFault → Type 0) (user : List ℕ) (envelope : Envelope) (message : List ℕ) (terms : Terms) where
  abbrev Row : Accounts → Answer → Accounts → Type 0
  Row accounts = Delivery accounts user envelope message terms

  abbrev May : Refusal → Type 0
  May = MayRefuseDelivery envelope message terms.when.moment

  pub delivery_made : (report : Report) (accounts later : Accounts) → TurnsBy Row May (answer.Delivered report) accounts later → Puts Denied (Deliver user envelope message terms) answer.Delivered (Ok report) accounts later
  delivery_made = put_by (Deliver user envelope message terms) Row May (λ accounts later said row. (later, row, refl)) (λ accounts. delivery_may user message envelope terms (world_of_accounts accounts))
      (delivers_kept user message envelope terms) Denied answer.Delivered

  pub delivery_refused : (refusal : Refusal) (accounts later : Accounts) → TurnsBy Row May (answer.Refused refusal) accounts later → Puts {X = Report} Denied (Deliver user envelope message terms) answer.Delivered (Err (Refused refusal)) accounts later
  delivery_refused = refused_by (Deliver user envelope message terms) Row May (λ accounts later said row. (later, row, refl)) (λ accounts. delivery_may user message envelope terms (world_of_accounts accounts))
      (delivers_kept user message envelope terms) Denied answer.Delivered

-- a new user
module _ (Denied : RunFault → Type 0) (name address salt password : List ℕ) where
  abbrev AddRow : Accounts → Answer → Accounts → Type 0
  AddRow accounts = Addition accounts name address salt password

  abbrev AddMay : Refusal → Type 0
  AddMay = MayRefuseAddition name address password

  pub addition_made : (done : Unit {0}) (accounts later : Accounts) → TurnsBy AddRow AddMay answer.Added accounts later → Puts Denied (AddUser name address salt password) (λ x. answer.Added) (Ok done) accounts later
  addition_made = put_by (AddUser name address salt password) AddRow AddMay (λ accounts later said row. (later, row, refl)) (λ accounts. addition_may name address salt password (world_of_accounts accounts))
      (adds_kept name address salt password) Denied (λ x. answer.Added)

  pub addition_refused : (refusal : Refusal) (accounts later : Accounts) → TurnsBy AddRow AddMay (answer.Refused refusal) accounts later
      → Puts {X = Unit {0}} Denied (AddUser name address salt password) (λ x. answer.Added) (Err (Refused refusal)) accounts later
  addition_refused = refused_by (AddUser name address salt password) AddRow AddMay (λ accounts later said row. (later, row, refl)) (λ accounts. addition_may name address salt password (world_of_accounts accounts))
      (adds_kept name address salt password) {X = Unit {0}} Denied (λ x. answer.Added)

-- a row that leaves the queue
module _ (Denied : RunFault → Type 0) (user : List ℕ) (id : ℕ) where
  abbrev TakeRow : Accounts → Answer → Accounts → Type 0
  TakeRow accounts = Taking accounts user id

  pub taking_made : (row : QueuedMessage) (accounts later : Accounts) → TurnsBy TakeRow IsTransient (answer.Taken row) accounts later → Puts Denied (TakeOut user id) answer.Taken (Ok row) accounts later
  taking_made = put_by (TakeOut user id) TakeRow IsTransient (λ accounts later said row. (later, row, refl)) (λ accounts. taking_may user id (world_of_accounts accounts)) (takes_kept user id) Denied answer.Taken

  pub taking_refused : (refusal : Refusal) (accounts later : Accounts) → TurnsBy TakeRow IsTransient (answer.Refused refusal) accounts later → Puts {X = QueuedMessage} Denied (TakeOut user id) answer.Taken (Err (Refused refusal)) accounts later
  taking_refused = refused_by (TakeOut user id) TakeRow IsTransient (λ accounts later said row. (later, row, refl)) (λ accounts. taking_may user id (world_of_accounts accounts)) (takes_kept user id) Denied answer.Taken

-- no store was given out for the event
pub put_denied : {X : Type 0} (Denied : RunFault → Type 0) (event : Event) (told : X → Answer) (fault : RunFault) (r : Result X RunFault) → r ≡ Err fault → Denied fault → (held new : Database) → new ≡ held
    → TurnsTables (Puts Denied event told r) held new
put_denied Denied event told fault r is why held new same =
    stays_turned (Puts Denied event told r) held new same (λ accounts. subst (λ o. Puts Denied event told o accounts accounts) (sym is) (refl, inl (denied ⊥ ⊥ Denied fault why (λ no. no))))

-- it was denied once all of the input was read
pub put_at_end : {X : Type 0} (Denied : RunFault → Type 0) (left : Option (List ℕ)) → IsAtEnd left → (event : Event) (told : X → Answer) (r : Result X RunFault) (held new : Database) → TurnsTables (Puts Denied event told r) held new
    → TurnsTables (Puts (DeniedAtEnd Denied left) event told r) held new
put_at_end {X} Denied left end event told r held new put = turned_wider (Puts Denied event told r) (Puts (DeniedAtEnd Denied left) event told r) held new (λ accounts later h. by r accounts later h) put
  where
    late : (fault : RunFault) → IsHindered ⊥ ⊥ Denied fault → IsHindered ⊥ ⊥ (DeniedAtEnd Denied left) fault
    late fault (inl e) = inl e
    late fault (inr (inl e)) = inr (inl e)
    late fault (inr (inr (inl none))) = absurd none.1
    late fault (inr (inr (inr (inl none)))) = absurd none.1
    late fault (inr (inr (inr (inr why)))) = inr (inr (inr (inr ((why.0, end), why.1))))

    by : (r : Result X RunFault) (accounts later : Accounts) → Puts Denied event told r accounts later → Puts (DeniedAtEnd Denied left) event told r accounts later
    by (Ok x) accounts later h = h
    by (Err fault) accounts later h = (h.0, elim h.1 [ inl hindered ↦ inl (late fault hindered) | inr refused ↦ inr refused ])

-- ---- a word that is an event
module _ (Broken Wrong : Type 0) (Denied : RunFault → Type 0) (Own : Event → Type 0) where
  abbrev Cause : RunFault → Accounts → Type 0
  Cause fault accounts = IsHindered Broken Wrong Denied fault ⊎ RefusesEvent Own fault accounts

  -- it didn't come to the event
  pub event_hindered : (out : Option (List ℕ)) (held : Database) (fault : RunFault) (r : Result (Unit {0}) RunFault) → r ≡ Err fault → IsHindered Broken Wrong Denied fault → DoesEvent Broken Wrong Denied Own (from_to out out) r (from_to held held)
  event_hindered out held fault r is hindered =
      stays_turned (FinishesPrinted (MakesEvent Own) Cause out out r) held held refl
      (λ accounts. subst (λ o. FinishesPrinted (MakesEvent Own) Cause out out o accounts accounts) (sym is) (inl (record { cause = inl hindered; stays = refl; silent = kept_same out })))

  module _ {X : Type 0} (event : Event) (own : Own event) (told : X → Answer) (held new : Database) where
    own_refused : (fault : RunFault) (accounts : Accounts) → RefusesEvent (λ e. e ≡ event) fault accounts → RefusesEvent Own fault accounts
    own_refused fault accounts h = record { event = h.event; own = subst Own (sym h.own) own; refusal = h.refusal; told = h.told; next = h.next }

    -- it was put, and wasn't made
    pub event_unmade : (out : Option (List ℕ)) (right : Wrong → ⊥) (fault : RunFault) (r : Result (Unit {0}) RunFault) → r ≡ Err fault → TurnsTables (Puts Denied event told (Err fault)) held new → DoesEvent Broken Wrong Denied Own (from_to out out) r (from_to held new)
    event_unmade out right fault r is put =
        turned_wider (Puts Denied event told (Err fault)) (FinishesPrinted (MakesEvent Own) Cause out out r) held new
        (λ accounts later h.
        subst (λ o. FinishesPrinted (MakesEvent Own) Cause out out o accounts later) (sym is) (inl (record {
          cause = elim h.1 [ inl hindered ↦ inl (hindered_wider Broken Wrong Denied right fault hindered) | inr refused ↦ inr (own_refused fault accounts refused) ];
          stays = h.0;
          silent = kept_same out;
        })))
        put

    -- it was made, and this was printed
    pub event_made : (x : X) (text : List ℕ) → TellsEvent event (told x) text → TurnsTables (Puts Denied event told (Ok x)) held new → (old out : Option (List ℕ)) (r : Result (Unit {0}) RunFault)
        → IsPrinted r old out text → DoesEvent Broken Wrong Denied Own (from_to old out) r (from_to held new)
    event_made x text tells put old out r printed =
        turned_wider (Puts Denied event told (Ok x)) (FinishesPrinted (MakesEvent Own) Cause old out r) held new (λ accounts later h. by r printed accounts later h) put
      where
        effect : (accounts later : Accounts) → Next (world_of_accounts accounts) event (told x) (world_of_accounts later) → MakesEvent Own accounts later text
        effect accounts later h = record { event = event; own = own; answer = told x; next = h; tells = tells }

        by : (r : Result (Unit {0}) RunFault) → IsPrinted r old out text → (accounts later : Accounts) → Next (world_of_accounts accounts) event (told x) (world_of_accounts later)
            → FinishesPrinted (MakesEvent Own) Cause old out r accounts later
        by (Ok done) printed accounts later h = record { text = text; effect = effect accounts later h; printed = printed }
        by (Err fault) printed accounts later h = inr (record { text = text; effect = effect accounts later h; printed = printed })

-- ---- a word that reads

-- the same is kept whatever was found
keeps_as : {X Y E : Type 0} (old new : State) (x : X) (y : Y) → KeepsTables {E = E} old new (Ok x) → KeepsTables {E = E} old new (Ok y)
keeps_as old new x y h = record { same = h.same; live = h.live; shut = h.shut; crash = h.crash }

not_kept : {X Y E : Type 0} (old new : State) (e : E) → KeepsTables {X = X} old new (Err e) → KeepsTables {X = Y} old new (Err e)
not_kept old new e h = record { same = h.same; live = h.live; shut = h.shut; crash = h.crash }

-- what was read of an account says this of it too
pub reads_so : {X Y : Type 0} (user : List ℕ) (P : X → Account → Type 0) (Q : Y → Account → Type 0) (old new : State) (q : Result X Refusal) (x : X) (y : Y) (r : Result Y Refusal) → q ≡ Ok x → r ≡ Ok y → ((a : Account) → P x a → Q y a)
    → ReadsOpenAccount user P old new q → ReadsOpenAccount user Q old new r
reads_so user P Q old new q x y r is told to reads =
    let h = subst (ReadsOpenAccount user P old new) is reads in
    subst (ReadsOpenAccount user Q old new) (sym told) (record {
      found = λ clean accounts p. let f = h.found clean accounts p in (f.0, f.1, to f.0 f.2);
      absent = λ clean accounts p. tt;
      sure = λ clean. tt;
      keeps = keeps_as old new x y h.keeps;
      named = tt;
    })

-- and its refusal that of another read
pub reads_not : {X Y : Type 0} (user : List ℕ) (P : X → Account → Type 0) (Q : Y → Account → Type 0) (old new : State) (q : Result X Refusal) (e : Refusal) (r : Result Y Refusal) → q ≡ Err e → r ≡ Err e
    → ReadsOpenAccount user P old new q → ReadsOpenAccount user Q old new r
reads_not {X} {Y} user P Q old new q e r is told reads =
    let h = subst (ReadsOpenAccount user P old new) is reads in
    subst (ReadsOpenAccount user Q old new) (sym told) (record { found = λ clean accounts p. tt; absent = h.absent; sure = h.sure; keeps = not_kept {X = X} {Y = Y} old new e h.keeps; named = h.named })

reads_wider : {X : Type 0} (user : List ℕ) (P Q : X → Account → Type 0) (old new : State) (r : Result X Refusal) → ((x : X) (a : Account) → P x a → Q x a) → ReadsOpenAccount user P old new r → ReadsOpenAccount user Q old new r
reads_wider user P Q old new (Ok x) to reads = reads_so user P Q old new (Ok x) x x (Ok x) refl refl (to x) reads
reads_wider user P Q old new (Err e) to reads = reads_not user P Q old new (Err e) e (Err e) refl refl reads

-- the message with a number, from 1
pub message_read : (user name folder named : List ℕ) (number at : ℕ) → user ≡ name → folder ≡ named → number ≡ suc at → (old new : State) (r : Result (Option (List ℕ)) Refusal)
    → ReadsOpenAccount user (λ message a. message ≡ slice_get (messages_in a.folders folder) at) old new r → ReadsOpenAccount name (λ message a. HasMessage named number a message) old new r
message_read user name folder named number at own its is old new r reads =
    subst (λ u. ReadsOpenAccount u (λ message a. HasMessage named number a message) old new r) own
    (reads_wider user (λ message a. message ≡ slice_get (messages_in a.folders folder) at) (λ message a. HasMessage named number a message) old new r
    (λ message a found. subst (λ n. HasMessage named n a message) (sym is) (subst (λ f. message ≡ slice_get (messages_in a.folders f) at) its found)) reads)

-- none has the number 0
pub message_none : (user name folder : List ℕ) (number : ℕ) → user ≡ name → number ≡ zero → (old new : State) (r : Result (Option (List ℕ)) Refusal)
    → ReadsOpenAccount user (λ message a. message ≡ None) old new r → ReadsOpenAccount name (λ message a. HasMessage folder number a message) old new r
message_none user name folder number own is old new r reads =
    subst (λ u. ReadsOpenAccount u (λ message a. HasMessage folder number a message) old new r) own
    (reads_wider user (λ message a. message ≡ None) (λ message a. HasMessage folder number a message) old new r (λ message a found. subst (λ n. HasMessage folder n a message) (sym is) found) reads)

-- no store was given out for the read
pub find_denied : {X : Type 0} (Denied : RunFault → Type 0) (user : List ℕ) (Part : X → Account → Type 0) (fault : RunFault) (r : Result X RunFault) → r ≡ Err fault → Denied fault → (held new : Database) → new ≡ held
    → TurnsTables (λ accounts later. (later ≡ accounts) × FindsIn Denied user Part r accounts) held new
find_denied Denied user Part fault r is why held new same =
    stays_turned (λ accounts later. (later ≡ accounts) × FindsIn Denied user Part r accounts) held new same
    (λ accounts. (refl, subst (λ o. FindsIn Denied user Part o accounts) (sym is) (inl (denied ⊥ ⊥ Denied fault why (λ no. no)))))

-- what was found, by the read's result
pub found_ok : {X : Type 0} (Denied : RunFault → Type 0) (user : List ℕ) (Part : X → Account → Type 0) (q : Result X Refusal) (x : X) (r : Result X RunFault) → q ≡ Ok x → r ≡ Ok x → (accounts : Accounts)
    → IfOk q (λ y. OfOpen accounts user (Part y)) → FindsIn Denied user Part r accounts
found_ok Denied user Part q x r is told accounts found =
    subst (λ o. FindsIn Denied user Part o accounts) (sym told) (subst (λ o. IfOk o (λ y. OfOpen accounts user (Part y))) is found)

pub found_none : {X : Type 0} (Denied : RunFault → Type 0) (user : List ℕ) (Part : X → Account → Type 0) (q : Result X Refusal) (e : Refusal) (r : Result X RunFault) → q ≡ Err e → r ≡ Err (Refused e) → (e ≡ NoUser) ⊎ IsTransient e → (accounts : Accounts)
    → IfErr q (λ y. y ≡ NoUser → HasNoOpen user accounts) → FindsIn Denied user Part r accounts
found_none Denied user Part q e r is told named accounts absent =
    let free : e ≡ NoUser → HasNoOpen user accounts = subst (λ o. IfErr o (λ y. y ≡ NoUser → HasNoOpen user accounts)) is absent in
    subst (λ o. FindsIn Denied user Part o accounts) (sym told) (elim named [
      | inl none ↦ inr (ap Refused none, free none)
      | inr transient ↦ inl (transient_hinders ⊥ ⊥ Denied e transient)
    ])

module _ (Wrong : Type 0) (Denied : RunFault → Type 0) (user : List ℕ) (IsShown : Account → List ℕ → Type 0) (Lacks : RunFault → Account → Type 0) where
  abbrev Ends : Option (List ℕ) → Option (List ℕ) → Result (Unit {0}) RunFault → Accounts → Accounts → Type 0
  Ends = FinishesPrinted (Shows user IsShown) (ShowsNothing Wrong Denied user Lacks)

  -- nothing was read
  pub read_hindered : (out : Option (List ℕ)) (held : Database) (fault : RunFault) (r : Result (Unit {0}) RunFault) → r ≡ Err fault → IsHindered ⊥ Wrong Denied fault → DoesRead Wrong Denied (account_part user IsShown Lacks) (from_to out out) r (from_to held held)
  read_hindered out held fault r is hindered =
      stays_turned (Ends out out r) held held refl (λ accounts. subst (λ o. Ends out out o accounts accounts) (sym is) (inl (record { cause = inl hindered; stays = refl; silent = kept_same out })))

  module _ {X : Type 0} (Part : X → Account → Type 0) (held new : Database) where
    abbrev Found : Result X RunFault → Accounts → Accounts → Type 0
    Found q accounts later = (later ≡ accounts) × FindsIn Denied user Part q accounts

    -- it couldn't be read
    pub read_refused : (right : Wrong → ⊥) (out : Option (List ℕ)) (fault : RunFault) (r : Result (Unit {0}) RunFault) → r ≡ Err fault → TurnsTables (Found (Err fault)) held new → DoesRead Wrong Denied (account_part user IsShown Lacks) (from_to out out) r (from_to held new)
    read_refused right out fault r is found =
        turned_wider (Found (Err fault)) (Ends out out r) held new
        (λ accounts later h.
        subst (λ o. Ends out out o accounts later) (sym is) (inl (record {
          cause = elim h.1 [ inl hindered ↦ inl (hindered_wider ⊥ Wrong Denied right fault hindered) | inr free ↦ inr (inl (free.0, free.1, right)) ];
          stays = h.0;
          silent = kept_same out;
        })))
        found

    -- it was found, and there was no memory to show it
    pub read_failed : (x : X) (fault : RunFault) → IsHindered ⊥ Wrong Denied fault → TurnsTables (Found (Ok x)) held new → (out : Option (List ℕ)) (r : Result (Unit {0}) RunFault) → r ≡ Err fault
        → DoesRead Wrong Denied (account_part user IsShown Lacks) (from_to out out) r (from_to held new)
    read_failed x fault hindered found out r is =
        turned_wider (Found (Ok x)) (Ends out out r) held new (λ accounts later h. subst (λ o. Ends out out o accounts later) (sym is) (inl (record { cause = inl hindered; stays = h.0; silent = kept_same out }))) found

    -- what was asked for isn't there
    pub read_lacks : (x : X) (fault : RunFault) → ((a : Account) → Part x a → Lacks fault a) → TurnsTables (Found (Ok x)) held new → (out : Option (List ℕ)) (r : Result (Unit {0}) RunFault) → r ≡ Err fault
        → DoesRead Wrong Denied (account_part user IsShown Lacks) (from_to out out) r (from_to held new)
    read_lacks x fault lacks found out r is =
        turned_wider (Found (Ok x)) (Ends out out r) held new
        (λ accounts later h.
        subst (λ o. Ends out out o accounts later) (sym is) (inl (record { cause = inr (inr (h.1.0, h.1.1, lacks h.1.0 h.1.2)); stays = h.0; silent = kept_same out })))
        found

    -- it was shown
    pub read_shown : (x : X) (text : List ℕ) → ((a : Account) → Part x a → IsShown a text) → TurnsTables (Found (Ok x)) held new → (old out : Option (List ℕ)) (r : Result (Unit {0}) RunFault)
        → IsPrinted r old out text → DoesRead Wrong Denied (account_part user IsShown Lacks) (from_to old out) r (from_to held new)
    read_shown x text shows found old out r printed = turned_wider (Found (Ok x)) (Ends old out r) held new (λ accounts later h. by r printed accounts later h) found
      where
        effect : (accounts later : Accounts) → Found (Ok x) accounts later → Shows user IsShown accounts later text
        effect accounts later h = record { stays = h.0; shown = (h.1.0, h.1.1, shows h.1.0 h.1.2) }

        by : (r : Result (Unit {0}) RunFault) → IsPrinted r old out text → (accounts later : Accounts) → Found (Ok x) accounts later → Ends old out r accounts later
        by (Ok done) printed accounts later h = record { text = text; effect = effect accounts later h; printed = printed }
        by (Err fault) printed accounts later h = inr (record { text = text; effect = effect accounts later h; printed = printed })

-- what is shown is told by another name, and another value of the words may be wrong
pub read_told : (Wrong : Type 0) (Denied : RunFault → Type 0) → (Wrong → ⊥) → (user : List ℕ) (IsShown Wider : Account → List ℕ → Type 0) → ((a : Account) (text : List ℕ) → IsShown a text → Wider a text) → (old out : Option (List ℕ)) (r : Result (Unit {0}) RunFault) (held new : Database)
    → DoesRead ⊥ Denied (account_part user IsShown LacksNothing) (from_to old out) r (from_to held new) → DoesRead Wrong Denied (account_part user Wider LacksNothing) (from_to old out) r (from_to held new)
read_told Wrong Denied right user IsShown Wider wider old out r held new does =
    turned_wider (FinishesPrinted (Shows user IsShown) (ShowsNothing ⊥ Denied user LacksNothing) old out r) (FinishesPrinted (Shows user Wider) (ShowsNothing Wrong Denied user LacksNothing) old out r) held new (by r) does
  where
    still : (fault : RunFault) → IsHindered ⊥ ⊥ Denied fault → IsHindered ⊥ Wrong Denied fault
    still = hindered_wider ⊥ Wrong Denied right

    shows : (accounts later : Accounts) (text : List ℕ) → Shows user IsShown accounts later text → Shows user Wider accounts later text
    shows accounts later text h = record { stays = h.stays; shown = (h.shown.0, h.shown.1, wider h.shown.0 text h.shown.2) }

    by : (r : Result (Unit {0}) RunFault) (accounts later : Accounts) → FinishesPrinted (Shows user IsShown) (ShowsNothing ⊥ Denied user LacksNothing) old out r accounts later → FinishesPrinted (Shows user Wider) (ShowsNothing Wrong Denied user LacksNothing) old out r accounts later
    by (Ok done) accounts later h = record { text = h.text; effect = shows accounts later h.text h.effect; printed = h.printed }
    by (Err fault) accounts later h = elim h [
      | inl undone ↦ inl (record { cause = elim undone.cause [ inl hindered ↦ inl (still fault hindered) | inr more ↦ elim more [ inl free ↦ inr (inl (free.0, free.1, right)) | inr lacks ↦ inr (inr lacks) ] ]; stays = undone.stays; silent = undone.silent })
      | inr did ↦ inr (record { text = did.text; effect = shows accounts later did.text did.effect; printed = did.printed })
    ]

-- ---- `init`

pub init_denied : (Denied : RunFault → Type 0) (out : Option (List ℕ)) (fault : RunFault) (r : Result (Unit {0}) RunFault) → r ≡ Err fault → Denied fault → (held new : Database) → new ≡ held → DoesInit Denied (from_to out out) r (from_to held new)
init_denied Denied out fault r is why held new same = subst (λ o. DoesInit Denied (from_to out out) o (from_to held new)) (sym is) (inl (denied ⊥ ⊥ Denied fault why (λ no. no), same, kept_same out))

-- a store was made and handed back
pub init_made : (Denied : RunFault → Type 0) (old out : Option (List ℕ)) (r : Result (Unit {0}) RunFault) → IsPrinted r old out (codes "ready\n")
    → (held seen new : Database) → held.schema ≡ no_schema → Presents seen no_accounts → new ≡ seen → DoesInit Denied (from_to old out) r (from_to held new)
init_made Denied old out (Ok done) printed held seen new blank made back = (blank, subst (λ db. Presents db no_accounts) (sym back) made, printed)
init_made Denied old out (Err fault) printed held seen new blank made back = inr (blank, subst (λ db. Presents db no_accounts) (sym back) made, printed)
