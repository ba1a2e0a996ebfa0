-- What endures behind reads, behind an event, and behind messages that are taken out.
use Rattle.std.proofs.Common.{◌≡◌, ◌≤◌, ◌⊎◌, ℕ, List, [], ◌∷◌, length, Bool, true, false, Result, Ok, Err, OnOk, IsTrue, refl, sym, ◌∙◌, ap, subst, inl, inr}
use Rattle.sqlite_trees.specs.Tree.{Trees}
use Rattle.sqlite.specs.State.{State, HasCleanDisk}
use Rattle.store_tables.specs.Rows.{Tables, HoldsTables}
use Rattle.store_tables.specs.Schema.{mail_schema}
use Rattle.store_tables.proofs.WriteLemmas.{clean_before}
use Rattle.store_accounts.specs.Account.{Accounts}
use Rattle.store_accounts.specs.Connection.{IsSettled}
use Rattle.store_accounts.specs.Promises.{HasOurTables, KeepsTables}
use Rattle.store_accounts.specs.Refusals.{IsTransient}
use Rattle.store_accounts.specs.Shows.{Presents, ShowsIn}
use Rattle.store_accounts.specs.declared.refusal.Refusal.{Refusal}
use Rattle.managesieve_sessions.specs.Acts.{HasAccounts, Lasts}
use Rattle.managesieve_sessions.proofs.ActLemmas.{glanced, accounts_stay}
use Rattle.store_accounts.specs.declared.taking.NumberedMessage.{NumberedMessage}
use Rattle.store_engine.specs.Hosts.{SessionMap, host, HasClients, IsEvent, EventLeads, SurvivesEvent}
use Rattle.store_engine.specs.Takings.{ActsMailTakings, LosesMails, times}
use Rattle.store_engine.specs.World.{World, Next}
use Rattle.store_engine.specs.declared.answer.Answer.{Answer}
use Rattle.store_engine.specs.declared.answer.Answer.TheVariants.{Refused, MailTaken}
use Rattle.store_engine.specs.declared.event.Event.{Event}
use Rattle.store_engine.specs.declared.event.Event.TheVariants.{TakeMail}
use Rattle.store_engine.proofs.TogetherLemmas.{mails_run}
use Rattle.maildir_moves.specs.Enduring.{Endures, MayLeave, OnlyReads, ShowsMade, ShowsTried, leaves_of, none_tried}
use Rattle.maildir_moves.proofs.RefusedLemmas.{refused_same}

-- ---- what may be left, call by call

-- nothing was called
pub left_alone : (before : Trees → Type 0) (accounts : Accounts) (Tried : Trees → Type 0) → MayLeave before accounts before accounts Tried
left_alone before accounts Tried trees may = inr (inl (refl, may))

-- where more was tried
pub left_weaker : (a b : Trees → Type 0) (x y : Accounts) (One Two : Trees → Type 0) → ((trees : Trees) → One trees → Two trees) → MayLeave a x b y One → MayLeave a x b y Two
left_weaker a b x y One Two more left trees may = elim (left trees may) [ inl shown ↦ inl shown | inr rest ↦ elim rest [ inl old ↦ inr (inl old) | inr one ↦ inr (inr (more trees one)) ] ]

-- behind a call in which nothing was tried
pub left_then : (a b c : Trees → Type 0) (x y z : Accounts) (Tried : Trees → Type 0) → MayLeave a x b y none_tried → MayLeave b y c z Tried → MayLeave a x c z Tried
left_then a b c x y z Tried one two trees may = by_two (two trees may)
  where
    by_one : z ≡ y → ShowsIn trees y ⊎ ((y ≡ x) × a trees) ⊎ none_tried trees → ShowsIn trees z ⊎ ((z ≡ x) × a trees) ⊎ Tried trees
    by_one same (inl shown) = inl (subst (ShowsIn trees) (sym same) shown)
    by_one same (inr (inl left)) = inr (inl (same ∙ left.0, left.1))
    by_one same (inr (inr none)) = absurd none

    by_two : ShowsIn trees z ⊎ ((z ≡ y) × b trees) ⊎ Tried trees → ShowsIn trees z ⊎ ((z ≡ x) × a trees) ⊎ Tried trees
    by_two (inl shown) = inl shown
    by_two (inr (inl left)) = by_one left.0 (one trees left.1)
    by_two (inr (inr tried)) = inr (inr tried)

-- ---- a store

-- of a store that shows the accounts, and is settled, a crash leaves these
pub settled_left : (s : State) (accounts : Accounts) → IsSettled s → Presents s.now accounts → (trees : Trees) → s.may_leave trees → ShowsIn trees accounts
settled_left s accounts settled shown trees may = (s.now, shown, settled.alone trees may ∙ sym (ap (λ db. db.trees) settled.same))

-- a read changes nothing of it
pub read_endures : {X E : Type 0} (a b : State) (r : Result X E) → KeepsTables a b r → HasCleanDisk b → (accounts : Accounts) → HasAccounts a accounts → Endures a accounts b accounts none_tried
read_endures a b r k clean accounts shown = record {
  shown = accounts_stay a b (glanced a b r k) clean accounts shown;
  left = λ trees may.
      let was = k.shut clean may.0 in
      let p = shown was in
      elim (k.crash.crash clean trees may.1) [ inl before ↦ inr (inl (refl, (was, before))) | inr none ↦ absurd (none (p.0, p.1)) ];
}

pub read_only : {X E : Type 0} (a b : State) (r : Result X E) → KeepsTables a b r → OnlyReads a b
read_only a b r k clean = (clean_before a b (λ _. HasOurTables a.now → ⊥) k.crash clean, read_endures a b r k clean)

-- reads one after the other
pub reads_then : (a b c : State) → OnlyReads a b → OnlyReads b c → OnlyReads a c
reads_then a b c one two clean =
    let second = two clean in
    let first = one second.0 in (
      first.0,
      λ accounts shown.
          let it = first.1 accounts shown in
          let then = second.1 accounts it.shown in
          record { shown = then.shown; left = left_then (leaves_of a) (leaves_of b) (leaves_of c) accounts accounts accounts none_tried it.left then.left },
    )

-- what the store had before a read it has afterwards
pub held_behind : {X E : Type 0} (a b : State) (r : Result X E) (x : X) → r ≡ Ok x → KeepsTables a b r → HasCleanDisk b → (tables : Tables) → HoldsTables mail_schema a.now tables → HoldsTables mail_schema b.now tables
held_behind a b r x was k clean tables held =
    let live : IsTrue b.is_open = subst (λ q. OnOk q (IsTrue b.is_open)) was (k.live clean) in
    subst (λ db. HoldsTables mail_schema db tables) (sym ((k.same clean (tables, held)).now_is live)) held

pub no_read : (a : State) → OnlyReads a a
no_read a clean = (clean, λ accounts shown. record { shown = shown; left = left_alone (leaves_of a) accounts none_tried })

-- ---- an event

module _ (event : Event) (old new : State) (before after : SessionMap) (clean : HasCleanDisk new) (shut : IsTrue new.is_open → IsTrue old.is_open)
    (crash : SurvivesEvent event (host old before) (host new after)) (w : World) (sessions : HasClients before w.sessions) (shown : HasAccounts old w.accounts) where
  -- what it leaves where it was refused: what it makes of this very world
  refused_left : (next : World) → next.accounts ≡ w.accounts → MayLeave (leaves_of old) w.accounts (leaves_of new) next.accounts (ShowsMade (event ∷ []) w)
  refused_left next same trees may =
      let was = shut may.0 in
      elim (crash.crash clean trees may.1) [
        | inl left ↦ inr (inl (same, (was, left)))
        | inr made ↦ let it = made w (shown was) sessions in inr (inr (record { told = it.0 ∷ []; after = it.1; run = (it.1, it.2, refl); shown = it.3 }))
      ]

  -- and where it was made
  made_left : (next : World) (Tried : Trees → Type 0) → (IsTrue old.is_open → Lasts w.accounts next.accounts old new) → MayLeave (leaves_of old) w.accounts (leaves_of new) next.accounts Tried
  made_left next Tried lasts trees may =
      let was = shut may.0 in
      elim ((lasts was).crash trees may.1) [ inl shows ↦ inl shows | inr stays ↦ inr (inl (stays.0, (was, stays.1))) ]

  event_left : (answer : Answer) (next : World) → EventLeads w event answer (host old before) (host new after) next → MayLeave (leaves_of old) w.accounts (leaves_of new) next.accounts (ShowsTried (event ∷ []) answer w)
  event_left (Refused refusal) next led = refused_left next (refused_same w next event refusal led.is_next)
  event_left answer next led = made_left next (ShowsTried (event ∷ []) answer w) (led.lasts tt)

  pub event_endures : (answer : Answer) → IsEvent event answer (host old before) (host new after)
      → (next : World) × Next w event answer next × Endures old w.accounts new next.accounts (ShowsTried (event ∷ []) answer w) × HasClients after next.sessions
  event_endures answer made =
      let led = made clean w (record { accounts = shown; sessions = sessions }) in
      (led.0, led.1.is_next, record { shown = led.1.implements.accounts; left = event_left answer led.0 led.1 }, led.1.implements.sessions)

-- ---- messages that are taken out of a folder

module _ (user folder : List ℕ) (mails : List NumberedMessage) (old new : State) (clean : HasCleanDisk new) (w : World) (shown : HasAccounts old w.accounts) where
  abbrev with : Accounts → World
  with later = record { accounts = later; sessions = w.sessions }

  -- so many left
  pub taken_endures : (n : ℕ) → ActsMailTakings user folder mails old new (Ok n) → (later : Accounts) × LosesMails user folder mails n w.accounts later × Endures old w.accounts new later none_tried
  taken_endures n acts = by_open old.is_open refl
    where
      by_open : (b : Bool) → old.is_open ≡ b → (later : Accounts) × LosesMails user folder mails n w.accounts later × Endures old w.accounts new later none_tried
      by_open true was =
          let open_was : IsTrue old.is_open = was in
          let it = acts.lasts clean open_was w.accounts (shown open_was) in (
            it.0,
            it.1,
            record { shown = λ is_open. it.2.shown; left = λ trees may. elim (it.2.crash trees may.1) [ inl shows ↦ inl shows | inr stays ↦ inr (inl (stays.0, (open_was, stays.1))) ] },
          )
      by_open false was =
          let it = acts.carries clean w.accounts shown in
          let never : IsTrue new.is_open → ⊥ = λ is_open. let h : IsTrue false = subst IsTrue was (acts.shut clean is_open) in let no : ⊥ = cc in no in
          (it.0, it.1, record { shown = it.2; left = λ trees may. absurd (never may.0) })

  module _ (refusal : Refusal) (acts : ActsMailTakings user folder mails old new (Err refusal)) where
    still_shown : HasAccounts new w.accounts
    still_shown = let it = acts.carries clean w.accounts shown in subst (HasAccounts new) it.1.stays it.2

    -- none did, and some may have come to the disk
    pub untaken_endures : Endures old w.accounts new w.accounts (λ trees. (n : ℕ) × (n ≤ length mails) × ShowsMade (times n (TakeMail user folder)) w trees)
    untaken_endures = record {
      shown = still_shown;
      left = λ trees may.
          let was = acts.shut clean may.0 in
          elim (acts.crash.crash clean trees may.1) [
            | inl left ↦ inr (inl (refl, (was, left)))
            | inr made ↦ (let more = made w.accounts (shown was) in
                inr (inr (more.1.0, more.1.1.told, record { told = times more.1.0 MailTaken; after = with more.0; run = mails_run more.1.0 user folder w more.0 more.1.1.taken; shown = more.2 })))
          ];
    }

    -- none did, for sure
    pub gone_endures : (IsTransient refusal → ⊥) → Endures old w.accounts new w.accounts none_tried
    gone_endures answered = record {
      shown = still_shown;
      left = λ trees may.
          let was = acts.shut clean may.0 in
          let p = shown was in
          elim (acts.durable clean (p.0, p.1) answered) [
            | inl settled ↦ inl (settled_left new w.accounts settled (still_shown settled.is_open) trees may.1)
            | inr stays ↦ inr (inl (refl, (was, stays.crash.alone clean trees may.1)))
          ];
    }
