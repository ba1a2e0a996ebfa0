-- Calls over a store: reads alone, and reads with one write after them.
use Rattle.std.proofs.Common.{◌≡◌, Ok, Err, Result, OnOk, OnErr, IsTrue, ◌⊎◌, refl, sym, ap, ◌∙◌, subst, inl, inr, arith}
use Rattle.sqlite_trees.specs.Tree.{Trees}
use Rattle.sqlite.specs.Effect.{Database}
use Rattle.sqlite.specs.State.{State, HasCleanDisk, Survives}
use Rattle.sqlite.proofs.StateLemmas.{survives_then, survives_weaker}
use Rattle.store_accounts.specs.declared.refusal.Refusal.{Refusal}
use Rattle.store_accounts.specs.Account.{Accounts}
use Rattle.store_accounts.specs.Connection.{StaysSame, IsSettled}
use Rattle.store_accounts.specs.Promises.{HasOurTables, KeepsTables, ChangesAccounts, CrashLeavesAccounts}
use Rattle.store_accounts.specs.Shows.{Presents, ShowsIn}
use Rattle.store_tables.proofs.ResultLemmas.{on_ok, on_err_any}
use Rattle.store_tables.proofs.WriteLemmas.{clean_before}
use Rattle.store_accounts.proofs.OneLemmas.{accounts_one}
use Rattle.managesieve_sessions.specs.Acts.{HasAccounts, TurnsAccounts, CrashLeaves, Acts, Glances, IsCallAnswered, StoreStays, StaysOpen, Lasts, Durable}

-- no Ok, so nothing is said of one
pub never_ok : {X E : Type 0} (q : Result X E) (P : Type 0) → OnOk q ⊥ → OnOk q P
never_ok (Ok x) P none = absurd none
never_ok (Err e) P none = tt

-- nothing was answered
pub unanswered : {X : Type 0} (q : Result X Refusal) (P : Type 0) → (IsCallAnswered q → ⊥) → OnOk q P
unanswered (Ok x) P none = absurd (none tt)
unanswered (Err e) P none = tt

-- ---- what lasts

module _ {X : Type 0} (Turn : Accounts → Accounts → Type 0) (a b : State) (q : Result X Refusal) (carries : TurnsAccounts Turn a b) (live : StaysOpen a b q)
    (durable : HasCleanDisk b → HasOurTables a.now → IsCallAnswered q → IsSettled b ⊎ StoreStays a b) where
  module _ (clean : HasCleanDisk b) (accounts : Accounts) (p : Presents a.now accounts) where
    left : (later : Accounts) → IsTrue b.is_open → Presents b.now later → IsSettled b ⊎ StoreStays a b → (trees : Trees) → b.may_leave trees → ShowsIn trees later ⊎ ((later ≡ accounts) × a.may_leave trees)
    left later is_open shown (inl settled) trees may = inl (b.now, shown, settled.alone trees may ∙ sym (ap (λ (db : Database). db.trees) settled.same))
    left later is_open shown (inr stays) trees may =
        inr (accounts_one b.now later accounts shown (subst (λ db. Presents db accounts) (sym (stays.same.now_is is_open)) p), stays.crash.alone clean trees may)

    turned : IsTrue b.is_open → IsCallAnswered q → (later : Accounts) × Turn accounts later × Lasts accounts later a b
    turned is_open told =
        let it = carries clean accounts (λ o. p) in
        let shown = it.2 is_open in
        (it.0, it.1, record { is_open = is_open; shown = shown; crash = left it.0 is_open shown (durable clean (p.0, p.1) told) })

    by_answer : (r : Result X Refusal) → (IsCallAnswered r → IsCallAnswered q) → OnOk r (IsTrue b.is_open) → OnOk r ((later : Accounts) × Turn accounts later × Lasts accounts later a b)
    by_answer (Ok x) told is_open = turned is_open (told tt)
    by_answer (Err e) told is_open = tt

  -- Ok lasts
  pub lasting : Durable Turn a b q
  lasting clean was accounts p = by_answer clean accounts p q (λ told. told) (live clean was)

-- ---- reads

pub glanced : {X E : Type 0} (a b : State) (r : Result X E) → KeepsTables a b r → Glances a b
glanced a b r k = record { same = k.same; shut = k.shut; crash = k.crash }

-- nothing was asked
pub no_glance : (a : State) → Glances a a
no_glance a = record {
  same = λ clean tables. record { now_is = λ is_open. refl; committed_is = λ is_open. refl };
  shut = λ clean is_open. is_open;
  crash = record { clean = omega arith; shield = λ shielded. shielded; counts = omega arith; limit = refl; closes = λ clean is_open. inl is_open; crash = λ clean db left. inl left };
}

-- one look after another, over a connection that the first leaves open
pub glances_then : (a b c : State) → (HasCleanDisk b → IsTrue b.is_open) → Glances a b → Glances b c → Glances a c
glances_then a b c live early late = record {
  same = λ clean tables.
      let one = early.same (clean_mid clean) tables in
      let two = late.same clean (mid_tables clean tables) in
      record { now_is = λ o. two.now_is o ∙ one.now_is (live (clean_mid clean)); committed_is = λ o. two.committed_is o ∙ one.committed_is (live (clean_mid clean)) };
  shut = λ clean is_open. early.shut (clean_mid clean) (late.shut clean is_open);
  crash = survives_then a b c _ _ _ (λ clean db none. none) (λ clean db none tables. none (mid_tables clean tables)) early.crash late.crash;
}
  where
    clean_mid : HasCleanDisk c → HasCleanDisk b
    clean_mid = clean_before b c _ late.crash

    mid_tables : HasCleanDisk c → HasOurTables a.now → HasOurTables b.now
    mid_tables clean tables = subst HasOurTables (sym ((early.same (clean_mid clean) tables).now_is (live (clean_mid clean)))) tables

-- the accounts that are shown stay
pub accounts_stay : (a b : State) → Glances a b → HasCleanDisk b → (accounts : Accounts) → HasAccounts a accounts → HasAccounts b accounts
accounts_stay a b k clean accounts shown is_open =
    let p = shown (k.shut clean is_open) in
    subst (λ db. Presents db accounts) (sym ((k.same clean (p.0, p.1)).now_is is_open)) p

-- once something was read, the tables showed them
pub read_shows : {X E : Type 0} (a b : State) (r : Result X E) (x : X) → r ≡ Ok x → KeepsTables a b r → HasCleanDisk b → (accounts : Accounts) → HasAccounts a accounts → Presents a.now accounts × IsTrue b.is_open × Presents b.now accounts
read_shows a b r x is k clean accounts shown =
    let live = on_ok r x is (IsTrue b.is_open) (k.live clean) in
    (shown (k.shut clean live), live, accounts_stay a b (glanced a b r k) clean accounts shown live)

-- nothing changed
pub glance_stays : (a b : State) → Glances a b → HasCleanDisk b → HasOurTables a.now → StoreStays a b
glance_stays a b k clean tables = record { same = k.same clean tables; crash = record { faults = k.crash.clean; alone = alone } }
  where
    alone : HasCleanDisk b → (db : Trees) → b.may_leave db → a.may_leave db
    alone again db left = elim (k.crash.crash again db left) [ inl before ↦ before | inr none ↦ absurd (none tables) ]

-- reads alone, with whatever answer
pub acts_read : {Y : Type 0} (a b : State) (Turn MayTurn : Accounts → Accounts → Type 0) (q : Result Y Refusal) → StaysOpen a b q → Glances a b
    → (HasCleanDisk b → (accounts : Accounts) → HasAccounts a accounts → Turn accounts accounts) → Acts Turn MayTurn a b q
acts_read a b Turn MayTurn q live k turn = record {
  carries = carries;
  same = λ clean tables. on_err_any q _ (k.same clean tables);
  live = live;
  shut = k.shut;
  crash = survives_weaker a b _ (CrashLeaves MayTurn a) (λ clean db none accounts p. absurd (none (p.0, p.1))) k.crash;
  durable = durable;
  lasts = lasting Turn a b q carries live durable;
}
  where
    carries : TurnsAccounts Turn a b
    carries clean accounts shown = (accounts, turn clean accounts shown, accounts_stay a b k clean accounts shown)

    durable : HasCleanDisk b → HasOurTables a.now → IsCallAnswered q → IsSettled b ⊎ StoreStays a b
    durable clean tables answered = inr (glance_stays a b k clean tables)

-- ---- reads, and then one write

module _ {X Y E : Type 0} (a b c : State) (r : Result X E) (x : X) (is : r ≡ Ok x) (k : KeepsTables a b r) (Fit : Accounts → Type 0) (change : Accounts → Accounts)
    (w : Result Y Refusal) (made_is : HasCleanDisk c → OnOk w (ChangesAccounts Fit change b.now c.now)) (settled_is : HasCleanDisk c → OnOk w (IsSettled c)) (same_is : HasCleanDisk c → HasOurTables b.now → OnErr w (StaysSame b c))
    (crash_is : Survives b c (CrashLeavesAccounts Fit change b)) (Turn MayTurn : Accounts → Accounts → Type 0) where
  -- what the tables show between the two
  mid_shows : HasCleanDisk c → (accounts : Accounts) → HasAccounts a accounts → Presents a.now accounts × IsTrue b.is_open × Presents b.now accounts
  mid_shows clean = read_shows a b r x is k (clean_before b c _ crash_is clean)

  crash_turned : (HasCleanDisk b → (accounts : Accounts) → Presents a.now accounts → Fit accounts × MayTurn accounts (change accounts)) → Survives a c (CrashLeaves MayTurn a)
  crash_turned steps = survives_then a b c _ _ _ (λ clean db none accounts p. absurd (none (p.0, p.1)))
      (λ clean db may accounts p.
      let before = clean_before b c _ crash_is clean in
      let m = mid_shows clean accounts (λ o. p) in
      let step = steps before accounts p in
      (change accounts, step.1, may accounts m.2 step.0)) k.crash crash_is

  was_open : HasCleanDisk c → IsTrue a.is_open
  was_open clean = let before = clean_before b c _ crash_is clean in k.shut before (on_ok r x is (IsTrue b.is_open) (k.live before))

  -- the write was made
  pub acts_made : {Z : Type 0} (y : Y) (z : Z) → w ≡ Ok y
      → (HasCleanDisk b → (accounts : Accounts) → Presents a.now accounts → Fit accounts × Turn accounts (change accounts) × MayTurn accounts (change accounts)) → Acts Turn MayTurn a c (Ok z)
  acts_made {Z} y z was steps = record {
    carries = carries;
    same = λ clean tables. tt;
    live = live;
    shut = λ clean is_open. was_open clean;
    crash = crash_turned (λ clean accounts p. let step = steps clean accounts p in (step.0, step.2));
    durable = λ clean tables answered. inl (settled clean);
    lasts = lasting Turn a c (Ok z) carries live (λ clean tables answered. inl (settled clean));
  }
    where
      settled : HasCleanDisk c → IsSettled c
      settled clean = on_ok w y was (IsSettled c) (settled_is clean)

      carries : TurnsAccounts Turn a c
      carries clean accounts shown =
          let m = mid_shows clean accounts shown in
          let step = steps (clean_before b c _ crash_is clean) accounts m.0 in
          (change accounts, step.1, λ is_open. on_ok w y was _ (made_is clean) accounts m.2 step.0)

      live : StaysOpen {X = Z} a c (Ok z)
      live clean open_before = (settled clean).is_open

  -- the write was refused, without a visible cause
  pub acts_undone : {Z : Type 0} (e : Refusal) (q : Result Z Refusal) → w ≡ Err e → (IsCallAnswered q → ⊥) → ((accounts : Accounts) → Turn accounts accounts)
      → (HasCleanDisk b → (accounts : Accounts) → Presents a.now accounts → Fit accounts × MayTurn accounts (change accounts)) → Acts Turn MayTurn a c q
  acts_undone {Z} e q was transient turn steps = record {
    carries = carries;
    same = λ clean tables.
        let before = clean_before b c _ crash_is clean in
        let mid = on_ok r x is (IsTrue b.is_open) (k.live before) in
        let one = k.same before tables in
        let two = undone_is clean (subst HasOurTables (sym (one.now_is mid)) tables) in
        on_err_any q _ (record { now_is = λ o. two.now_is o ∙ one.now_is mid; committed_is = λ o. two.committed_is o ∙ one.committed_is mid });
    live = live;
    shut = λ clean is_open. was_open clean;
    crash = crash_turned steps;
    durable = λ clean tables answered. absurd (transient answered);
    lasts = lasting Turn a c q carries live (λ clean tables answered. absurd (transient answered));
  }
    where
      refused : (w : Result Y Refusal) → w ≡ Err e → (P : Type 0) → OnErr w P → P
      refused (Ok y) was P h = absurd (let no = was in cc)
      refused (Err f) was P h = h

      undone_is : HasCleanDisk c → HasOurTables b.now → StaysSame b c
      undone_is clean tables = refused w was _ (same_is clean tables)

      carries : TurnsAccounts Turn a c
      carries clean accounts shown =
          let m = mid_shows clean accounts shown in
          let undone = undone_is clean (m.2.0, m.2.1) in
          (accounts, turn accounts, λ is_open. subst (λ db. Presents db accounts) (sym (undone.now_is is_open)) m.2)

      live : StaysOpen a c q
      live clean open_before = unanswered q (IsTrue c.is_open) transient
