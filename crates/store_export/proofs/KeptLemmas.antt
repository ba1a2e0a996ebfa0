-- Reads one after another: what is told by them of one database.
use Rattle.std.proofs.Common.{◌≡◌, ℕ, List, Ok, Err, Result, IfOk, IfErr, IfSome, OnOk, Option, Some, None, IsTrue, refl, subst}
use Rattle.std.specs.FinMap.{get}
use Rattle.sqlite.specs.Effect.{Database}
use Rattle.sqlite.specs.State.{State, HasCleanDisk}
use Rattle.store_tables.specs.Rows.{Tables, HoldsTables}
use Rattle.store_tables.specs.Schema.{mail_schema}
use Rattle.store_tables.proofs.WriteLemmas.{clean_before}
use Rattle.store_accounts.specs.declared.refusal.Refusal.{Refusal}
use Rattle.store_accounts.specs.Account.{Account, Accounts}
use Rattle.store_accounts.specs.Promises.{FindsAmong, HasOurTables, HasNoOpen, KeepsTables, OfOpen, OverAccounts, ReadsOpenAccount, ReadsEntered}
use Rattle.store_accounts.specs.Refusals.{IsTransient}
use Rattle.store_accounts.specs.Shows.{rows_of}
use Rattle.store_accounts.proofs.KeepLemmas.{keeps_ok, keeps_failed, keeps_then, mid_shows, none_if, transient_other, transient_named}
use Rattle.store_accounts.proofs.StandingLemmas.{open_there}

-- what was found of the user's rows, of whatever rows the database has
pub among_entered : {X : Type 0} (user : List ℕ) (P : X → Tables → Type 0) (a b : State) (r : Result X Refusal) → IfErr r IsTransient → FindsAmong user P a b r
    → ReadsEntered user (λ x account. (tables : Tables) → HoldsTables mail_schema a.now tables → P x (rows_of user tables)) a b r
among_entered {X} user P a b r named h = record { found = λ clean accounts p. told r (get accounts user) (λ tables held. h.found clean tables held); keeps = h.keeps; named = named }
  where
    told : (o : Result X Refusal) (one : Option Account) → ((tables : Tables) → HoldsTables mail_schema a.now tables → IfOk o (λ x. P x (rows_of user tables)))
        → IfOk o (λ x. IfSome one (λ account. (tables : Tables) → HoldsTables mail_schema a.now tables → P x (rows_of user tables)))
    told (Err e) one k = tt
    told (Ok x) None k = tt
    told (Ok x) (Some account) k = k

-- ---- what is known after some reads

-- all was kept since, and this holds of what the database had and of the user's account, if there is one
pub record Learns (user : List ℕ) (P : Database → Account → Type 0) (a b : State) : Type 0 where
  pub found : HasCleanDisk b → OverAccounts a (λ accounts. IfSome (get accounts user) (P a.now))
  pub keeps : KeepsTables {X = Unit {0}} {E = Refusal} a b (Ok tt)

-- both hold
abbrev pub Both : (P Q : Database → Account → Type 0) → Database → Account → Type 0
Both P Q db account = P db account × Q db account

pub learned : {X : Type 0} (user : List ℕ) (P : X → Database → Account → Type 0) (a b : State) (r : Result X Refusal) (x : X) → r ≡ Ok x → ReadsEntered user (λ y. P y a.now) a b r → Learns user (P x) a b
learned user P a b r x was h = record {
  found = λ clean accounts p. subst (λ o. IfOk o (λ y. IfSome (get accounts user) (P y a.now))) was (h.found clean accounts p);
  keeps = keeps_ok a b r x (Ok tt) was h.keeps;
}

both_hold : (P Q : Account → Type 0) (o : Option Account) → IfSome o P → IfSome o Q → IfSome o (λ account. P account × Q account)
both_hold P Q None one two = tt
both_hold P Q (Some account) one two = (one, two)

module _ {Y : Type 0} (user : List ℕ) (P : Database → Account → Type 0) (Q : Y → Database → Account → Type 0) (a b c : State) (early : Learns user P a b) (q : Result Y Refusal) (late : ReadsEntered user (λ y. Q y b.now) b c q) where
  mid_same : HasCleanDisk c → HasOurTables a.now → b.now ≡ a.now
  mid_same clean ours =
      let before = clean_before b c _ late.keeps.crash clean in
      (early.keeps.same before ours).now_is (early.keeps.live before)

  -- one read more
  pub learned_then : (y : Y) → q ≡ Ok y → Learns user (Both P (Q y)) a c
  learned_then y is = record {
    found = λ clean accounts p.
        let ours : HasOurTables a.now = (p.0, p.1) in
        let one = early.found (clean_before b c _ late.keeps.crash clean) accounts p in
        let two = subst (λ o. IfOk o (λ z. IfSome (get accounts user) (Q z b.now))) is (late.found clean accounts (mid_shows a b c (Ok tt) tt refl q early.keeps late.keeps clean accounts p)) in
        both_hold (P a.now) (Q y a.now) (get accounts user) one (subst (λ db. IfSome (get accounts user) (Q y db)) (mid_same clean ours) two);
    keeps = keeps_ok a c q y (Ok tt) is (keeps_then a b c (Ok tt) tt refl q early.keeps late.keeps);
  }

  -- with a refusal
  pub learned_failed : {Z : Type 0} (R : Z → Account → Type 0) (end : Result Z Refusal) → OnOk end ⊥ → IfErr end IsTransient → ReadsEntered user R a c end
  learned_failed R end none transient = record {
    found = λ clean accounts p. none_if end (λ z. IfSome (get accounts user) (R z)) none;
    keeps = keeps_failed a c q end none (keeps_then a b c (Ok tt) tt refl q early.keeps late.keeps);
    named = transient;
  }

-- an answer that is made of it
pub learned_answer : {Z : Type 0} (user : List ℕ) (P : Database → Account → Type 0) (R : Z → Account → Type 0) (a b : State) → Learns user P a b → (q : Result Z Refusal) → IfErr q IsTransient → ((account : Account) → P a.now account → IfOk q (λ z. R z account))
    → ReadsEntered user R a b q
learned_answer {Z} user P R a b h q named made = record { found = λ clean accounts p. told q (get accounts user) made (h.found clean accounts p); keeps = keeps_ok a b (Ok tt) tt q refl h.keeps; named = named }
  where
    told : (o : Result Z Refusal) (one : Option Account) → ((account : Account) → P a.now account → IfOk o (λ z. R z account)) → IfSome one (P a.now) → IfOk o (λ z. IfSome one (R z))
    told (Err e) one k h = tt
    told (Ok z) None k h = tt
    told (Ok z) (Some account) k h = k account h

-- ---- an account is entered, and then read

module _ {X Y : Type 0} (user : List ℕ) (P : X → Account → Type 0) (Q : Y → Database → Account → Type 0) (a b c : State) (r : Result X Refusal) (x : X) (was : r ≡ Ok x) (early : ReadsOpenAccount user P a b r) (q : Result Y Refusal)
    (late : ReadsEntered user (λ y account. P x account → Q y b.now account) b c q) where
  mid_now : HasCleanDisk c → HasOurTables a.now → b.now ≡ a.now
  mid_now clean ours =
      let before = clean_before b c _ late.keeps.crash clean in
      (early.keeps.same before ours).now_is (subst (λ o. OnOk o (IsTrue b.is_open)) was (early.keeps.live before))

  pub enters_at : ReadsOpenAccount user (λ y. Q y a.now) a c q
  enters_at = record {
    found = λ clean accounts p.
        let ours : HasOurTables a.now = (p.0, p.1) in
        let there = subst (λ o. IfOk o (λ z. OfOpen accounts user (P z))) was (early.found (clean_before b c _ late.keeps.crash clean) accounts p) in
        told q accounts (mid_now clean ours) there (late.found clean accounts (mid_shows a b c r x was q early.keeps late.keeps clean accounts p));
    absent = λ clean accounts p. transient_other q (HasNoOpen user accounts) late.named;
    sure = λ clean. transient_other q (IsTrue c.is_open) late.named;
    keeps = keeps_then a b c r x was q early.keeps late.keeps;
    named = transient_named q late.named;
  }
    where
      told : (o : Result Y Refusal) (accounts : Accounts) → b.now ≡ a.now → OfOpen accounts user (P x) → IfOk o (λ y. IfSome (get accounts user) (λ account. P x account → Q y b.now account)) → IfOk o (λ y. OfOpen accounts user (Q y a.now))
      told (Err e) accounts same there h = tt
      told (Ok y) accounts same there h =
          let tells = subst (λ o. IfSome o (λ account. P x account → Q y b.now account)) (open_there (get accounts user) there.0 there.1) h in
          (there.0, there.1, subst (λ db. Q y db there.0) same (tells there.2))
