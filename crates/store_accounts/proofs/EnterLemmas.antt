-- An account is entered, and then read.
use Rattle.std.proofs.Common.{◌≡◌, ℕ, List, Option, Some, None, Ok, Err, Result, Vec, OnOk, IfOk, IfErr, IfSome, IsTrue, refl, subst}
use Rattle.std.specs.declared.alloc.Global.{Global}
use Rattle.std.specs.FinMap.{get}
use Rattle.sqlite_value.specs.Order.{Row}
use Rattle.sqlite.specs.declared.error.Error.{Error}
use Rattle.sqlite.specs.State.{State, HasCleanDisk}
use Rattle.store_accounts.specs.declared.refusal.Refusal.{Refusal}
use Rattle.store_accounts.specs.Account.{Account, Accounts}
use Rattle.store_accounts.specs.Refusals.{IsTransient}
use Rattle.store_accounts.specs.Shows.{Presents}
use Rattle.store_accounts.specs.Promises.{HasNoOpen, OfOpen, FindsUserRows, ReadsOpenAccount, ReadsEntered}
use Rattle.store_accounts.proofs.StandingLemmas.{open_there}
use Rattle.store_tables.proofs.WriteLemmas.{clean_before}
use Rattle.store_accounts.proofs.KeepLemmas.{keeps_ok, keeps_failed, keeps_all, keeps_then, mid_shows, none_if, transient_other, transient_named}

-- ---- what a query shows, as an answer

ok_none : {Y : Type 0} (q : Result Y Refusal) (Q : Y → Account → Type 0) → IfOk q (λ y. IfSome None (Q y))
ok_none (Ok y) Q = tt
ok_none (Err e) Q = tt

-- an answer that is made of what holds of the account, if there is one
at_account : {X Y : Type 0} (P : X → Account → Type 0) (Q : Y → Account → Type 0) (x : X) (q : Result Y Refusal) → ((account : Account) → P x account → IfOk q (λ y. Q y account)) → (o : Option Account) → IfSome o (P x)
    → IfOk q (λ y. IfSome o (Q y))
at_account P Q x q made None h = ok_none q Q
at_account P Q x q made (Some account) h = made account h

module _ {Y : Type 0} (user : List ℕ) (Part : List Row → Account → Type 0) (Q : Y → Account → Type 0) (a b : State) (r : Result (Vec Row Global) Error) (h : FindsUserRows user Part a b r) (q : Result Y Refusal) where
  pub entered_answer : (rows : Vec Row Global) → r ≡ Ok rows → IfErr q IsTransient → ((account : Account) → Part rows.items account → IfOk q (λ y. Q y account)) → ReadsEntered user Q a b q
  entered_answer rows was named made = record {
    found = λ clean accounts p.
        at_account (λ (found : Vec Row Global). Part found.items) Q rows q made (get accounts user) (subst (λ o. IfOk o (λ found. IfSome (get accounts user) (Part found.items))) was (h.found clean accounts p));
    keeps = keeps_ok a b r rows q was h.keeps;
    named = named;
  }

  pub entered_failed : OnOk q ⊥ → IfErr q IsTransient → ReadsEntered user Q a b q
  entered_failed none transient = record { found = λ clean accounts p. none_if q (λ y. IfSome (get accounts user) (Q y)) none; keeps = keeps_failed a b r q none h.keeps; named = transient }

-- nothing was asked
pub entered_unasked : {Y : Type 0} (user : List ℕ) (Q : Y → Account → Type 0) (s : State) (q : Result Y Refusal) → OnOk q ⊥ → IfErr q IsTransient → ReadsEntered user Q s s q
entered_unasked user Q s q none transient = record { found = λ clean accounts p. none_if q (λ y. IfSome (get accounts user) (Q y)) none; keeps = keeps_all s q none; named = transient }

-- ---- another answer

module _ {X Y : Type 0} (user : List ℕ) (P : X → Account → Type 0) (Q : Y → Account → Type 0) (a b : State) (r : Result X Refusal) (h : ReadsEntered user P a b r) (q : Result Y Refusal) where
  pub entered_other : (x : X) → r ≡ Ok x → IfErr q IsTransient → ((account : Account) → P x account → IfOk q (λ y. Q y account)) → ReadsEntered user Q a b q
  entered_other x was named made = record {
    found = λ clean accounts p. at_account P Q x q made (get accounts user) (subst (λ o. IfOk o (λ z. IfSome (get accounts user) (P z))) was (h.found clean accounts p));
    keeps = keeps_ok a b r x q was h.keeps;
    named = named;
  }

  pub entered_again : OnOk q ⊥ → IfErr q IsTransient → ReadsEntered user Q a b q
  entered_again none transient = record { found = λ clean accounts p. none_if q (λ y. IfSome (get accounts user) (Q y)) none; keeps = keeps_failed a b r q none h.keeps; named = transient }

-- what was read says this too
pub entered_told : {X : Type 0} (user : List ℕ) (P Q : X → Account → Type 0) (a b : State) (r : Result X Refusal) → ((x : X) (account : Account) → P x account → Q x account) → ReadsEntered user P a b r → ReadsEntered user Q a b r
entered_told {X} user P Q a b r tells h = record { found = λ clean accounts p. told (get accounts user) r (h.found clean accounts p); keeps = h.keeps; named = h.named }
  where
    told : (o : Option Account) (q : Result X Refusal) → IfOk q (λ x. IfSome o (P x)) → IfOk q (λ x. IfSome o (Q x))
    told o (Err e) h = tt
    told None (Ok x) h = tt
    told (Some account) (Ok x) h = tells x account h

-- ---- a read of an account that was entered

same_account : (accounts : Accounts) (user : List ℕ) (P Q R : Account → Type 0) → ((account : Account) → P account → Q account → R account) → OfOpen accounts user P → IfSome (get accounts user) Q → OfOpen accounts user R
same_account accounts user P Q R both there some = (there.0, there.1, both there.0 there.2 (subst (λ o. IfSome o Q) (open_there (get accounts user) there.0 there.1) some))

module _ {X : Type 0} (user : List ℕ) (P : X → Account → Type 0) (a b c : State) (r : Result X Refusal) (x : X) (was : r ≡ Ok x) (early : ReadsOpenAccount user P a b r) {Y : Type 0} (Q : Y → Account → Type 0) where
  there_before : HasCleanDisk b → (accounts : Accounts) → Presents a.now accounts → OfOpen accounts user (P x)
  there_before clean accounts p = subst (λ o. IfOk o (λ z. OfOpen accounts user (P z))) was (early.found clean accounts p)

  -- with an answer that is made of both
  pub enters_both : (q : Result Y Refusal) (y : Y) → q ≡ Ok y → ReadsEntered user Q b c q → {Z : Type 0} (R : Z → Account → Type 0) (z : Z) → ((account : Account) → P x account → Q y account → R z account) → ReadsOpenAccount user R a c (Ok z)
  enters_both q y is late R z both = record {
    found = λ clean accounts p.
        same_account accounts user (P x) (Q y) (R z) both (there_before (clean_before b c _ late.keeps.crash clean) accounts p)
        (subst (λ o. IfOk o (λ w. IfSome (get accounts user) (Q w))) is (late.found clean accounts (mid_shows a b c r x was q early.keeps late.keeps clean accounts p)));
    absent = λ clean accounts p. tt;
    sure = λ clean. tt;
    keeps = keeps_ok a c q y (Ok z) is (keeps_then a b c r x was q early.keeps late.keeps);
    named = tt;
  }

  -- with a refusal
  pub enters_failed : (q : Result Y Refusal) → ReadsEntered user Q b c q → {Z : Type 0} (R : Z → Account → Type 0) (end : Result Z Refusal) → OnOk end ⊥ → IfErr end IsTransient → ReadsOpenAccount user R a c end
  enters_failed q late R end none transient = record {
    found = λ clean accounts p. none_if end (λ z. OfOpen accounts user (R z)) none;
    absent = λ clean accounts p. transient_other end (HasNoOpen user accounts) transient;
    sure = λ clean. transient_other end (IsTrue c.is_open) transient;
    keeps = keeps_failed a c q end none (keeps_then a b c r x was q early.keeps late.keeps);
    named = transient_named end transient;
  }

  -- with the read's own answer
  pub enters : (q : Result Y Refusal) → ReadsEntered user Q b c q → ReadsOpenAccount user Q a c q
  enters (Ok y) late = enters_both (Ok y) y refl late Q y (λ account one two. two)
  enters (Err e) late = enters_failed (Err e) late Q (Err e) tt late.named

-- ---- one read after another of an account that was entered

module _ {X Y : Type 0} (user : List ℕ) (P : X → Account → Type 0) (Q : Y → Account → Type 0) (a b c : State) (r : Result X Refusal) (x : X) (was : r ≡ Ok x) (early : ReadsEntered user P a b r) (q : Result Y Refusal)
    (late : ReadsEntered user Q b c q) where
  pub entered_both : (y : Y) → q ≡ Ok y → {Z : Type 0} (R : Z → Account → Type 0) (z : Z) → ((account : Account) → P x account → Q y account → R z account) → ReadsEntered user R a c (Ok z)
  entered_both y is R z both = record {
    found = λ clean accounts p.
        all_hold (get accounts user) (subst (λ o. IfOk o (λ w. IfSome (get accounts user) (P w))) was (early.found (clean_before b c _ late.keeps.crash clean) accounts p))
        (subst (λ o. IfOk o (λ w. IfSome (get accounts user) (Q w))) is (late.found clean accounts (mid_shows a b c r x was q early.keeps late.keeps clean accounts p)));
    keeps = keeps_ok a c q y (Ok z) is (keeps_then a b c r x was q early.keeps late.keeps);
    named = tt;
  }
    where
      all_hold : (o : Option Account) → IfSome o (P x) → IfSome o (Q y) → IfSome o (R z)
      all_hold None one two = tt
      all_hold (Some account) one two = both account one two

  pub entered_both_failed : {Z : Type 0} (R : Z → Account → Type 0) (end : Result Z Refusal) → OnOk end ⊥ → IfErr end IsTransient → ReadsEntered user R a c end
  entered_both_failed R end none transient = record {
    found = λ clean accounts p. none_if end (λ z. IfSome (get accounts user) (R z)) none;
    keeps = keeps_failed a c q end none (keeps_then a b c r x was q early.keeps late.keeps);
    named = transient;
  }
