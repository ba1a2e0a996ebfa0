-- Reads of one user's rows.
use Rattle.std.proofs.Common.{◌≡◌, ◌⊎◌, ℕ, Bool, true, false, cond, List, Ok, Err, Result, IfOk, IfErr, OnOk, IsSome, IsTrue, Option, Some, None, refl, sym, subst}
use Rattle.std.specs.FinMap.{get}
use Rattle.sqlite.specs.State.{State}
use Rattle.store_tables.specs.Rows.{Tables}
use Rattle.store_accounts.specs.declared.refusal.Refusal.{Refusal}
use Rattle.store_accounts.specs.declared.refusal.Refusal.TheVariants.{NoUser}
use Rattle.store_accounts.specs.Account.{Account, Accounts}
use Rattle.store_accounts.specs.Shows.{rows_of, IsShown, IsShownOrAbsent, Presents}
use Rattle.store_accounts.specs.Refusals.{IsTransient}
use Rattle.store_accounts.specs.Promises.{HasOpen, HasNoOpen, OfOpen, FindsAmong, ReadsOpenAccount, ReadsOwn}
use Rattle.store_accounts.specs.Account.{is_closed_account, open_one}
use Rattle.store_tables.proofs.WriteLemmas.{clean_before}
use Rattle.store_accounts.proofs.KeepLemmas.{keeps_refused, keeps_then, mid_holds, transient_other, transient_named}

-- ---- reads of one user's rows

-- with the refusal of an inner read
pub own_refused : {X Y : Type 0} (user : List ℕ) (P : X → Account → Type 0) (Q : Y → Tables → Type 0) (a b : State) (e : Refusal) (q : Result Y Refusal) → q ≡ Err e → ReadsOpenAccount user P a b (Err e) → ReadsOwn user Q a b q
own_refused user P Q a b e q is r = record {
  found = λ clean tables h. subst (λ o. IfOk o (λ y. Q y (rows_of user tables))) (sym is) tt;
  there = λ clean accounts p. subst (λ o. OnOk o (HasOpen user accounts)) (sym is) tt;
  absent = λ clean accounts p. subst (λ o. IfErr o (λ f. f ≡ NoUser → HasNoOpen user accounts)) (sym is) (r.absent clean accounts p);
  sure = λ clean. subst (λ o. IfErr o (λ f. f ≡ NoUser → IsTrue b.is_open)) (sym is) (r.sure clean);
  keeps = keeps_refused a b (Err e) e q is r.keeps;
  named = subst (λ o. IfErr o (λ f. (f ≡ NoUser) ⊎ IsTransient f)) (sym is) r.named;
}

-- the read of an account that was entered
module _ {X Y : Type 0} (user : List ℕ) (P : X → Account → Type 0) (Q : Y → Tables → Type 0) (a b c : State) (r : Result X Refusal) (x : X) (was : r ≡ Ok x) (early : ReadsOpenAccount user P a b r) where
  has_user : {R : Account → Type 0} (accounts : Accounts) → OfOpen accounts user R → HasOpen user accounts
  has_user accounts there = rw there.1 refl

  on_any : (q : Result Y Refusal) {T : Type 0} → T → OnOk q T
  on_any (Ok y) t = t
  on_any (Err e) t = tt

  pub own_enters : (q : Result Y Refusal) → IfErr q IsTransient → FindsAmong user Q b c q → ReadsOwn user Q a c q
  own_enters q named late = record {
    found = λ clean tables h. late.found clean tables (mid_holds a b c r x was q early.keeps late.keeps clean tables h);
    there = λ clean accounts p. on_any q (has_user accounts (subst (λ o. IfOk o (λ z. OfOpen accounts user (P z))) was (early.found (clean_before b c _ late.keeps.crash clean) accounts p)));
    absent = λ clean accounts p. transient_other q (HasNoOpen user accounts) named;
    sure = λ clean. transient_other q (IsTrue c.is_open) named;
    keeps = keeps_then a b c r x was q early.keeps late.keeps;
    named = transient_named q named;
  }

-- the same rows, told otherwise
pub own_told : {X : Type 0} (user : List ℕ) (P Q : X → Tables → Type 0) (a b : State) (r : Result X Refusal) → ((x : X) (own : Tables) → P x own → Q x own) → ReadsOwn user P a b r → ReadsOwn user Q a b r
own_told {X} user P Q a b r tells h = record { found = λ clean tables held. told (rows_of user tables) r (h.found clean tables held); there = h.there; absent = h.absent; sure = h.sure; keeps = h.keeps; named = h.named }
  where
    told : (own : Tables) (o : Result X Refusal) → IfOk o (λ x. P x own) → IfOk o (λ x. Q x own)
    told own (Err e) k = tt
    told own (Ok x) k = tells x own k

-- the same account, read through its rows
pub own_reads : {X : Type 0} (user : List ℕ) (P : X → Tables → Type 0) (Q : X → Account → Type 0) (a b : State) (r : Result X Refusal) → ((x : X) (own : Tables) (account : Account) → IsShown user own account → P x own → Q x account)
    → ReadsOwn user P a b r → ReadsOpenAccount user Q a b r
own_reads {X} user P Q a b r tells h = record {
  found = λ clean accounts p. answered_by accounts p r (h.there clean accounts p) (h.found clean p.0 p.1);
  absent = h.absent;
  sure = h.sure;
  keeps = h.keeps;
  named = h.named;
}
  where
    of_user : (accounts : Accounts) (p : Presents a.now accounts) (x : X) → HasOpen user accounts → P x (rows_of user p.0) → OfOpen accounts user (Q x)
    of_user accounts p x has is = go (get accounts user) has (p.2.users user)
      where
        by : (account : Account) (closed : Bool) → IsSome (cond closed None (Some account)) → IsShown user (rows_of user p.0) account → (b : Account) × (cond closed None (Some account) ≡ Some b) × Q x b
        by account true some shown = absurd (let no = some in cc)
        by account false some shown = (account, refl, tells x (rows_of user p.0) account shown is)

        go : (o : Option Account) → IsSome (open_one o) → IsShownOrAbsent user (rows_of user p.0) o → (b : Account) × (open_one o ≡ Some b) × Q x b
        go None some shown = absurd (let no = some in cc)
        go (Some account) some shown = by account (is_closed_account account) some shown

    answered_by : (accounts : Accounts) (p : Presents a.now accounts) (o : Result X Refusal) → OnOk o (HasOpen user accounts) → IfOk o (λ x. P x (rows_of user p.0)) → IfOk o (λ x. OfOpen accounts user (Q x))
    answered_by accounts p (Err e) has is = tt
    answered_by accounts p (Ok x) has is = of_user accounts p x has is
