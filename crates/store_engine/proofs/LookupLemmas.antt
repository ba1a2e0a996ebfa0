-- Reads of one user's account, one after the other.
use Rattle.std.proofs.Common.{◌≡◌, ◌⊎◌, ℕ, List, Option, Some, None, option_map, Ok, Err, Result, OnOk, IfOk, IfErr, IsTrue, refl, sym, ap, ◌∙◌, subst}
use Rattle.std.specs.FinMap.{get}
use Rattle.sqlite.specs.State.{State, HasCleanDisk}
use Rattle.store_accounts.specs.declared.profile.Profile.{Profile}
use Rattle.store_accounts.specs.declared.refusal.Refusal.{Refusal}
use Rattle.store_accounts.specs.declared.refusal.Refusal.TheVariants.{NoUser}
use Rattle.store_accounts.specs.Account.{Account, Accounts}
use Rattle.store_accounts.specs.AccountRows.{profile_of}
use Rattle.store_accounts.specs.Promises.{IsFree, OfUser, HasNoOpen, KeepsTables, OfOpen, ReadsOpenAccount, ReadsEntered}
use Rattle.store_accounts.specs.Refusals.{IsTransient}
use Rattle.store_accounts.specs.Shows.{Presents}
use Rattle.store_accounts.proofs.KeepLemmas.{keeps_ok, keeps_refused, keeps_then, mid_shows, transient_other, reads_answer}
use Rattle.store_accounts.proofs.EnterLemmas.{enters_both, enters_failed}
use Rattle.store_tables.proofs.ResultLemmas.{on_ok}
use Rattle.store_tables.proofs.WriteLemmas.{clean_before}
use Rattle.store_engine.specs.AccountEvents.{text_named, active_text}
use Rattle.store_engine.specs.Lookups.{LooksUp, Recalls}
use Rattle.store_engine.proofs.RecallLemmas.{recalls_entered}

-- a user without a profile has no account
pub free_of : (accounts : Accounts) (user : List ℕ) → None ≡ option_map profile_of (get accounts user) → IsFree user accounts
free_of accounts user is = go (get accounts user) is
  where
    go : (o : Option Account) → None ≡ option_map profile_of o → o ≡ None
    go None e = refl
    go (Some a) e = absurd (let same = e in cc)

-- a profile is an account's
pub owned_by : (accounts : Accounts) (user : List ℕ) (p : Profile) → Some p ≡ option_map profile_of (get accounts user) → OfUser accounts user (λ a. p ≡ profile_of a)
owned_by accounts user p is = go (get accounts user) refl is
  where
    go : (o : Option Account) → get accounts user ≡ o → Some p ≡ option_map profile_of o → OfUser accounts user (λ a. p ≡ profile_of a)
    go None has e = absurd (let same = e in cc)
    go (Some a) has e = let same : p ≡ profile_of a = cc in (a, has, same)

-- what was found of one account, and of the same one
both_of : (accounts : Accounts) (user : List ℕ) (P Q R : Account → Type 0) → ((a : Account) → P a → Q a → R a) → OfOpen accounts user P → OfOpen accounts user Q → OfOpen accounts user R
both_of accounts user P Q R both one two =
    let same : Some two.0 ≡ Some one.0 = sym two.1 ∙ one.1 in
    let is : two.0 ≡ one.0 = cc in
    (one.0, one.1, both one.0 one.2 (subst Q is two.2))

sure_of_transient : {X : Type 0} (q : Result X Refusal) (P : Type 0) → IfErr q IsTransient → IfErr q (λ e. e ≡ NoUser → P)
sure_of_transient q P transient = transient_other q P transient

-- ---- a read of the store

pub looked : {X : Type 0} (user : List ℕ) (P : X → Account → Type 0) (a b : State) (r : Result X Refusal) → ReadsOpenAccount user P a b r → LooksUp user P a b r
looked {X} user P a b r reads = record { reads = reads; sure = λ clean. was_open clean r (reads.sure clean) }
  where
    was_open : HasCleanDisk b → (q : Result X Refusal) → IfErr q (λ e. e ≡ NoUser → IsTrue b.is_open) → IfErr q (λ e. e ≡ NoUser → IsTrue a.is_open)
    was_open clean (Ok x) h = tt
    was_open clean (Err e) h = λ is. reads.keeps.shut clean (h is)

-- ---- another answer

-- an answer that is made of what was read, or a refusal without visible cause
pub looks_answer : {X Y : Type 0} (user : List ℕ) (P : X → Account → Type 0) (Q : Y → Account → Type 0) (a b : State) (r : Result X Refusal) (x : X) → r ≡ Ok x → (q : Result Y Refusal) → IfErr q IsTransient
    → ((account : Account) → P x account → IfOk q (λ y. Q y account)) → LooksUp user P a b r → LooksUp user Q a b q
looks_answer user P Q a b r x was q transient made look = record {
  reads = reads_answer user P Q a b r x was q transient made look.reads;
  sure = λ clean. sure_of_transient q (IsTrue a.is_open) transient;
}

-- ---- a second read

module _ {X Y Z : Type 0} (user : List ℕ) (P : X → Account → Type 0) (Q : Y → Account → Type 0) (R : Z → Account → Type 0) (a b c : State) (r : Result X Refusal) (x : X) (was : r ≡ Ok x) (early : LooksUp user P a b r) where
  first : HasCleanDisk b → (accounts : Accounts) → Presents a.now accounts → OfOpen accounts user (P x)
  first clean accounts p = subst (λ q. IfOk q (λ v. OfOpen accounts user (P v))) was (early.reads.found clean accounts p)

  was_open : HasCleanDisk b → IsTrue a.is_open
  was_open clean = early.reads.keeps.shut clean (on_ok r x was (IsTrue b.is_open) (early.reads.keeps.live clean))

  pub looks_both : (y : Y) (z : Z) → ((account : Account) → P x account → Q y account → R z account) → ReadsOpenAccount user Q b c (Ok y) → LooksUp user R a c (Ok z)
  looks_both y z both late = record {
    reads = record {
      found = λ clean accounts shows.
          both_of accounts user (P x) (Q y) (R z) both (first (clean_before b c _ late.keeps.crash clean) accounts shows)
          (late.found clean accounts (mid_shows a b c r x was (Ok y) early.reads.keeps late.keeps clean accounts shows));
      absent = λ clean accounts shows. tt;
      sure = λ clean. tt;
      keeps = keeps_ok a c (Ok y) y (Ok z) refl (keeps_then a b c r x was (Ok y) early.reads.keeps late.keeps);
      named = tt;
    };
    sure = λ clean. tt;
  }

  pub looks_then_refused : (e : Refusal) (q : Result Z Refusal) → q ≡ Err e → ReadsOpenAccount user Q b c (Err e) → LooksUp user R a c q
  looks_then_refused e q is late = record {
    reads = record {
      found = λ clean accounts shows. subst (λ o. IfOk o (λ z. OfOpen accounts user (R z))) (sym is) tt;
      absent = λ clean accounts shows.
          subst (λ o. IfErr o (λ f. f ≡ NoUser → HasNoOpen user accounts)) (sym is) (late.absent clean accounts (mid_shows a b c r x was (Err e) early.reads.keeps late.keeps clean accounts shows));
      sure = λ clean. subst (λ o. IfErr o (λ f. f ≡ NoUser → IsTrue c.is_open)) (sym is) (late.sure clean);
      keeps = keeps_refused a c (Err e) e q is (keeps_then a b c r x was (Err e) early.reads.keeps late.keeps);
      named = subst (λ o. IfErr o (λ f. (f ≡ NoUser) ⊎ IsTransient f)) (sym is) late.named;
    };
    sure = λ clean. subst (λ o. IfErr o (λ f. f ≡ NoUser → IsTrue a.is_open)) (sym is) (λ none. was_open (clean_before b c _ late.keeps.crash clean));
  }

-- and what it answers is the answer
pub looks_then : {X Z : Type 0} (user : List ℕ) (P : X → Account → Type 0) (R : Z → Account → Type 0) (a b c : State) (r : Result X Refusal) (x : X) → r ≡ Ok x → LooksUp user P a b r → (q : Result Z Refusal) → ReadsOpenAccount user R b c q
    → LooksUp user R a c q
looks_then user P R a b c r x was early (Ok z) late = looks_both user P R R a b c r x was early z z (λ account one two. two) late
looks_then user P R a b c r x was early (Err e) late = looks_then_refused user P R R a b c r x was early e (Err e) refl late

-- ---- a read of the account that was entered

module _ {X Y Z : Type 0} (user : List ℕ) (P : X → Account → Type 0) (Q : Y → Account → Type 0) (R : Z → Account → Type 0) (a b c : State) (r : Result X Refusal) (x : X) (was : r ≡ Ok x) (early : LooksUp user P a b r) (q : Result Y Refusal) (late : ReadsEntered user Q b c q) where
  pub looks_entered : (y : Y) → q ≡ Ok y → (z : Z) → ((account : Account) → P x account → Q y account → R z account) → LooksUp user R a c (Ok z)
  looks_entered y is z both = record { reads = enters_both user P a b c r x was early.reads Q q y is late R z both; sure = λ clean. tt }

  pub looks_failed : (end : Result Z Refusal) → OnOk end ⊥ → IfErr end IsTransient → LooksUp user R a c end
  looks_failed end none transient = record { reads = enters_failed user P a b c r x was early.reads Q q late R end none transient; sure = λ clean. sure_of_transient end (IsTrue a.is_open) transient }

-- and what it answers is the answer
pub looks_enters : {X Z : Type 0} (user : List ℕ) (P : X → Account → Type 0) (R : Z → Account → Type 0) (a b c : State) (r : Result X Refusal) (x : X) → r ≡ Ok x → LooksUp user P a b r → (q : Result Z Refusal) → ReadsEntered user R b c q
    → LooksUp user R a c q
looks_enters user P R a b c r x was early (Ok z) late = looks_entered user P R R a b c r x was early (Ok z) late z refl z (λ account one two. two)
looks_enters user P R a b c r x was early (Err e) late = looks_failed user P R R a b c r x was early (Err e) late (Err e) tt late.named

-- ---- what is recalled of the account that was entered

module _ {X Y : Type 0} (user : List ℕ) (P : X → Account → Type 0) (Q : Y → Account → Type 0) (a b c : State) (r : Result X Refusal) (x : X) (was : r ≡ Ok x) (early : LooksUp user P a b r) (q : Result Y Refusal) (late : Recalls user Q b c q) where
  entered : ReadsEntered user Q b c q
  entered = recalls_entered user Q b c q (λ clean. on_ok r x was (IsTrue b.is_open) (early.reads.keeps.live (clean_before b c _ late.keeps.crash clean))) late

  pub looks_recalled : (y : Y) → q ≡ Ok y → {Z : Type 0} (R : Z → Account → Type 0) (z : Z) → ((account : Account) → P x account → Q y account → R z account) → LooksUp user R a c (Ok z)
  looks_recalled y is R z both = looks_entered user P Q R a b c r x was early q entered y is z both

  pub recalled_keeps : KeepsTables a c q
  recalled_keeps = keeps_then a b c r x was q early.reads.keeps entered.keeps

-- ---- the text of the active script

active_is : (p : Profile) (a : Account) → p ≡ profile_of a → a.active ≡ p.active
active_is p a is = sym (ap (λ (q : Profile). q.active) is)

pub none_active : (p : Profile) (a : Account) → p ≡ profile_of a → p.active ≡ None → None ≡ active_text a
none_active p a is none = sym (ap (text_named a.scripts) (active_is p a is ∙ none))

pub some_active : (p : Profile) (a : Account) (name seen : List ℕ) (text : Option (List ℕ)) → p ≡ profile_of a → p.active ≡ Some name → seen ≡ name → text ≡ get a.scripts seen → text ≡ active_text a
some_active p a name seen text is some same read = read ∙ ap (get a.scripts) same ∙ sym (ap (text_named a.scripts) (active_is p a is ∙ some))
