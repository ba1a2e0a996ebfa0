-- Queries for one user, one after the other, and what is told by them.
use Rattle.std.proofs.Common.{◌≡◌, ℕ, List, Ok, Err, Result, IfOk, IfErr, IfSome, OnOk, Option, Some, None, subst}
use Rattle.std.specs.FinMap.{get}
use Rattle.sqlite.specs.State.{State}
use Rattle.store_tables.specs.Rows.{Tables}
use Rattle.store_tables.proofs.WriteLemmas.{clean_before}
use Rattle.store_accounts.specs.declared.refusal.Refusal.{Refusal}
use Rattle.store_accounts.specs.Account.{Account}
use Rattle.store_accounts.specs.Refusals.{IsTransient}
use Rattle.store_accounts.specs.Shows.{rows_of, IsShown, IsShownOrAbsent}
use Rattle.store_accounts.specs.Promises.{FindsAmong, ReadsEntered}
use Rattle.store_accounts.proofs.KeepLemmas.{keeps_ok, keeps_failed, keeps_then, mid_holds, none_if}

module _ {X Y E F : Type 0} (user : List ℕ) (P : X → Tables → Type 0) (Q : Y → Tables → Type 0) (a b : State) (r : Result X E) (h : FindsAmong user P a b r) where
  -- an answer that is made of what was found
  pub among_made : (x : X) → r ≡ Ok x → (q : Result Y F) → ((own : Tables) → P x own → IfOk q (λ y. Q y own)) → FindsAmong user Q a b q
  among_made x was q made = record { found = λ clean tables held. made (rows_of user tables) (subst (λ o. IfOk o (λ z. P z (rows_of user tables))) was (h.found clean tables held)); keeps = keeps_ok a b r x q was h.keeps }

  -- a refusal
  pub among_failed : (q : Result Y F) → OnOk q ⊥ → FindsAmong user Q a b q
  among_failed q none = record { found = λ clean tables held. none_if q (λ y. Q y (rows_of user tables)) none; keeps = keeps_failed a b r q none h.keeps }

-- one query after another
module _ {X Y Z E F G : Type 0} (user : List ℕ) (P : X → Tables → Type 0) (Q : Y → Tables → Type 0) (R : Z → Tables → Type 0) (a b c : State) (r : Result X E) (x : X) (was : r ≡ Ok x) (early : FindsAmong user P a b r) (q : Result Y F)
    (late : FindsAmong user Q b c q) where
  pub among_both : (y : Y) → q ≡ Ok y → (z : Z) → ((own : Tables) → P x own → Q y own → R z own) → FindsAmong {E = G} user R a c (Ok z)
  among_both y is z made = record {
    found = λ clean tables h.
        made (rows_of user tables) (subst (λ o. IfOk o (λ w. P w (rows_of user tables))) was (early.found (clean_before b c _ late.keeps.crash clean) tables h))
        (subst (λ o. IfOk o (λ w. Q w (rows_of user tables))) is (late.found clean tables (mid_holds a b c r x was q early.keeps late.keeps clean tables h)));
    keeps = keeps_ok a c q y (Ok z) is (keeps_then a b c r x was q early.keeps late.keeps);
  }

  pub among_late : (end : Result Z G) → OnOk end ⊥ → FindsAmong user R a c end
  among_late end none = record { found = λ clean tables h. none_if end (λ z. R z (rows_of user tables)) none; keeps = keeps_failed a c q end none (keeps_then a b c r x was q early.keeps late.keeps) }

-- the same rows, told otherwise
pub among_told : {X E : Type 0} (user : List ℕ) (P Q : X → Tables → Type 0) (a b : State) (r : Result X E) → ((x : X) (own : Tables) → P x own → Q x own) → FindsAmong user P a b r → FindsAmong user Q a b r
among_told {X} {E} user P Q a b r tells h = record { found = λ clean tables held. told (rows_of user tables) r (h.found clean tables held); keeps = h.keeps }
  where
    told : (own : Tables) (o : Result X E) → IfOk o (λ x. P x own) → IfOk o (λ x. Q x own)
    told own (Err e) k = tt
    told own (Ok x) k = tells x own k

-- what the user's rows tell of the account
pub among_reads : {X : Type 0} (user : List ℕ) (P : X → Tables → Type 0) (Q : X → Account → Type 0) (a b : State) (r : Result X Refusal) → ((x : X) (own : Tables) (account : Account) → IsShown user own account → P x own → Q x account)
    → IfErr r IsTransient → FindsAmong user P a b r → ReadsEntered user Q a b r
among_reads {X} user P Q a b r tells named h = record {
  found = λ clean accounts p. told (get accounts user) (rows_of user p.0) r (p.2.users user) (h.found clean p.0 p.1);
  keeps = h.keeps;
  named = named;
}
  where
    told : (o : Option Account) (own : Tables) (q : Result X Refusal) → IsShownOrAbsent user own o → IfOk q (λ x. P x own) → IfOk q (λ x. IfSome o (Q x))
    told o own (Err e) shown is = tt
    told None own (Ok x) shown is = tt
    told (Some account) own (Ok x) shown is = tells x own account shown is
