-- Reads over all users, one after the other.
use Rattle.std.proofs.Common.{◌≡◌, ℕ, List, [], Ok, Err, Result, Vec, OnOk, IfOk, refl, subst}
use Rattle.std.specs.declared.alloc.Global.{Global}
use Rattle.sqlite_value.specs.Order.{Row}
use Rattle.sqlite_trees.specs.declared.store.Store.{Ghosts}
use Rattle.sqlite.specs.Listing.{understood}
use Rattle.sqlite.specs.declared.error.Error.{Error}
use Rattle.sqlite.specs.Held.{Held, state}
use Rattle.sqlite.specs.State.{State, HasCleanDisk, Shown}
use Rattle.sqlite.proofs.Callers.{IsPlain}
use Rattle.store_tables.specs.Rows.{Tables, HoldsTables}
use Rattle.store_tables.specs.Schema.{mail_schema}
use Rattle.store_tables.specs.Connection.{Queries, AnswersQuery}
use Rattle.store_tables.proofs.WriteLemmas.{clean_before}
use Rattle.store_accounts.specs.Next.{FindsAll}
use Rattle.store_accounts.proofs.QueryLemmas.{if_shown}
use Rattle.store_accounts.proofs.KeepLemmas.{finds_among, keeps_ok, keeps_failed, keeps_then, mid_holds, none_if}

-- a query of a plain text
pub finds_all : {S : Type 0} (g : Ghosts S) (sql : List ℕ) (params : Row) (plain : IsPlain (understood mail_schema sql)) (old new : Held S) (r : Result (Vec Row Global) Error) (asked : Queries g (AnswersQuery sql params) old new r)
    → (Part : List Row → Tables → Type 0) → ((rows : List Row) (tables : Tables) → HoldsTables mail_schema (state g old).now tables → Shown sql params (state g old) (state g new) rows → Part rows tables)
    → Queries g (FindsAll (λ (rows : Vec Row Global). Part rows.items)) old new r
finds_all g sql params plain old new r asked Part shows = record {
  ended = asked.ended;
  limit = asked.limit;
  finds = record {
    found = λ clean tables h. if_shown r (Shown sql params (state g old) (state g new)) (λ rows. Part rows tables) (λ rows. shows rows tables h) (asked.finds.ok clean);
    keeps = (finds_among g sql params plain old new r asked [] (λ rows own. Unit {0}) (λ rows tables h shown. tt)).finds.keeps;
  };
}

module _ {X Y E F : Type 0} (P : X → Tables → Type 0) (Q : Y → Tables → Type 0) (a b : State) (r : Result X E) (h : FindsAll P a b r) where
  -- an answer that is made of what was found
  pub all_made : (x : X) → r ≡ Ok x → (q : Result Y F) → ((tables : Tables) → P x tables → IfOk q (λ y. Q y tables)) → FindsAll Q a b q
  all_made x was q made = record { found = λ clean tables held. made tables (subst (λ o. IfOk o (λ z. P z tables)) was (h.found clean tables held)); keeps = keeps_ok a b r x q was h.keeps }

  -- a refusal
  pub all_failed : (q : Result Y F) → OnOk q ⊥ → FindsAll Q a b q
  all_failed q none = record { found = λ clean tables held. none_if q (λ y. Q y tables) none; keeps = keeps_failed a b r q none h.keeps }

-- a read after another, whose answer is the answer
module _ {X Y E F : Type 0} (P : X → Tables → Type 0) (Q R : Y → Tables → Type 0) (a b c : State) (r : Result X E) (x : X) (was : r ≡ Ok x) (early : FindsAll P a b r) (q : Result Y F) (late : FindsAll Q b c q) where
  pub all_then : ((tables : Tables) (y : Y) → P x tables → Q y tables → R y tables) → FindsAll R a c q
  all_then both = record {
    found = λ clean tables h.
        told tables q (subst (λ o. IfOk o (λ z. P z tables)) was (early.found (clean_before b c _ late.keeps.crash clean) tables h)) (late.found clean tables (mid_holds a b c r x was q early.keeps late.keeps clean tables h));
    keeps = keeps_then a b c r x was q early.keeps late.keeps;
  }
    where
      told : (tables : Tables) (o : Result Y F) → P x tables → IfOk o (λ y. Q y tables) → IfOk o (λ y. R y tables)
      told tables (Err e) first second = tt
      told tables (Ok y) first second = both tables y first second
