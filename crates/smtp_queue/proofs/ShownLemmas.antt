-- What a store shows that is had now and then, from one call to the next.
use Rattle.std.proofs.Common.{◌≡◌, ℕ, Bool, false, Option, Some, None, Result, Ok, Err, IfOk, IfSome, IsTrue, refl, sym, subst, inl, inr}
use Rattle.sqlite_trees.specs.declared.store.Store.{Ghosts}
use Rattle.sqlite.specs.Effect.{Database}
use Rattle.sqlite.specs.Held.{Held, state}
use Rattle.sqlite.specs.State.{HasCleanDisk}
use Rattle.store_accounts.specs.Account.{Accounts}
use Rattle.store_accounts.specs.Shows.{Presents, OffersAccounts}
use Rattle.managesieve_sessions.specs.Acts.{HasAccounts}
use Rattle.smtp_send.specs.declared.queue.DueMessage.{DueMessage}
use Rattle.smtp_send.specs.declared.queue.TakenOut.{TakenOut}
use Rattle.store_accounts.specs.declared.next.QueueKey.{QueueKey}
use Rattle.store_accounts.specs.declared.refusal.Refusal.{Refusal}
use Rattle.store_lock.specs.declared.keeper.StoreUnavailable.{StoreUnavailable}
use Rattle.store_lock.specs.Taken.{IsStoreTaken}
use Rattle.store_lock.specs.HeldStores.{GivesStoreBack, TakesStore}
use Rattle.store_lock.specs.declared.held_store.HeldStore.{HeldStore}
use Rattle.smtp_queue.specs.DueRows.{IsDueRowFound, QueueReads, QueueTakesRow, QueueWorks}
use Rattle.smtp_queue.specs.Queues.{QueueFinds, QueueRemoves, QueueShows, QueueStillShows, TurnsShown, store_and_keeper}
use Rattle.smtp_queue.specs.declared.due_row.DueRow.{DueRow}
use Rattle.smtp_queue.specs.declared.waits.RowWaits.{RowWaits}

-- tables of ours are tables that `open` takes
presented : (db : Database) (accounts : Accounts) → Presents db accounts → OffersAccounts db accounts
presented db accounts shown = inl shown

module _ {S : Type 0} (g : Ghosts S) (tells : Bool) {K : Type 0} (holds : K → Database) where
  abbrev Still : Option (Held S) → K → Option (Held S) → K → Type 0
  Still store keeper later after = QueueStillShows g tells holds (store_and_keeper store keeper) (store_and_keeper later after)

  abbrev Turns : (Accounts → Accounts → Type 0) → Option (Held S) → K → Option (Held S) → K → Type 0
  Turns Turn store keeper later after = TurnsShown g tells holds Turn (store_and_keeper store keeper) (store_and_keeper later after)

  -- the keeper tells the same
  pub shown_same : (store later : Option (Held S)) (keeper after : K) → later ≡ store → (IsTrue tells → holds after ≡ holds keeper) → Still store keeper later after
  shown_same (Some store) later keeper after is same told accounts shown = subst (λ o. QueueShows g (holds after) o accounts) (sym is) shown
  shown_same None later keeper after is same told accounts shown = subst (λ o. QueueShows g (holds after) o accounts) (sym is) (subst (λ db. OffersAccounts db accounts) (sym (same told)) shown)

  -- one call, and then another
  pub still_then : (a b c : Option (Held S)) (k l m : K) → Still a k b l → Still b l c m → Still a k c m
  still_then a b c k l m one two told accounts shown = two told accounts (one told accounts shown)

  pub turns_behind : (Turn : Accounts → Accounts → Type 0) (a b c : Option (Held S)) (k l m : K) → Still a k b l → Turns Turn b l c m → Turns Turn a k c m
  turns_behind Turn a b c k l m one two told accounts shown = two told accounts (one told accounts shown)

  pub turns_not : (Turn : Accounts → Accounts → Type 0) (a b : Option (Held S)) (k l : K) → ((accounts : Accounts) → Turn accounts accounts) → Still a k b l → Turns Turn a k b l
  turns_not Turn a b k l same still told accounts shown = (accounts, same accounts, still told accounts shown)

  pub turns_as : (Turn Wider : Accounts → Accounts → Type 0) (a b : Option (Held S)) (k l : K) → ((accounts later : Accounts) → Turn accounts later → Wider accounts later) → Turns Turn a k b l → Turns Wider a k b l
  turns_as Turn Wider a b k l wider turns told accounts shown = let h = turns told accounts shown in (h.0, wider accounts h.0 h.1, h.2)

  -- a store that was taken shows what the tables offered
  shown_taken : (was : Option (Held S)) → was ≡ None → (keeper after : K) (store : Held S) → (IsTrue tells → IsStoreTaken false (holds keeper) (state g store).now) → Still was keeper (Some store) after
  shown_taken was none keeper after store took told accounts shown = λ is_open. (took told).0.shown accounts (subst (λ o. QueueShows g (holds keeper) o accounts) none shown)

  pub still_taken : (old new : HeldStore K S) → TakesStore g tells holds old new → QueueStillShows g tells holds old new
  still_taken old new takes = elim takes [
    | inl same ↦ shown_same old.store new.store old.keeper new.keeper same.store same.tables
    | inr took ↦ subst (λ o. Still old.store old.keeper o new.keeper) (sym took.2) (shown_taken old.store took.0 old.keeper new.keeper took.1 took.3.seen)
  ]

  -- nothing shuts it, and its disk keeps what is written
  module _ (sure : (held : Held S) → IsTrue tells → HasCleanDisk (state g held) × IsTrue (state g held).is_open) where
    -- one that was given back is offered by the tables
    shown_given : (store : Held S) (keeper after : K) → (IsTrue tells → holds after ≡ (state g store).now) → Still (Some store) keeper None after
    shown_given store keeper after held told accounts shown = subst (λ db. OffersAccounts db accounts) (sym (held told)) (presented (state g store).now accounts (shown (sure store told).1))

    pub still_given : (old new : HeldStore K S) → GivesStoreBack g tells holds old new → QueueStillShows g tells holds old new
    still_given old new gives = subst (λ o. Still old.store old.keeper o new.keeper) (sym gives.emptied) (by old.store gives.given gives.none)
      where
        by : (was : Option (Held S)) → IfSome was (λ held. IsTrue tells → holds new.keeper ≡ (state g held).now) → (was ≡ None → IsTrue tells → holds new.keeper ≡ holds old.keeper) → Still was old.keeper None new.keeper
        by (Some store) held none = shown_given store old.keeper new.keeper held
        by None held none = shown_same None None old.keeper new.keeper refl (none refl)

    -- a call of it
    pub shown_turned : (Turn : Accounts → Accounts → Type 0) (was : Option (Held S)) (old new : Held S) → was ≡ Some old → (keeper : K) → QueueWorks Turn (state g old) (state g new) → Turns Turn was keeper (Some new) keeper
    shown_turned Turn was old new some keeper works told accounts shown = works.carries (sure new told).0 accounts (subst (λ o. QueueShows g (holds keeper) o accounts) some shown)

    -- a row was looked for in a store that was taken before
    pub find_made : (waits : RowWaits) (now : ℕ) (start : QueueKey) (a b : Option (Held S)) (k l : K) (old new : Held S) → Still a k b l → b ≡ Some old → (q : Result (Option DueRow) Refusal)
        → QueueWorks (QueueReads (IsDueRowFound waits now start) q) (state g old) (state g new) → (r : Result (Option DueRow) StoreUnavailable) → ((accounts : Accounts) → IfOk q (IsDueRowFound waits now start accounts) → IfOk r (IsDueRowFound waits now start accounts))
        → Turns (QueueFinds waits now start r) a k (Some new) l
    find_made waits now start a b k l old new still some q works r wider =
        turns_behind (QueueFinds waits now start r) a b (Some new) k l l still
        (turns_as (QueueReads (IsDueRowFound waits now start) q) (QueueFinds waits now start r) b (Some new) l l (λ accounts later h. (h.0, wider accounts h.1)) (shown_turned (QueueReads (IsDueRowFound waits now start) q) b old new some l works))

    -- a row was taken out of it, or not
    pub remove_made : (place : QueueKey) (sent : DueMessage) (a b : Option (Held S)) (k l : K) (old new : Held S) → Still a k b l → b ≡ Some old → (q : Result TakenOut Refusal) → QueueWorks (QueueTakesRow place sent q) (state g old) (state g new)
        → (r : Result TakenOut StoreUnavailable) → ((accounts later : Accounts) → QueueTakesRow place sent q accounts later → QueueRemoves place sent r accounts later) → Turns (QueueRemoves place sent r) a k (Some new) l
    remove_made place sent a b k l old new still some q works r wider =
        turns_behind (QueueRemoves place sent r) a b (Some new) k l l still (turns_as (QueueTakesRow place sent q) (QueueRemoves place sent r) b (Some new) l l wider (shown_turned (QueueTakesRow place sent q) b old new some l works))

  -- nothing was asked
  pub find_not : (waits : RowWaits) (now : ℕ) (start : QueueKey) (a b : Option (Held S)) (k l : K) (denial : StoreUnavailable) (r : Result (Option DueRow) StoreUnavailable) → r ≡ Err denial → Still a k b l → Turns (QueueFinds waits now start r) a k b l
  find_not waits now start a b k l denial r is still = turns_not (QueueFinds waits now start r) a b k l (λ accounts. (refl, subst (λ o. IfOk o (IsDueRowFound waits now start accounts)) (sym is) tt)) still

  pub remove_not : (place : QueueKey) (sent : DueMessage) (a b : Option (Held S)) (k l : K) (denial : StoreUnavailable) (r : Result TakenOut StoreUnavailable) → r ≡ Err denial → Still a k b l → Turns (QueueRemoves place sent r) a k b l
  remove_not place sent a b k l denial r is still = turns_not (QueueRemoves place sent r) a b k l (λ accounts. subst (λ o. QueueRemoves place sent o accounts accounts) (sym is) refl) still
