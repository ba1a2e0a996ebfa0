-- What becomes of a keeper, and of its store while that is held.
use Rattle.std.specs.Prelude.{◌≡◌, ◌⊎◌, Bool, false, Option, Some, None, IsTrue, IfSome}
use Rattle.sqlite_trees.specs.declared.store.Store.{Ghosts}
use Rattle.sqlite.specs.Effect.{Database}
use Rattle.sqlite.specs.Held.{Held, state}
use Rattle.store_accounts.specs.Connection.{IsSettled}
use Rattle.store_lock.specs.Taken.{IsStoreTaken}
use Rattle.store_lock.specs.declared.held_store.HeldStore.{HeldStore}

-- the same store is held, or none still; a keeper's tables, if it tells them, are as they were
pub record HoldsSame {K S : Type 0} (tells : Bool) (holds : K → Database) (before after : HeldStore K S) : Type 0 where
  pub store : after.store ≡ before.store
  pub tables : IsTrue tells → holds after.keeper ≡ holds before.keeper

module _ {K S : Type 0} (g : Ghosts S) (tells : Bool) (holds : K → Database) where
  -- a store that was taken sees what its keeper's tables held, and is settled
  pub record SeesTables (before : K) (store : Held S) : Type 0 where
    pub seen : IsTrue tells → IsStoreTaken false (holds before) (state g store).now
    pub settled : IsTrue tells → IsSettled (state g store)

  -- all is as it was; or none was held, and this one is
  abbrev pub TakesStore : HeldStore K S → HeldStore K S → Type 0
  TakesStore before after =
      HoldsSame tells holds before after ⊎ ((before.store ≡ None) × (store : Held S) × (after.store ≡ Some store) × SeesTables before.keeper store)

  -- none is held; the tables are those of the store that was, or as they were if none was
  pub record GivesStoreBack (before after : HeldStore K S) : Type 0 where
    pub emptied : after.store ≡ None
    pub given : IfSome before.store (λ store. IsTrue tells → holds after.keeper ≡ (state g store).now)
    pub none : before.store ≡ None → IsTrue tells → holds after.keeper ≡ holds before.keeper
