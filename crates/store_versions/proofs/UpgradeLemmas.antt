-- What opening makes of a database of an earlier version.
use Rattle.std.proofs.Common.{◌≡◌, ◌↔◌, Bool, true, false, Ok, Err, Result, IfOk, OnOk, OnErr, IsTrue, refl, sym, ◌∙◌, subst}
use Rattle.sqlite.specs.State.{State, HasCleanDisk, Survives}
use Rattle.sqlite.proofs.StateLemmas.{survives_then, survives_weaker}
use Rattle.store_tables.specs.Connection.{SeesCommit, IsSettled, StaysSame, AsksDatabase}
use Rattle.store_versions.specs.declared.version.Older.{Older}
use Rattle.store_versions.specs.Upgrade.{IsOlderSchema, IsOlder, MigratesBy, Migrates, MayMigrate, MayOpenOld, OpensOld}
use Rattle.store_tables.proofs.WriteLemmas.{clean_before}

module _ {E F : Type 0} (older : Older) (old between new : State) (r : Result Bool E) (asks : AsksDatabase (IsOlderSchema older) (λ is. IsTrue is ↔ IsOlder older old.now) old between r) where
  -- the query failed
  pub old_refused : (e : F) (q : Result Bool F) → q ≡ Err e → OpensOld older old between q
  old_refused e q is = record {
    found = λ olds clean. subst (λ o. IfOk o (λ b. IsTrue b ↔ IsOlder older old.now)) (sym is) tt;
    migrated = λ olds clean. subst (λ o. IfOk o (λ b. IsTrue b → MigratesBy older old.now between.now × SeesCommit between)) (sym is) tt;
    not_old = λ olds clean. subst (λ o. IfOk o (λ b. b ≡ false → StaysSame old between)) (sym is) tt;
    refused = λ olds clean. subst (λ o. OnErr o (StaysSame old between)) (sym is) (asks.same olds clean);
    crash = λ olds. survives_weaker old between (λ _. ⊥) _ (λ clean db none. absurd none) (asks.crash olds);
  }

  -- the version is another one
  pub old_none : r ≡ Ok false → (q : Result Bool F) → q ≡ Ok false → OpensOld older old between q
  old_none was q is = record {
    found = λ olds clean. subst (λ o. IfOk o (λ b. IsTrue b ↔ IsOlder older old.now)) (sym is) (subst (λ o. IfOk o (λ b. IsTrue b ↔ IsOlder older old.now)) was (asks.found olds clean));
    migrated = λ olds clean. subst (λ o. IfOk o (λ b. IsTrue b → MigratesBy older old.now between.now × SeesCommit between)) (sym is) (λ no. absurd (let e : false ≡ true = no in cc));
    not_old = λ olds clean. subst (λ o. IfOk o (λ b. b ≡ false → StaysSame old between)) (sym is) (λ _. asks.same olds clean);
    refused = λ olds clean. subst (λ o. OnErr o (StaysSame old between)) (sym is) tt;
    crash = λ olds. survives_weaker old between (λ _. ⊥) _ (λ clean db none. absurd none) (asks.crash olds);
  }

  module _ {X : Type 0} (was : r ≡ Ok true) (done : Result X F) (made : Migrates older between new done) (settled : HasCleanDisk new → OnOk done (IsSettled new)) (same : HasCleanDisk new → OnErr done (StaysSame between new))
      (survives : Survives between new (MayMigrate older between)) where
    begun : HasCleanDisk new → HasCleanDisk between
    begun clean = clean_before between new _ survives clean

    sees : IsOlderSchema older old.now.schema → HasCleanDisk new → SeesCommit between
    sees olds clean = subst (λ o. OnOk o (SeesCommit between)) was (asks.live olds (begun clean))

    same_now : IsOlderSchema older old.now.schema → HasCleanDisk new → between.now ≡ old.now
    same_now olds clean = (asks.same olds (begun clean)).now_is (sees olds clean).is_open

    both_same : IsOlderSchema older old.now.schema → HasCleanDisk new → StaysSame between new → StaysSame old new
    both_same olds clean stays = record {
      now_is = λ is_open. stays.now_is is_open ∙ same_now olds clean;
      committed_is = λ is_open. stays.committed_is is_open ∙ (asks.same olds (begun clean)).committed_is (sees olds clean).is_open;
    }

    left : IsOlderSchema older old.now.schema → Survives old new (MayOpenOld older old)
    left olds =
        survives_then old between new (λ _. ⊥) _ (MayOpenOld older old) (λ clean db none. absurd none)
        (λ clean db may. record {
          old = (subst (λ o. IfOk o (λ b. IsTrue b ↔ IsOlder older old.now)) was (asks.found olds (begun clean))).0 refl;
          migrated = record { db = may.db; turned = subst (λ d. MigratesBy older d may.db) (same_now olds clean) may.turned; left = may.left };
        }) (asks.crash olds) survives

    -- it couldn't be made
    pub old_stopped : (e : F) → done ≡ Err e → (q : Result Bool F) → q ≡ Err e → OpensOld older old new q
    old_stopped e stopped q is = record {
      found = λ olds clean. subst (λ o. IfOk o (λ b. IsTrue b ↔ IsOlder older old.now)) (sym is) tt;
      migrated = λ olds clean. subst (λ o. IfOk o (λ b. IsTrue b → MigratesBy older old.now new.now × SeesCommit new)) (sym is) tt;
      not_old = λ olds clean. subst (λ o. IfOk o (λ b. b ≡ false → StaysSame old new)) (sym is) tt;
      refused = λ olds clean. subst (λ o. OnErr o (StaysSame old new)) (sym is) (both_same olds clean (subst (λ o. OnErr o (StaysSame between new)) stopped (same clean)));
      crash = left;
    }

    -- it is version 3
    pub old_all : (x : X) → done ≡ Ok x → (q : Result Bool F) → q ≡ Ok true → OpensOld older old new q
    old_all x went q is = record {
      found = λ olds clean. subst (λ o. IfOk o (λ b. IsTrue b ↔ IsOlder older old.now)) (sym is) (subst (λ o. IfOk o (λ b. IsTrue b ↔ IsOlder older old.now)) was (asks.found olds (begun clean)));
      migrated = λ olds clean. subst (λ o. IfOk o (λ b. IsTrue b → MigratesBy older old.now new.now × SeesCommit new)) (sym is) (λ yes. all olds clean);
      not_old = λ olds clean. subst (λ o. IfOk o (λ b. b ≡ false → StaysSame old new)) (sym is) (λ no. absurd (let e : true ≡ false = no in cc));
      refused = λ olds clean. subst (λ o. OnErr o (StaysSame old new)) (sym is) tt;
      crash = left;
    }
      where
        all : IsOlderSchema older old.now.schema → HasCleanDisk new → MigratesBy older old.now new.now × SeesCommit new
        all olds clean =
            let turned = subst (λ o. OnOk o (MigratesBy older between.now new.now)) went (made clean) in
            let live = subst (λ o. OnOk o (IsSettled new)) went (settled clean) in
            (subst (λ d. MigratesBy older d new.now) (same_now olds clean) turned, record { is_open = live.is_open; same = live.same })
