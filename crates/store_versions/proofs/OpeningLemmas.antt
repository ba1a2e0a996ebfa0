-- What opening makes of a database of any version, from what it makes of each.
use Rattle.std.proofs.Common.{◌≡◌, ◌↔◌, ℕ, Bool, false, length, slice_get, Option, Some, None, Ok, Err, Result, IfOk, OnOk, OnErr, IsTrue, ap, inl, inr, arith}
use Rattle.sqlite_schema.specs.declared.schema.Schema.{Schema}
use Rattle.sqlite_schema.specs.declared.schema.Table.{Table}
use Rattle.sqlite.specs.Effect.{Database}
use Rattle.sqlite.specs.State.{State}
use Rattle.sqlite.proofs.StateLemmas.{survives_weaker}
use Rattle.store_tables.specs.Schema.{IsOurSchema}
use Rattle.store_tables.specs.Connection.{SeesCommit, StaysSame}
use Rattle.store_tables.specs.Ours.{IsOurs, IsOpenedAs, OpensOurs}
use Rattle.store_versions.specs.declared.opening.Layout.{Layout}
use Rattle.store_versions.specs.declared.opening.Layout.TheVariants.{Current, Second, CopiesLast, CopiesFourth}
use Rattle.store_versions.specs.declared.version.Older.{Older}
use Rattle.store_versions.specs.declared.version.Older.TheVariants as older
use Rattle.store_versions.specs.OldSchema.{old_schema, oldest_schema, IsOldSchema, IsOld}
use Rattle.store_versions.specs.SecondSchema.{second_tables, IsSecondSchema, IsSecondVersion}
use Rattle.store_versions.specs.Upgrade.{IsOlderSchema, IsOlder, MigratesBy, MayOpenOld, OpensOld}
use Rattle.store_versions.specs.Opening.{IsBehind, IsKnown, LiesAs, LayoutBecomes, MayBecome, OpensKnown}

-- ---- no schema is two of them

old_tables : (schema : Schema) → IsOldSchema schema → length schema.tables ≡ 7
old_tables schema (inl is) = ap (λ (s : Schema). length s.tables) is
old_tables schema (inr is) = ap (λ (s : Schema). length s.tables) is

our_tables : (schema : Schema) → IsOurSchema schema → length schema.tables ≡ 8
our_tables schema is = ap (λ (s : Schema). length s.tables) is

second_of : (schema : Schema) → IsSecondSchema schema → schema.tables ≡ second_tables
second_of schema (inl is) = ap (λ (s : Schema). s.tables) is
second_of schema (inr is) = ap (λ (s : Schema). s.tables) is

pub versions_apart : (schema : Schema) → IsOurSchema schema → IsOldSchema schema → ⊥
versions_apart schema ours old = absurd (let seven = old_tables schema old in let eight = our_tables schema ours in omega (arith, seven, eight))

pub second_not_old : (schema : Schema) → IsSecondSchema schema → IsOldSchema schema → ⊥
second_not_old schema second old = absurd (let seven = old_tables schema old in let eight : length schema.tables ≡ 8 = ap length (second_of schema second) in omega (arith, seven, eight))

columns_of : Option Table → ℕ
columns_of (Some table) = length table.columns
columns_of None = 0

-- a copy has a column more
pub second_not_ours : (schema : Schema) → IsOurSchema schema → IsSecondSchema schema → ⊥
unfolding columns_of
second_not_ours schema ours second =
    absurd (let five : columns_of (slice_get schema.tables 7) ≡ 5 = ap (λ (s : Schema). columns_of (slice_get s.tables 7)) ours in
    let four : columns_of (slice_get schema.tables 7) ≡ 4 = ap (λ l. columns_of (slice_get l 7)) (second_of schema second) in omega (arith, five, four))

pub orders_apart : (schema : Schema) → schema ≡ old_schema → schema ≡ oldest_schema → ⊥
unfolding columns_of
orders_apart schema last fourth =
    absurd (let six : columns_of (slice_get schema.tables 3) ≡ 6 = ap (λ (s : Schema). columns_of (slice_get s.tables 3)) last in
    let four : columns_of (slice_get schema.tables 3) ≡ 4 = ap (λ (s : Schema). columns_of (slice_get s.tables 3)) fourth in omega (arith, six, four))

-- ---- what each answers

means : {E : Type 0} (P Q : Type 0) → P ↔ Q → (r : Result Bool E) → IfOk r (λ is. IsTrue is ↔ P) → IfOk r (λ is. IsTrue is ↔ Q)
means P Q both (Ok is) said = (λ yes. both.0 (said.0 yes), λ q. said.1 (both.1 q))
means P Q both (Err e) said = tt

then_becomes : {E : Type 0} (P Q : Type 0) → (P → Q) → (r : Result Bool E) → IfOk r (λ is. IsTrue is → P) → IfOk r (λ is. IsTrue is → Q)
then_becomes P Q so (Ok is) said = λ yes. so (said yes)
then_becomes P Q so (Err e) said = tt

ours_known : (db : Database) → IsOurSchema db.schema → IsKnown db → IsOurs db
ours_known db is (inl ours) = ours
ours_known db is (inr (inl second)) = absurd (second_not_ours db.schema is second.schema)
ours_known db is (inr (inr old)) = absurd (versions_apart db.schema is old.schema)

pub opens_current : {E : Type 0} (old new : State) (r : Result Bool E) → OpensOurs old new r → OpensKnown Current old new r
opens_current old new r h = record {
  found = λ ours clean. means (IsOurs old.now) (IsKnown old.now) (λ is. inl is, ours_known old.now ours) r (h.found ours clean);
  opened = λ ours clean. seen r (h.same ours clean) (h.live ours clean);
  unknown = λ ours clean. if_said r (StaysSame old new) (h.same ours clean);
  refused = λ ours clean. if_refused r (StaysSame old new) (h.same ours clean);
  unchanged = λ ours clean is. h.same ours clean;
  crash = λ ours. survives_weaker old new (λ _. ⊥) (MayBecome Current old) (λ clean db none. absurd none) (h.crash ours);
}
  where
    seen : {E : Type 0} (o : Result Bool E) → StaysSame old new → OnOk o (SeesCommit new) → IfOk o (λ is. IsTrue is → IsOpenedAs old.now new.now × SeesCommit new)
    seen (Ok is) same live = λ _. (same.now_is live.is_open, live)
    seen (Err e) same live = tt

    if_said : {E : Type 0} (o : Result Bool E) (P : Type 0) → P → IfOk o (λ is. is ≡ false → P)
    if_said (Ok is) P p = λ _. p
    if_said (Err e) P p = tt

    if_refused : {E : Type 0} (o : Result Bool E) (P : Type 0) → P → OnErr o P
    if_refused (Ok is) P p = tt
    if_refused (Err e) P p = p

-- ---- an earlier version

-- its schema is not ours
older_apart : (older : Older) (schema : Schema) → IsOlderSchema older schema → IsOurSchema schema → ⊥
older_apart older.Second schema is ours = second_not_ours schema ours is
older_apart older.CopiesLast schema is ours = versions_apart schema ours is
older_apart older.CopiesFourth schema is ours = versions_apart schema ours is

is_behind : (older : Older) (schema : Schema) → IsOlderSchema older schema → IsBehind schema
is_behind older.Second schema is = inl is
is_behind older.CopiesLast schema is = inr is
is_behind older.CopiesFourth schema is = inr is

second_known : (db : Database) → IsSecondSchema db.schema → IsKnown db → IsSecondVersion db
second_known db is (inl ours) = absurd (second_not_ours db.schema ours.schema is)
second_known db is (inr (inl second)) = second
second_known db is (inr (inr old)) = absurd (second_not_old db.schema is old.schema)

old_known : (db : Database) → IsOldSchema db.schema → IsKnown db → IsOld db
old_known db is (inl ours) = absurd (versions_apart db.schema ours.schema is)
old_known db is (inr (inl second)) = absurd (second_not_old db.schema second.schema is)
old_known db is (inr (inr old)) = old

older_known : (older : Older) (db : Database) → IsOlderSchema older db.schema → IsOlder older db ↔ IsKnown db
older_known older.Second db is = (λ second. inr (inl second), second_known db is)
older_known older.CopiesLast db is = (λ old. inr (inr old), old_known db is)
older_known older.CopiesFourth db is = (λ old. inr (inr old), old_known db is)

module _ {E : Type 0} (layout : Layout) (older : Older) (lies : (schema : Schema) → LiesAs layout schema → IsOlderSchema older schema) (so : (old new : Database) → MigratesBy older old new → LayoutBecomes layout old new) where
  pub opens_older : (old new : State) (r : Result Bool E) → OpensOld older old new r → OpensKnown layout old new r
  opens_older old new r h = record {
    found = λ lie clean. means (IsOlder older old.now) (IsKnown old.now) (older_known older old.now (lies old.now.schema lie)) r (h.found (lies old.now.schema lie) clean);
    opened = λ lie clean. then_becomes (MigratesBy older old.now new.now × SeesCommit new) (LayoutBecomes layout old.now new.now × SeesCommit new) (λ both. (so old.now new.now both.0, both.1)) r (h.migrated (lies old.now.schema lie) clean);
    unknown = λ lie. h.not_old (lies old.now.schema lie);
    refused = λ lie. h.refused (lies old.now.schema lie);
    unchanged = λ lie clean is. absurd (older_apart older old.now.schema (lies old.now.schema lie) is);
    crash = λ lie. survives_weaker old new (MayOpenOld older old) (MayBecome layout old)
        (λ clean db may. record {
          known = (older_known older old.now (lies old.now.schema lie)).0 may.old;
          behind = is_behind older old.now.schema (lies old.now.schema lie);
          db = may.migrated.db;
          became = so old.now may.migrated.db may.migrated.turned;
          left = may.migrated.left;
        }) (h.crash (lies old.now.schema lie));
  }

pub opens_second : {E : Type 0} (old new : State) (r : Result Bool E) → OpensOld older.Second old new r → OpensKnown Second old new r
opens_second = opens_older Second older.Second (λ schema is. is) (λ old new turned. turned)

pub opens_last : {E : Type 0} (old new : State) (r : Result Bool E) → OpensOld older.CopiesLast old new r → OpensKnown CopiesLast old new r
opens_last = opens_older CopiesLast older.CopiesLast (λ schema is. inl is) (λ old new turned. turned)

pub opens_fourth : {E : Type 0} (old new : State) (r : Result Bool E) → OpensOld older.CopiesFourth old new r → OpensKnown CopiesFourth old new r
opens_fourth = opens_older CopiesFourth older.CopiesFourth (λ schema is. inr is) (λ old new turned. turned)
