-- What a database shows that was made, or opened.
use Rattle.std.proofs.Common.{◌≡◌, ◌≤◌, ◌<◌, ◌⊎◌, ℕ, pos, arith, true, false, ◌&&◌, cond, codes, List, [], ◌∷◌, map, filter, refl, sym, ap, ◌∙◌, subst, inl, inr}
use Rattle.sqlite_value.specs.declared.value.Value.{Value}
use Rattle.sqlite_value.specs.declared.value.Value.TheVariants.{Int}
use Rattle.sqlite_value.specs.Order.{Row, column}
use Rattle.sqlite_value.specs.declared.keys.Collation.TheVariants.{Binary}
use Rattle.sqlite_sql.specs.declared.ops.CompareOp.TheVariants.{Eq}
use Rattle.sqlite_typed.proofs.TestLemmas.{at_texts, bytes_eq_refl}
use Rattle.sqlite_trees.specs.Tree.{Trees}
use Rattle.sqlite_keyed.proofs.ListLemmas.{filter-map, filter_same}
use Rattle.sqlite_trees.specs.View.{doubt}
use Rattle.sqlite_schema.specs.declared.schema.Table.{Table}
use Rattle.sqlite_schema.specs.declared.schema.Schema.{Schema}
use Rattle.sqlite_schema.specs.Rules.{equal, Fits}
use Rattle.sqlite_rules.specs.Lists.{Has}
use Rattle.sqlite_rules.proofs.ListLemmas.{all_has}
use Rattle.sqlite.specs.Effect.{Database}
use Rattle.sqlite.specs.State.{State, HasCleanDisk, Survives}
use Rattle.store_tables.specs.Rows.{Entry, cells_of, stored, IsHeld, Tables, HoldsTables, has_key, has_key_from}
use Rattle.store_tables.specs.Schema.{no_schema, the_tables, mail_schema, IsOurSchema}
use Rattle.store_tables.specs.Connection.{IsSettled, Outlives}
use Rattle.store_accounts.specs.Account.{Accounts, bytes_cmp, no_accounts}
use Rattle.store_tables.specs.MetaTable.{meta, meta_tree, version_key, version_row, version_rows, stored_value_column}
use Rattle.store_tables.specs.Ours.{IsOurs, IsOpenedAs, MayCreate, only_version}
use Rattle.store_accounts.specs.Shows.{ShowsIn, Presents, OffersAccounts, OffersIn, OpensAs, CrashLeavesOpened, rows_of, IsAbsent, IsShownOrAbsent, ShowsAccounts}
use Rattle.store_versions.specs.declared.opening.Layout.{Layout}
use Rattle.store_versions.specs.declared.opening.Layout.TheVariants.{Current, Second, CopiesLast, CopiesFourth}
use Rattle.store_versions.specs.OldSchema.{old_schema, oldest_schema, IsOldSchema, IsOld}
use Rattle.store_versions.specs.SecondSchema.{second_schema, second_unindexed_schema, IsSecondSchema, IsSecondVersion}
use Rattle.store_versions.specs.Migration.{TurnsNew, TurnsNewest}
use Rattle.store_versions.specs.Third.{TurnsThird}
use Rattle.store_versions.specs.Opening.{IsKnown, LiesAs, LayoutBecomes, MayBecome}
use Rattle.store_versions.proofs.OpeningLemmas.{versions_apart, orders_apart, second_not_ours, second_not_old}
use Rattle.store_accounts.specs.OldShows.{OffersOld, old_version_row}
use Rattle.store_accounts.specs.SecondShows.{OffersSecond, HoldsSecond, second_version_row}
use Rattle.store_accounts.proofs.VersionLemmas.{version_itself, one_version}
use Rattle.store_accounts.proofs.OldLemmas.{last_shows, fourth_shows}
use Rattle.store_accounts.proofs.SecondLemmas.{third_shows}
use Rattle.store_tables.proofs.SchemaFacts.{meta_listed}
use Rattle.std.specs.FinMap.{get-empty}

-- the tables without a user, and with the row of their version
shows_nobody : ShowsAccounts only_version no_accounts
shows_nobody = record { version = ap (λ b. cond (b && true) (version_row ∷ []) []) version_itself; users = λ user. subst (IsShownOrAbsent user (rows_of user only_version)) (sym (get-empty bytes_cmp user)) (absent user) }
  where
    absent : (user : List ℕ) → IsAbsent (rows_of user only_version)
    absent user = record { accounts = refl; scripts = refl; messages = refl; copies = refl; queue = refl; replies = refl; notices = refl }

pub presents_nobody : (db : Database) → HoldsTables mail_schema db only_version → Presents db no_accounts
presents_nobody db h = (only_version, h, shows_nobody)

-- what a crash leaves of a settled store shows what the store sees
pub shows_left : (s : State) → (HasCleanDisk s → Presents s.now no_accounts) → (HasCleanDisk s → IsSettled s) → HasCleanDisk s → (db : Trees) → s.may_leave db → ShowsIn db no_accounts
shows_left s shows settled clean db leaves = let h = settled clean in (s.now, shows clean, h.alone db leaves ∙ ap (λ (d : Database). d.trees) (sym h.same))

-- what a crash leaves while the tables are made
pub outlives_made : (old new : State) → old.now.schema ≡ no_schema → doubt old.is_clean ≤ doubt new.is_clean → (HasCleanDisk new → (db : Trees) → new.may_leave db → old.may_leave db ⊎ MayCreate old db)
    → Outlives (λ trees. ShowsIn trees no_accounts) old new
outlives_made old new empty faults left = record {
  faults = faults;
  crash = λ clean db leaves. elim (left clean db leaves) [ inl before ↦ inl before | inr made ↦ let m = made empty in inr (m.0, presents_nobody m.0 m.1, m.2) ];
}

-- ---- our tables

-- a database that offers accounts is ours
new_ours : (db : Database) (accounts : Accounts) → Presents db accounts → IsOurs db
new_ours db accounts p =
    let one = one_version db.trees (p.0 meta_tree) version_row (p.1.each meta meta_listed) p.2.version in
    record { schema = p.1.is; row = one.0; only = one.1; says = one.2 }

-- of one schema and the same trees another database has the same rows
rows_again : (seen db : Database) → seen.schema ≡ db.schema → seen.trees ≡ db.trees → (s : Schema) (tables : Tables) → HoldsTables s db tables → HoldsTables s seen tables
rows_again seen db schema trees s tables h = record { is = schema ∙ h.is; fits = subst (Fits s) (sym trees) h.fits; each = λ t listed. subst (λ (at : Trees). IsHeld (at t.tree) (tables t.tree)) (sym trees) (h.each t listed) }

-- opened on trees that offer accounts, a database shows them
shows_again : (old new db : Database) (accounts : Accounts) → IsOurSchema old.schema → IsOpenedAs old new → old.trees ≡ db.trees → Presents db accounts → Presents new accounts
shows_again old new db accounts ours opened trees p = subst (λ d. Presents d accounts) (sym opened) (p.0, rows_again old db (ours ∙ sym p.1.is) trees mail_schema p.0 p.1, p.2)

-- ---- and of version 1

old_schema_of : (db : Database) (accounts : Accounts) → OffersOld db accounts → IsOldSchema db.schema
old_schema_of db accounts p = elim p.1 [ inl h ↦ inl h.is | inr moved ↦ inr moved.1.is ]

old_is : (db : Database) (accounts : Accounts) → OffersOld db accounts → IsOld db
old_is db accounts p = elim p.1 [
  | inl h ↦ by (inl h.is) (one_version db.trees (p.0 meta_tree) old_version_row (h.each meta (inl refl)) p.2.version)
  | inr moved ↦ by (inr moved.1.is) (one_version db.trees (moved.0 meta_tree) old_version_row (moved.1.each meta (inl refl)) (ap (filter (has_key version_key)) (sym moved.2.versions) ∙ p.2.version))
]
  where
    by : IsOldSchema db.schema → (row : Row) × (version_rows db.trees ≡ row ∷ []) × (column row stored_value_column ≡ Int (pos 1)) → IsOld db
    by schema one = record { schema = schema; row = one.0; only = one.1; says = one.2 }

-- ---- and of version 2

second_schema_of : (db : Database) (accounts : Accounts) → OffersSecond db accounts → IsSecondSchema db.schema
second_schema_of db accounts p = elim p.1 [ inl h ↦ inl h.is | inr h ↦ inr h.is ]

second_is : (db : Database) (accounts : Accounts) → OffersSecond db accounts → IsSecondVersion db
second_is db accounts p = by (one_version db.trees (p.0 meta_tree) second_version_row (held p.1) p.2.version)
  where
    held : HoldsSecond db p.0 → IsHeld (db.trees meta_tree) (p.0 meta_tree)
    held (inl h) = h.each meta (inl refl)
    held (inr h) = h.each meta (inl refl)

    by : (row : Row) × (version_rows db.trees ≡ row ∷ []) × (column row stored_value_column ≡ Int (pos 2)) → IsSecondVersion db
    by one = record { schema = second_schema_of db accounts p; row = one.0; only = one.1; says = one.2 }

-- a database that offers accounts is known
pub shown_known : (db : Database) (accounts : Accounts) → OffersAccounts db accounts → IsKnown db
shown_known db accounts (inl p) = inl (new_ours db accounts p)
shown_known db accounts (inr (inl p)) = inr (inl (second_is db accounts p))
shown_known db accounts (inr (inr p)) = inr (inr (old_is db accounts p))

-- of one schema and the same trees another database offers them too
old_again : (seen db : Database) (accounts : Accounts) → seen.schema ≡ db.schema → seen.trees ≡ db.trees → OffersOld db accounts → OffersOld seen accounts
old_again seen db accounts schema trees p = (p.0, elim p.1 [ inl h ↦ inl (rows_again seen db schema trees old_schema p.0 h) | inr moved ↦ inr (moved.0, rows_again seen db schema trees oldest_schema moved.0 moved.1, moved.2) ], p.2)

second_again : (seen db : Database) (accounts : Accounts) → seen.schema ≡ db.schema → seen.trees ≡ db.trees → OffersSecond db accounts → OffersSecond seen accounts
second_again seen db accounts schema trees p =
    (p.0, elim p.1 [ inl h ↦ inl (rows_again seen db schema trees second_schema p.0 h) | inr h ↦ inr (rows_again seen db schema trees second_unindexed_schema p.0 h) ], p.2)

-- ---- by the layout of its tables

-- what opening makes of a database shows the accounts that it offered
becomes_shows : (layout : Layout) (old new : Database) → LiesAs layout old.schema → LayoutBecomes layout old new → (accounts : Accounts) → OffersAccounts old accounts → Presents new accounts
becomes_shows Current old new lies became accounts (inl p) = shows_again old new old accounts lies became refl p
becomes_shows Current old new lies became accounts (inr (inl p)) = absurd (second_not_ours old.schema lies (second_schema_of old accounts p))
becomes_shows Current old new lies became accounts (inr (inr p)) = absurd (versions_apart old.schema lies (old_schema_of old accounts p))
becomes_shows Second old new lies became accounts (inl p) = absurd (second_not_ours old.schema p.1.is lies)
becomes_shows Second old new lies became accounts (inr (inl p)) = third_shows old new became p.0 p.1 accounts p.2
becomes_shows Second old new lies became accounts (inr (inr p)) = absurd (second_not_old old.schema lies (old_schema_of old accounts p))
becomes_shows CopiesLast old new lies became accounts (inl p) = absurd (versions_apart old.schema p.1.is (inl lies))
becomes_shows CopiesLast old new lies became accounts (inr (inl p)) = absurd (second_not_old old.schema (second_schema_of old accounts p) (inl lies))
becomes_shows CopiesLast old new lies became accounts (inr (inr p)) = elim p.1 [
  | inl h ↦ last_shows old new became p.0 h accounts p.2
  | inr moved ↦ absurd (orders_apart old.schema lies moved.1.is)
]
becomes_shows CopiesFourth old new lies became accounts (inl p) = absurd (versions_apart old.schema p.1.is (inr lies))
becomes_shows CopiesFourth old new lies became accounts (inr (inl p)) = absurd (second_not_old old.schema (second_schema_of old accounts p) (inr lies))
becomes_shows CopiesFourth old new lies became accounts (inr (inr p)) = elim p.1 [
  | inl h ↦ absurd (orders_apart old.schema h.is lies)
  | inr moved ↦ fourth_shows old new became moved.0 p.0 moved.1 moved.2 accounts p.2
]

became_opened : (layout : Layout) (old new : Database) → LiesAs layout old.schema → LayoutBecomes layout old new → IsOurSchema old.schema → IsOpenedAs old new
became_opened Current old new lies became ours = became
became_opened Second old new lies became ours = absurd (second_not_ours old.schema ours lies)
became_opened CopiesLast old new lies became ours = absurd (versions_apart old.schema ours (inl lies))
became_opened CopiesFourth old new lies became ours = absurd (versions_apart old.schema ours (inr lies))

became_third : (layout : Layout) (old new : Database) → LiesAs layout old.schema → LayoutBecomes layout old new → IsSecondSchema old.schema → TurnsThird old new
became_third Current old new lies became is = absurd (second_not_ours old.schema lies is)
became_third Second old new lies became is = became
became_third CopiesLast old new lies became is = absurd (second_not_old old.schema is (inl lies))
became_third CopiesFourth old new lies became is = absurd (second_not_old old.schema is (inr lies))

became_new : (layout : Layout) (old new : Database) → LiesAs layout old.schema → LayoutBecomes layout old new → old.schema ≡ old_schema → TurnsNew old new
became_new Current old new lies became is = absurd (versions_apart old.schema lies (inl is))
became_new Second old new lies became is = absurd (second_not_old old.schema lies (inl is))
became_new CopiesLast old new lies became is = became
became_new CopiesFourth old new lies became is = absurd (orders_apart old.schema is lies)

became_newest : (layout : Layout) (old new : Database) → LiesAs layout old.schema → LayoutBecomes layout old new → old.schema ≡ oldest_schema → TurnsNewest old new
became_newest Current old new lies became is = absurd (versions_apart old.schema lies (inr is))
became_newest Second old new lies became is = absurd (second_not_old old.schema lies (inr is))
became_newest CopiesLast old new lies became is = absurd (orders_apart old.schema lies is)
became_newest CopiesFourth old new lies became is = became

pub opens_as : (layout : Layout) (old new : Database) → LiesAs layout old.schema → LayoutBecomes layout old new → OpensAs old new
opens_as layout old new lies became = record {
  tables = became_opened layout old new lies became;
  second = became_third layout old new lies became;
  last = became_new layout old new lies became;
  fourth = became_newest layout old new lies became;
  shown = becomes_shows layout old new lies became;
}

number_of : Value → ℕ
number_of (Int (pos n)) = n
number_of _ = 0

-- a database of an earlier version has not the trees of one that shows accounts in version 3
other_version : (seen db : Database) (accounts : Accounts) (n : ℕ) (row : Row) → version_rows seen.trees ≡ row ∷ [] → column row stored_value_column ≡ Int (pos n) → n < 3 → seen.trees ≡ db.trees → Presents db accounts → ⊥
unfolding number_of
other_version seen db accounts n row only says earlier trees p =
    let ours = new_ours db accounts p in
    let rows : row ∷ [] ≡ ours.row ∷ [] = sym only ∙ ap version_rows trees ∙ ours.only in
    let same : row ≡ ours.row = cc in
    let both : Int (pos n) ≡ Int (pos 3) = sym says ∙ ap (λ (r : Row). column r stored_value_column) same ∙ ours.says in
    absurd (let one = ap number_of both in omega (arith, one, earlier))

old_known : (seen : Database) → IsOldSchema seen.schema → IsKnown seen → IsOld seen
old_known seen is (inl ours) = absurd (versions_apart seen.schema ours.schema is)
old_known seen is (inr (inl second)) = absurd (second_not_old seen.schema second.schema is)
old_known seen is (inr (inr old)) = old

second_known : (seen : Database) → IsSecondSchema seen.schema → IsKnown seen → IsSecondVersion seen
second_known seen is (inl ours) = absurd (second_not_ours seen.schema ours.schema is)
second_known seen is (inr (inl second)) = second
second_known seen is (inr (inr old)) = absurd (second_not_old seen.schema is old.schema)

-- opened on trees that offer accounts, it shows them
pub still_shows : (layout : Layout) (old new : Database) → LiesAs layout old.schema → IsKnown old → LayoutBecomes layout old new → (accounts : Accounts) → OffersIn old accounts → Presents new accounts
still_shows layout old new lies known became accounts p = by layout lies became p.offers
  where
    not_first : IsOldSchema old.schema → Presents p.db accounts → ⊥
    not_first is offers = let first = old_known old is known in other_version old p.db accounts 1 first.row first.only first.says (omega arith) p.trees offers

    not_second : IsSecondSchema old.schema → Presents p.db accounts → ⊥
    not_second is offers = let second = second_known old is known in other_version old p.db accounts 2 second.row second.only second.says (omega arith) p.trees offers

    by : (layout : Layout) → LiesAs layout old.schema → LayoutBecomes layout old new → OffersAccounts p.db accounts → Presents new accounts
    by Current lies became (inl offers) = shows_again old new p.db accounts lies became p.trees offers
    by Second lies became (inl offers) = absurd (not_second lies offers)
    by CopiesLast lies became (inl offers) = absurd (not_first (inl lies) offers)
    by CopiesFourth lies became (inl offers) = absurd (not_first (inr lies) offers)
    by layout lies became (inr (inl offers)) = becomes_shows layout old new lies became accounts (inr (inl (second_again old p.db accounts (p.schema (inl (second_schema_of p.db accounts offers))) p.trees offers)))
    by layout lies became (inr (inr offers)) = becomes_shows layout old new lies became accounts (inr (inr (old_again old p.db accounts (p.schema (inr (old_schema_of p.db accounts offers))) p.trees offers)))

-- what a crash leaves of an open
pub outlives_open : (layout : Layout) (old new : State) → LiesAs layout old.now.schema → Survives old new (MayBecome layout old) → Outlives (CrashLeavesOpened old.now) old new
outlives_open layout old new lies s = record {
  faults = s.clean;
  crash = λ clean db may. elim (s.crash clean db may) [ inl before ↦ inl before | inr made ↦ inr (record { behind = made.behind; db = made.db; opened = opens_as layout old.now made.db lies made.became; left = made.left }) ];
}
