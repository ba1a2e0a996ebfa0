-- What the query for the version finds, and that it changes nothing.
use Rattle.std.proofs.Common.{◌≡◌, ◌↔◌, ℕ, ℤ, pos, Bool, true, false, cond, codes, List, [], ◌∷◌, ◌++◌, map, filter, flat_map, length, Ok, Err, Result, Vec, IfOk, IfErr, OnOk, IsTrue, IsPermutation, refl, sym, ap, ◌∙◌, subst, inl, inr, arith}
use Rattle.std.specs.declared.alloc.Global.{Global}
use Rattle.sqlite_value.specs.declared.value.Value.TheVariants.{Int}
use Rattle.sqlite_value.specs.Order.{Row, column}
use Rattle.std.specs.List.{list_all}
use Rattle.std.proofs.lemmas.List.Sorted.{length_permutation, IsPermutation-map}
use Rattle.sqlite_sql.specs.Term.{col, holds, Env}
use Rattle.sqlite_sql.specs.Query.{Query, IsAnswer, Output, output}
use Rattle.sqlite_sql.specs.Program.{overlay}
use Rattle.sqlite_trees.specs.Tree.{Trees}
use Rattle.sqlite_schema.specs.declared.schema.Schema.{Schema}
use Rattle.sqlite_schema.specs.declared.command.Command.TheVariants.{Select}
use Rattle.sqlite.specs.Effect.{Database}
use Rattle.sqlite.specs.Listing.{understood, reads_listing}
use Rattle.sqlite.specs.declared.error.Error.{Error}
use Rattle.sqlite.specs.State.{State, HasCleanDisk, Survives, Shown, FailsToQuery, IsUnchanged, IsRolledBack}
use Rattle.sqlite_keyed.proofs.ListLemmas.{map-map}
use Rattle.sqlite.proofs.Callers.{IsPlain, command_of, one_permutation}
use Rattle.store_tables.specs.Forms.{over_table}
use Rattle.store_tables.specs.Rows.{has_key_from}
use Rattle.store_tables.proofs.ReadLemmas.{shown_same, fails_same, answered, quiet}
use Rattle.store_tables.specs.Schema.{mail_schema, IsOurSchema}
use Rattle.store_tables.specs.Connection.{StaysSame, SeesCommit, AsksDatabase, AnswersQuery}
use Rattle.store_tables.specs.MetaTable.{select_version, version_key, version_rows, HoldsVersion, meta_tree, stored_value_column, AreVersions}
use Rattle.store_tables.specs.Ours.{IsOurs}
use Rattle.store_tables.proofs.TextFacts.{by_one, select_version_is, select_version_plain}
use Rattle.store_tables.proofs.ResultLemmas.{on_any, on_ok}

pub same_unchanged : (old new : State) → IsUnchanged old new → StaysSame old new
same_unchanged old new h = record { now_is = λ _. h.0.now_is; committed_is = λ _. h.0.committed_is }

-- outside a transaction the last commit is what was seen
pub same_undone : (old new : State) → (IsTrue old.is_open → old.now ≡ old.committed) → IsRolledBack old new → StaysSame old new
same_undone old new settled h = record { now_is = λ open_now. (h.undone open_now).0 ∙ sym (settled (h.was_open open_now)); committed_is = λ open_now. (h.undone open_now).1 }

-- a query whose text is plain, where the tables are ours
module _ (schema : Schema) (sql : List ℕ) (params : Row) (old new : State) (ours : old.now.schema ≡ schema) (plain : IsPlain (understood schema sql)) where
  pub keeps_same : (r : Result (Vec Row Global) Error) → (IsTrue old.is_open → old.now ≡ old.committed) → (HasCleanDisk new → IfOk r (λ rows. Shown sql params old new rows.items))
      → (HasCleanDisk new → IfErr r (FailsToQuery sql params old new)) → HasCleanDisk new → StaysSame old new
  keeps_same (Ok rows) settled ok err clean = same_unchanged old new (shown_same schema sql params old new ours plain rows.items (ok clean))
  keeps_same (Err e) settled ok err clean = elim (fails_same schema sql params old new ours plain e (err clean)) [ inl same ↦ same_unchanged old new same | inr undone ↦ same_undone old new settled undone ]

  pub sees_commit : (r : Result (Vec Row Global) Error) → (IsTrue old.is_open → old.now ≡ old.committed) → (HasCleanDisk new → IfOk r (λ rows. Shown sql params old new rows.items)) → HasCleanDisk new → OnOk r (SeesCommit new)
  sees_commit (Ok rows) settled ok clean =
      let shows = (shown_same schema sql params old new ours plain rows.items (ok clean)).0 in
      record { is_open = shows.is_open; same = shows.now_is ∙ settled shows.was_open ∙ sym shows.committed_is }
  sees_commit (Err e) settled ok clean = tt

abbrev asked : Query
asked = (over_table meta_tree by_one (col 1 2 ∷ []) []).body

abbrev slots : Row → Env
slots row = version_key ∷ row ∷ []

matches_are : (rows : List Row)
    → flat_map (λ r. cond (list_all (holds (version_key ∷ r ∷ [])) by_one) ((version_key ∷ r ∷ []) ∷ []) []) rows ≡ map slots (filter (has_key_from 1 version_key) rows)
matches_are [] = refl
matches_are (r ∷ rows) =
    rw (matches_are rows) (elim (has_key_from 1 version_key r) as (λ b. cond b (slots r ∷ []) [] ++ map slots (filter (has_key_from 1 version_key) rows) ≡ map slots (cond b (r ∷ filter (has_key_from 1 version_key) rows) (filter (has_key_from 1 version_key) rows)))
    [ true ↦ refl | false ↦ refl ])

-- the numbers that the query shows are those of the rows of the version
numbers_are : (trees : Trees) (rows : List Row) → IsAnswer asked (overlay trees []) version_key rows → IsPermutation (map (λ r. column r stored_value_column ∷ []) (version_rows trees)) rows
numbers_are trees rows a =
    let kept : a.kept ≡ map (output asked) (map slots (version_rows trees)) = a.distinct ∙ ap (map (output asked)) (a.grouped ∙ matches_are (trees meta_tree)) in
    let shown : map (λ (o : Output). o.1) a.kept ≡ map (λ r. column r stored_value_column ∷ []) (version_rows trees) =
    ap (map (λ (o : Output). o.1)) kept ∙ map-map (λ (o : Output). o.1) (output asked) (map slots (version_rows trees)) ∙ map-map _ slots (version_rows trees) in
    subst (λ l. IsPermutation l rows) shown (subst (λ l. IsPermutation (map (λ (o : Output). o.1) a.kept) l) (sym a.shown) (IsPermutation-map (λ (o : Output). o.1) a.kept a.ordered a.same))

-- what the text of the query is understood as, under a schema
pub record AsksVersion (schema : Schema) : Type 0 where
  pub is : command_of (understood schema select_version) ≡ Select (over_table meta_tree by_one (col 1 2 ∷ []) []) (codes "value" ∷ [])
  pub plain : IsPlain (understood schema select_version)
  pub unlisted : reads_listing schema select_version ≡ false

asks_mail : AsksVersion mail_schema
asks_mail = record { is = select_version_is; plain = select_version_plain.0; unlisted = select_version_plain.1 }

pub version_found : (schema : Schema) → AsksVersion schema → (old new : State) (rows : List Row) → old.now.schema ≡ schema → Shown select_version version_key old new rows → IsPermutation (map (λ r. column r stored_value_column ∷ []) (version_rows old.now.trees)) rows
version_found schema asks old new rows ours shown =
    numbers_are old.now.trees rows (answered schema select_version version_key old new ours asks.plain meta_tree by_one (col 1 2 ∷ []) [] _ asks.is asks.unlisted rows shown)

-- the row of the version is there once, and says the number
pub record SaysVersion (n : ℤ) (trees : Trees) : Type 0 where
  pub row : Row
  pub only : version_rows trees ≡ row ∷ []
  pub says : column row stored_value_column ≡ Int n

says_it : (n : ℤ) (trees : Trees) (rows found : List Row) → version_rows trees ≡ found → IsPermutation (map (λ r. column r stored_value_column ∷ []) found) rows → HoldsVersion n rows ↔ SaysVersion n trees
says_it n trees rows [] are same = (
  λ one. absurd (let none = length_permutation _ _ (subst (IsPermutation []) one.1 same) in omega (arith, none)),
  λ h. absurd (let none = sym are ∙ h.only in cc),
)
says_it n trees rows (r ∷ []) are same =
    let alone = one_permutation (column r stored_value_column ∷ []) rows same in (
      λ one. record { row = r; only = are; says = ap (λ l. column (first_of l) 0) (sym alone ∙ one.1) ∙ one.2 },
      λ h. (column r stored_value_column ∷ [], alone, ap (λ l. column (first_of l) stored_value_column) (sym are ∙ h.only) ∙ h.says),
    )
  where
    first_of : List Row → Row
    first_of [] = []
    first_of (x ∷ xs) = x
says_it n trees rows (r ∷ q ∷ more) are same = (
  λ one. absurd (let many = length_permutation _ _ (subst (IsPermutation _) one.1 same) in omega (arith, many)),
  λ h. absurd (let one = sym are ∙ h.only in let many : length (r ∷ q ∷ more) ≡ 1 = ap length one in omega (arith, many)),
)

pub row_says : (n : ℤ) (rows : List Row) (row : Row) → rows ≡ row ∷ [] → (r : Result Bool Error) → IfOk r (λ is. IsTrue is ↔ (column row 0 ≡ Int n)) → IfOk r (λ is. IsTrue is ↔ HoldsVersion n rows)
row_says n rows row are (Err e) said = tt
row_says n rows row are (Ok is) said = (λ e. (row, are, said.0 e), λ h. let same : row ∷ [] ≡ h.0 ∷ [] = sym are ∙ h.1 in let one : row ≡ h.0 = cc in said.1 (ap (λ (x : Row). column x 0) one ∙ h.2))

version_says : (n : ℤ) (trees : Trees) (P : Type 0) → P ↔ SaysVersion n trees → (rows : List Row) → IsPermutation (map (λ r. column r stored_value_column ∷ []) (version_rows trees)) rows → (r : Result Bool Error) → IfOk r (λ is. IsTrue is ↔ HoldsVersion n rows)
    → IfOk r (λ is. IsTrue is ↔ P)
version_says n trees P means rows same (Err e) said = tt
version_says n trees P means rows same (Ok is) said = let both = says_it n trees rows _ refl same in (λ e. means.1 (both.0 (said.0 e)), λ h. said.1 (both.1 (means.0 h)))

pub ours_says : (db : Database) → IsOurSchema db.schema → IsOurs db ↔ SaysVersion (pos 3) db.trees
ours_says db ours = (λ h. record { row = h.row; only = h.only; says = h.says }, λ h. record { schema = ours; row = h.row; only = h.only; says = h.says })

-- our tables
pub asks_ours : (schema : Schema) → IsOurSchema schema → AsksVersion schema
asks_ours schema ours = subst AsksVersion (sym ours) asks_mail

-- the query for the version, under one schema
module _ (schema : Schema) (asks : AsksVersion schema) (old new : State) (r : Result (Vec Row Global) Error) (asked : AnswersQuery select_version version_key old new r) (is : old.now.schema ≡ schema) where
  rows_found : HasCleanDisk new → IfOk r (AreVersions old.now.trees)
  rows_found clean = go r (asked.ok clean)
    where
      go : (o : Result (Vec Row Global) Error) → IfOk o (λ rows. Shown select_version version_key old new rows.items) → IfOk o (AreVersions old.now.trees)
      go (Err e) shown = tt
      go (Ok rows) shown = version_found schema asks old new rows.items is shown

  stays_same : HasCleanDisk new → StaysSame old new
  stays_same = keeps_same schema select_version version_key old new is asks.plain r asked.settled asked.ok asked.err

  commit_seen : HasCleanDisk new → OnOk r (SeesCommit new)
  commit_seen = sees_commit schema select_version version_key old new is asks.plain r asked.settled asked.ok

  crash_leaves : Survives old new (λ _. ⊥)
  crash_leaves = quiet schema select_version version_key old new is asks.plain asked.survives

-- under any of those that understand it so
module _ (Known : Schema → Type 0) (understands : (schema : Schema) → Known schema → AsksVersion schema) (old new : State) (r : Result (Vec Row Global) Error) (asked : AnswersQuery select_version version_key old new r) where
  asks_version : AsksDatabase Known (AreVersions old.now.trees) old new r
  asks_version = record {
    found = λ known. rows_found old.now.schema (understands old.now.schema known) old new r asked refl;
    same = λ known. stays_same old.now.schema (understands old.now.schema known) old new r asked refl;
    live = λ known. commit_seen old.now.schema (understands old.now.schema known) old new r asked refl;
    crash = λ known. crash_leaves old.now.schema (understands old.now.schema known) old new r asked refl;
  }

  -- with a refusal as the answer
  pub asks_refused : {Y F : Type 0} (Q : Y → Type 0) (e : F) (q : Result Y F) → q ≡ Err e → AsksDatabase Known Q old new q
  asks_refused Q e q is = record {
    found = λ known clean. subst (λ o. IfOk o Q) (sym is) tt;
    same = asks_version.same;
    live = λ known clean. subst (λ o. OnOk o (SeesCommit new)) (sym is) tt;
    crash = asks_version.crash;
  }

  -- and what its rows say
  pub says_version : (n : ℤ) (P : Database → Type 0) → ((db : Database) → Known db.schema → P db ↔ SaysVersion n db.trees) → (rows : Vec Row Global) → r ≡ Ok rows → (q : Result Bool Error) → IfOk q (λ is. IsTrue is ↔ HoldsVersion n rows.items)
      → AsksDatabase Known (λ is. IsTrue is ↔ P old.now) old new q
  says_version n P means rows was q said = record {
    found = λ known clean. version_says n old.now.trees (P old.now) (means old.now known) rows.items (subst (λ o. IfOk o (AreVersions old.now.trees)) was (asks_version.found known clean)) q said;
    same = asks_version.same;
    live = λ known clean. on_any q (SeesCommit new) (on_ok r rows was (SeesCommit new) (asks_version.live known clean));
    crash = asks_version.crash;
  }
