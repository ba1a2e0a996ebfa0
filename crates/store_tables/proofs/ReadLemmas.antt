-- A query whose text is plain changes nothing, and gives an answer over the database.
use Rattle.std.proofs.Common.{◌≡◌, ◌⊎◌, ℕ, pos, negsuc, false, List, [], sym, subst, inl, inr}
use Rattle.sqlite_value.specs.declared.value.Value.TheVariants.{Null, Int}
use Rattle.sqlite_value.specs.Order.{Row}
use Rattle.sqlite_sql.specs.Term.{Term, lit}
use Rattle.sqlite_value.specs.declared.keys.Key.{Key}
use Rattle.sqlite_sql.specs.Query.{IsAnswer}
use Rattle.sqlite_sql.specs.Program.{overlay}
use Rattle.sqlite_schema.specs.declared.schema.Schema.{Schema}
use Rattle.sqlite_schema.specs.declared.command.Command.TheVariants.{Select}
use Rattle.sqlite.specs.declared.error.Error.{Error}
use Rattle.sqlite.specs.Clock.{timed}
use Rattle.sqlite.specs.Listing.{understood, reads_listing}
use Rattle.sqlite.specs.State.{State, Survives, Shown, ShowsRows, CommitsShowing, FailsToQuery, FailsToShow, IsNotRun, IsUnchanged, IsRolledBack}
use Rattle.sqlite.proofs.StateLemmas.{survives_weaker}
use Rattle.sqlite.proofs.Callers.{IsPlain, command_of, never_commits, reads_as}
use Rattle.store_tables.specs.Forms.{over_table, over_from, most_over, nth_over, limited_from}
use Rattle.sqlite_sql.specs.Query.{Join, inner, end}

module _ (schema : Schema) (sql : List ℕ) (params : Row) (old new : State) (has : old.now.schema ≡ schema) (plain : IsPlain (understood schema sql)) where
  plain_now : IsPlain (understood old.now.schema sql)
  plain_now = subst (λ s. IsPlain (understood s sql)) (sym has) plain

  -- a crash leaves what it left before
  pub quiet : Survives old new (CommitsShowing sql params old) → Survives old new (λ _. ⊥)
  quiet = survives_weaker old new _ (λ _. ⊥) (λ clean db. never_commits sql params old db plain_now)

  pub shown_same : (rows : List Row) → Shown sql params old new rows → IsUnchanged old new
  unfolding Shown
  shown_same rows h =
      let bare = (subst IsPlain h.1.is plain_now).0 in
      (subst (ShowsRows old new sql h.0 (timed params h.0.formats h.1.now) rows) bare h.2).3

  -- a query that fails changes nothing, or rolls back
  pub fails_same : (e : Error) → FailsToQuery sql params old new e → IsUnchanged old new ⊎ IsRolledBack old new
  unfolding FailsToQuery IsNotRun
  fails_same e (inl (inl not_run)) = inl not_run.1
  fails_same e (inl (inr fails)) = inr fails.3
  fails_same e (inr h) =
      let bare = (subst IsPlain h.1.is plain_now).0 in
      inl (subst (FailsToShow old new sql h.0 (timed params h.0.formats h.1.now) e) bare h.2).3

  pub answered_limited : (limit offset : Term) (from : Join) (terms project : List Term) (order : List (Term × Key)) (names : List (List ℕ)) → command_of (understood schema sql) ≡ Select (limited_from limit offset from terms project order) names
      → reads_listing schema sql ≡ false → (rows : List Row) → Shown sql params old new rows → IsAnswer (limited_from limit offset from terms project order).body (overlay old.now.trees []) params rows
  answered_limited limit offset from terms project order names is unlisted rows h = (reads_as sql params old new schema has (Select (limited_from limit offset from terms project order) names) is plain unlisted rows h).answer Null

  pub answered_from : (from : Join) (terms project : List Term) (order : List (Term × Key)) (names : List (List ℕ)) → command_of (understood schema sql) ≡ Select (over_from from terms project order) names
      → reads_listing schema sql ≡ false → (rows : List Row) → Shown sql params old new rows → IsAnswer (over_from from terms project order).body (overlay old.now.trees []) params rows
  answered_from = answered_limited (lit (Int (negsuc 0))) (lit (Int (pos 0)))

  pub answered : (tree : ℕ) (terms project : List Term) (order : List (Term × Key)) (names : List (List ℕ)) → command_of (understood schema sql) ≡ Select (over_table tree terms project order) names
      → reads_listing schema sql ≡ false → (rows : List Row) → Shown sql params old new rows → IsAnswer (over_table tree terms project order).body (overlay old.now.trees []) params rows
  answered tree = answered_from (inner tree end)

  -- of one row of an answer, after that many
  pub answered_nth : (offset : Term) (tree : ℕ) (terms project : List Term) (order : List (Term × Key)) (names : List (List ℕ)) → command_of (understood schema sql) ≡ Select (nth_over offset tree terms project order) names
      → reads_listing schema sql ≡ false → (rows : List Row) → Shown sql params old new rows → IsAnswer (nth_over offset tree terms project order).body (overlay old.now.trees []) params rows
  answered_nth offset tree = answered_limited (lit (Int (pos 1))) offset (inner tree end)

  -- of the first rows of an answer
  pub answered_most : (n tree : ℕ) (terms project : List Term) (order : List (Term × Key)) (names : List (List ℕ)) → command_of (understood schema sql) ≡ Select (most_over n tree terms project order) names
      → reads_listing schema sql ≡ false → (rows : List Row) → Shown sql params old new rows → IsAnswer (most_over n tree terms project order).body (overlay old.now.trees []) params rows
  answered_most n tree = answered_limited (lit (Int (pos n))) (lit (Int (pos 0))) (inner tree end)
