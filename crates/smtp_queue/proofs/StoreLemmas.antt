-- Calls over a store that is taken: rows that are read and taken out.
use Rattle.std.proofs.Common.{◌≡◌, ◌⊎◌, ◌==◌, ℕ, pos, Bool, true, false, cond, List, [], ◌∷◌, map, filter, Option, Some, None, Result, Ok, Err, IfOk, IfErr, IsTrue, refl, sym, ◌∙◌, ap, subst, inl, inr}
use Rattle.std.proofs.Common.{IsPermutation}
use Rattle.std.proofs.ByRecursion.{all_shuffled}
use Rattle.std.proofs.lemmas.Bool.{true≢false}
use Rattle.std.proofs.lemmas.List.Sorted.{IsPermutation-sym}
use Rattle.std.proofs.lemmas.Map.Lookups.{exact_bytes, exact_unsigned}
use Rattle.std.specs.List.{AllByRecursion}
use Rattle.std.specs.Ordering.{nat_cmp, ordering_then, ordering_reverse}
use Rattle.std.specs.declared.cmp.Ordering.{Ordering}
use Rattle.std.specs.declared.cmp.Ordering.TheVariants.{Less, Equal, Greater}
use Rattle.std.specs.FinMap.{get}
use Rattle.sqlite.specs.State.{State, HasCleanDisk}
use Rattle.sqlite_rules.specs.Lists.{Has}
use Rattle.sqlite_value.specs.declared.value.Value.TheVariants.{Int, Blob}
use Rattle.store_tables.specs.QueueTable.{outgoing_tree}
use Rattle.store_tables.specs.Rows.{Tables}
use Rattle.store_tables.proofs.AnswerLemmas.{has_map}
use Rattle.store_tables.proofs.WriteLemmas.{clean_before}
use Rattle.store_accounts.specs.Account.{Account, Accounts, open_account_of, bytes_cmp, row_with}
use Rattle.store_accounts.proofs.StandingLemmas.{open_there}
use Rattle.store_accounts.specs.FirstCells.{first_two}
use Rattle.store_accounts.specs.QueueRows.{queue_row}
use Rattle.store_accounts.specs.Shows.{IsShown, IsShownOrAbsent, ShowsAccounts, rows_of}
use Rattle.store_accounts.specs.Next.{queued_cmp, FindsAll, IsNextQueued, IsQueued}
use Rattle.store_accounts.specs.Promises.{HasNoOpen, OfOpen, KeepsTables}
use Rattle.store_accounts.specs.Promises as store
use Rattle.store_accounts.specs.declared.next.QueueKey.{QueueKey}
use Rattle.store_accounts.specs.declared.queue.QueuedMessage.{QueuedMessage}
use Rattle.store_accounts.specs.declared.refusal.Refusal.{Refusal}
use Rattle.store_accounts.specs.declared.refusal.Refusal.TheVariants.{NoUser}
use Rattle.store_accounts.proofs.NextLemmas.{queued_total}
use Rattle.managesieve_sessions.specs.Acts.{HasAccounts, TurnsAccounts}
use Rattle.managesieve_sessions.proofs.ActLemmas.{glanced, accounts_stay, read_shows}
use Rattle.store_engine.proofs.TakingLemmas.{row_numbered}
use Rattle.smtp_queue.specs.DueRows.{IsKeyAfter, HasRow, IsRowAt, IsNoneDue, IsNextDueRow, IsDueRowFound, IsPast, IsStep, QueueWorks, QueueReads, Sees, is_key_due}
use Rattle.smtp_queue.specs.declared.due_row.DueRow.{DueRow}
use Rattle.smtp_queue.specs.declared.due_row.Step.{Step}
use Rattle.smtp_queue.specs.declared.due_row.Step.TheVariants.{End, Past, Due}
use Rattle.smtp_queue.specs.declared.waits.RowWaits.{RowWaits}

-- ---- one call, and then another

pub works_then : (a b c : State) (A B C : Accounts → Accounts → Type 0) → ((accounts mid later : Accounts) → A accounts mid → B mid later → C accounts later) → QueueWorks A a b → QueueWorks B b c → QueueWorks C a c
works_then a b c A B C both one two = record {
  carries = λ clean accounts shown.
      let m = one.carries (two.clean clean) accounts shown in
      let l = two.carries clean m.0 m.2 in
      (l.0, both accounts m.0 l.0 m.1 l.1, l.2);
  clean = λ clean. one.clean (two.clean clean);
}

pub works_as : (a b : State) (A B : Accounts → Accounts → Type 0) → ((accounts later : Accounts) → A accounts later → B accounts later) → QueueWorks A a b → QueueWorks B a b
works_as a b A B wider one = record {
  carries = λ clean accounts shown. let m = one.carries clean accounts shown in (m.0, wider accounts m.0 m.1, m.2);
  clean = one.clean;
}

-- nothing was asked
pub works_not : (a : State) (A : Accounts → Accounts → Type 0) → ((accounts : Accounts) → A accounts accounts) → QueueWorks A a a
works_not a A same = record {
  carries = λ clean accounts shown. (accounts, same accounts, shown);
  clean = λ clean. clean;
}

-- ---- reads

module _ (a b : State) where
  pub works_read : {X Y E : Type 0} (r : Result X E) (Part : Accounts → Y → Type 0) (q : Result Y Refusal) → KeepsTables a b r
      → (HasCleanDisk b → (accounts : Accounts) → HasAccounts a accounts → IfOk q (Part accounts)) → QueueWorks (QueueReads Part q) a b
  works_read r Part q k part = record {
    carries = λ clean accounts shown. (accounts, (refl, part clean accounts shown), accounts_stay a b (glanced a b r k) clean accounts shown);
    clean = clean_before a b _ k.crash;
  }

  pub works_err : {X Y E : Type 0} (r : Result X E) (Part : Accounts → Y → Type 0) (e : Refusal) (q : Result Y Refusal) → q ≡ Err e → KeepsTables a b r → QueueWorks (QueueReads Part q) a b
  works_err r Part e q is k = works_read r Part q k (λ clean accounts shown. subst (λ o. IfOk o (Part accounts)) (sym is) tt)

-- the row at a place
same_row : (accounts : Accounts) (place : QueueKey) (a b : Account) (o : Option QueuedMessage) (row : QueuedMessage) → open_account_of accounts place.user ≡ Some a → open_account_of accounts place.user ≡ Some b → o ≡ row_with place.id a.queue → row_with place.id b.queue ≡ Some row → o ≡ Some row
same_row accounts place a b o row one two is has =
    let same : a ≡ b = (let h = one in let k = two in cc) in
    is ∙ ap (λ (x : Account). row_with place.id x.queue) same ∙ has

row_is : (accounts : Accounts) (place : QueueKey) (row : Option QueuedMessage) → OfOpen accounts place.user (λ a. row ≡ row_with place.id a.queue) → IsRowAt place accounts row
row_is accounts place None own = λ row has. let never = same_row accounts place own.0 has.0 None row own.1 has.1 own.2 has.2 in cc
row_is accounts place (Some row) own = (own.0, own.1, sym own.2)

module _ (place : QueueKey) (user : List ℕ) (same : user ≡ place.user) (a b : State) where
  abbrev Read : Result (Option QueuedMessage) Refusal → Type 0
  Read r = store.ReadsOpenAccount user (λ row account. row ≡ row_with place.id account.queue) a b r

  pub row_read : (r : Result (Option QueuedMessage) Refusal) → Read r → Sees (IsRowAt place) a b r
  row_read r reads = record {
    found = λ clean accounts shows. by_answer r accounts (reads.found clean accounts shows);
    keeps = reads.keeps;
  }
    where
      by_answer : (o : Result (Option QueuedMessage) Refusal) (accounts : Accounts) → IfOk o (λ row. OfOpen accounts user (λ account. row ≡ row_with place.id account.queue)) → IfOk o (IsRowAt place accounts)
      by_answer (Err e) accounts own = tt
      by_answer (Ok row) accounts own = row_is accounts place row (subst (λ u. OfOpen accounts u (λ account. row ≡ row_with place.id account.queue)) same own)

  -- of a user without an open account there is none
  pub row_absent : (r : Result (Option QueuedMessage) Refusal) → r ≡ Err NoUser → Read r → Sees (IsRowAt place) a b (Ok None)
  row_absent r is reads = record {
    found = λ clean accounts shows row has.
        let none : HasNoOpen user accounts = subst (λ q. IfErr q (λ e. e ≡ NoUser → HasNoOpen user accounts)) is (reads.absent clean accounts shows) refl in
        let never : None ≡ Some has.0 = sym none ∙ (ap (λ u. open_account_of accounts u) same ∙ has.1) in
        cc;
    keeps = record {
      same = reads.keeps.same;
      live = λ clean. subst (λ q. IfErr q (λ e. e ≡ NoUser → IsTrue b.is_open)) is (reads.sure clean) refl;
      shut = reads.keeps.shut;
      crash = reads.keeps.crash;
    };
  }

-- what was seen is so of whatever accounts were shown
pub works_seen : {X : Type 0} (a b : State) (r : Result X Refusal) (Part : Accounts → X → Type 0) → Sees Part a b r → QueueWorks (QueueReads Part r) a b
works_seen a b (Err e) Part sees = works_read a b (Err e) Part (Err e) sees.keeps (λ clean accounts shown. tt)
works_seen a b (Ok x) Part sees = works_read a b (Ok x) Part (Ok x) sees.keeps (λ clean accounts shown. sees.found clean accounts (read_shows a b (Ok x) x refl sees.keeps clean accounts shown).0)

-- ---- the rows that the tables have

within_all : {X : Type 0} (some all : List X) → ((x : X) → Has some x → Has all x) → AllByRecursion (Has all) some
within_all [] all within = tt
within_all (x ∷ some) all within = (within x (inl refl), within_all some all (λ y there. within y (inr there)))

all_at : {X : Type 0} (P : X → Type 0) (xs : List X) (x : X) → AllByRecursion P xs → Has xs x → P x
all_at P [] x all there = absurd there
all_at P (y ∷ xs) x all (inl same) = subst P (sym same) all.0
all_at P (y ∷ xs) x all (inr there) = all_at P xs x all.1 there

pub permuted_has : {X : Type 0} (xs ys : List X) (x : X) → IsPermutation xs ys → Has xs x → Has ys x
permuted_has xs ys x same there = all_at (Has ys) xs x (all_shuffled (Has ys) ys xs (IsPermutation-sym xs ys same) (within_all ys ys (λ y here. here))) there

filtered_has : {X : Type 0} (p : X → Bool) (xs : List X) (x : X) → Has (filter p xs) x → Has xs x
filtered_has p [] x there = absurd there
filtered_has p (y ∷ xs) x there = go (p y) (filtered_has p xs x) there
  where
    go : (b : Bool) → (Has (filter p xs) x → Has xs x) → Has (cond b (y ∷ filter p xs) (filter p xs)) x → Has (y ∷ xs) x
    go true later (inl same) = inl same
    go true later (inr more) = inr (later more)
    go false later more = inr (later more)

found_has : (id : ℕ) (rows : List QueuedMessage) (row : QueuedMessage) → row_with id rows ≡ Some row → Has rows row
found_has id [] row is = absurd (let never = is in cc)
found_has id (first ∷ rows) row is = go (first.id == id) (found_has id rows row) is
  where
    go : (b : Bool) → (row_with id rows ≡ Some row → Has rows row) → cond b (Some first) (row_with id rows) ≡ Some row → Has (first ∷ rows) row
    go true later same = inl (let h = same in cc)
    go false later same = inr (later same)

-- a row of a queue stands in the table
pub row_queued : (tables : Tables) (accounts : Accounts) (place : QueueKey) (row : QueuedMessage) → ShowsAccounts tables accounts → HasRow accounts place row → IsQueued tables place
row_queued tables accounts place row shows has =
    let shown : IsShown place.user (rows_of place.user tables) has.0 = subst (IsShownOrAbsent place.user (rows_of place.user tables)) (open_there (get accounts place.user) has.0 has.1) (shows.users place.user) in
    let there : Has has.0.queue row = found_has place.id has.0.queue row has.2 in
    let own : Has (rows_of place.user tables outgoing_tree) (queue_row place.user row) =
    permuted_has (map (queue_row place.user) has.0.queue) (rows_of place.user tables outgoing_tree) (queue_row place.user row) shown.queue.rows_are (has_map (queue_row place.user) has.0.queue row there) in
    let all : Has (tables outgoing_tree) (queue_row place.user row) = filtered_has _ (tables outgoing_tree) (queue_row place.user row) own in
    subst (λ n. Has (map first_two (tables outgoing_tree)) (Blob place.user ∷ Int (pos n) ∷ [])) (row_numbered place.id has.0.queue row has.2) (has_map first_two (tables outgoing_tree) (queue_row place.user row) all)

-- ---- the order of places

both_equal : (a b : Ordering) → ordering_then a b ≡ Equal → (a ≡ Equal) × (b ≡ Equal)
both_equal Less b is = absurd (let never = is in cc)
both_equal Equal b is = (refl, is)
both_equal Greater b is = absurd (let never = is in cc)

-- neither before nor after is the same
pub one_place : (p q : QueueKey) → (IsKeyAfter p q → ⊥) → (IsKeyAfter q p → ⊥) → p ≡ q
one_place p q not_before not_after = by (queued_cmp p q) refl
  where
    by : (o : Ordering) → queued_cmp p q ≡ o → p ≡ q
    by Less is = absurd (not_before is)
    by Equal is =
        let both = both_equal (bytes_cmp p.user q.user) (nat_cmp p.id q.id) is in
        let users = exact_bytes p.user q.user both.0 in
        let ids = exact_unsigned p.id q.id both.1 in
        λ i. record { user = users i; id = ids i }
    by Greater is = absurd (not_after (queued_total.antisymm q p ∙ ap ordering_reverse is))

-- ---- the place of the next row
module _ (waits : RowWaits) (now : ℕ) (start : QueueKey) (a b : State) where
  abbrev Stands : Accounts → Step → Type 0
  Stands = IsStep waits now start

  -- no row stands after the place; or none until there
  abbrev Comes : Accounts → Option QueueKey → Type 0
  Comes accounts None = (place : QueueKey) (row : QueuedMessage) → IsKeyAfter start place → HasRow accounts place row → ⊥
  Comes accounts (Some next) = IsKeyAfter start next × ((place : QueueKey) (row : QueuedMessage) → IsKeyAfter start place → HasRow accounts place row → IsKeyAfter place next → ⊥)

  comes_by : (tables : Tables) (accounts : Accounts) (next : Option QueueKey) → ShowsAccounts tables accounts → IsNextQueued start next tables → Comes accounts next
  comes_by tables accounts None shows least = λ place row after has. least place (row_queued tables accounts place row shows has) after
  comes_by tables accounts (Some next) shows least = (least.1, λ place row after has before. least.2 place (row_queued tables accounts place row shows has) after before)

  pub next_comes : (r : Result (Option QueueKey) Refusal) → FindsAll (IsNextQueued start) a b r → QueueWorks (QueueReads Comes r) a b
  next_comes (Err e) finds = works_read a b (Err e) Comes (Err e) finds.keeps (λ clean accounts shown. tt)
  next_comes (Ok next) finds = works_read a b (Ok next) Comes (Ok next) finds.keeps (λ clean accounts shown.
      let p = (read_shows a b (Ok next) next refl finds.keeps clean accounts shown).0 in
      comes_by p.0 accounts next p.2 (finds.found clean p.0 p.1))

  module _ (r : Result (Option QueueKey) Refusal) (finds : FindsAll (IsNextQueued start) a b r) where
    step_as : (o : Result Step Refusal) → ((accounts : Accounts) → IfOk r (Comes accounts) → IfOk o (Stands accounts)) → QueueWorks (QueueReads Stands o) a b
    step_as o by = works_as a b (QueueReads Comes r) (QueueReads Stands o) (λ accounts later h. (h.0, by accounts h.1)) (next_comes r finds)

    pub none_next : r ≡ Ok None → QueueWorks (QueueReads Stands (Ok End)) a b
    none_next is = step_as (Ok End) (λ accounts comes place row after has due. subst (λ o. IfOk o (Comes accounts)) is comes place row after has)

    pub not_next : (e : Refusal) (o : Result Step Refusal) → o ≡ Err e → QueueWorks (QueueReads Stands o) a b
    not_next e o is = step_as o (λ accounts comes. subst (λ x. IfOk x (Stands accounts)) (sym is) tt)

    module _ (next : QueueKey) (is : r ≡ Ok (Some next)) where
      abbrev At : Accounts → Type 0
      At accounts = Comes accounts (Some next)

      comes_at : (accounts : Accounts) → IfOk r (Comes accounts) → At accounts
      comes_at accounts comes = subst (λ o. IfOk o (Comes accounts)) is comes

      -- until there nothing is due, where the row there isn't
      past_by : (accounts : Accounts) → At accounts → ((row : QueuedMessage) → HasRow accounts next row → is_key_due waits now next ≡ true → ⊥) → IsPast waits now start next accounts
      past_by accounts comes not = record {
        after = comes.0;
        none = λ place row here has due.
            let same : place ≡ next = one_place place next (comes.1 place row here.0 has) here.1 in
            not row (subst (λ p. HasRow accounts p row) same has) (subst (λ p. is_key_due waits now p ≡ true) same due);
      }

      pub past_next : is_key_due waits now next ≡ false → QueueWorks (QueueReads Stands (Ok (Past next))) a b
      past_next not = step_as (Ok (Past next)) (λ accounts comes. past_by accounts (comes_at accounts comes) (λ row has due. true≢false (sym due ∙ not)))

      module _ (c : State) (q : Result (Option QueuedMessage) Refusal) (row : Sees (IsRowAt next) b c q) where
        step_by : (o : Result Step Refusal) → ((accounts : Accounts) → At accounts → IfOk q (IsRowAt next accounts) → IfOk o (Stands accounts)) → QueueWorks (QueueReads Stands o) a c
        step_by o by =
            works_then a b c (QueueReads Comes r) (QueueReads (IsRowAt next) q) (QueueReads Stands o)
            (λ accounts mid later one two. (two.0 ∙ one.0, by accounts (comes_at accounts one.1) (subst (λ all. IfOk q (IsRowAt next all)) one.0 two.1))) (next_comes r finds) (works_seen b c q (IsRowAt next) row)

        pub step_unread : (e : Refusal) (o : Result Step Refusal) → o ≡ Err e → QueueWorks (QueueReads Stands o) a c
        step_unread e o told = step_by o (λ accounts comes has. subst (λ x. IfOk x (Stands accounts)) (sym told) tt)

        pub step_past : q ≡ Ok None → QueueWorks (QueueReads Stands (Ok (Past next))) a c
        step_past told = step_by (Ok (Past next)) (λ accounts comes none. past_by accounts comes (λ row has due. subst (λ x. IfOk x (IsRowAt next accounts)) told none row has))

        pub step_due : (found : QueuedMessage) → q ≡ Ok (Some found) → is_key_due waits now next ≡ true → QueueWorks (QueueReads Stands (Ok (Due (record { place = next; row = found })))) a c
        step_due found told due = step_by (Ok (Due (record { place = next; row = found })))
            (λ accounts comes has. record {
              after = comes.0;
              due = due;
              row = subst (λ x. IfOk x (IsRowAt next accounts)) told has;
              first = λ place row here there is. comes.1 place row here.0 there here.1;
            })

-- ---- steps in turn

-- the steps came to a place; none until there is due
abbrev pub IsFrom : RowWaits → ℕ → QueueKey → QueueKey → Accounts → Type 0
IsFrom waits now start place accounts = (place ≡ start) ⊎ IsPast waits now start place accounts

abbrev pub StepsTo : RowWaits → ℕ → QueueKey → QueueKey → Accounts → Accounts → Type 0
StepsTo waits now start place accounts later = (later ≡ accounts) × IsFrom waits now start place accounts

pub steps_begin : (waits : RowWaits) (now : ℕ) (start : QueueKey) (a : State) → QueueWorks (StepsTo waits now start start) a a
steps_begin waits now start a = works_not a (StepsTo waits now start start) (λ accounts. (refl, inl refl))

module _ (waits : RowWaits) (now : ℕ) (start place : QueueKey) where
  -- a place after the start is after the other one, or it isn't
  after_then : (accounts : Accounts) → IsFrom waits now start place accounts → (next : QueueKey) → IsKeyAfter place next → IsKeyAfter start next
  after_then accounts (inl same) next after = subst (λ p. IsKeyAfter p next) same after
  after_then accounts (inr past) next after = queued_total.trans start place next past.after after

  is_after : (o : Ordering) → (o ≡ Less) ⊎ (o ≡ Less → ⊥)
  is_after Less = inl refl
  is_after Equal = inr (λ is. let never = is in cc)
  is_after Greater = inr (λ is. let never = is in cc)

  -- nothing is due among these, where nothing is among those that stand after the place
  none_then : (accounts : Accounts) (Here : QueueKey → Type 0) → IsFrom waits now start place accounts → ((other : QueueKey) → Here other → IsKeyAfter start other)
      → IsNoneDue waits now (λ other. IsKeyAfter place other × Here other) accounts → IsNoneDue waits now Here accounts
  none_then accounts Here (inl same) within none other row here has due = none other row (subst (λ p. IsKeyAfter p other) (sym same) (within other here), here) has due
  none_then accounts Here (inr past) within none other row here has due = elim (is_after (queued_cmp place other)) [
    | inl after ↦ none other row (after, here) has due
    | inr not ↦ past.none other row (within other here, not) has due
  ]

  module _ (a b c : State) (steps : QueueWorks (StepsTo waits now start place) a b) (r : Result Step Refusal) (last : QueueWorks (QueueReads (IsStep waits now place) r) b c) where
    by_steps : (C : Accounts → Accounts → Type 0) → ((accounts : Accounts) → IsFrom waits now start place accounts → IfOk r (IsStep waits now place accounts) → C accounts accounts) → QueueWorks C a c
    by_steps C by =
        works_then a b c (StepsTo waits now start place) (QueueReads (IsStep waits now place) r) C
        (λ accounts mid later one two. subst (C accounts) (sym (two.0 ∙ one.0)) (by accounts one.1 (subst (λ all. IfOk r (IsStep waits now place all)) one.0 two.1))) steps last

    pub steps_on : (next : QueueKey) → r ≡ Ok (Past next) → QueueWorks (StepsTo waits now start next) a c
    steps_on next is = by_steps (StepsTo waits now start next) (λ accounts from step.
        let past : IsPast waits now place next accounts = subst (λ o. IfOk o (IsStep waits now place accounts)) is step in (
          refl,
          inr (record {
            after = after_then accounts from next past.after;
            none = none_then accounts (λ other. IsKeyAfter start other × (IsKeyAfter next other → ⊥)) from (λ other here. here.0) (λ other row here has due. past.none other row (here.0, here.1.1) has due);
          }),
        ))

    pub steps_end : r ≡ Ok End → QueueWorks (QueueReads (IsDueRowFound waits now start) (Ok None)) a c
    steps_end is = by_steps (QueueReads (IsDueRowFound waits now start) (Ok None)) (λ accounts from step.
        let none : IsNoneDue waits now (IsKeyAfter place) accounts = subst (λ o. IfOk o (IsStep waits now place accounts)) is step in
        (refl, none_then accounts (IsKeyAfter start) from (λ other here. here) (λ other row here has due. none other row here.0 has due)))

    pub steps_unread : (e : Refusal) (q : Result (Option DueRow) Refusal) → q ≡ Err e → QueueWorks (QueueReads (IsDueRowFound waits now start) q) a c
    steps_unread e q told = by_steps (QueueReads (IsDueRowFound waits now start) q) (λ accounts from step. (refl, subst (λ o. IfOk o (IsDueRowFound waits now start accounts)) (sym told) tt))

    pub steps_due : (due_row : DueRow) → r ≡ Ok (Due due_row) → QueueWorks (QueueReads (IsDueRowFound waits now start) (Ok (Some due_row))) a c
    steps_due due_row is = by_steps (QueueReads (IsDueRowFound waits now start) (Ok (Some due_row)))
        (λ accounts from step.
        let next : IsNextDueRow waits now place accounts due_row = subst (λ o. IfOk o (IsStep waits now place accounts)) is step in (
          refl,
          record {
            after = after_then accounts from due_row.place next.after;
            due = next.due;
            row = next.row;
            first = none_then accounts (λ other. IsKeyAfter start other × IsKeyAfter other due_row.place) from (λ other here. here.0) (λ other row here has due. next.first other row (here.0, here.1.1) has due);
          },
        ))

-- there are fewer rows
pub steps_past : (waits : RowWaits) (now : ℕ) (start place : QueueKey) (e : Refusal) (a b : State) → QueueWorks (StepsTo waits now start place) a b → QueueWorks (QueueReads (IsDueRowFound waits now start) (Err e)) a b
steps_past waits now start place e a b steps = works_as a b (StepsTo waits now start place) (QueueReads (IsDueRowFound waits now start) (Err e)) (λ accounts later h. (h.0, tt)) steps
