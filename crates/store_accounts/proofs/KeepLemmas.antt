-- Reads and writes as one promise each: from a query, after an earlier read, with another answer.
use Rattle.std.proofs.Common.{◌≡◌, ◌⊎◌, ℕ, List, [], map, Option, Some, None, option_map, slice_get, Ok, Err, Result, Vec, OnOk, OnErr, IfOk, IfErr, IfSome, IsTrue, refl, sym, ap, ◌∙◌, subst, inl, inr, arith}
use Rattle.std.specs.declared.alloc.Global.{Global}
use Rattle.std.specs.FinMap.{get}
use Rattle.sqlite_value.specs.Order.{Row}
use Rattle.sqlite_trees.specs.declared.store.Store.{Ghosts}
use Rattle.sqlite_trees.specs.Tree.{Trees}
use Rattle.sqlite.specs.Listing.{understood}
use Rattle.sqlite.specs.declared.error.Error.{Error}
use Rattle.sqlite.specs.Held.{Held, state}
use Rattle.sqlite.specs.State.{State, HasCleanDisk, Survives, Shown}
use Rattle.sqlite.proofs.Callers.{IsPlain}
use Rattle.sqlite.proofs.StateLemmas.{survives_then}
use Rattle.store_tables.specs.Rows.{Tables, HoldsTables}
use Rattle.store_accounts.specs.FirstCells.{first_three}
use Rattle.store_accounts.specs.declared.account.Counters.{Counters}
use Rattle.store_tables.specs.declared.change.Change.{Change}
use Rattle.store_accounts.specs.declared.profile.Profile.{Profile}
use Rattle.store_accounts.specs.declared.refusal.Refusal.{Refusal}
use Rattle.store_accounts.specs.declared.refusal.Refusal.TheVariants.{NoUser}
use Rattle.store_tables.specs.Schema.{mail_schema}
use Rattle.store_tables.specs.Connection.{StaysSame, IsSettled, Queries, AnswersQuery}
use Rattle.store_tables.specs.Changes.{CrashLeavesTables, MakesAll}
use Rattle.store_accounts.specs.Account.{Account, Accounts}
use Rattle.store_accounts.specs.Refusals.{IsTransient}
use Rattle.store_tables.specs.AccountTable.{account_tree}
use Rattle.store_accounts.specs.AccountRows.{counter_cells, shown_account, shown_counters, profile_row, profile_of, IsProfileRead, HasCounters}
use Rattle.store_accounts.specs.Shows.{rows_of, IsShownOrAbsent, ShowsAccounts, Presents}
use Rattle.store_accounts.proofs.StandingLemmas.{open_there}
use Rattle.store_accounts.specs.Promises.{HasOurTables, IsFree, HasNoOpen, OfOpen, KeepsTables, FindsOwn, FindsAmong, FindsUserRows, ReadsOpenAccount, ReadsCounters, ReadsProfile, WritesStore, ChangesAccounts, CrashLeavesAccounts}
use Rattle.store_tables.proofs.ResultLemmas.{on_ok, on_any, on_err_any}
use Rattle.store_tables.proofs.WriteLemmas.{clean_before}
use Rattle.store_accounts.proofs.QueryLemmas.{query_same, query_quiet, stays_shut, if_shown}
use Rattle.store_accounts.proofs.ReadLemmas.{counters_are, none_counted, profile_first}
use Rattle.store_accounts.proofs.OneLemmas.{or_null_one}
use Rattle.store_accounts.proofs.CallLemmas.{Carries, applied, crashed}

-- ---- what is kept

-- a query of a plain text
query_keeps : (sql : List ℕ) (params : Row) (old new : State) → IsPlain (understood mail_schema sql) → (r : Result (Vec Row Global) Error) → AnswersQuery sql params old new r → KeepsTables old new r
query_keeps sql params old new plain r asked = record {
  same = query_same sql params old new plain r asked.settled asked.ok asked.err;
  live = λ clean. (stays_shut sql params old new r asked.ok asked.err clean).1;
  shut = λ clean. (stays_shut sql params old new r asked.ok asked.err clean).0;
  crash = query_quiet sql params old new plain asked.survives;
}

-- a query of a plain text, outside a transaction, that shows this
module _ {S : Type 0} (g : Ghosts S) (sql : List ℕ) (params : Row) (plain : IsPlain (understood mail_schema sql)) (old new : Held S) (r : Result (Vec Row Global) Error) (asked : Queries g (AnswersQuery sql params) old new r) where
  keeps : KeepsTables (state g old) (state g new) r
  keeps = query_keeps sql params (state g old) (state g new) plain r asked.finds

  abbrev shown : List Row → Type 0
  shown = Shown sql params (state g old) (state g new)

  pub finds_own : (user : List ℕ) (tree : ℕ) (show : Row → Row) → ((rows : List Row) (tables : Tables) → HoldsTables mail_schema (state g old).now tables → shown rows → rows ≡ map show (rows_of user tables tree))
      → Queries g (FindsOwn user tree show) old new r
  finds_own user tree show shows = record {
    ended = asked.ended;
    limit = asked.limit;
    finds = record { found = λ clean tables h. if_shown r shown (λ rows. rows ≡ map show (rows_of user tables tree)) (λ rows. shows rows tables h) (asked.finds.ok clean); keeps = keeps };
  }

  pub finds : (user : List ℕ) (Part : List Row → Account → Type 0) → ((rows : List Row) (accounts : Accounts) → Presents (state g old).now accounts → shown rows → IfSome (get accounts user) (Part rows))
      → Queries g (FindsUserRows user Part) old new r
  finds user Part shows = record {
    ended = asked.ended;
    limit = asked.limit;
    finds = record { found = λ clean accounts p. if_shown r shown (λ rows. IfSome (get accounts user) (Part rows)) (λ rows. shows rows accounts p) (asked.finds.ok clean); keeps = keeps };
  }

  pub finds_among : (user : List ℕ) (Part : List Row → Tables → Type 0) → ((rows : List Row) (tables : Tables) → HoldsTables mail_schema (state g old).now tables → shown rows → Part rows (rows_of user tables))
      → Queries g (FindsAmong user (λ (rows : Vec Row Global). Part rows.items)) old new r
  finds_among user Part shows = record {
    ended = asked.ended;
    limit = asked.limit;
    finds = record { found = λ clean tables h. if_shown r shown (λ rows. Part rows (rows_of user tables)) (λ rows. shows rows tables h) (asked.finds.ok clean); keeps = keeps };
  }

-- with another answer, once Ok was answered
pub keeps_ok : {X Y E F : Type 0} (a b : State) (r : Result X E) (x : X) (q : Result Y F) → r ≡ Ok x → KeepsTables a b r → KeepsTables a b q
keeps_ok a b r x q was k = record { same = k.same; live = λ clean. on_any q (IsTrue b.is_open) (on_ok r x was (IsTrue b.is_open) (k.live clean)); shut = k.shut; crash = k.crash }

-- with a refusal as the answer
pub keeps_refused : {X Y E F : Type 0} (a b : State) (r : Result X E) (e : F) (q : Result Y F) → q ≡ Err e → KeepsTables a b r → KeepsTables a b q
keeps_refused a b r e q is k = record { same = k.same; live = λ clean. subst (λ o. OnOk o (IsTrue b.is_open)) (sym is) tt; shut = k.shut; crash = k.crash }

pub none_ok : {Y E : Type 0} (q : Result Y E) (P : Type 0) → OnOk q ⊥ → OnOk q P
none_ok (Ok y) P none = absurd none
none_ok (Err e) P none = tt

pub none_if : {Y E : Type 0} (q : Result Y E) (P : Y → Type 0) → OnOk q ⊥ → IfOk q P
none_if (Ok y) P none = absurd none
none_if (Err e) P none = tt

pub keeps_failed : {X Y E F : Type 0} (a b : State) (r : Result X E) (q : Result Y F) → OnOk q ⊥ → KeepsTables a b r → KeepsTables a b q
keeps_failed a b r q none k = record { same = k.same; live = λ clean. none_ok q (IsTrue b.is_open) none; shut = k.shut; crash = k.crash }

-- what the connection sees after a read that answered Ok
module _ {X Y E F : Type 0} (a b c : State) (r : Result X E) (x : X) (was : r ≡ Ok x) (q : Result Y F) (early : KeepsTables a b r) (late : KeepsTables b c q) where
  clean_mid : HasCleanDisk c → HasCleanDisk b
  clean_mid = clean_before b c _ late.crash

  mid_open : HasCleanDisk c → IsTrue b.is_open
  mid_open clean = on_ok r x was (IsTrue b.is_open) (early.live (clean_mid clean))

  mid_now : HasCleanDisk c → HasOurTables a.now → b.now ≡ a.now
  mid_now clean h = (early.same (clean_mid clean) h).now_is (mid_open clean)

  pub mid_holds : HasCleanDisk c → (tables : Tables) → HoldsTables mail_schema a.now tables → HoldsTables mail_schema b.now tables
  mid_holds clean tables h = subst (λ d. HoldsTables mail_schema d tables) (sym (mid_now clean (tables, h))) h

  mid_tables : HasCleanDisk c → HasOurTables a.now → HasOurTables b.now
  mid_tables clean h = subst HasOurTables (sym (mid_now clean h)) h

  pub mid_shows : HasCleanDisk c → (accounts : Accounts) → Presents a.now accounts → Presents b.now accounts
  mid_shows clean accounts p = subst (λ d. Presents d accounts) (sym (mid_now clean (p.0, p.1))) p

  -- one read after another that answered Ok
  pub keeps_then : KeepsTables a c q
  keeps_then = record {
    same = λ clean h.
        let one = early.same (clean_mid clean) h in
        let two = late.same clean (mid_tables clean h) in
        record { now_is = λ o. two.now_is o ∙ one.now_is (mid_open clean); committed_is = λ o. two.committed_is o ∙ one.committed_is (mid_open clean) };
    live = late.live;
    shut = λ clean is_open. early.shut (clean_mid clean) (late.shut clean is_open);
    crash = survives_then a b c _ _ _ (λ clean db none. none) (λ clean db none h. none (mid_tables clean h)) early.crash late.crash;
  }

-- ---- reads of one user's account

-- with the refusal of an inner read
pub reads_refused : {X Y : Type 0} (user : List ℕ) (P : X → Account → Type 0) (Q : Y → Account → Type 0) (a b : State) (e : Refusal) (q : Result Y Refusal) → q ≡ Err e → ReadsOpenAccount user P a b (Err e) → ReadsOpenAccount user Q a b q
reads_refused user P Q a b e q is r = record {
  found = λ clean accounts p. subst (λ o. IfOk o (λ y. OfOpen accounts user (Q y))) (sym is) tt;
  absent = λ clean accounts p. subst (λ o. IfErr o (λ f. f ≡ NoUser → HasNoOpen user accounts)) (sym is) (r.absent clean accounts p);
  sure = λ clean. subst (λ o. IfErr o (λ f. f ≡ NoUser → IsTrue b.is_open)) (sym is) (r.sure clean);
  keeps = keeps_refused a b (Err e) e q is r.keeps;
  named = subst (λ o. IfErr o (λ f. (f ≡ NoUser) ⊎ IsTransient f)) (sym is) r.named;
}

pub transient_other : {Y : Type 0} (q : Result Y Refusal) (P : Type 0) → IfErr q IsTransient → IfErr q (λ e. e ≡ NoUser → P)
transient_other (Ok y) P h = tt
transient_other (Err e) P (inl memory) = λ none. absurd (let other = sym memory ∙ none in cc)
transient_other (Err e) P (inr store) = λ none. absurd (let other = sym store ∙ none in cc)

pub transient_named : {Y : Type 0} (q : Result Y Refusal) → IfErr q IsTransient → IfErr q (λ e. (e ≡ NoUser) ⊎ IsTransient e)
transient_named (Ok y) h = tt
transient_named (Err e) h = inr h

of_answer : {Y E : Type 0} (q : Result Y E) (accounts : Accounts) (user : List ℕ) (P : Account → Type 0) (Q : Y → Account → Type 0) → ((a : Account) → P a → IfOk q (λ y. Q y a)) → OfOpen accounts user P
    → IfOk q (λ y. OfOpen accounts user (Q y))
of_answer (Err e) accounts user P Q f h = tt
of_answer (Ok y) accounts user P Q f h = (h.0, h.1, f h.0 h.2)

-- with an answer that is made of what was read
pub reads_answer : {X Y : Type 0} (user : List ℕ) (P : X → Account → Type 0) (Q : Y → Account → Type 0) (a b : State) (r : Result X Refusal) (x : X) → r ≡ Ok x → (q : Result Y Refusal) → IfErr q IsTransient
    → ((account : Account) → P x account → IfOk q (λ y. Q y account)) → ReadsOpenAccount user P a b r → ReadsOpenAccount user Q a b q
reads_answer user P Q a b r x was q named made h = record {
  found = λ clean accounts p. of_answer q accounts user (P x) Q made (subst (λ o. IfOk o (λ z. OfOpen accounts user (P z))) was (h.found clean accounts p));
  absent = λ clean accounts p. transient_other q (HasNoOpen user accounts) named;
  sure = λ clean. transient_other q (IsTrue b.is_open) named;
  keeps = keeps_ok a b r x q was h.keeps;
  named = transient_named q named;
}

-- what holds of the account, if there is one, holds of the one that is there
pub of_there : (accounts : Accounts) (user : List ℕ) (P Q : Account → Type 0) → OfOpen accounts user P → IfSome (get accounts user) Q → OfOpen accounts user Q
of_there accounts user P Q there some = (there.0, there.1, subst (λ o. IfSome o Q) (open_there (get accounts user) there.0 there.1) some)

-- ---- the counter of copies, and the test for an account

-- what was read of the row of the account
pub counter_read : (user : List ℕ) (a b : State) (r : Result (Vec Row Global) Error) (rows : Vec Row Global) → r ≡ Ok rows → FindsOwn user account_tree shown_counters a b r → (q : Result Counters Refusal)
    → IfOk q (λ c. option_map first_three (slice_get rows.items 0) ≡ Some (counter_cells c)) → IfErr q (λ e. e ≡ NoUser → rows.items ≡ []) → IfErr q (λ e. (e ≡ NoUser) ⊎ IsTransient e) → ReadsCounters user a b q
counter_read user a b r rows was h q told none named = record {
  found = λ clean tables held. counters_are q rows.items (rows_of user tables account_tree) (found clean tables held) told;
  absent = λ clean tables held. none_counted q rows.items (rows_of user tables account_tree) (found clean tables held) none;
  keeps = keeps_ok a b r rows q was h.keeps;
  named = named;
}
  where
    found : HasCleanDisk b → (tables : Tables) → HoldsTables mail_schema a.now tables → rows.items ≡ map shown_counters (rows_of user tables account_tree)
    found clean tables held = subst (λ o. IfOk o (λ all. all.items ≡ map shown_counters (rows_of user tables account_tree))) was (h.found clean tables held)

pub counter_refused : (user : List ℕ) (a b : State) (r : Result (Vec Row Global) Error) → FindsOwn user account_tree shown_counters a b r → (q : Result Counters Refusal) → OnOk q ⊥ → IfErr q IsTransient → ReadsCounters user a b q
counter_refused user a b r h q none transient = record {
  found = λ clean tables held. none_if q (HasCounters (rows_of user tables account_tree)) none;
  absent = λ clean tables held. transient_other q (rows_of user tables account_tree ≡ []) transient;
  keeps = keeps_failed a b r q none h.keeps;
  named = transient_named q transient;
}

pub account_absent : (accounts : Accounts) (user : List ℕ) (tables : Tables) → ShowsAccounts tables accounts → rows_of user tables account_tree ≡ [] → IsFree user accounts
account_absent accounts user tables shows none = go (get accounts user) refl (shows.users user)
  where
    go : (o : Option Account) → get accounts user ≡ o → IsShownOrAbsent user (rows_of user tables) o → IsFree user accounts
    go None is h = is
    go (Some a) is h = absurd (let row = sym none ∙ h.account_is in cc)

-- ---- what the store keeps of an account

profile_one : (p : Profile) (a : Account) → IsProfileRead (Some p) (Some (profile_row a)) → p ≡ profile_of a
profile_one p a told =
    let address : p.address ≡ a.address = let e = told.0 in cc in
    let salt : p.salt ≡ a.password.salt = let e = told.1 in cc in
    let rounds : p.rounds ≡ a.password.rounds = let e = told.2 in cc in
    let digest : p.digest ≡ a.password.digest = let e = told.3 in cc in
    let active : p.active ≡ a.active = or_null_one p.active a.active (sym told.4) in
    λ i. record { address = address i; salt = salt i; rounds = rounds i; digest = digest i; active = active i }

profile_is : (o : Option Profile) (a : Option Account) → IsProfileRead o (option_map profile_row a) → o ≡ option_map profile_of a
profile_is None None told = refl
profile_is None (Some a) told = absurd told
profile_is (Some p) None told = absurd told
profile_is (Some p) (Some a) told = ap Some (profile_one p a told)

pub profile_read : (user : List ℕ) (a b : State) (r : Result (Vec Row Global) Error) (rows : Vec Row Global) → r ≡ Ok rows → FindsOwn user account_tree shown_account a b r → (q : Result (Option Profile) Refusal)
    → IfOk q (λ profile. IsProfileRead profile (slice_get rows.items 0)) → IfErr q IsTransient → ReadsProfile user a b q
profile_read user a b r rows was h q told named = record {
  found = λ clean accounts p.
      let own = subst (λ o. IfOk o (λ all. all.items ≡ map shown_account (rows_of user p.0 account_tree))) was (h.found clean p.0 p.1) in
      go accounts q (profile_first a.now rows.items accounts p user own) told;
  keeps = keeps_ok a b r rows q was h.keeps;
  named = named;
}
  where
    go : (accounts : Accounts) (o : Result (Option Profile) Refusal) → slice_get rows.items 0 ≡ option_map profile_row (get accounts user) → IfOk o (λ profile. IsProfileRead profile (slice_get rows.items 0))
        → IfOk o (λ profile. profile ≡ option_map profile_of (get accounts user))
    go accounts (Err e) is h = tt
    go accounts (Ok profile) is h = profile_is profile (get accounts user) (subst (IsProfileRead profile) is h)

pub profile_refused : (user : List ℕ) (a b : State) (r : Result (Vec Row Global) Error) → FindsOwn user account_tree shown_account a b r → (q : Result (Option Profile) Refusal) → OnOk q ⊥ → IfErr q IsTransient → ReadsProfile user a b q
profile_refused user a b r h q none transient = record {
  found = λ clean accounts p. none_if q (λ profile. profile ≡ option_map profile_of (get accounts user)) none;
  keeps = keeps_failed a b r q none h.keeps;
  named = transient;
}

-- ---- writes

-- the changes make of the tables what the write makes of the accounts
pub writes : {X : Type 0} (r : Result X Refusal) (a b : State) (changes : List Change) (Fit : Accounts → Type 0) (change : Accounts → Accounts) → Carries changes Fit change → MakesAll changes a b r
    → (HasCleanDisk b → OnOk r (IsSettled b)) → (HasCleanDisk b → OnErr r (StaysSame a b)) → Survives a b (CrashLeavesTables changes a) → IfErr r IsTransient → WritesStore Fit change a b r
writes r a b changes Fit change carries made settled same crash named = record {
  made = λ clean. applied r a.now b.now changes Fit change carries (made clean);
  settled = settled;
  same = same;
  crash = crashed a b changes Fit change carries crash;
  named = named;
}

-- ---- nothing was read or written

pub survives_same : (s : State) (P : Trees → Type 0) → Survives s s P
survives_same s P = record {
  clean = omega arith;
  counts = omega arith;
  limit = refl;
  closes = λ clean still. inl still;
  shield = λ h. h;
  crash = λ clean db before. inl before;
}

pub keeps_all : {X E : Type 0} (s : State) (q : Result X E) → OnOk q ⊥ → KeepsTables s s q
keeps_all s q none = record {
  same = λ clean ours. record { now_is = λ is_open. refl; committed_is = λ is_open. refl };
  live = λ clean. none_ok q (IsTrue s.is_open) none;
  shut = λ clean is_open. is_open;
  crash = survives_same s (λ _. HasOurTables s.now → ⊥);
}

-- a refusal for memory, or of a number that does not fit
pub writes_failed : {X : Type 0} (s : State) (Fit : Accounts → Type 0) (change : Accounts → Accounts) (q : Result X Refusal) → OnOk q ⊥ → IfErr q IsTransient → WritesStore Fit change s s q
writes_failed s Fit change q none named = record {
  made = λ clean. none_ok q (ChangesAccounts Fit change s.now s.now) none;
  settled = λ clean. none_ok q (IsSettled s) none;
  same = λ clean. on_err_any q (StaysSame s s) (record { now_is = λ is_open. refl; committed_is = λ is_open. refl });
  crash = survives_same s (CrashLeavesAccounts Fit change s);
  named = named;
}

pub reads_failed : {X : Type 0} (user : List ℕ) (Part : X → Account → Type 0) (s : State) (q : Result X Refusal) → OnOk q ⊥ → IfErr q IsTransient → ReadsOpenAccount user Part s s q
reads_failed user Part s q none named = record {
  found = λ clean accounts p. none_if q (λ x. OfOpen accounts user (Part x)) none;
  absent = λ clean accounts p. transient_other q (HasNoOpen user accounts) named;
  sure = λ clean. transient_other q (IsTrue s.is_open) named;
  keeps = keeps_all s q none;
  named = transient_named q named;
}
