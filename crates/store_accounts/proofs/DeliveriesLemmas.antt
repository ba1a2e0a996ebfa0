-- Deliveries to several users: their counters, their row changes one after the other, and what these make of the tables.
use Rattle.std.proofs.Common.{◌≡◌, ◌≢◌, ◌≤◌, ◌<◌, ◌⊎◌, ℕ, zero, suc, ◌+◌, Bool, true, false, cond, List, [], ◌∷◌, ◌++◌, map, fold, length, take, get_or, Option, Some, None, IsSome, IsTrue, Ok, Err, Result, OnOk, OnErr, IfOk, IfErr, append-nil, refl, sym, ap, ◌∙◌, subst, inl, inr, arith}
use Rattle.std.specs.Prelude.{All, Any}
use Rattle.std.specs.List.{AllZip}
use Rattle.std.specs.Ordering.{is_eq}
use Rattle.std.specs.FinMap.{get, get-insert}
use Rattle.std.proofs.lemmas.Cmp.{nat_list_cmp_total}
use Rattle.std.proofs.lemmas.List.{append_assoc, get_or-map, length-map, take_more}
use Rattle.std.proofs.lemmas.List.Elements.{All-head, All-tail, All-weaker}
use Rattle.sqlite_value.specs.Order.{Row}
use Rattle.sqlite_trees.specs.Tree.{Trees}
use Rattle.sqlite.specs.State.{State, HasCleanDisk, Survives}
use Rattle.sqlite.proofs.StateLemmas.{survives_then, survives_weaker}
use Rattle.store_tables.specs.Rows.{Tables, HoldsTables}
use Rattle.store_tables.specs.Schema.{mail_schema}
use Rattle.store_tables.specs.Connection.{IsSettled, StaysSame}
use Rattle.store_tables.specs.Changes.{AreOf, CrashLeavesTables, MakesAll, made, made_one}
use Rattle.store_tables.specs.AccountTable.{account_tree}
use Rattle.store_tables.specs.MessageTable.{message_tree}
use Rattle.store_tables.specs.declared.change.Change.{Change}
use Rattle.store_tables.proofs.ResultLemmas.{on_any, on_ok}
use Rattle.store_tables.proofs.WriteLemmas.{clean_before}
use Rattle.store_accounts.specs.declared.account.Counters.{Counters}
use Rattle.store_accounts.specs.declared.refusal.Refusal.{Refusal}
use Rattle.store_accounts.specs.declared.refusal.Refusal.TheVariants.{NoUser}
use Rattle.store_accounts.specs.Account.{bytes_cmp, Account, Accounts, delivers, in_place, with_user}
use Rattle.store_accounts.specs.AccountRows.{HasCounters}
use Rattle.store_accounts.specs.Delivery.{AreDelivery}
use Rattle.store_accounts.specs.Deliveries.{UserPlan, users_of, HasNoUserTwice, delivers_each, AreCountersOfEach, CountsEach, AreDeliveries, HaveAccounts, HaveOneShut, WritesAccounts, GainsEachOnce, HasEachStoredOnce, StoresEachOnce}
use Rattle.store_accounts.specs.Promises.{ChangesAccounts, CrashLeavesAccounts, HasNoOpen, HasOurTables, HasUser, KeepsSeen, ReadsCounters}
use Rattle.store_accounts.specs.Refusals.{IsTransient}
use Rattle.store_accounts.specs.Shows.{rows_of, Presents, ShowsAccounts}
use Rattle.store_accounts.proofs.AfterLemmas.{seen_before, seen_failed, seen_none, seen_ok, seen_read, seen_then}
use Rattle.store_accounts.proofs.DeliveryLemmas.{delivered_once, delivery_shows}
use Rattle.store_accounts.proofs.KeepLemmas.{account_absent, none_if, transient_named, transient_other}
use Rattle.store_accounts.proofs.ShowLemmas.{others_all}
use Rattle.store_accounts.proofs.StandingLemmas.{free_shut}

-- ---- lists

-- the first stands apart from all later ones
pub apart_first : (user : List ℕ) (users : List (List ℕ)) → HasNoUserTwice (user ∷ users) → All (λ later. user ≢ later) users
apart_first user users apart k d less = apart 0 (suc k) d (omega arith) (omega arith)

pub apart_rest : (user : List ℕ) (users : List (List ℕ)) → HasNoUserTwice (user ∷ users) → HasNoUserTwice users
apart_rest user users apart i j d before less = apart (suc i) (suc j) d (omega arith) (omega arith)

pub apart_cons : (user : List ℕ) (users : List (List ℕ)) → All (λ later. user ≢ later) users → HasNoUserTwice users → HasNoUserTwice (user ∷ users)
apart_cons user users first rest zero zero d before less = absurd (omega arith)
apart_cons user users first rest zero (suc j) d before less = first j d (omega arith)
apart_cons user users first rest (suc i) zero d before less = absurd (omega arith)
apart_cons user users first rest (suc i) (suc j) d before less = rest i j d (omega arith) (omega arith)

-- pairs, and one more
zip_push : {A B : Type 0} (R : A → B → Type 0) (xs : List A) (ys : List B) (x : A) (y : B) → AllZip R xs ys → R x y → AllZip R (xs ++ x ∷ []) (ys ++ y ∷ [])
zip_push R [] [] x y zip one = (one, tt)
zip_push R (a ∷ xs) (b ∷ ys) x y zip one = (zip.0, zip_push R xs ys x y zip.1 one)
zip_push R [] (b ∷ ys) x y zip one = absurd zip
zip_push R (a ∷ xs) [] x y zip one = absurd zip

pub zip_more : {A B : Type 0} (R : A → B → Type 0) (xs : List A) (ys : List B) (i : ℕ) (x : A) (y : B) → i < length xs → x ≡ get_or xs i x → AllZip R (take i xs) ys → R x y → AllZip R (take (i + 1) xs) (ys ++ y ∷ [])
zip_more R xs ys i x y within is zip one =
    subst (λ l. AllZip R l (ys ++ y ∷ [])) (sym (take_more xs i x within ∙ ap (λ e. take i xs ++ e ∷ []) (sym is))) (zip_push R (take i xs) ys x y zip one)

pub zip_length : {A B : Type 0} (R : A → B → Type 0) (xs : List A) (ys : List B) → AllZip R xs ys → length ys ≡ length xs
zip_length R [] [] zip = refl
zip_length R (x ∷ xs) (y ∷ ys) zip = ap suc (zip_length R xs ys zip.1)
zip_length R [] (y ∷ ys) zip = absurd zip
zip_length R (x ∷ xs) [] zip = absurd zip

-- ---- accounts

-- who has an account has it still, after another one or its own is changed
still_has : (accounts : Accounts) (user name : List ℕ) (change : Account → Account) → HasUser name accounts → HasUser name (with_user accounts user change)
still_has accounts user name change has = go (get accounts user)
  where
    put : (a : Account) (b : Bool) → IsSome (cond b (Some a) (get accounts name))
    put a true = refl
    put a false = has

    go : (o : Option Account) → HasUser name (in_place accounts user change o)
    go None = has
    go (Some a) = subst IsSome (sym (get-insert nat_list_cmp_total accounts user (change a) name)) (put (change a) (is_eq (bytes_cmp name user)))

-- ---- row changes

made_append : (tables : Tables) (first more : List Change) → made tables (first ++ more) ≡ made (made tables first) more
made_append tables [] more = refl
made_append tables (d ∷ first) more = made_append (made_one d tables) first more

deliveries_push : (plans : List UserPlan) (counters : List Counters) (changes : List Change) (d : UserPlan) (c : Counters) (own : List Change) → AreDeliveries plans counters changes → AreDelivery d.user c d.plan own
    → AreDeliveries (plans ++ d ∷ []) (counters ++ c ∷ []) (changes ++ own)
deliveries_push [] [] changes d c own are one = (own, [], ap (λ l. l ++ own) are ∙ sym (append-nil own), one, refl)
deliveries_push (e ∷ plans) (n ∷ counters) changes d c own are one = (are.0, are.1 ++ own, ap (λ l. l ++ own) are.2 ∙ append_assoc are.0 are.1 own, are.3, deliveries_push plans counters are.1 d c own are.4 one)
deliveries_push [] (n ∷ counters) changes d c own are one = absurd are
deliveries_push (e ∷ plans) [] changes d c own are one = absurd are

-- the changes of one delivery more
pub deliveries_more : (plans : List UserPlan) (counters : List Counters) (i : ℕ) (d : UserPlan) (c : Counters) (changes own all : List Change) → i < length plans → i < length counters → d ≡ get_or plans i d → all ≡ changes ++ own
    → AreDeliveries (take i plans) (take i counters) changes → AreDelivery d.user (get_or counters i c) d.plan own → AreDeliveries (take (i + 1) plans) (take (i + 1) counters) all
deliveries_more plans counters i d c changes own all within counted is joined are one =
    let n = get_or counters i c in
    let these : take (i + 1) plans ≡ take i plans ++ d ∷ [] = take_more plans i d within ∙ ap (λ e. take i plans ++ e ∷ []) (sym is) in
    subst (λ l. AreDeliveries l (take (i + 1) counters) all) (sym these)
    (subst (λ l. AreDeliveries (take i plans ++ d ∷ []) l all) (sym (take_more counters i c counted))
    (subst (λ l. AreDeliveries (take i plans ++ d ∷ []) (take i counters ++ n ∷ []) l) (sym joined) (deliveries_push (take i plans) (take i counters) changes d n own are one)))

-- another user's changes leave the counters
still_counted : (user : List ℕ) (first : List Change) (tables : Tables) → AreOf user first → (plans : List UserPlan) (counters : List Counters) → All (λ later. user ≢ later) (users_of plans)
    → AreCountersOfEach plans tables counters → AreCountersOfEach plans (made tables first) counters
still_counted user first tables owned [] [] apart are = tt
still_counted user first tables owned (d ∷ plans) (c ∷ counters) apart are =
    let differ : d.user ≢ user = λ same. All-head (λ later. user ≢ later) d.user (users_of plans) apart (sym same) in (
      subst (λ own. HasCounters (own account_tree) c) (sym (others_all user d.user first tables owned differ)) are.0,
      still_counted user first tables owned plans counters (All-tail (λ later. user ≢ later) d.user (users_of plans) apart) are.1,
    )
still_counted user first tables owned [] (c ∷ counters) apart are = absurd are
still_counted user first tables owned (d ∷ plans) [] apart are = absurd are

-- once the changes of all are made, the tables show the accounts after each of the plans in order
pub deliveries_show : (plans : List UserPlan) (counters : List Counters) (changes : List Change) → AreDeliveries plans counters changes → HasNoUserTwice (users_of plans) → (tables : Tables) (accounts : Accounts)
    → ShowsAccounts tables accounts → HaveAccounts (users_of plans) accounts → AreCountersOfEach plans tables counters → ShowsAccounts (made tables changes) (delivers_each plans accounts)
deliveries_show [] [] changes are apart tables accounts shows have counted = subst (λ ds. ShowsAccounts (made tables ds) accounts) (sym are) shows
deliveries_show (d ∷ plans) (c ∷ counters) changes are apart tables accounts shows have counted =
    let user = d.user in
    let users = users_of plans in
    let change = delivers d.plan in
    let next = with_user accounts user change in
    let one = delivery_shows user c d.plan are.0 are.3 tables accounts shows (All-head (λ name. HasUser name accounts) user users have) counted.0 in
    let there : HaveAccounts users next = All-weaker (λ name. HasUser name accounts) (λ name. HasUser name next) (λ name has. still_has accounts user name change has) users (All-tail (λ name. HasUser name accounts) user users have) in
    let known = still_counted user are.0 tables are.3.owned plans counters (apart_first user users apart) counted.1 in
    subst (λ t. ShowsAccounts t (delivers_each plans next)) (sym (ap (made tables) are.2 ∙ made_append tables are.0 are.1))
    (deliveries_show plans counters are.1 are.4 (apart_rest user users apart) (made tables are.0) next one there known)
deliveries_show [] (c ∷ counters) changes are apart tables accounts shows have counted = absurd are
deliveries_show (d ∷ plans) [] changes are apart tables accounts shows have counted = absurd are

-- and the table of messages has each one's message once more
pub each_once : (plans : List UserPlan) (counters : List Counters) (changes : List Change) → AreDeliveries plans counters changes → (tables : Tables) → GainsEachOnce plans (tables message_tree) (made tables changes message_tree)
each_once [] [] changes are tables = ap (λ ds. made tables ds message_tree) are
each_once (d ∷ plans) (c ∷ counters) changes are tables =
    let next = made tables are.0 in (
      next message_tree,
      (_, ap (λ (t : Tables). t message_tree) (are.3.makes tables) ∙ delivered_once d.user c d.plan tables),
      subst (λ (t : Tables). GainsEachOnce plans (next message_tree) (t message_tree)) (sym (ap (made tables) are.2 ∙ made_append tables are.0 are.1)) (each_once plans counters are.1 are.4 next),
    )
each_once [] (c ∷ counters) changes are tables = absurd are
each_once (d ∷ plans) [] changes are tables = absurd are

-- ---- the counters are read

-- of nobody
pub counts_none : (s : State) (none : List Counters) → none ≡ [] → CountsEach [] s s (Ok none)
counts_none s none is = record { found = λ clean tables h. subst (AreCountersOfEach [] tables) (sym is) tt; absent = λ clean tables h. tt; keeps = seen_none s (Ok none); named = tt }

module _ (plans : List UserPlan) (i : ℕ) (d : UserPlan) (within : i < length plans) (is : d ≡ get_or plans i d) (so_far : List Counters) (a b c : State) (early : CountsEach (take i plans) a b (Ok so_far))
    (q : Result Counters Refusal) (late : ReadsCounters d.user b c q) where
  clean_mid : HasCleanDisk c → HasCleanDisk b
  clean_mid = seen_before a b c (Ok so_far) so_far refl early.keeps q (seen_read b c q late.keeps)

  held : HasCleanDisk c → (tables : Tables) → HoldsTables mail_schema a.now tables → HoldsTables mail_schema b.now tables
  held clean tables h = subst (λ db. HoldsTables mail_schema db tables) (sym (early.keeps.seen (clean_mid clean) (tables, h)).0) h

  both : KeepsSeen a c q
  both = seen_then a b c (Ok so_far) so_far refl early.keeps q (seen_read b c q late.keeps)

  -- of one more
  pub counts_more : (x : Counters) → q ≡ Ok x → (all : List Counters) → all ≡ so_far ++ x ∷ [] → CountsEach (take (i + 1) plans) a c (Ok all)
  counts_more x was all joined = record {
    found = λ clean tables h.
        let one = subst (λ o. IfOk o (HasCounters (rows_of d.user tables account_tree))) was (late.found clean tables (held clean tables h)) in
        subst (AreCountersOfEach (take (i + 1) plans) tables) (sym joined)
        (zip_more (λ (e : UserPlan) n. HasCounters (rows_of e.user tables account_tree) n) plans so_far i d x within is (early.found (clean_mid clean) tables h) one);
    absent = λ clean tables h. tt;
    keeps = seen_ok a c q x (Ok all) was both;
    named = tt;
  }

  -- of one who has none, or whose couldn't be read
  pub counts_refused : (e : Refusal) → q ≡ Err e → (end : Result (List Counters) Refusal) → end ≡ Err e → CountsEach plans a c end
  counts_refused e was end told = record {
    found = λ clean tables h. subst (λ o. IfOk o (AreCountersOfEach plans tables)) (sym told) tt;
    absent = λ clean tables h. subst (λ o. IfErr o (λ f. f ≡ NoUser → Any (λ user. rows_of user tables account_tree ≡ []) (users_of plans))) (sym told)
        (λ none. (i, d.user, simp length-map within, get_or-map (λ (e : UserPlan). e.user) plans i d d.user within ∙ ap (λ (e : UserPlan). e.user) (sym is), gone clean tables h none));
    keeps = seen_failed a c q end (subst (λ o. OnOk o ⊥) (sym told) tt) both;
    named = subst (λ o. IfErr o (λ f. (f ≡ NoUser) ⊎ IsTransient f)) (sym told) (subst (λ o. IfErr o (λ f. (f ≡ NoUser) ⊎ IsTransient f)) was late.named);
  }
    where
      gone : HasCleanDisk c → (tables : Tables) → HoldsTables mail_schema a.now tables → e ≡ NoUser → rows_of d.user tables account_tree ≡ []
      gone clean tables h = subst (λ o. IfErr o (λ f. f ≡ NoUser → rows_of d.user tables account_tree ≡ [])) was (late.absent clean tables (held clean tables h))

  -- and there was no memory for it
  pub counts_failed : (end : Result (List Counters) Refusal) → OnOk end ⊥ → IfErr end IsTransient → CountsEach plans a c end
  counts_failed end none transient = record {
    found = λ clean tables h. none_if end (AreCountersOfEach plans tables) none;
    absent = λ clean tables h. transient_other end (Any (λ user. rows_of user tables account_tree ≡ []) (users_of plans)) transient;
    keeps = seen_failed a c q end none both;
    named = transient_named end transient;
  }

-- who has no row in the table of accounts has no open account
shut_among : (accounts : Accounts) (tables : Tables) → ShowsAccounts tables accounts → (users : List (List ℕ)) → Any (λ user. rows_of user tables account_tree ≡ []) users → HaveOneShut users accounts
shut_among accounts tables shows users one = (one.0, one.1, one.2, one.3, free_shut accounts one.1 (account_absent accounts one.1 tables shows one.4))

-- ---- and then the changes are made

module _ (plans : List UserPlan) (apart : HasNoUserTwice (users_of plans)) (a b : State) (r : Result (List Counters) Refusal) (early : CountsEach plans a b r) where
  abbrev users : List (List ℕ)
  users = users_of plans

  abbrev change : Accounts → Accounts
  change = delivers_each plans

  -- a refusal, before any change
  each_unmade : {Y : Type 0} (e : Refusal) (q : Result Y Refusal) → q ≡ Err e → (HasCleanDisk b → (accounts : Accounts) → Presents a.now accounts → e ≡ NoUser → HaveOneShut users accounts) → (e ≡ NoUser) ⊎ IsTransient e
      → WritesAccounts users change a b q
  each_unmade e q is absent named = record {
    made = λ clean. subst (λ o. OnOk o (ChangesAccounts (HaveAccounts users) change a.now b.now)) (sym is) tt;
    settled = λ clean. subst (λ o. OnOk o (IsSettled b)) (sym is) tt;
    same = λ clean ours. subst (λ o. OnErr o (StaysSame a b)) (sym is) (early.keeps.same clean ours);
    absent = λ clean accounts p. subst (λ o. IfErr o (λ f. f ≡ NoUser → HaveOneShut users accounts)) (sym is) (absent clean accounts p);
    crash = survives_weaker a b _ (CrashLeavesAccounts (HaveAccounts users) change a) (λ clean db none accounts p have. absurd (none (p.0, p.1))) early.keeps.crash;
    named = subst (λ o. IfErr o (λ f. (f ≡ NoUser) ⊎ IsTransient f)) (sym is) named;
  }

  -- that of the counters
  pub each_refused : {Y : Type 0} (e : Refusal) → r ≡ Err e → (q : Result Y Refusal) → q ≡ Err e → WritesAccounts users change a b q
  each_refused e was q is =
      each_unmade e q is (λ clean accounts p none. shut_among accounts p.0 p.2 users (subst (λ o. IfErr o (λ f. f ≡ NoUser → Any (λ user. rows_of user p.0 account_tree ≡ []) users)) was (early.absent clean p.0 p.1) none))
      (subst (λ o. IfErr o (λ f. (f ≡ NoUser) ⊎ IsTransient f)) was early.named)

  -- one without visible cause
  pub each_failed : {Y : Type 0} (e : Refusal) (q : Result Y Refusal) → q ≡ Err e → IsTransient e → WritesAccounts users change a b q
  each_failed {Y} e q is transient = each_unmade e q is (λ clean accounts p. transient_other {Y = Y} (Err e) (HaveOneShut users accounts) transient) (inr transient)

  module _ (counters : List Counters) (was : r ≡ Ok counters) (changes : List Change) (are : AreDeliveries plans counters changes) (c : State) (late : Survives b c (CrashLeavesTables changes b)) {Y : Type 0} (q : Result Y Refusal)
      (wrote : MakesAll changes b c q) where
    clean_then : HasCleanDisk c → HasCleanDisk b
    clean_then = clean_before b c _ late

    mid : HasCleanDisk c → HasOurTables a.now → (b.now ≡ a.now) × (b.committed ≡ a.committed)
    mid clean ours = on_ok r counters was _ (early.keeps.seen (clean_then clean) ours)

    holds : HasCleanDisk c → (tables : Tables) → HoldsTables mail_schema a.now tables → HoldsTables mail_schema b.now tables
    holds clean tables h = subst (λ d. HoldsTables mail_schema d tables) (sym (mid clean (tables, h)).0) h

    shown : HasCleanDisk c → (accounts : Accounts) (p : Presents a.now accounts) → HaveAccounts users accounts → ShowsAccounts (made p.0 changes) (change accounts)
    shown clean accounts p have = deliveries_show plans counters changes are apart p.0 accounts p.2 have (subst (λ o. IfOk o (AreCountersOfEach plans p.0)) was (early.found (clean_then clean) p.0 p.1))

    made_then : HasCleanDisk c → (o : Result Y Refusal) → MakesAll changes b c o → OnOk o (ChangesAccounts (HaveAccounts users) change a.now c.now)
    made_then clean (Err e) all = tt
    made_then clean (Ok y) all = λ accounts p have. (made p.0 changes, all clean p.0 (holds clean p.0 p.1), shown clean accounts p have)

    same_then : HasCleanDisk c → HasOurTables a.now → (o : Result Y Refusal) → OnErr o (StaysSame b c) → OnErr o (StaysSame a c)
    same_then clean ours (Ok y) same = tt
    same_then clean ours (Err e) same = let one = mid clean ours in record { now_is = λ o. same.now_is o ∙ one.0; committed_is = λ o. same.committed_is o ∙ one.1 }

    pub each_written : (HasCleanDisk c → OnOk q (IsSettled c)) → (HasCleanDisk c → OnErr q (StaysSame b c)) → IfErr q IsTransient → WritesAccounts users change a c q
    each_written settled same named = record {
      made = λ clean. made_then clean q wrote;
      settled = settled;
      same = λ clean ours. same_then clean ours q (same clean);
      absent = λ clean accounts p. transient_other q (HaveOneShut users accounts) named;
      crash = survives_then a b c _ _ _ (λ clean db none accounts p have. absurd (none (p.0, p.1)))
          (λ clean db may accounts p have.
          let left = may p.0 (holds clean p.0 p.1) in
          (left.0, (made p.0 changes, left.1, shown clean accounts p have), left.2)) early.keeps.crash late;
      named = transient_named q named;
    }

    pub each_stored : StoresEachOnce plans a c q
    each_stored clean tables h = go q wrote
      where
        go : (o : Result Y Refusal) → MakesAll changes b c o → OnOk o (HasEachStoredOnce plans (tables message_tree) c.now)
        go (Err e) all = tt
        go (Ok y) all = (made tables changes, all clean tables (holds clean tables h), each_once plans counters changes are tables)
