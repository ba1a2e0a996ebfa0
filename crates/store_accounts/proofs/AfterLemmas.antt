-- A read after a read, and a write after a read, of one user's account.
use Rattle.std.proofs.Common.{◌≡◌, ◌⊎◌, ◌==◌, ℕ, true, false, List, Option, Some, None, Ok, Err, Result, OnOk, OnErr, IfOk, IfErr, IsTrue, inr, refl, sym, ap, ◌∙◌, subst, inl, option_map}
use Rattle.std.specs.FinMap.{get}
use Rattle.sqlite.specs.State.{State, HasCleanDisk, Survives}
use Rattle.sqlite.proofs.StateLemmas.{survives_then, survives_weaker}
use Rattle.store_tables.specs.Rows.{Tables, HoldsTables}
use Rattle.store_tables.specs.declared.change.Change.{Change}
use Rattle.store_accounts.specs.declared.refusal.Refusal.{Refusal}
use Rattle.store_accounts.specs.declared.refusal.Refusal.TheVariants.{NoUser}
use Rattle.store_tables.specs.Schema.{mail_schema}
use Rattle.store_tables.specs.Connection.{StaysSame, IsSettled}
use Rattle.store_tables.specs.Changes.{made, CrashLeavesTables, MakesAll}
use Rattle.store_accounts.specs.Account.{Account, Accounts, with_user}
use Rattle.store_accounts.specs.Refusals.{IsTransient}
use Rattle.store_accounts.specs.Shows.{ShowsAccounts, Presents}
use Rattle.store_accounts.proofs.StandingLemmas.{open_there, open_with, shut_with, free_shut}
use Rattle.store_accounts.specs.Promises.{HasUser, HasNoOpen, OfUser, OfOpen, ChangesAccounts, CrashLeavesAccounts, HasOurTables, KeepsTables, KeepsSeen, ReadsOpenAccount, ReadsProfile, WritesAccount, WritesKnown}
use Rattle.store_tables.proofs.ResultLemmas.{on_ok, on_any}
use Rattle.store_tables.proofs.WriteLemmas.{clean_before}
use Rattle.store_accounts.proofs.KeepLemmas.{survives_same, transient_named, transient_other, keeps_ok, keeps_refused, keeps_then, keeps_failed, none_if, none_ok, mid_shows}
use Rattle.store_accounts.specs.declared.profile.Profile.{Profile}
use Rattle.store_accounts.specs.AccountRows.{profile_of}

-- ---- a write after a read

-- the changes turn tables that show accounts, of which something is known, into tables that show them with one user's account changed
abbrev pub CarriesKnown : State → State → List ℕ → (Account → Account) → List Change → Type 0
CarriesKnown a b user change ds = HasCleanDisk b → (accounts : Accounts) → (p : Presents a.now accounts) → HasUser user accounts → ShowsAccounts (made p.0 ds) (with_user accounts user change)

-- a write that goes by what a read told of the account
module _ {X Y : Type 0} (user : List ℕ) (Known : Account → Type 0) (change : Account → Account) (a b c : State) (r : Result X Refusal) (x : X) (ok : r ≡ Ok x) (Part : X → Account → Type 0) (early : ReadsOpenAccount user Part a b r)
    (fits : (account : Account) → Part x account → Known account) (q : Result Y Refusal) (late : WritesKnown user Known change b c q) where
  clean_then : HasCleanDisk c → HasCleanDisk b
  clean_then = clean_before b c _ late.crash

  is_open : HasCleanDisk c → IsTrue b.is_open
  is_open clean = on_ok r x ok (IsTrue b.is_open) (early.keeps.live (clean_then clean))

  shows_then : HasCleanDisk c → (accounts : Accounts) → Presents a.now accounts → Presents b.now accounts
  shows_then clean accounts p = subst (λ d. Presents d accounts) (sym ((early.keeps.same (clean_then clean) (p.0, p.1)).now_is (is_open clean))) p

  known_then : HasCleanDisk c → (accounts : Accounts) → Presents a.now accounts → OfUser accounts user Known
  known_then clean accounts p =
      let there = subst (λ o. IfOk o (λ w. OfOpen accounts user (Part w))) ok (early.found (clean_then clean) accounts p) in
      (there.0, open_there (get accounts user) there.0 there.1, fits there.0 there.2)

  turned : HasCleanDisk c → (o : Result Y Refusal) → OnOk o (ChangesAccounts (λ all. OfUser all user Known) (λ all. with_user all user change) b.now c.now) → OnOk o (ChangesAccounts (HasUser user) (λ all. with_user all user change) a.now c.now)
  turned clean (Err e) h = tt
  turned clean (Ok y) h = λ accounts p has. h accounts (shows_then clean accounts p) (known_then clean accounts p)

  undone : HasCleanDisk c → HasOurTables a.now → (o : Result Y Refusal) → OnErr o (StaysSame b c) → OnErr o (StaysSame a c)
  undone clean ours (Ok y) h = tt
  undone clean ours (Err e) h =
      let mid = early.keeps.same (clean_then clean) ours in
      record { now_is = λ o. h.now_is o ∙ mid.now_is (is_open clean); committed_is = λ o. h.committed_is o ∙ mid.committed_is (is_open clean) }

  pub known_writes : WritesAccount user change a c q
  known_writes = record {
    made = λ clean. turned clean q (late.made clean);
    settled = late.settled;
    same = λ clean ours. undone clean ours q (late.same clean);
    absent = λ clean accounts p. transient_other q (HasNoOpen user accounts) late.named;
    crash = survives_then a b c _ _ _ (λ clean db none accounts p has. absurd (none (p.0, p.1))) (λ clean db may accounts p has. may accounts (shows_then clean accounts p) (known_then clean accounts p)) early.keeps.crash late.crash;
    named = transient_named q late.named;
  }

-- ---- reads in turn

-- a read is one
pub seen_read : {X E : Type 0} (a b : State) (r : Result X E) → KeepsTables a b r → KeepsSeen a b r
seen_read {X} {E} a b r k = record { same = k.same; seen = λ clean ours. go r (k.live clean) (k.same clean ours); crash = k.crash }
  where
    go : (o : Result X E) → OnOk o (IsTrue b.is_open) → StaysSame a b → OnOk o ((b.now ≡ a.now) × (b.committed ≡ a.committed))
    go (Ok x) live same = (same.now_is live, same.committed_is live)
    go (Err e) live same = tt

-- and so is none
pub seen_none : {X E : Type 0} (s : State) (q : Result X E) → KeepsSeen s s q
seen_none {X} {E} s q = record { same = λ clean ours. record { now_is = λ o. refl; committed_is = λ o. refl }; seen = λ clean ours. go q; crash = survives_same s (λ _. HasOurTables s.now → ⊥) }
  where
    go : (o : Result X E) → OnOk o ((s.now ≡ s.now) × (s.committed ≡ s.committed))
    go (Ok x) = (refl, refl)
    go (Err e) = tt

-- with another answer
pub seen_ok : {X Y E F : Type 0} (a b : State) (r : Result X E) (x : X) (q : Result Y F) → r ≡ Ok x → KeepsSeen a b r → KeepsSeen a b q
seen_ok a b r x q is k = record { same = k.same; seen = λ clean ours. on_any q _ (on_ok r x is _ (k.seen clean ours)); crash = k.crash }

pub seen_failed : {X Y E F : Type 0} (a b : State) (r : Result X E) (q : Result Y F) → OnOk q ⊥ → KeepsSeen a b r → KeepsSeen a b q
seen_failed a b r q none k = record { same = k.same; seen = λ clean ours. none_ok q _ none; crash = k.crash }

-- one after the other
module _ {X Y E F : Type 0} (a b c : State) (r : Result X E) (x : X) (ok : r ≡ Ok x) (early : KeepsSeen a b r) (q : Result Y F) (late : KeepsSeen b c q) where
  pub seen_before : HasCleanDisk c → HasCleanDisk b
  seen_before = clean_before b c _ late.crash

  seen_mid : HasCleanDisk c → HasOurTables a.now → (b.now ≡ a.now) × (b.committed ≡ a.committed)
  seen_mid clean ours = on_ok r x ok _ (early.seen (seen_before clean) ours)

  pub seen_shows : HasCleanDisk c → (accounts : Accounts) → Presents a.now accounts → Presents b.now accounts
  seen_shows clean accounts p = subst (λ d. Presents d accounts) (sym (seen_mid clean (p.0, p.1)).0) p

  ours_then : HasCleanDisk c → HasOurTables a.now → HasOurTables b.now
  ours_then clean ours = subst HasOurTables (sym (seen_mid clean ours).0) ours

  pub seen_then : KeepsSeen a c q
  seen_then = record {
    same = λ clean ours.
        let mid = seen_mid clean ours in
        let end = late.same clean (ours_then clean ours) in
        record { now_is = λ o. end.now_is o ∙ mid.0; committed_is = λ o. end.committed_is o ∙ mid.1 };
    seen = λ clean ours. both q (late.seen clean (ours_then clean ours)) (seen_mid clean ours);
    crash = survives_then a b c _ _ _ (λ clean db none. none) (λ clean db none ours. none (ours_then clean ours)) early.crash late.crash;
  }
    where
      both : (o : Result Y F) → OnOk o ((c.now ≡ b.now) × (c.committed ≡ b.committed)) → (b.now ≡ a.now) × (b.committed ≡ a.committed) → OnOk o ((c.now ≡ a.now) × (c.committed ≡ a.committed))
      both (Ok y) end mid = (end.0 ∙ mid.0, end.1 ∙ mid.1)
      both (Err e) end mid = tt

-- and then the changes
module _ {X Y E : Type 0} (a b c : State) (r : Result X E) (x : X) (ok : r ≡ Ok x) (kept : KeepsSeen a b r) (user : List ℕ) (change : Account → Account) (ds : List Change) (carries : CarriesKnown a b user change ds)
    (late : Survives b c (CrashLeavesTables ds b)) (q : Result Y Refusal) where
  abbrev changed : Accounts → Accounts
  changed all = with_user all user change

  early : HasCleanDisk c → HasCleanDisk b
  early = clean_before b c _ late

  mid_same : HasCleanDisk c → HasOurTables a.now → (b.now ≡ a.now) × (b.committed ≡ a.committed)
  mid_same clean ours = on_ok r x ok _ (kept.seen (early clean) ours)

  mid_holds : HasCleanDisk c → (tables : Tables) → HoldsTables mail_schema a.now tables → HoldsTables mail_schema b.now tables
  mid_holds clean tables h = subst (λ d. HoldsTables mail_schema d tables) (sym (mid_same clean (tables, h)).0) h

  made_then : HasCleanDisk c → (o : Result Y Refusal) → MakesAll ds b c o → OnOk o (ChangesAccounts (HasUser user) changed a.now c.now)
  made_then clean (Err e) wrote = tt
  made_then clean (Ok y) wrote = λ accounts p has. (made p.0 ds, wrote clean p.0 (mid_holds clean p.0 p.1), carries (early clean) accounts p has)

  crash_then : Survives a c (CrashLeavesAccounts (HasUser user) changed a)
  crash_then = survives_then a b c _ _ _ (λ clean db none accounts p has. absurd (none (p.0, p.1)))
      (λ clean db may accounts p has.
      let left = may p.0 (mid_holds clean p.0 p.1) in
      (left.0, (made p.0 ds, left.1, carries (early clean) accounts p has), left.2)) kept.crash late

  same_then : HasCleanDisk c → HasOurTables a.now → (o : Result Y Refusal) → OnErr o (StaysSame b c) → OnErr o (StaysSame a c)
  same_then clean ours (Ok y) h = tt
  same_then clean ours (Err e) h =
      let mid = mid_same clean ours in
      record { now_is = λ o. h.now_is o ∙ mid.0; committed_is = λ o. h.committed_is o ∙ mid.1 }

  pub writes_seen : MakesAll ds b c q → (HasCleanDisk c → OnOk q (IsSettled c)) → (HasCleanDisk c → OnErr q (StaysSame b c)) → IfErr q IsTransient → WritesAccount user change a c q
  writes_seen wrote settled same named = record {
    made = λ clean. made_then clean q wrote;
    settled = settled;
    same = λ clean ours. same_then clean ours q (same clean);
    absent = λ clean accounts p. transient_other q (HasNoOpen user accounts) named;
    crash = crash_then;
    named = transient_named q named;
  }

pub writes_then : {X Y E : Type 0} (a b c : State) (r : Result X E) (x : X) (ok : r ≡ Ok x) (kept : KeepsTables a b r) (user : List ℕ) (change : Account → Account) (ds : List Change) → CarriesKnown a b user change ds → Survives b c (CrashLeavesTables ds b)
    → (q : Result Y Refusal) → MakesAll ds b c q → (HasCleanDisk c → OnOk q (IsSettled c)) → (HasCleanDisk c → OnErr q (StaysSame b c)) → IfErr q IsTransient → WritesAccount user change a c q
writes_then a b c r x ok kept user change ds carries late q = writes_seen a b c r x ok (seen_read a b r kept) user change ds carries late q

-- reads alone, and a refusal
pub write_unmade : {X Y E : Type 0} (a b : State) (r : Result X E) (user : List ℕ) (change : Account → Account) (e : Refusal) (q : Result Y Refusal) → q ≡ Err e → KeepsSeen a b r
    → (HasCleanDisk b → (accounts : Accounts) → Presents a.now accounts → e ≡ NoUser → HasNoOpen user accounts) → (e ≡ NoUser) ⊎ IsTransient e → WritesAccount user change a b q
write_unmade a b r user change e q is kept absent named = record {
  made = λ clean. subst (λ o. OnOk o (ChangesAccounts (HasUser user) (λ all. with_user all user change) a.now b.now)) (sym is) tt;
  settled = λ clean. subst (λ o. OnOk o (IsSettled b)) (sym is) tt;
  same = λ clean ours. subst (λ o. OnErr o (StaysSame a b)) (sym is) (kept.same clean ours);
  absent = λ clean accounts p. subst (λ o. IfErr o (λ f. f ≡ NoUser → HasNoOpen user accounts)) (sym is) (absent clean accounts p);
  crash = survives_weaker a b _ (CrashLeavesAccounts (HasUser user) (λ all. with_user all user change) a) (λ clean db none accounts p has. absurd (none (p.0, p.1))) kept.crash;
  named = subst (λ o. IfErr o (λ f. (f ≡ NoUser) ⊎ IsTransient f)) (sym is) named;
}

pub write_refused : {X Y : Type 0} (a b : State) (r : Result X Refusal) (user : List ℕ) (change : Account → Account) (e : Refusal) (q : Result Y Refusal) → q ≡ Err e → KeepsTables a b r
    → (HasCleanDisk b → (accounts : Accounts) → Presents a.now accounts → e ≡ NoUser → HasNoOpen user accounts) → (e ≡ NoUser) ⊎ IsTransient e → WritesAccount user change a b q
write_refused a b r user change e q is kept absent named = write_unmade a b r user change e q is (seen_read a b r kept) absent named

-- and a refusal that may come without visible cause
pub write_lost : {X Y E : Type 0} (a b : State) (r : Result X E) (user : List ℕ) (change : Account → Account) (e : Refusal) (q : Result Y Refusal) → q ≡ Err e → KeepsSeen a b r → IsTransient e → WritesAccount user change a b q
write_lost {Y = Y} a b r user change e q is kept transient = write_unmade a b r user change e q is kept (λ clean accounts p. transient_other {Y = Y} (Err e) (HasNoOpen user accounts) transient) (inr transient)

pub write_failed : {X Y : Type 0} (a b : State) (r : Result X Refusal) (user : List ℕ) (change : Account → Account) (e : Refusal) (q : Result Y Refusal) → q ≡ Err e → KeepsTables a b r → IsTransient e → WritesAccount user change a b q
write_failed a b r user change e q is kept transient = write_lost a b r user change e q is (seen_read a b r kept) transient

-- ---- the account is entered

profile_of_open : (accounts : Accounts) (user : List ℕ) (profile : Profile) → (profile.rounds == 0) ≡ false → Some profile ≡ option_map profile_of (get accounts user) → OfOpen accounts user (λ a. profile ≡ profile_of a)
profile_of_open accounts user profile rounds told = go (get accounts user) refl told
  where
    go : (o : Option Account) → get accounts user ≡ o → Some profile ≡ option_map profile_of o → OfOpen accounts user (λ a. profile ≡ profile_of a)
    go None is told = absurd (let no = told in cc)
    go (Some a) is told =
        let same : profile ≡ profile_of a = cc in
        (a, open_with accounts user a is (ap (λ (q : Profile). q.rounds == 0) (sym same) ∙ rounds), same)

profile_of_shut : (accounts : Accounts) (user : List ℕ) (profile : Profile) → (profile.rounds == 0) ≡ true → Some profile ≡ option_map profile_of (get accounts user) → HasNoOpen user accounts
profile_of_shut accounts user profile rounds told = go (get accounts user) refl told
  where
    go : (o : Option Account) → get accounts user ≡ o → Some profile ≡ option_map profile_of o → HasNoOpen user accounts
    go None is told = absurd (let no = told in cc)
    go (Some a) is told =
        let same : profile ≡ profile_of a = cc in
        shut_with accounts user a is (ap (λ (q : Profile). q.rounds == 0) (sym same) ∙ rounds)

free_of : (accounts : Accounts) (user : List ℕ) → None ≡ option_map profile_of (get accounts user) → HasNoOpen user accounts
free_of accounts user told = go (get accounts user) refl told
  where
    go : (o : Option Account) → get accounts user ≡ o → None ≡ option_map profile_of o → HasNoOpen user accounts
    go None is told = free_shut accounts user is
    go (Some a) is told = absurd (let no = told in cc)

module _ (user : List ℕ) (a b : State) (r : Result (Option Profile) Refusal) (h : ReadsProfile user a b r) where
  found_of : (o : Option Profile) → r ≡ Ok o → HasCleanDisk b → (accounts : Accounts) → Presents a.now accounts → o ≡ option_map profile_of (get accounts user)
  found_of o is clean accounts p = subst (λ q. IfOk q (λ w. w ≡ option_map profile_of (get accounts user))) is (h.found clean accounts p)

  still_open : (o : Option Profile) → r ≡ Ok o → HasCleanDisk b → IsTrue b.is_open
  still_open o is clean = on_ok r o is (IsTrue b.is_open) (h.keeps.live clean)

  pub account_entered : (profile : Profile) → r ≡ Ok (Some profile) → (profile.rounds == 0) ≡ false → ReadsOpenAccount user (λ profile a. profile ≡ profile_of a) a b (Ok profile)
  account_entered profile is rounds = record {
    found = λ clean accounts p. profile_of_open accounts user profile rounds (found_of (Some profile) is clean accounts p);
    absent = λ clean accounts p. tt;
    sure = λ clean. tt;
    keeps = keeps_ok a b r (Some profile) (Ok profile) is h.keeps;
    named = tt;
  }

  pub account_shut : {X : Type 0} {Part : X → Account → Type 0} (profile : Profile) → r ≡ Ok (Some profile) → (profile.rounds == 0) ≡ true → ReadsOpenAccount user Part a b (Err NoUser)
  account_shut profile is rounds = record {
    found = λ clean accounts p. tt;
    sure = λ clean same. still_open (Some profile) is clean;
    absent = λ clean accounts p same. profile_of_shut accounts user profile rounds (found_of (Some profile) is clean accounts p);
    keeps = keeps_failed a b r (Err NoUser) tt h.keeps;
    named = inl refl;
  }

  pub account_missing : {X : Type 0} {Part : X → Account → Type 0} → r ≡ Ok None → ReadsOpenAccount user Part a b (Err NoUser)
  account_missing is = record {
    found = λ clean accounts p. tt;
    sure = λ clean same. still_open None is clean;
    absent = λ clean accounts p same. free_of accounts user (found_of None is clean accounts p);
    keeps = keeps_failed a b r (Err NoUser) tt h.keeps;
    named = inl refl;
  }

  pub account_unread : {X : Type 0} {Part : X → Account → Type 0} (q : Result X Refusal) → OnOk q ⊥ → IfErr q IsTransient → ReadsOpenAccount user Part a b q
  account_unread {Part = Part} q none transient = record {
    found = λ clean accounts p. none_if q (λ x. OfOpen accounts user (Part x)) none;
    absent = λ clean accounts p. transient_other q (HasNoOpen user accounts) transient;
    sure = λ clean. transient_other q (IsTrue b.is_open) transient;
    keeps = keeps_failed a b r q none h.keeps;
    named = transient_named q transient;
  }
