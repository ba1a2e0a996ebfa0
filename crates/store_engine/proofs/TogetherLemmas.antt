-- Messages taken out of a folder together: the reads, and then the write.
use Rattle.std.proofs.Common.{◌≡◌, ◌≢◌, ◌⊎◌, ◌≤◌, ◌<◌, ◌+◌, ℕ, zero, suc, pos, Bool, true, false, cond, List, [], ◌∷◌, ◌++◌, map, filter, take, drop, length, slice_get, Option, Some, None, Ok, Err, Result, OnOk, IfOk, IfErr, IsSome, IsTrue, refl, sym, ap, ◌∙◌, subst, inl, inr, is_eq, add-one, length-take, arith}
use Rattle.std.specs.FinMap.{get, insert, get-insert, same_map}
use Rattle.std.proofs.lemmas.Cmp.{nat_list_cmp_total}
use Rattle.std.proofs.lemmas.Option.{slice_get-map}
use Rattle.sqlite.specs.State.{State, HasCleanDisk}
use Rattle.sqlite_typed.proofs.TestLemmas.{bytes_eq_refl}
use Rattle.store_tables.specs.Rows.{Tables, HoldsTables}
use Rattle.store_tables.specs.Schema.{mail_schema}
use Rattle.store_tables.proofs.WriteLemmas.{clean_before}
use Rattle.store_accounts.specs.declared.taking.NumberedMessage.{NumberedMessage}
use Rattle.store_accounts.specs.declared.refusal.Refusal.{Refusal}
use Rattle.store_accounts.specs.declared.refusal.Refusal.TheVariants.{NoUser, NoRow}
use Rattle.store_accounts.specs.Account.{bytes_cmp, Account, Accounts, Folders, open_account_of, open_one, is_closed_account, with_user, in_place, messages_in, takes_mail}
use Rattle.store_accounts.specs.CopyRows.{Copy, copies_in, is_in, numbered_of}
use Rattle.store_accounts.specs.Promises.{HasUser, HasNoOpen, OfOpen, FindsAmong, ReadsOwn, ReadsOpenAccount, WritesAccount}
use Rattle.store_accounts.specs.Refusals.{IsTransient}
use Rattle.store_accounts.specs.Shows.{rows_of, OfCopies, IsShown, IsNthOf, Presents}
use Rattle.store_accounts.proofs.AccountLemmas.{bytes_antisymmetric}
use Rattle.store_accounts.proofs.KeepLemmas.{keeps_ok, keeps_failed, keeps_then, mid_holds, transient_other}
use Rattle.store_accounts.proofs.LeavingLemmas.{held_itself, takes_more, taken_next}
use Rattle.store_accounts.proofs.OrderLemmas.{filed_are}
use Rattle.store_accounts.proofs.OwnLemmas.{own_reads}
use Rattle.store_accounts.proofs.StandingLemmas.{open_there, has_there}
use Rattle.managesieve_sessions.specs.Acts.{HasAccounts}
use Rattle.managesieve_sessions.proofs.ActLemmas.{glanced, acts_read, acts_made, acts_undone}
use Rattle.store_engine.specs.declared.answer.Answer.TheVariants.{MailTaken}
use Rattle.store_engine.specs.AccountEvents.{TakesFirst, TakesMailIn, MailTaking}
use Rattle.store_engine.specs.Lookups.{LooksUp}
use Rattle.store_engine.specs.Takings.{max_together, MailTakings, HasFirstMails, LosesMails, TurnsMailTakings, MayTurnMailTakings, ActsMailTakings, EndsRun, mails_in, AreLongest, CountsFirst, TakesLongestRun, RunsMailTakings}
use Rattle.store_engine.specs.World.{World}

-- ---- as a run of the machine

pub mails_run : (n : ℕ) (user folder : List ℕ) (w : World) (later : Accounts) → MailTakings n user folder w.accounts later → RunsMailTakings n user folder w later
mails_run zero user folder w later is = λ i. record { accounts = is i; sessions = w.sessions }
mails_run (suc n) user folder w later m =
    let next : World = record { accounts = m.0; sessions = w.sessions } in
    (next, inl (m.0, m.1, refl), mails_run n user folder next later m.2)

-- ---- one after the other

-- one user's account is changed twice
changed_twice : (accounts : Accounts) (user : List ℕ) (one two : Account) → insert (insert accounts user one) user two ≡ insert accounts user two
changed_twice accounts user one two = same_map nat_list_cmp_total bytes_antisymmetric _ _ (λ q. get-insert nat_list_cmp_total (insert accounts user one) user two q ∙ ap (cond (is_eq (bytes_cmp q user)) (Some two)) (get-insert nat_list_cmp_total accounts user one q) ∙ go q (is_eq (bytes_cmp q user)) ∙ sym (get-insert nat_list_cmp_total accounts user two q))
  where
    go : (q : List ℕ) (b : Bool) → cond b (Some two) (cond b (Some one) (get accounts q)) ≡ cond b (Some two) (get accounts q)
    go q true = refl
    go q false = refl

one_dropped : {X : Type 0} (n : ℕ) (xs : List X) → suc (suc n) ≤ length xs → suc n ≤ length (drop 1 xs)
one_dropped n [] many = omega (arith, many)
one_dropped n (x ∷ xs) many = omega (arith, many)

module _ (user folder : List ℕ) where
  -- the first one leaves
  first_leaves : (accounts : Accounts) (a : Account) → open_account_of accounts user ≡ Some a → 1 ≤ length (messages_in a.folders folder) → MailTaking accounts user folder MailTaken (with_user accounts user (takes_mail folder 1))
  first_leaves accounts a open_is some = subst (λ o. TakesMailIn accounts user folder o MailTaken (with_user accounts user (takes_mail folder 1))) (sym open_is) (go (messages_in a.folders folder) some)
    where
      go : (messages : List (List ℕ)) → 1 ≤ length messages → TakesFirst accounts user folder messages MailTaken (with_user accounts user (takes_mail folder 1))
      go [] none = absurd (omega (arith, none))
      go (message ∷ more) there = record { taken = refl; changed = refl }

  -- the account is open as before
  still_open : (a b : Account) → open_one (Some a) ≡ Some b → open_one (Some (takes_mail folder 1 a)) ≡ Some (takes_mail folder 1 b)
  still_open a b is = go (is_closed_account a) is
    where
      go : (closed : Bool) → cond closed None (Some a) ≡ Some b → cond closed None (Some (takes_mail folder 1 a)) ≡ Some (takes_mail folder 1 b)
      go true e = absurd (let no = e in cc)
      go false e = let same : a ≡ b = cc in ap (λ x. Some (takes_mail folder 1 x)) same

  -- so many leave
  pub leave_in_turn : (n : ℕ) (accounts : Accounts) (a : Account) → open_account_of accounts user ≡ Some a → suc n ≤ length (messages_in a.folders folder) → MailTakings (suc n) user folder accounts (with_user accounts user (takes_mail folder (suc n)))
  leave_in_turn zero accounts a open_is many = (with_user accounts user (takes_mail folder 1), first_leaves accounts a open_is many, refl)
  leave_in_turn (suc n) accounts a open_is many =
      let there = open_there (get accounts user) a open_is in
      let next = with_user accounts user (takes_mail folder 1) in
      let later = takes_mail folder 1 a in
      let next_is : next ≡ insert accounts user later = ap (in_place accounts user (takes_mail folder 1)) there in
      let got : get next user ≡ Some later = ap (λ m. get m user) next_is ∙ get-insert nat_list_cmp_total accounts user later user ∙ ap (λ b. cond b (Some later) (get accounts user)) (bytes_eq_refl user) in
      let open_next : open_account_of next user ≡ Some later = ap open_one got ∙ still_open a a (sym (ap open_one there) ∙ open_is) in
      let less : suc n ≤ length (messages_in later.folders folder) = subst (λ l. suc n ≤ length l) (sym (held_itself a.folders folder (drop 1 (messages_in a.folders folder)))) (one_dropped n (messages_in a.folders folder) many) in
      let end : with_user next user (takes_mail folder (suc n)) ≡ with_user accounts user (takes_mail folder (suc (suc n))) =
      ap (in_place next user (takes_mail folder (suc n))) got ∙ ap (λ m. insert m user (takes_mail folder (suc n) later)) next_is ∙ changed_twice accounts user later (takes_mail folder (suc n) later)
      ∙ ap (insert accounts user) (takes_more folder n a) ∙ sym (ap (in_place accounts user (takes_mail folder (suc (suc n)))) there) in
      (next, first_leaves accounts a open_is (omega (arith, many)), subst (MailTakings (suc n) user folder next) end (leave_in_turn n next later open_next less))

-- ---- the folder's first messages, by its copies

-- the account has the messages, by their octets and flags
pub record FirstMails (folder : List ℕ) (mails : List NumberedMessage) (n : ℕ) (a : Account) : Type 0 where
  pub first : HasFirstMails folder (take n mails) a
  pub many : n ≤ length (messages_in a.folders folder)

taken_of : {X Y : Type 0} (f : X → Y) (n : ℕ) (xs : List X) → take n (map f xs) ≡ map f (take n xs)
taken_of f zero [] = refl
taken_of f zero (x ∷ xs) = refl
taken_of f (suc n) [] = refl
taken_of f (suc n) (x ∷ xs) = ap (λ l. f x ∷ l) (taken_of f n xs)

mapped_twice : {X Y Z : Type 0} (g : Y → Z) (f : X → Y) (xs : List X) → map g (map f xs) ≡ map (λ x. g (f x)) xs
mapped_twice g f [] = refl
mapped_twice g f (x ∷ xs) = ap (λ l. g (f x) ∷ l) (mapped_twice g f xs)

long_taken : {X : Type 0} (n : ℕ) (xs ys : List X) → take n xs ≡ take n ys → n ≤ length ys → n ≤ length xs
long_taken n xs ys same long =
    let one = length-take n xs in
    let two = length-take n ys in
    let both = ap length same in
    omega (arith, one, two, both, long)

mapped_long : {X Y : Type 0} (f : X → Y) (xs : List X) → length (map f xs) ≡ length xs
mapped_long f [] = refl
mapped_long f (x ∷ xs) = ap suc (mapped_long f xs)

module _ (user folder : List ℕ) (mails : List NumberedMessage) where
  -- the first n of these are those of the folder
  abbrev pub AreSame : ℕ → Tables → Type 0
  AreSame n own = OfCopies user own (λ copies. take n (mails_in folder copies) ≡ take n mails)

  module _ (n : ℕ) (own : Tables) (a : Account) (s : IsShown user own a) (long : n ≤ length mails) (same : take n (mails_in folder s.copies.entries) ≡ take n mails) where
    few : List Copy
    few = copies_in folder s.copies.entries

    cut : length (take n mails) ≡ n
    cut = omega (arith, length-take n mails, long)

    -- what they have, of the copies or of the messages
    told : (what : Copy → List ℕ) (said : NumberedMessage → List ℕ) → ((c : Copy) → said (numbered_of c) ≡ what c) → (m : Folders) → messages_in m folder ≡ map what (filter (is_in folder) s.copies.entries) → take (length (take n mails)) (messages_in m folder) ≡ map said (take n mails)
    told what said alike m is =
        ap (λ k. take k (messages_in m folder)) cut ∙ ap (take n) (is ∙ sym (ap (λ f. map f (filter (is_in folder) s.copies.entries)) (λ i c. alike c i)) ∙ sym (mapped_twice said numbered_of (filter (is_in folder) s.copies.entries)))
        ∙ taken_of said n (mails_in folder s.copies.entries) ∙ ap (map said) same

    first_mails : FirstMails folder mails n a
    first_mails =
        let messages = ap (λ m. messages_in m folder) s.copies.shown ∙ filed_are (λ c. c.message) s.copies.entries folder in
        let flags = ap (λ m. messages_in m folder) s.copies.shown_flags ∙ filed_are (λ c. c.flags) s.copies.entries folder in
        let as_many = ap length messages ∙ mapped_long (λ (c : Copy). c.message) (filter (is_in folder) s.copies.entries) ∙ sym (mapped_long numbered_of (filter (is_in folder) s.copies.entries)) in
        record {
          first = record { messages = told (λ c. c.message) (λ m. m.message) (λ c. refl) a.folders messages; flags = told (λ c. c.flags) (λ m. m.flags) (λ c. refl) a.flags flags };
          many = subst (λ k. n ≤ k) (sym as_many) (long_taken n (mails_in folder s.copies.entries) mails same long);
        }

-- ---- the reads

module _ (user folder : List ℕ) (mails : List NumberedMessage) (a b : State) (r : Result ℕ Refusal) (counts : CountsFirst user folder mails a b r) where
  -- they couldn't be counted
  pub mails_unread : (e : Refusal) (q : Result ℕ Refusal) → r ≡ Err e → q ≡ Err e → ActsMailTakings user folder mails a b q
  mails_unread e q was is = subst (ActsMailTakings user folder mails a b) (sym is)
      (acts_read a b (TurnsMailTakings user folder mails (Err e)) (MayTurnMailTakings user folder mails (Err e)) (Err e) (λ clean open_before. tt) (glanced a b r counts.reads.keeps) (λ clean accounts shown. record { absent = absent clean accounts shown; stays = refl }))
    where
      absent : HasCleanDisk b → (accounts : Accounts) → HasAccounts a accounts → e ≡ NoUser → HasNoOpen user accounts
      absent clean accounts shown none =
          let sure = subst (λ o. IfErr o (λ f. f ≡ NoUser → IsTrue b.is_open)) was (counts.reads.sure clean) none in
          subst (λ o. IfErr o (λ f. f ≡ NoUser → HasNoOpen user accounts)) was (counts.reads.absent clean accounts (shown (counts.reads.keeps.shut clean sure))) none

  pub run_unread : (e : Refusal) (q : Result ℕ Refusal) → r ≡ Err e → q ≡ Err e → TakesLongestRun user folder mails a b q
  run_unread e q was is = subst (TakesLongestRun user folder mails a b) (sym is) (λ clean tables h none. absurd (other (subst (λ o. IfErr o (λ f. (f ≡ NoUser) ⊎ IsTransient f)) was counts.reads.named) none))
    where
      other : (e ≡ NoUser) ⊎ IsTransient e → e ≡ NoRow → ⊥
      other (inl absent) none = let no = sym absent ∙ none in cc
      other (inr (inl memory)) none = let no = sym memory ∙ none in cc
      other (inr (inr store)) none = let no = sym store ∙ none in cc

  module _ (n : ℕ) (was : r ≡ Ok n) where
    longest : HasCleanDisk b → (tables : Tables) → HoldsTables mail_schema a.now tables → AreLongest user folder mails n (rows_of user tables)
    longest clean tables h = subst (λ o. IfOk o (λ k. AreLongest user folder mails k (rows_of user tables))) was (counts.reads.found clean tables h)

    -- the folder begins with none of them
    pub mails_none : ActsMailTakings user folder mails a b (Err NoRow)
    mails_none = acts_read a b (TurnsMailTakings user folder mails (Err NoRow)) (MayTurnMailTakings user folder mails (Err NoRow)) (Err NoRow) (λ clean open_before. tt) (glanced a b r counts.reads.keeps)
        (λ clean accounts shown. record { absent = λ none. absurd (let no = none in cc); stays = refl })

    pub run_none : n ≡ 0 → TakesLongestRun user folder mails a b (Err NoRow)
    run_none zero_is clean tables h none account s = subst (EndsRun (mails_in folder s.copies.entries) mails) zero_is (longest clean tables h account s).ends

    module _ (some : 1 ≤ n) (c : State) (w : Result (Unit {0}) Refusal) (late : WritesAccount user (takes_mail folder n) b c w) where
      firsts : ReadsOpenAccount user (λ k account. k ≡ n → FirstMails folder mails n account) a b r
      firsts = own_reads user (AreLongest user folder mails) (λ k account. k ≡ n → FirstMails folder mails n account) a b r
          (λ k own account s longest is. first_mails user folder mails n own account s (subst (λ o. IfOk o (λ m. m ≤ length mails)) was counts.told) (subst (λ m. take m (mails_in folder s.copies.entries) ≡ take m mails) is (longest account s).same)) counts.reads

      fits : HasCleanDisk b → (accounts : Accounts) → Presents a.now accounts → HasUser user accounts × LosesMails user folder mails n accounts (with_user accounts user (takes_mail folder n))
      fits clean accounts p =
          let own = subst (λ o. IfOk o (λ k. OfOpen accounts user (λ account. k ≡ n → FirstMails folder mails n account))) was (firsts.found clean accounts p) in
          let first = own.2 refl in (
            has_there accounts user (subst IsSome (sym own.1) refl),
            record {
              some = some;
              told = subst (λ o. IfOk o (λ m. m ≤ length mails)) was counts.told;
              few = subst (λ o. IfOk o (λ m. m ≤ max_together)) was counts.few;
              first = (own.0, own.1, first.first);
              taken = turns n some accounts own.0 own.1 first.many;
            },
          )
        where
          turns : (k : ℕ) → 1 ≤ k → (all : Accounts) (account : Account) → open_account_of all user ≡ Some account → k ≤ length (messages_in account.folders folder) → MailTakings k user folder all (with_user all user (takes_mail folder k))
          turns zero there all account is many = absurd (omega (arith, there))
          turns (suc k) there all account is many = leave_in_turn user folder k all account is many

      pub mails_made : (y : Unit {0}) → w ≡ Ok y → ActsMailTakings user folder mails a c (Ok n)
      mails_made y done = acts_made a b c r n was counts.reads.keeps (HasUser user) (λ all. with_user all user (takes_mail folder n)) w late.made late.settled late.same late.crash
          (TurnsMailTakings user folder mails (Ok n)) (MayTurnMailTakings user folder mails (Ok n)) y n done (λ clean accounts p. let f = fits clean accounts p in (f.0, f.1, f.1))

      pub mails_undone : (e : Refusal) (q : Result ℕ Refusal) → w ≡ Err e → q ≡ Err e → IsTransient e → ActsMailTakings user folder mails a c q
      mails_undone e q refused is transient = subst (ActsMailTakings user folder mails a c) (sym is)
          (acts_undone a b c r n was counts.reads.keeps (HasUser user) (λ all. with_user all user (takes_mail folder n)) w late.made late.settled late.same late.crash
          (TurnsMailTakings user folder mails (Err e)) (MayTurnMailTakings user folder mails (Err e)) e (Err e) refused (λ told. told transient)
          (λ accounts. record { absent = λ none. transient_other {Y = ℕ} (Err e) (HasNoOpen user accounts) transient none; stays = refl }) (λ clean accounts p. let f = fits clean accounts p in (f.0, (n, f.1))))

      pub run_made : TakesLongestRun user folder mails a c (Ok n)
      run_made clean tables h = longest (clean_before b c _ late.crash clean) tables h

      pub run_undone : (e : Refusal) (q : Result ℕ Refusal) → q ≡ Err e → IsTransient e → TakesLongestRun user folder mails a c q
      run_undone e q is transient = subst (TakesLongestRun user folder mails a c) (sym is) (λ clean tables h none. absurd (other transient none))
        where
          other : IsTransient e → e ≡ NoRow → ⊥
          other (inl memory) none = let no = sym memory ∙ none in cc
          other (inr store) none = let no = sym store ∙ none in cc

-- ---- the reads in turn

on_any : {X E : Type 0} (q : Result X E) {T : Type 0} → T → OnOk q T
on_any (Ok x) t = t
on_any (Err e) t = tt

module _ (user folder : List ℕ) (mails : List NumberedMessage) where
  -- the account was entered
  pub same_none : {X : Type 0} (P : X → Account → Type 0) (a b : State) (r : Result X Refusal) (x : X) → r ≡ Ok x → LooksUp user P a b r → ReadsOwn user (AreSame user folder mails) a b (Ok 0)
  same_none P a b r x was look = record {
    found = λ clean tables h account s. nothing (mails_in folder s.copies.entries) mails;
    there = λ clean accounts p. let own = subst (λ o. IfOk o (λ z. OfOpen accounts user (P z))) was (look.reads.found clean accounts p) in subst IsSome (sym own.1) refl;
    absent = λ clean accounts p. tt;
    sure = λ clean. tt;
    keeps = keeps_ok a b r x (Ok 0) was look.reads.keeps;
    named = tt;
  }
    where
      nothing : {X : Type 0} (xs ys : List X) → take 0 xs ≡ take 0 ys
      nothing xs ys = refl

  module _ (n : ℕ) (a b c : State) (early : ReadsOwn user (AreSame user folder mails) a b (Ok n)) (q : Result (Option NumberedMessage) Refusal) (late : FindsAmong user (IsNthOf user folder (pos n)) b c q) where
    held : HasCleanDisk c → (tables : Tables) → HoldsTables mail_schema a.now tables → HoldsTables mail_schema b.now tables
    held clean tables h = mid_holds a b c (Ok n) n refl q early.keeps late.keeps clean tables h

    -- with another answer after one read more
    told_of : {Q : ℕ → Tables → Type 0} (m : ℕ) → (there : Option NumberedMessage) → q ≡ Ok there → ((own : Tables) → AreSame user folder mails n own → IsNthOf user folder (pos n) there own → Q m own) → ReadsOwn user Q a c (Ok m)
    told_of {Q} m there is tells = record {
      found = λ clean tables h.
          tells (rows_of user tables) (early.found (clean_before b c _ late.keeps.crash clean) tables h) (subst (λ o. IfOk o (λ x. IsNthOf user folder (pos n) x (rows_of user tables))) is (late.found clean tables (held clean tables h)));
      there = λ clean accounts p. early.there (clean_before b c _ late.keeps.crash clean) accounts p;
      absent = λ clean accounts p. tt;
      sure = λ clean. tt;
      keeps = keeps_ok a c q there (Ok m) is (keeps_then a b c (Ok n) n refl q early.keeps late.keeps);
      named = tt;
    }

    module _ (there : Option NumberedMessage) (is : q ≡ Ok there) (mail : NumberedMessage) (at : slice_get mails n ≡ Some mail) where
      -- one more is the same
      pub same_more : there ≡ Some mail → ReadsOwn user (AreSame user folder mails) a c (Ok (n + 1))
      same_more same = told_of (n + 1) there is (λ own was nth account s.
          let here : slice_get (mails_in folder s.copies.entries) n ≡ Some mail = slice_get-map numbered_of (copies_in folder s.copies.entries) n ∙ sym (nth account s n refl) ∙ same in
          ap (λ k. take k (mails_in folder s.copies.entries)) (add-one n) ∙ taken_next (mails_in folder s.copies.entries) n mail here ∙ ap (λ l. l ++ mail ∷ []) (was account s) ∙ sym (taken_next mails n mail at) ∙ ap (λ k. take k mails) (sym (add-one n)))

      -- the next one is another, or there is none
      pub same_end : there ≢ Some mail → n ≤ max_together → n < length mails → CountsFirst user folder mails a c (Ok n)
      same_end other few within = record {
        reads = told_of n there is (λ own was nth account s. record {
          same = was account s;
          ends = inr (inr (λ alike. other (nth account s n refl ∙ sym (slice_get-map numbered_of (copies_in folder s.copies.entries) n) ∙ alike ∙ at)));
        });
        few = few;
        told = omega (arith, within);
      }

    -- it couldn't be read
    pub same_lost : (e : Refusal) (end : Result ℕ Refusal) → end ≡ Err e → IsTransient e → CountsFirst user folder mails a c end
    same_lost e end is transient = subst (CountsFirst user folder mails a c) (sym is) (record {
      reads = record {
        found = λ clean tables h. tt;
        there = λ clean accounts p. tt;
        absent = λ clean accounts p. transient_other {Y = ℕ} (Err e) (HasNoOpen user accounts) transient;
        sure = λ clean. transient_other {Y = ℕ} (Err e) (IsTrue c.is_open) transient;
        keeps = keeps_failed a c q (Err e) tt (keeps_then a b c (Ok n) n refl q early.keeps late.keeps);
        named = inr transient;
      };
      few = tt;
      told = tt;
    })

  -- as many as there may be
  pub same_all : (n : ℕ) (a b : State) → ReadsOwn user (AreSame user folder mails) a b (Ok n) → (n ≡ length mails) ⊎ (n ≡ max_together) → n ≤ max_together → n ≤ length mails → CountsFirst user folder mails a b (Ok n)
  same_all n a b early end few long = record {
    reads = record {
      found = λ clean tables h account s. record { same = early.found clean tables h account s; ends = ends (mails_in folder s.copies.entries) end };
      there = early.there;
      absent = λ clean accounts p. tt;
      sure = λ clean. tt;
      keeps = early.keeps;
      named = tt;
    };
    few = few;
    told = long;
  }
    where
      ends : (there : List NumberedMessage) → (n ≡ length mails) ⊎ (n ≡ max_together) → EndsRun there mails n
      ends there (inl all) = inl all
      ends there (inr most) = inr (inl most)

  -- the account couldn't be entered
  pub same_refused : {X : Type 0} (P : X → Account → Type 0) (a b : State) (e : Refusal) (end : Result ℕ Refusal) → end ≡ Err e → LooksUp user P a b (Err e) → CountsFirst user folder mails a b end
  same_refused P a b e end is look = subst (CountsFirst user folder mails a b) (sym is) (record {
    reads = record {
      found = λ clean tables h. tt;
      there = λ clean accounts p. tt;
      absent = look.reads.absent;
      sure = look.reads.sure;
      keeps = keeps_failed a b (Err e) (Err e) tt look.reads.keeps;
      named = look.reads.named;
    };
    few = tt;
    told = tt;
  })
