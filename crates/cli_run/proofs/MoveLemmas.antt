-- Messages that a sink keeps, and that then leave the folder, over a store.
use Rattle.std.proofs.Common.{◌≡◌, ◌+◌, ◌<◌, ℕ, suc, Bool, true, false, List, [], ◌∷◌, ◌++◌, take, drop, Option, Some, None, option_map, Result, Ok, Err, is_ok, IfOk, IfErr, OnOk, IsTrue, IsSome, refl, sym, ◌∙◌, ap, subst, inl, inr, append_assoc, add-zero, arith}
use Rattle.std.proofs.Math.Nat.{add-suc}
use Rattle.std.proofs.lemmas.Bool.{false≢true}
use Rattle.std.proofs.lemmas.List.{append-nil}
use Rattle.std.specs.FinMap.{get}
use Rattle.sqlite.specs.State.{State, HasCleanDisk, Survives}
use Rattle.sqlite.proofs.StateLemmas.{survives_then, survives_weaker}
use Rattle.maildir_files.specs.Kept.{kept_mail, MayKeep}
use Rattle.maildir_files.specs.declared.kept.KeptMail.{KeptMail}
use Rattle.store_accounts.specs.declared.refusal.Refusal.{Refusal}
use Rattle.store_accounts.specs.declared.refusal.Refusal.TheVariants.{NoUser}
use Rattle.store_accounts.specs.declared.profile.Profile.{Profile}
use Rattle.store_accounts.specs.declared.taking.NumberedMessage.{NumberedMessage}
use Rattle.store_accounts.specs.Account.{Account, Accounts, open_account_of, with_user, messages_in, takes_mail}
use Rattle.store_accounts.specs.AccountRows.{profile_of}
use Rattle.store_accounts.specs.CopyRows.{HasFirst, IsFirstIn}
use Rattle.store_accounts.specs.Promises.{HasOurTables, HasUser, HasOpen, HasNoOpen, OfOpen, KeepsTables, CrashLeavesAccounts, ReadsOpenAccount, ReadsOwn, WritesAccount}
use Rattle.store_accounts.specs.Refusals.{IsTransient}
use Rattle.store_accounts.specs.Shows.{IsFirstOf, rows_of}
use Rattle.store_tables.proofs.WriteLemmas.{clean_before}
use Rattle.managesieve_sessions.specs.Acts.{HasAccounts, CrashLeaves}
use Rattle.managesieve_sessions.proofs.ActLemmas.{glanced, accounts_stay, read_shows}
use Rattle.store_engine.specs.declared.answer.Answer.TheVariants.{MailTaken, Refused}
use Rattle.store_engine.specs.AccountEvents.{MailTaking}
use Rattle.store_engine.specs.Hosts.{TurnsBy, MayTurnBy, ActsMailTaking, answer_by}
use Rattle.cli_run.specs.declared.fault.RunFault.{RunFault}
use Rattle.cli_run.specs.declared.fault.RunFault.TheVariants as fault
use Rattle.cli_run.specs.Faults.{no_user, status_of}
use Rattle.cli_run.specs.Draining.{folder_mail, mail_in, IsFirstMessage, GrowsBy, Moved, StoppedShort, LostNone, MovesMail, FirstMoved, AllMoved, AnyMoved, Drained}
use Rattle.cli_run.specs.Promise.{world_of_accounts}
use Rattle.cli_run.proofs.LeaveLemmas.{has_first, none_left, leave_one, leave_then, take_then, grown_none, grown_then, one_kept, may_be_kept}

-- ---- one message that is read, kept and taken
module _ (user folder : List ℕ) (tells : Bool) (had has : List KeptMail) where
  abbrev Grew : List (List ℕ) → Type 0
  Grew = GrowsBy user folder tells had has

  abbrev First : Option NumberedMessage → Account → Type 0
  First = IsFirstIn folder

  -- only reads
  pub read_alone : {X E : Type 0} (a b : State) (r : Result X E) (answers_ok : Bool) (Became : Accounts → Accounts → Type 0) → KeepsTables a b r → (IsTrue answers_ok → HasCleanDisk b → IsTrue b.is_open)
      → (HasCleanDisk b → (accounts : Accounts) → HasAccounts a accounts → Became accounts accounts) → MovesMail user folder Grew answers_ok Became a b
  read_alone a b r answers_ok Became keeps opens became = record {
    carries = λ clean accounts shown. (accounts, became clean accounts shown, accounts_stay a b (glanced a b r keeps) clean accounts shown);
    live = λ told clean was. opens told clean;
    shut = keeps.shut;
    crash = survives_weaker a b (λ _. HasOurTables a.now → ⊥) (λ trees. IsTrue a.is_open → CrashLeaves (LostNone user folder Grew) a trees) (λ clean db none live accounts p. absurd (none (p.0, p.1))) keeps.crash;
  }

  none_first : (messages : List (List ℕ)) → HasFirst None messages → messages ≡ []
  none_first [] is = refl
  none_first (message ∷ more) is = absurd (let no = is in cc)

  some_first : (messages : List (List ℕ)) (first : NumberedMessage) → HasFirst (Some first) messages → messages ≡ first.message ∷ drop 1 messages
  some_first [] first is = absurd (let no = is in cc)
  some_first (message ∷ more) first is = let same : first.message ≡ message = cc in ap (λ m. m ∷ more) (sym same)

  own_mail : (accounts : Accounts) (a : Account) → open_account_of accounts user ≡ Some a → mail_in accounts user folder ≡ messages_in a.folders folder
  own_mail accounts a is = ap (λ o. folder_mail o folder) is

  -- nothing was found to move, or it couldn't be read, and nothing was kept
  pub not_read : (a b : State) (r : Result (Option NumberedMessage) Refusal) (fault : RunFault) → ReadsOpenAccount user First a b r → Grew [] → MovesMail user folder Grew false (FirstMoved user folder Grew (Err fault)) a b
  not_read a b r fault reads same = read_alone a b r false (FirstMoved user folder Grew (Err fault)) reads.keeps (λ told. absurd (false≢true told)) (λ clean accounts shown. record { left = refl; kept = inl same })

  module _ (a b : State) (r : Result (Option NumberedMessage) Refusal) (first : Option NumberedMessage) (was : r ≡ Ok first) (reads : ReadsOpenAccount user First a b r) where
    found : HasCleanDisk b → (accounts : Accounts) → HasAccounts a accounts → OfOpen accounts user (First first)
    found clean accounts shown =
        subst (λ q. IfOk q (λ x. OfOpen accounts user (First x))) was (reads.found clean accounts (read_shows a b r first was reads.keeps clean accounts shown).0)

    pub none_read : first ≡ None → Grew [] → MovesMail user folder Grew true (FirstMoved user folder Grew (Ok false)) a b
    none_read is same = read_alone a b r true (FirstMoved user folder Grew (Ok false)) reads.keeps (λ told clean. subst (λ q. OnOk q (IsTrue b.is_open)) was (reads.keeps.live clean))
        (λ clean accounts shown.
        let own = found clean accounts shown in
        let none : mail_in accounts user folder ≡ [] = own_mail accounts own.0 own.1 ∙ none_first (messages_in own.0.folders folder) (subst (λ f. First f own.0) is own.2).message in
        (record { left = refl; kept = same }, none))

    module _ (message : NumberedMessage) (is : first ≡ Some message) (numbered : ReadsOwn user (IsFirstOf user folder) a b r) where
      told_first : HasCleanDisk b → (accounts : Accounts) → HasAccounts a accounts → IsFirstMessage user folder message
      told_first clean accounts shown =
          let (tables, held, shows) = (read_shows a b r first was reads.keeps clean accounts shown).0 in
          (tables, accounts, shows, subst (λ q. IfOk q (λ x. IsFirstOf user folder x (rows_of user tables))) (was ∙ ap Ok is) (numbered.found clean tables held))

      is_first : HasCleanDisk b → (accounts : Accounts) → HasAccounts a accounts → (more : List (List ℕ)) × (mail_in accounts user folder ≡ message.message ∷ more)
      is_first clean accounts shown =
          let own = found clean accounts shown in
          (drop 1 (messages_in own.0.folders folder), own_mail accounts own.0 own.1 ∙ some_first (messages_in own.0.folders folder) message (subst (λ f. First f own.0) is own.2).message)

      -- the sink refused it
      pub not_kept : (fault : RunFault) → (IsTrue tells → MayKeep had (kept_mail user folder message.number message.message message.flags) has) → MovesMail user folder Grew false (FirstMoved user folder Grew (Err fault)) a b
      not_kept fault may = read_alone a b r false (FirstMoved user folder Grew (Err fault)) reads.keeps (λ told. absurd (false≢true told))
          (λ clean accounts shown.
          let mail = is_first clean accounts shown in
          record { left = refl; kept = may_be_kept user folder tells had has (mail_in accounts user folder) message mail.0 mail.1 (told_first clean accounts shown) may })

      module _ (c : State) (q : Result (Unit {0}) Refusal) (writes : WritesAccount user (takes_mail folder 1) b c q) (acts : ActsMailTaking user folder a c q) (kept : IsTrue tells → has ≡ had ++ kept_mail user folder message.number message.message message.flags ∷ []) where
        before : HasCleanDisk c → HasCleanDisk b
        before = clean_before b c (CrashLeavesAccounts (HasUser user) (λ all. with_user all user (takes_mail folder 1)) b) writes.crash

        is_kept : IsFirstMessage user folder message → (mail : List (List ℕ)) (more : List (List ℕ)) → mail ≡ message.message ∷ more → Grew (take 1 mail)
        is_kept told mail more mail_is = one_kept user folder tells had has mail message more mail_is told kept

        -- whatever was answered, where a crash comes the message is kept
        crashes : Survives a c (λ trees. IsTrue a.is_open → CrashLeaves (LostNone user folder Grew) a trees)
        crashes = survives_weaker a c (CrashLeaves (MayTurnBy (λ accounts. MailTaking accounts user folder)) a) (λ trees. IsTrue a.is_open → CrashLeaves (LostNone user folder Grew) a trees)
            (λ clean db may live accounts p.
            let turned = may accounts p in
            let mail = is_first (before clean) accounts (λ _. p) in
            let answered = has_first user folder accounts turned.0 turned.1.0 message.message mail.0 mail.1 turned.1.1 in
            let taking = subst (λ answer. MailTaking accounts user folder answer turned.0) answered turned.1.1 in (
              turned.0,
              record {
                count = 1;
                left = leave_one user folder accounts turned.0 taking;
                others = [];
                kept = subst Grew (sym (append-nil (take 1 (mail_in accounts user folder)))) (is_kept (told_first (before clean) accounts (λ _. p)) (mail_in accounts user folder) mail.0 mail.1);
              },
              turned.2,
            ))
            acts.crash

        -- it left
        pub moved_one : (done : Unit {0}) → q ≡ Ok done → MovesMail user folder Grew true (FirstMoved user folder Grew (Ok true)) a c
        moved_one done ok = record {
          carries = λ clean accounts shown.
              let mail = is_first (before clean) accounts shown in
              let h = acts.carries clean accounts shown in
              (h.0, by accounts h.0 mail.0 mail.1 (told_first (before clean) accounts shown) (subst (λ o. TurnsBy (λ all. MailTaking all user folder) IsTransient (answer_by (λ done. MailTaken) o) accounts h.0) ok h.1), h.2);
          live = λ told clean was. subst (λ o. OnOk o (IsTrue c.is_open)) ok (acts.live clean was);
          shut = acts.shut;
          crash = crashes;
        }
          where
            by : (accounts later : Accounts) (more : List (List ℕ)) → mail_in accounts user folder ≡ message.message ∷ more → IsFirstMessage user folder message → TurnsBy (λ all. MailTaking all user folder) IsTransient MailTaken accounts later
                → Moved user folder Grew 1 accounts later
            by accounts later more mail told (inl row) = record { left = leave_one user folder accounts later row; kept = is_kept told (mail_in accounts user folder) more mail }
            by accounts later more mail told (inr refused) = absurd (let no = refused.2 in cc)

        -- it is there still, and kept
        pub not_taken : (e : Refusal) (fault : RunFault) → q ≡ Err e → MovesMail user folder Grew false (FirstMoved user folder Grew (Err fault)) a c
        not_taken e fault refused = record {
          carries = λ clean accounts shown.
              let mail = is_first (before clean) accounts shown in
              let h = acts.carries clean accounts shown in
              (h.0, by accounts h.0 mail.0 mail.1 (told_first (before clean) accounts shown) (subst (λ o. TurnsBy (λ all. MailTaking all user folder) IsTransient (answer_by (λ done. MailTaken) o) accounts h.0) refused h.1), h.2);
          live = λ told. absurd (false≢true told);
          shut = acts.shut;
          crash = crashes;
        }
          where
            by : (accounts later : Accounts) (more : List (List ℕ)) → mail_in accounts user folder ≡ message.message ∷ more → IsFirstMessage user folder message → TurnsBy (λ all. MailTaking all user folder) IsTransient (Refused e) accounts later
                → StoppedShort user folder Grew 0 accounts later
            by accounts later more mail told (inl row) = absurd (let no = has_first user folder accounts later (Refused e) message.message more mail row in cc)
            by accounts later more mail told (inr stays) = record { left = ap world_of_accounts stays.3; kept = inr (is_kept told (mail_in accounts user folder) more mail) }

-- ---- one call, and then another
module _ (user folder : List ℕ) (tells : Bool) (had mid has : List KeptMail) where
  abbrev Before : List (List ℕ) → Type 0
  Before = GrowsBy user folder tells had mid

  abbrev After : List (List ℕ) → Type 0
  After = GrowsBy user folder tells mid has

  abbrev Whole : List (List ℕ) → Type 0
  Whole = GrowsBy user folder tells had has

  -- the folder's first messages, and then more of them
  grown_on : (count more : ℕ) (accounts between : Accounts) → Moved user folder Before count accounts between → After (take more (mail_in between user folder)) → Whole (take (count + more) (mail_in accounts user folder))
  grown_on count more accounts between moved after =
      subst Whole (sym (take_then user folder count more accounts between moved.left)) (grown_then user folder tells had mid has (take count (mail_in accounts user folder)) (take more (mail_in between user folder)) moved.kept after)

  pub moved_then : (count more : ℕ) (accounts between later : Accounts) → Moved user folder Before count accounts between → Moved user folder After more between later → Moved user folder Whole (count + more) accounts later
  moved_then count more accounts between later one two = record {
    left = leave_then user folder count more accounts between later one.left two.left;
    kept = grown_on count more accounts between one two.kept;
  }

  pub stopped_then : (count more : ℕ) (accounts between later : Accounts) → Moved user folder Before count accounts between → StoppedShort user folder After more between later → StoppedShort user folder Whole (count + more) accounts later
  stopped_then count more accounts between later one two = record {
    left = leave_then user folder count more accounts between later one.left two.left;
    kept = elim two.kept [
      | inl those ↦ inl (grown_on count more accounts between one those)
      | inr another ↦ inr (subst (λ n. Whole (take n (mail_in accounts user folder))) (add-suc count more) (grown_on count (suc more) accounts between one another))
    ];
  }

  -- what a crash leaves after the second
  lost_then : (count : ℕ) (accounts between later : Accounts) → Moved user folder Before count accounts between → LostNone user folder After between later → LostNone user folder Whole accounts later
  lost_then count accounts between later one two =
      let first = take count (mail_in accounts user folder) in
      let rest = take two.count (mail_in between user folder) in
      record {
        count = count + two.count;
        left = leave_then user folder count two.count accounts between later one.left two.left;
        others = two.others;
        kept = subst (λ l. Whole (l ++ two.others)) (sym (take_then user folder count two.count accounts between one.left))
            (subst Whole (sym (append_assoc first rest two.others)) (grown_then user folder tells had mid has first (rest ++ two.others) one.kept two.kept));
      }

  -- what a crash leaves after the first, once more is kept
  lost_before : (accounts later : Accounts) (more : List (List ℕ)) → LostNone user folder Before accounts later → After more → LostNone user folder Whole accounts later
  lost_before accounts later more one after =
      let first = take one.count (mail_in accounts user folder) in
      record {
        count = one.count;
        left = one.left;
        others = one.others ++ more;
        kept = subst Whole (append_assoc first one.others more) (grown_then user folder tells had mid has (first ++ one.others) more one.kept after);
      }

  module _ (a b c : State) (answers_ok : Bool) (First Second Became : Accounts → Accounts → Type 0) (count : ℕ) (moved : (accounts between : Accounts) → First accounts between → Moved user folder Before count accounts between)
      (grew : (between later : Accounts) → Second between later → (more : List (List ℕ)) × After more) (became : (accounts between later : Accounts) → First accounts between → Second between later → Became accounts later) where
    pub moves_then : MovesMail user folder Before true First a b → MovesMail user folder After answers_ok Second b c → MovesMail user folder Whole answers_ok Became a c
    moves_then one two = record {
      carries = λ clean accounts shown.
          let m = one.carries (before clean) accounts shown in
          let l = two.carries clean m.0 m.2 in
          (l.0, became accounts m.0 l.0 m.1 l.1, l.2);
      live = λ told clean was. two.live told clean (one.live refl (before clean) was);
      shut = λ clean live. one.shut (before clean) (two.shut clean live);
      crash = survives_then a b c (λ trees. IsTrue a.is_open → CrashLeaves (LostNone user folder Before) a trees) (λ trees. IsTrue b.is_open → CrashLeaves (LostNone user folder After) b trees)
          (λ trees. IsTrue a.is_open → CrashLeaves (LostNone user folder Whole) a trees)
          (λ clean db left live accounts p.
          let m = one.carries (before clean) accounts (λ _. p) in
          let l = two.carries clean m.0 m.2 in
          let more = grew m.0 l.0 l.1 in
          let was = left live accounts p in
          (was.0, lost_before accounts was.0 more.0 was.1 more.1, was.2))
          (λ clean db left live accounts p.
          let m = one.carries (before clean) accounts (λ _. p) in
          let open_then = one.live refl (before clean) live in
          let was = left open_then m.0 (m.2 open_then) in
          (was.0, lost_then count accounts m.0 was.0 (moved accounts m.0 m.1) was.1, was.2))
          one.crash two.crash;
    }
      where
        before : HasCleanDisk c → HasCleanDisk b
        before = clean_before b c (λ trees. IsTrue b.is_open → CrashLeaves (LostNone user folder After) b trees) two.crash

-- ---- one message after the other
module _ (user folder : List ℕ) (tells : Bool) (had mid has : List KeptMail) (count : ℕ) (a b c : State) (one : MovesMail user folder (GrowsBy user folder tells had mid) true (Moved user folder (GrowsBy user folder tells had mid) count) a b) where
  abbrev Those : List (List ℕ) → Type 0
  Those = GrowsBy user folder tells had has

  abbrev Last : List (List ℕ) → Type 0
  Last = GrowsBy user folder tells mid has

  -- the sink grew by something, whatever was answered
  grew_first : (r : Result Bool RunFault) (between later : Accounts) → FirstMoved user folder Last r between later → (more : List (List ℕ)) × Last more
  grew_first (Ok true) between later h = (take 1 (mail_in between user folder), h.kept)
  grew_first (Ok false) between later h = (take 0 (mail_in between user folder), h.0.kept)
  grew_first (Err fault) between later h = elim h.kept [ inl g ↦ (take 0 (mail_in between user folder), g) | inr g ↦ (take 1 (mail_in between user folder), g) ]

  step : (r : Result Bool RunFault) (Became : Accounts → Accounts → Type 0)
      → ((accounts between later : Accounts) → Moved user folder (GrowsBy user folder tells had mid) count accounts between → FirstMoved user folder Last r between later → Became accounts later)
      → MovesMail user folder Last (is_ok r) (FirstMoved user folder Last r) b c → MovesMail user folder Those (is_ok r) Became a c
  step r Became became two =
      moves_then user folder tells had mid has a b c (is_ok r) (Moved user folder (GrowsBy user folder tells had mid) count) (FirstMoved user folder Last r) Became count (λ accounts between h. h) (grew_first r) became one two

  pub one_more : (r : Result Bool RunFault) → r ≡ Ok true → MovesMail user folder Last (is_ok r) (FirstMoved user folder Last r) b c → MovesMail user folder Those true (Moved user folder Those (count + 1)) a c
  one_more r is two =
      step (Ok true) (Moved user folder Those (count + 1)) (λ accounts between later h k. moved_then user folder tells had mid has count 1 accounts between later h k)
      (subst (λ q. MovesMail user folder Last (is_ok q) (FirstMoved user folder Last q) b c) is two)

  -- none is left
  pub no_more : (r : Result Bool RunFault) (most : ℕ) → r ≡ Ok false → count < most → MovesMail user folder Last (is_ok r) (FirstMoved user folder Last r) b c
      → MovesMail user folder Those true (AnyMoved user folder Those most (Ok count)) a c
  no_more r most is below two =
      step (Ok false) (AnyMoved user folder Those most (Ok count))
      (λ accounts between later h k. record {
        moved = subst (λ n. Moved user folder Those n accounts later) (add-zero count) (moved_then user folder tells had mid has count 0 accounts between later h k.0);
        at_most = omega arith;
        whole = λ _. ap (λ all. mail_in all user folder) (none_left user folder between later k.0.left) ∙ k.1;
      })
      (subst (λ q. MovesMail user folder Last (is_ok q) (FirstMoved user folder Last q) b c) is two)

  pub stops : (r : Result Bool RunFault) (fault told : RunFault) (most : ℕ) → r ≡ Err fault → count < most → MovesMail user folder Last (is_ok r) (FirstMoved user folder Last r) b c → MovesMail user folder Those false (AnyMoved user folder Those most (Err told)) a c
  stops r fault told most is below two =
      step (Err fault) (AnyMoved user folder Those most (Err told))
      (λ accounts between later h k. (count, subst (λ n. StoppedShort user folder Those n accounts later) (add-zero count) (stopped_then user folder tells had mid has count 0 accounts between later h k), omega arith))
      (subst (λ q. MovesMail user folder Last (is_ok q) (FirstMoved user folder Last q) b c) is two)

-- nothing moved yet
pub none_moved : (user folder : List ℕ) (tells : Bool) (had : List KeptMail) (a : State) → MovesMail user folder (GrowsBy user folder tells had had) true (Moved user folder (GrowsBy user folder tells had had) 0) a a
none_moved user folder tells had a = record {
  carries = λ clean accounts shown. (accounts, record { left = refl; kept = grown_none user folder tells had }, shown);
  live = λ told clean was. was;
  shut = λ clean live. live;
  crash = record { clean = omega arith; shield = λ shielded. shielded; counts = omega arith; limit = refl; closes = λ clean is_open. inl is_open; crash = λ clean db left. inl left };
}

-- what became of the accounts is told less exactly
pub moves_wider : (user folder : List ℕ) (Grew : List (List ℕ) → Type 0) (answers_ok : Bool) (Became Wider : Accounts → Accounts → Type 0) (a b : State) → ((accounts later : Accounts) → Became accounts later → Wider accounts later)
    → MovesMail user folder Grew answers_ok Became a b → MovesMail user folder Grew answers_ok Wider a b
moves_wider user folder Grew answers_ok Became Wider a b wider moves = record {
  carries = λ clean accounts shown. let h = moves.carries clean accounts shown in (h.0, wider accounts h.0 h.1, h.2);
  live = moves.live;
  shut = moves.shut;
  crash = moves.crash;
}

-- as many moved as were asked for
pub most_moved : (user folder : List ℕ) (Grew : List (List ℕ) → Type 0) (most count : ℕ) (a b : State) → count ≡ most → MovesMail user folder Grew true (Moved user folder Grew count) a b
    → MovesMail user folder Grew true (AnyMoved user folder Grew most (Ok most)) a b
most_moved user folder Grew most count a b is moves =
    moves_wider user folder Grew true (Moved user folder Grew count) (AnyMoved user folder Grew most (Ok most)) a b
    (λ accounts later h. record { moved = subst (λ n. Moved user folder Grew n accounts later) is h; at_most = omega arith; whole = λ below. absurd (omega arith) }) moves

-- ---- a user whose account was looked for first

-- a refusal that may pass says nothing of the user
transient_user : (fault : RunFault) → status_of fault ≡ 75 → (q : Result ℕ RunFault) → q ≡ Err fault → q ≡ Err no_user → ⊥
transient_user fault transient q was is =
    let same : fault ≡ no_user = cc in
    differ 67 75 refl refl (sym (ap status_of same) ∙ transient)
  where
    differ : (x y : ℕ) → x ≡ 67 → y ≡ 75 → x ≡ y → ⊥
    differ x y one two e = absurd (omega arith)

module _ (user folder : List ℕ) (tells : Bool) (had has : List KeptMail) (most : ℕ) (a b : State) (r : Result Profile Refusal) (reads : ReadsOpenAccount user (λ p account. p ≡ profile_of account) a b r) where
  abbrev Grown : List (List ℕ) → Type 0
  Grown = GrowsBy user folder tells had has

  abbrev Ended : Result ℕ RunFault → Accounts → Accounts → Type 0
  Ended q accounts later = Drained user folder Grown most q accounts later × (q ≡ Err no_user → HasNoOpen user accounts)

  -- there is no open account, or it can't be read now
  pub not_entered : (e : Refusal) → r ≡ Err e → Grown [] → MovesMail user folder Grown false (Ended (Err (fault.Refused e))) a b
  not_entered e was same = read_alone user folder tells had has a b r false (Ended (Err (fault.Refused e))) reads.keeps (λ told. absurd (false≢true told))
      (λ clean accounts shown. ((0, record { left = refl; kept = inl same }, omega arith, inl (refl, same)), λ is. none clean accounts shown (let absent : e ≡ NoUser = cc in absent)))
    where
      none : HasCleanDisk b → (accounts : Accounts) → HasAccounts a accounts → e ≡ NoUser → HasNoOpen user accounts
      none clean accounts shown absent =
          let live = subst (λ q. IfErr q (λ f. f ≡ NoUser → IsTrue b.is_open)) was (reads.sure clean) absent in
          subst (λ q. IfErr q (λ f. f ≡ NoUser → HasNoOpen user accounts)) was (reads.absent clean accounts (shown (reads.keeps.shut clean live))) absent

  -- the account is open, and messages were moved
  module _ (c : State) (p : Profile) (was : r ≡ Ok p) (q : Result ℕ RunFault) (transient : IfErr q (λ fault. status_of fault ≡ 75)) where
    abbrev Looked : Accounts → Accounts → Type 0
    Looked accounts between = Moved user folder (GrowsBy user folder tells had had) 0 accounts between × HasOpen user accounts

    entered : HasCleanDisk b → (accounts : Accounts) → HasAccounts a accounts → OfOpen accounts user (λ account. p ≡ profile_of account)
    entered clean accounts shown =
        subst (λ o. IfOk o (λ x. OfOpen accounts user (λ account. x ≡ profile_of account))) was (reads.found clean accounts (read_shows a b r p was reads.keeps clean accounts shown).0)

    looked : MovesMail user folder (GrowsBy user folder tells had had) true Looked a b
    looked = read_alone user folder tells had had a b r true Looked reads.keeps (λ told clean. subst (λ o. OnOk o (IsTrue b.is_open)) was (reads.keeps.live clean))
        (λ clean accounts shown. (record { left = refl; kept = grown_none user folder tells had }, subst IsSome (sym (entered clean accounts shown).1) refl))

    grew_any : (q : Result ℕ RunFault) (between later : Accounts) → AnyMoved user folder Grown most q between later → (more : List (List ℕ)) × Grown more
    grew_any (Ok count) between later h = (take count (mail_in between user folder), h.moved.kept)
    grew_any (Err fault) between later h = elim h.1.kept [ inl g ↦ (take h.0 (mail_in between user folder), g) | inr g ↦ (take (suc h.0) (mail_in between user folder), g) ]

    -- nothing moved between the two
    alike : (P : Accounts → Type 0) (accounts between : Accounts) → Looked accounts between → P between → P accounts
    alike P accounts between look h = subst P (none_left user folder accounts between look.0.left) h

    ended : (q : Result ℕ RunFault) → IfErr q (λ fault. status_of fault ≡ 75) → (accounts between later : Accounts) → Looked accounts between → AnyMoved user folder Grown most q between later → Ended q accounts later
    ended (Ok count) passes accounts between later look h = ((look.1, alike (λ all. AllMoved user folder Grown most count all later) accounts between look h), λ is. absurd (let no = is in cc))
    ended (Err fault) passes accounts between later look h =
        ((h.0, alike (λ all. StoppedShort user folder Grown h.0 all later) accounts between look h.1, h.2, inr passes), λ is. absurd (transient_user fault passes (Err fault) refl is))

    pub drained_then : MovesMail user folder Grown (is_ok q) (AnyMoved user folder Grown most q) b c → MovesMail user folder Grown (is_ok q) (Ended q) a c
    drained_then moves =
        moves_then user folder tells had had has a b c (is_ok q) Looked (AnyMoved user folder Grown most q) (Ended q) 0 (λ accounts between h. h.0) (grew_any q) (ended q transient) looked moves
