-- What comes of an account whose text is printed: all of it is written, or a front; and the account may be closed behind it.
use Rattle.std.proofs.Common.{◌≡◌, ◌+◌, ◌⊎◌, ℕ, List, [], ◌++◌, length, take, drop, Bool, true, false, Option, Some, Result, Ok, Err, IfErr, IfOk, OnOk, IsTrue, MatchResult, refl, sym, ap, ◌∙◌, subst, inl, inr, append_assoc, zero-add, arith}
use Rattle.std.proofs.lemmas.List.{take_all, take-append-drop}
use Rattle.std.proofs.lemmas.List.Concat.{flat_map-append}
use Rattle.std.specs.FinMap.{empty, get}
use Rattle.std.specs.Io.KnownBytes.{Appends}
use Rattle.std.specs.List.{flat_map}
use Rattle.store_text.specs.Text.{account_body, head_text, part_line, sum_line, account_text}
use Rattle.store_text.specs.declared.part.Part.{Part}
use Rattle.store_text.specs.declared.writing.Writer.{Writer}
use Rattle.store_export.proofs.WholeLemmas.{copy_front, copy_whole}
use Rattle.store_export.specs.Reading.{AreRead}
use Rattle.store_export.specs.declared.contents.Contents.{Contents}
use Rattle.sqlite.specs.Effect.{Database}
use Rattle.sqlite.specs.State.{State, HasCleanDisk}
use Rattle.store_tables.proofs.WriteLemmas.{clean_before}
use Rattle.store_accounts.specs.Account.{Account, Accounts, open_account_of}
use Rattle.store_accounts.specs.Opening.{IsKnown}
use Rattle.store_accounts.specs.Promises.{HasNoOpen, OfOpen, ReadsOpenAccount}
use Rattle.store_accounts.specs.Promises.{KeepsTables as KeepsStore}
use Rattle.store_accounts.specs.Refusals.{IsTransient}
use Rattle.store_accounts.specs.Shows.{Presents, OpensAs}
use Rattle.store_accounts.specs.Whole.{whole, IsCopyOf}
use Rattle.store_accounts.specs.declared.refusal.Refusal.{Refusal}
use Rattle.store_accounts.specs.declared.refusal.Refusal.TheVariants.{NoUser}
use Rattle.store_accounts.proofs.KeepLemmas.{keeps_failed, keeps_ok, keeps_refused, keeps_then}
use Rattle.store_accounts.proofs.StandingLemmas.{open_there}
use Rattle.store_engine.specs.Hosts.{ActsKeeping, answer_of}
use Rattle.store_engine.specs.declared.answer.Answer.{Answer}
use Rattle.store_engine.specs.declared.upkeep.Upkeep.TheVariants.{CloseAccount}
use Rattle.cli_run.specs.Draining.{TurnsTables}
use Rattle.cli_run.specs.Exports.{BrokeIn, IsCutOff, PutsParts, PutsSome}
use Rattle.cli_run.specs.Faults.{memory, no_user, IsHindered, IsPrinted, IsTextPut, IsSudden}
use Rattle.cli_run.specs.Streams.{AppendsFront}
use Rattle.cli_run.specs.Subcommands.{BecomesClosed, DoesExport, Exports, HasExported, IsDoneBy, IsKeptFrom, IsUnprinted, PrintsText, Puts, TurnsStore, closing, upkeep_answer}
use Rattle.cli_run.specs.declared.fault.RunFault.{RunFault}
use Rattle.cli_run.specs.declared.fault.RunFault.TheVariants.{Refused}
use Rattle.cli_run.proofs.StreamLemmas.{front_of, front_on, printed_then, put_cut, put_then, written_on}
use Rattle.cli_run.proofs.TakeLemmas.{store_turned, undenied, undenied_sudden}
use Rattle.cli_run.proofs.UpkeepLemmas.{kept_put}
use Rattle.cli_run.proofs.WordLemmas.{denied, kept_same, stays_turned, sudden_refusal, turned_wider}
use Rattle.cli_run.specs.Transitions.{from_to}

-- ---- a front of the text

-- how a text broke off: a front of it was put since memory was refused or the store failed, or a write of it failed
abbrev Breaks : Option (List ℕ) → Option (List ℕ) → RunFault → List ℕ → Type 0
Breaks old new fault text = (IsSudden ⊥ fault × AppendsFront old new text) ⊎ IsTextPut (Err fault) old new text

-- so did one that goes on behind it
breaks_on : (old new : Option (List ℕ)) (fault : RunFault) (text more : List ℕ) → Breaks old new fault text → Breaks old new fault (text ++ more)
breaks_on old new fault text more (inl sudden) = inl (sudden.0, front_of old new text more sudden.1)
breaks_on old new fault text more (inr cut) = inr (put_cut old new text more fault (Err fault) refl cut)

-- and one that has another before it
breaks_then : (old mid new : Option (List ℕ)) (fault : RunFault) (first text : List ℕ) → Appends old mid first → Breaks mid new fault text → Breaks old new fault (first ++ text)
breaks_then old mid new fault first text one (inl sudden) = inl (sudden.0, front_on old mid new first text one sudden.1)
breaks_then old mid new fault first text one (inr cut) = inr (put_then old mid new first text (Err fault) one cut)

-- a text that was put whole
whole_front : (old new : Option (List ℕ)) (text : List ℕ) → Appends old new text → AppendsFront old new text
whole_front old new text put = (length text, subst (Appends old new) (sym (take_all (length text) text (omega arith))) put)

-- it broke off in what the parts that were read make
module _ (contents : Contents) (user : List ℕ) (named : contents.head.owner.name ≡ user) (db : Database) (accounts : Accounts) (a : Account) (p : Presents db accounts) (has : get accounts contents.head.owner.name ≡ Some a) (parts : List Part) (are : AreRead contents parts db a) where
  cut_in : (old new : Option (List ℕ)) (fault : RunFault) → Breaks old new fault (account_body contents.head parts) → IsCutOff user old new fault a
  cut_in old new fault breaks =
      let (all, front, makes) = copy_front contents parts db accounts a p has are in
      let rest = drop (length parts) all in
      let joined : parts ++ rest ≡ all = ap (λ l. l ++ rest) front ∙ take-append-drop (length parts) all in
      let body : account_body contents.head parts ++ flat_map part_line rest ≡ account_body contents.head all =
      append_assoc (head_text contents.head) (flat_map part_line parts) (flat_map part_line rest)
      ∙ ap (λ l. head_text contents.head ++ l) (sym (flat_map-append part_line parts rest) ∙ ap (flat_map part_line) joined) in
      let whole_body : Breaks old new fault (account_body contents.head all) = subst (Breaks old new fault) body (breaks_on old new fault (account_body contents.head parts) (flat_map part_line rest) breaks) in
      record { head = contents.head; parts = all; named = named; makes = makes; written = ended all whole_body }
    where
      ended : (all : List Part) → Breaks old new fault (account_body contents.head all) → BrokeIn old new fault contents.head all
      ended all (inl sudden) = inl sudden
      ended all (inr cut) = inr (put_cut old new (account_body contents.head all) (sum_line (account_body contents.head all)) fault (Err fault) refl cut)

-- ---- the text is printed

-- what is printed of the text, by how that ended
abbrev Told : List ℕ → Option (List ℕ) → Option (List ℕ) → Accounts → Result (Unit {0}) RunFault → Type 0
Told user old new accounts r = MatchResult r (λ done. HasExported user old new accounts) (λ fault. IsUnprinted user old new fault accounts)

module _ (user : List ℕ) (s0 s1 : State) (q : Result Contents Refusal) (reads : ReadsOpenAccount user (λ contents a. AreRead contents [] s0.now a) s0 s1 q) where
  -- the account couldn't be listed
  pub text_unread : (e : Refusal) → q ≡ Err e → (out : Option (List ℕ)) (r : Result (Unit {0}) RunFault) → r ≡ Err (Refused e) → PrintsText user out out s0 s1 r
  text_unread e is out r told = record {
    keeps = keeps_refused s0 s1 q (Refused e) r told reads.keeps;
    printed = λ clean accounts p.
        let named : (e ≡ NoUser) ⊎ IsTransient e = subst (λ o. IfErr o (λ y. (y ≡ NoUser) ⊎ IsTransient y)) is reads.named in
        let free : e ≡ NoUser → HasNoOpen user accounts = subst (λ o. IfErr o (λ y. y ≡ NoUser → HasNoOpen user accounts)) is (reads.absent clean accounts p) in
        let cause : IsSudden ⊥ (Refused e) ⊎ ((Refused e ≡ no_user) × HasNoOpen user accounts) = elim named [ inl none ↦ inr (ap Refused none, free none) | inr transient ↦ inl (sudden_refusal ⊥ e transient) ] in
        subst (Told user out out accounts) (sym told) (inl (kept_same out, cause));
  }

  module _ (contents : Contents) (is : q ≡ Ok contents) (named : contents.head.owner.name ≡ user) where
    listed : HasCleanDisk s1 → (accounts : Accounts) → Presents s0.now accounts → OfOpen accounts user (AreRead contents [] s0.now)
    listed clean accounts p = subst (λ o. IfOk o (λ x. OfOpen accounts user (AreRead x [] s0.now))) is (reads.found clean accounts p)

    has_it : (accounts : Accounts) → (there : OfOpen accounts user (AreRead contents [] s0.now)) → get accounts contents.head.owner.name ≡ Some there.0
    has_it accounts there = subst (λ n. get accounts n ≡ Some there.0) (sym named) (open_there (get accounts user) there.0 there.1)

    -- the connection is open then
    pub text_live : HasCleanDisk s1 → IsTrue s1.is_open
    text_live clean = subst (λ o. OnOk o (IsTrue s1.is_open)) is (reads.keeps.live clean)

    -- there was no memory for the first lines
    pub text_unbegun : (out : Option (List ℕ)) (r : Result (Unit {0}) RunFault) → r ≡ Err memory → PrintsText user out out s0 s1 r
    text_unbegun out r told = record {
      keeps = keeps_ok s0 s1 q contents r is reads.keeps;
      printed = λ clean accounts p. subst (Told user out out accounts) (sym told) (inl (kept_same out, inl (inl refl)));
    }

    -- a write of them failed
    pub text_uncut : (old new : Option (List ℕ)) (fault : RunFault) → IsTextPut (Err fault) old new (head_text contents.head) → (r : Result (Unit {0}) RunFault) → r ≡ Err fault → PrintsText user old new s0 s1 r
    text_uncut old new fault cut r told = record {
      keeps = keeps_ok s0 s1 q contents r is reads.keeps;
      printed = λ clean accounts p.
          let there = listed clean accounts p in
          subst (Told user old new accounts) (sym told)
          (inr (there.0, there.1, cut_in contents user named s0.now accounts there.0 p (has_it accounts there) [] there.2 old new fault (inr (put_cut old new (head_text contents.head) [] fault (Err fault) refl cut))));
    }

    module _ (s2 : State) (count : ℕ) (w1 w2 : Writer) (o0 o1 o2 : Option (List ℕ)) (begun : Appends o0 o1 (head_text contents.head)) (x : Result (Unit {0}) RunFault) (put : PutsParts contents 0 count (from_to w1 w2) (from_to o1 o2) (from_to s1 s2) x) where
      before : HasCleanDisk s2 → HasCleanDisk s1
      before clean = clean_before s1 s2 _ put.keeps.crash clean

      parts_read : (clean : HasCleanDisk s2) (accounts : Accounts) (p : Presents s0.now accounts) → AreRead contents put.parts s0.now (listed (before clean) accounts p).0
      parts_read clean accounts p =
          let there = listed (before clean) accounts p in
          let now = (reads.keeps.same (before clean) (p.0, p.1)).now_is (text_live (before clean)) in
          subst (λ db. AreRead contents put.parts db there.0) now
          (put.read clean accounts (subst (λ db. Presents db accounts) (sym now) p) there.0 (has_it accounts there) [] refl (subst (λ db. AreRead contents [] db there.0) (sym now) there.2))

      keeps_both : KeepsStore s0 s2 x
      keeps_both = keeps_then s0 s1 s2 q contents is x reads.keeps put.keeps

      -- it broke off in the parts
      pub text_stopped : (fault : RunFault) → x ≡ Err fault → (r : Result (Unit {0}) RunFault) → r ≡ Err fault → PrintsText user o0 o2 s0 s2 r
      text_stopped fault stopped r told = record {
        keeps = keeps_refused s0 s2 x fault r told keeps_both;
        printed = λ clean accounts p.
            let there = listed (before clean) accounts p in
            let cut : Breaks o1 o2 fault (flat_map part_line put.parts) = subst (λ o. PutsSome o o1 o2 (flat_map part_line put.parts)) stopped put.put in
            subst (Told user o0 o2 accounts) (sym told)
            (inr (there.0, there.1, cut_in contents user named s0.now accounts there.0 p (has_it accounts there) put.parts (parts_read clean accounts p) o0 o2 fault (breaks_then o0 o1 o2 fault (head_text contents.head) (flat_map part_line put.parts) begun cut)));
      }

      module _ (ok : x ≡ Ok tt) where
        body_put : Appends o0 o2 (account_body contents.head put.parts)
        body_put = written_on o0 o1 o2 (head_text contents.head) (flat_map part_line put.parts) begun (subst (λ o. PutsSome o o1 o2 (flat_map part_line put.parts)) ok put.put)

        -- there was no memory for the sum
        pub text_unended : (r : Result (Unit {0}) RunFault) → r ≡ Err memory → PrintsText user o0 o2 s0 s2 r
        text_unended r told = record {
          keeps = keeps_ok s0 s2 x tt r ok keeps_both;
          printed = λ clean accounts p.
              let there = listed (before clean) accounts p in
              subst (Told user o0 o2 accounts) (sym told)
              (inr (there.0, there.1, cut_in contents user named s0.now accounts there.0 p (has_it accounts there) put.parts (parts_read clean accounts p) o0 o2 memory (inl (inl refl, whole_front o0 o2 (account_body contents.head put.parts) body_put))));
        }

        -- the sum was written, or a write of it failed
        pub text_printed : count ≡ length contents.places → (o3 : Option (List ℕ)) (r : Result (Unit {0}) RunFault) → IsPrinted r o2 o3 (sum_line (account_body contents.head put.parts)) → PrintsText user o0 o3 s0 s2 r
        text_printed all o3 r last = record {
          keeps = keeps_ok s0 s2 x tt r ok keeps_both;
          printed = λ clean accounts p.
              let there = listed (before clean) accounts p in
              let many : length put.parts ≡ length contents.places = sym (zero-add (length put.parts)) ∙ subst (λ o. OnOk o (0 + length put.parts ≡ count)) ok put.all ∙ all in
              by r (printed_then o0 o2 o3 (account_body contents.head put.parts) (sum_line (account_body contents.head put.parts)) r body_put last) accounts there.0 there.1
              (subst (λ n. IsCopyOf (account_text contents.head put.parts) n there.0) named (copy_whole contents put.parts s0.now accounts there.0 p (has_it accounts there) (parts_read clean accounts p) many));
        }
          where
            by : (r : Result (Unit {0}) RunFault) → IsPrinted r o0 o3 (account_text contents.head put.parts) → (accounts : Accounts) (a : Account) → open_account_of accounts user ≡ Some a → IsCopyOf (account_text contents.head put.parts) user a → Told user o0 o3 accounts r
            by (Ok done) printed accounts a is_open copy = (account_text contents.head put.parts, (a, is_open, copy), printed)
            by (Err fault) printed accounts a is_open copy =
                inr (a, is_open, record { head = copy.head; parts = copy.parts; named = copy.named; makes = copy.makes; written = inr (subst (IsPrinted (Err fault) o0 o3) copy.spelled.spelled printed) })

-- ---- and what becomes of the account

module _ (user : List ℕ) (closes : Bool) (s0 s1 : State) (old new : Option (List ℕ)) (q : Result (Unit {0}) RunFault) (prints : PrintsText user old new s0 s1 q) where
  stood : HasCleanDisk s1 → IsTrue s1.is_open → (accounts : Accounts) → Presents s0.now accounts → Presents s1.now accounts
  stood clean live accounts p = subst (λ db. Presents db accounts) (sym ((prints.keeps.same clean (p.0, p.1)).now_is live)) p

  -- its text broke off
  pub unexported : (fault : RunFault) → q ≡ Err fault → (r : Result (Unit {0}) RunFault) → r ≡ Err fault → TurnsStore (Exports closes user old new r) s0 s1
  unexported fault is r told clean live accounts p =
      let why = subst (Told user old new accounts) is (prints.printed clean accounts p) in
      (accounts, subst (λ o. Exports closes user old new o accounts accounts) (sym told) (refl, inl why), stood clean live accounts p)

  module _ (is : q ≡ Ok tt) where
    text_whole : HasCleanDisk s1 → (accounts : Accounts) → Presents s0.now accounts → HasExported user old new accounts
    text_whole clean accounts p = subst (Told user old new accounts) is (prints.printed clean accounts p)

    -- it stays
    pub exported : closes ≡ false → TurnsStore (Exports closes user old new (Ok tt)) s0 s1
    exported stays clean live accounts p = (accounts, (text_whole clean accounts p, subst (λ b. BecomesClosed b user accounts accounts) (sym stays) refl), stood clean live accounts p)

    -- closing it was put to the machine
    pub closed : closes ≡ true → (s2 : State) (kept : Result Answer Refusal) → ActsKeeping user CloseAccount s1 s2 kept → (r : Result (Unit {0}) RunFault) → IsDoneBy (answer_of kept) r → TurnsStore (Exports closes user old new r) s0 s2
    closed closing_is s2 kept acts r done clean live accounts p =
        let before = clean_before s1 s2 _ acts.crash clean in
        let was = stood before (acts.shut clean live) accounts p in
        let h = acts.carries clean accounts (λ _. was) in (
          h.0,
          subst (λ b. Exports b user old new r accounts h.0) (sym closing_is) (by r h.0 (text_whole before accounts p) (kept_put undenied user CloseAccount tt (answer_of kept) r done accounts h.0 h.1)),
          h.2 live,
        )
      where
        by : (r : Result (Unit {0}) RunFault) (later : Accounts) → HasExported user old new accounts → Puts undenied (closing user) (λ x. upkeep_answer CloseAccount) r accounts later → Exports true user old new r accounts later
        by (Ok x) later text put = (text, put)
        by (Err fault) later text put = (put.0, inr (text, elim put.1 [ inl hindered ↦ inl (undenied_sudden fault hindered) | inr refused ↦ inr refused ]))

-- ---- the word

module _ (Denied : RunFault → Type 0) (closes : Bool) (user : List ℕ) where
  -- no store was given out
  pub export_denied : (out : Option (List ℕ)) (fault : RunFault) (r : Result (Unit {0}) RunFault) → r ≡ Err fault → Denied fault → (held new : Database) → new ≡ held → DoesExport Denied closes user (from_to out out) r (from_to held new)
  export_denied out fault r is why held new same =
      stays_turned _ held new same (λ accounts. inl (subst (λ o. IsKeptFrom ⊥ Denied out out o accounts accounts) (sym is) (denied ⊥ ⊥ Denied fault why (λ no. no), refl, kept_same out)))

  pub export_done : (old out : Option (List ℕ)) (r : Result (Unit {0}) RunFault) (held new : Database) → TurnsTables (Exports closes user old out r) held new → DoesExport Denied closes user (from_to old out) r (from_to held new)
  export_done old out r held new turned = turned_wider (Exports closes user old out r) _ held new (λ accounts later h. inr h) turned
