-- What comes of notices that are printed and then taken.
use Rattle.std.proofs.Common.{◌≡◌, ◌⊎◌, ℕ, List, Option, Some, None, Result, Ok, Err, IfOk, IfErr, IsTrue, refl, sym, ap, subst, inl, inr}
use Rattle.octets.specs.Decimal.{Writes}
use Rattle.sqlite.specs.Effect.{Database}
use Rattle.sqlite.specs.State.{State, HasCleanDisk}
use Rattle.store_tables.proofs.WriteLemmas.{clean_before}
use Rattle.store_accounts.specs.Account.{Account, Accounts}
use Rattle.store_accounts.specs.Opening.{IsKnown}
use Rattle.store_accounts.specs.Promises.{HasNoOpen, OfOpen, ReadsOpenAccount}
use Rattle.store_accounts.specs.Refusals.{IsTransient}
use Rattle.store_accounts.specs.Shows.{Presents, OpensAs}
use Rattle.store_accounts.specs.declared.notice.Notice.{Notice}
use Rattle.store_accounts.specs.declared.refusal.Refusal.{Refusal}
use Rattle.store_accounts.specs.declared.refusal.Refusal.TheVariants.{NoUser}
use Rattle.store_engine.specs.declared.answer.Answer.{Answer}
use Rattle.store_engine.specs.declared.upkeep.Upkeep.TheVariants.{TakeNotices}
use Rattle.store_engine.specs.Hosts.{ActsKeeping, answer_of}
use Rattle.cli_reports.specs.Listings.{notice_listing}
use Rattle.cli_run.specs.declared.fault.RunFault.{RunFault}
use Rattle.cli_run.specs.declared.fault.RunFault.TheVariants.{Refused}
use Rattle.cli_run.specs.Draining.{TurnsTables}
use Rattle.cli_run.specs.Faults.{memory, no_user, IsHindered, IsPrinted, IsSudden}
use Rattle.cli_run.specs.Values.{IsNoUntil}
use Rattle.cli_run.specs.Subcommands.{IsDoneBy, IsKeptFrom, Puts, TakesListed, TakesNotices, TurnsStore, notices_until, upkeep_answer, taking}
use Rattle.cli_run.proofs.UpkeepLemmas.{kept_put}
use Rattle.cli_run.proofs.WordLemmas.{kept_same, stays_turned, sudden_refusal, turned_wider, ours_not_none}
use Rattle.cli_run.specs.Transitions.{from_to}

abbrev AreNotices : List Notice → Account → Type 0
AreNotices notices a = notices ≡ a.notices

-- nobody denies a store that is out
abbrev pub undenied : RunFault → Type 0
undenied fault = ⊥

-- so what keeps a word from its work then comes suddenly
pub undenied_sudden : (fault : RunFault) → IsHindered ⊥ ⊥ undenied fault → IsSudden ⊥ fault
undenied_sudden fault (inl e) = inl e
undenied_sudden fault (inr (inl e)) = inr (inl e)
undenied_sudden fault (inr (inr (inl none))) = absurd none.1
undenied_sudden fault (inr (inr (inr (inl none)))) = absurd none.1
undenied_sudden fault (inr (inr (inr (inr none)))) = absurd none.0

module _ (user : List ℕ) (until : ℕ) where
  -- none could be read
  pub unlisted : (s0 s1 : State) (q : Result (List Notice) Refusal) (e : Refusal) → q ≡ Err e → ReadsOpenAccount user AreNotices s0 s1 q → (out : Option (List ℕ)) (r : Result (Unit {0}) RunFault) → r ≡ Err (Refused e) → TurnsStore (TakesListed user until out out r) s0 s1
  unlisted s0 s1 q e is reads out r told clean live accounts p =
      let same = (reads.keeps.same clean (p.0, p.1)).now_is live in
      let named : (e ≡ NoUser) ⊎ IsTransient e = subst (λ o. IfErr o (λ y. (y ≡ NoUser) ⊎ IsTransient y)) is reads.named in
      let free : e ≡ NoUser → HasNoOpen user accounts = subst (λ o. IfErr o (λ y. y ≡ NoUser → HasNoOpen user accounts)) is (reads.absent clean accounts p) in
      let cause : IsSudden ⊥ (Refused e) ⊎ ((Refused e ≡ no_user) × HasNoOpen user accounts) = elim named [ inl none ↦ inr (ap Refused none, free none) | inr transient ↦ inl (sudden_refusal ⊥ e transient) ] in
      (accounts, subst (λ o. TakesListed user until out out o accounts accounts) (sym told) (refl, inl (kept_same out, cause)), subst (λ db. Presents db accounts) (sym same) p)

  module _ (s0 s1 : State) (q : Result (List Notice) Refusal) (notices : List Notice) (is : q ≡ Ok notices) (reads : ReadsOpenAccount user AreNotices s0 s1 q) where
    found : HasCleanDisk s1 → (accounts : Accounts) → Presents s0.now accounts → OfOpen accounts user (AreNotices notices)
    found clean accounts p = subst (λ o. IfOk o (λ x. OfOpen accounts user (AreNotices x))) is (reads.found clean accounts p)

    stood : HasCleanDisk s1 → IsTrue s1.is_open → (accounts : Accounts) → Presents s0.now accounts → Presents s1.now accounts
    stood clean live accounts p = subst (λ db. Presents db accounts) (sym ((reads.keeps.same clean (p.0, p.1)).now_is live)) p

    -- there was no memory for the lines
    pub unshown : (out : Option (List ℕ)) (r : Result (Unit {0}) RunFault) → r ≡ Err memory → TurnsStore (TakesListed user until out out r) s0 s1
    unshown out r told clean live accounts p = (accounts, subst (λ o. TakesListed user until out out o accounts accounts) (sym told) (refl, inl (kept_same out, inl (inl refl))), stood clean live accounts p)

    module _ (text : List ℕ) (listed : text ≡ notice_listing (notices_until until notices)) where
      lists : (accounts : Accounts) → OfOpen accounts user (AreNotices notices) → OfOpen accounts user (λ a. text ≡ notice_listing (notices_until until a.notices))
      lists accounts h = (h.0, h.1, subst (λ all. text ≡ notice_listing (notices_until until all)) h.2 listed)

      -- a write of them failed
      pub unwritten : (old out : Option (List ℕ)) (fault : RunFault) (r : Result (Unit {0}) RunFault) → r ≡ Err fault → IsPrinted (Err fault) old out text → TurnsStore (TakesListed user until old out r) s0 s1
      unwritten old out fault r told printed clean live accounts p =
          (accounts, subst (λ o. TakesListed user until old out o accounts accounts) (sym told) (refl, inr (text, lists accounts (found clean accounts p), inl printed)), stood clean live accounts p)

      -- they were written, and taking them was put to the machine
      pub taken : (s2 : State) (kept : Result Answer Refusal) → ActsKeeping user (TakeNotices until) s1 s2 kept → (old out : Option (List ℕ)) → IsPrinted (Ok tt) old out text → (r : Result (Unit {0}) RunFault) → IsDoneBy (answer_of kept) r
          → TurnsStore (TakesListed user until old out r) s0 s2
      taken s2 kept acts old out printed r done clean live accounts p =
          let before = clean_before s1 s2 _ acts.crash clean in
          let was = stood before (acts.shut clean live) accounts p in
          let h = acts.carries clean accounts (λ _. was) in
          (h.0, by r h.0 (found before accounts p) (kept_put undenied user (TakeNotices until) tt (answer_of kept) r done accounts h.0 h.1), h.2 live)
        where
          by : (r : Result (Unit {0}) RunFault) (later : Accounts) → OfOpen accounts user (AreNotices notices) → Puts undenied (taking user until) (λ x. upkeep_answer (TakeNotices until)) r accounts later → TakesListed user until old out r accounts later
          by (Ok x) later f put = (text, lists accounts f, printed, put)
          by (Err fault) later f put = (put.0, inr (text, lists accounts f, inr (printed, elim put.1 [ inl hindered ↦ inl (undenied_sudden fault hindered) | inr refused ↦ inr refused ])))

-- over tables, of a store that was taken and handed back
pub store_turned : (held new : Database) (taken given : State) → OpensAs held taken.now → IsKnown held → HasCleanDisk given → IsTrue given.is_open → new ≡ given.now → (Became : Accounts → Accounts → Type 0) → TurnsStore Became taken given → TurnsTables Became held new
store_turned held new taken given opened ours clean live back Became turns = record {
  accounts = λ accounts p.
      let h = turns clean live accounts (opened.shown accounts p) in
      (h.0, h.1, inl (subst (λ db. Presents db h.0) (sym back) h.2));
  none = λ blank. absurd (ours_not_none held ours blank);
}

module _ (Denied : RunFault → Type 0) (user digits : List ℕ) where
  -- the word was kept from it
  pub taking_hindered : (out : Option (List ℕ)) (fault : RunFault) (r : Result (Unit {0}) RunFault) → r ≡ Err fault → IsHindered ⊥ (IsNoUntil digits) Denied fault → (held new : Database) → new ≡ held → TakesNotices Denied user digits (from_to out out) r (from_to held new)
  taking_hindered out fault r is hindered held new same =
      stays_turned _ held new same (λ accounts. inl (subst (λ o. IsKeptFrom (IsNoUntil digits) Denied out out o accounts accounts) (sym is) (hindered, refl, kept_same out)))

  pub taking_done : (until : ℕ) → Writes digits until → (old out : Option (List ℕ)) (r : Result (Unit {0}) RunFault) (held new : Database) → TurnsTables (TakesListed user until old out r) held new → TakesNotices Denied user digits (from_to old out) r (from_to held new)
  taking_done until writes old out r held new turned = turned_wider (TakesListed user until old out r) _ held new (λ accounts later h. inr (until, writes, h)) turned
