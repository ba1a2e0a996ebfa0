-- All users are listed, from what the steps do.
use Rattle.std.proofs.Common.{◌≡◌, ◌++◌, ℕ, Bool, true, false, cond, List, [], map, append-nil, Option, Some, None, option_map, Result, Ok, Err, OnOk, IfOk, IfErr, IsTrue, refl, sym, ap, ◌∙◌, subst, inl, inr}
use Rattle.std.specs.FinMap.{entries, get}
use Rattle.sqlite.specs.Effect.{Database}
use Rattle.sqlite.specs.State.{State, HasCleanDisk}
use Rattle.store_accounts.specs.Account.{Account, Accounts, is_closed_account, open_one}
use Rattle.store_accounts.specs.AccountRows.{profile_of}
use Rattle.store_accounts.specs.Opening.{IsKnown}
use Rattle.store_accounts.specs.HeadRows.{queued_envelope}
use Rattle.store_accounts.specs.Promises.{HasNoOpen, OfOpen, ReadsOpenAccount, ReadsProfile}
use Rattle.store_accounts.specs.Refusals.{IsTransient}
use Rattle.store_accounts.specs.Shows.{Presents, OpensAs}
use Rattle.store_accounts.specs.Users.{FindsOver, IsNextUser}
use Rattle.store_accounts.specs.declared.profile.Profile.{Profile}
use Rattle.store_accounts.specs.declared.notice.Notice.{Notice}
use Rattle.store_accounts.specs.declared.queued_envelope.QueuedEnvelope.{QueuedEnvelope}
use Rattle.store_accounts.specs.declared.refusal.Refusal.{Refusal}
use Rattle.store_accounts.specs.declared.refusal.Refusal.TheVariants.{NoUser}
use Rattle.store_accounts.proofs.KeepLemmas.{keeps_ok}
use Rattle.store_accounts.proofs.StandingLemmas.{open_there}
use Rattle.cli_reports.specs.Listings.{notice_line, queue_line}
use Rattle.store_accounts.proofs.WalkLemmas.{AreLinesTo, line_more, line_where, lines_begin, over_failed, over_then, over_then_failed, profile_over}
use Rattle.cli_run.specs.declared.fault.RunFault.{RunFault}
use Rattle.cli_run.specs.declared.fault.RunFault.TheVariants.{Refused}
use Rattle.cli_run.specs.Draining.{TurnsTables}
use Rattle.cli_run.specs.Faults.{IsHindered, IsPrinted}
use Rattle.cli_run.specs.AllUsers.{AccountListing, AddsLines, lines_at, listing_of, named_lines, named_notices, named_queue}
use Rattle.cli_run.specs.Subcommands.{DoesListing, FinishesPrinted, FindsAllLines, ListsAll, found_line, user_line}
use Rattle.cli_run.proofs.WordLemmas.{denied, kept_same, ours_not_none, stays_turned, transient_hinders, turned_wider}
use Rattle.cli_run.specs.Transitions.{from_to}

-- ---- one user

-- by what the store answered of the account
found_same : (name : List ℕ) (o : Option Account) → found_line name (option_map profile_of o) ≡ lines_at user_line name o
found_same name None = refl
found_same name (Some a) = refl

-- the store answered so of the account
abbrev pub Answered : List ℕ → Option Profile → Accounts → Type 0
Answered name profile accounts = profile ≡ option_map profile_of (get accounts name)

abbrev pub Adds : AccountListing → List ℕ → List ℕ → List ℕ → Accounts → Type 0
Adds lines name old new accounts = new ≡ old ++ lines_at lines name (get accounts name)

-- the account was read, and its line added
pub standing_added : (name old new : List ℕ) (a b : State) (r : Result (Option Profile) Refusal) (found : Option Profile) → r ≡ Ok found → ReadsProfile name a b r → new ≡ old ++ found_line name found
    → FindsOver {E = Refusal} (λ (done : Unit {0}). Adds user_line name old new) a b (Ok tt)
standing_added name old new a b r found was reads added =
    let over = subst (λ o. FindsOver (Answered name) a b o) was (profile_over name a b r reads) in
    record {
      found = λ clean accounts p. added ∙ ap (λ o. old ++ found_line name o) (over.found clean accounts p) ∙ ap (λ l. old ++ l) (found_same name (get accounts name));
      keeps = record { same = over.keeps.same; live = over.keeps.live; shut = over.keeps.shut; crash = over.keeps.crash };
    }

-- ---- what only an open account has

open_so : (o : Option Account) (a : Account) → open_one o ≡ Some a → is_closed_account a ≡ false
open_so None a is = absurd (let no = is in cc)
open_so (Some b) a is = go (is_closed_account b) refl is
  where
    go : (closed : Bool) → is_closed_account b ≡ closed → cond closed None (Some b) ≡ Some a → is_closed_account a ≡ false
    go true shut told = absurd (let no = told in cc)
    go false live told = let same : b ≡ a = cc in subst (λ c. is_closed_account c ≡ false) same live

module _ {X : Type 0} (lines : AccountListing) (name old new : List ℕ) (P : X → Account → Type 0) (a b : State) (r : Result X Refusal) (reads : ReadsOpenAccount name P a b r) where
  -- it was read, and its lines were added
  pub open_added : (x : X) (text : List ℕ) → r ≡ Ok x → ((account : Account) → is_closed_account account ≡ false → P x account → lines name account ≡ text) → new ≡ old ++ text → FindsOver {E = Refusal} (λ (done : Unit {0}). Adds lines name old new) a b (Ok tt)
  open_added x text was are added = record {
    found = λ clean accounts p.
        let h = subst (λ q. IfOk q (λ y. OfOpen accounts name (P y))) was (reads.found clean accounts p) in
        added ∙ ap (λ l. old ++ l) (sym (ap (lines_at lines name) (open_there (get accounts name) h.0 h.1) ∙ are h.0 (open_so (get accounts name) h.0 h.1) h.2));
    keeps = keeps_ok a b r x (Ok tt) was reads.keeps;
  }

  -- no account of the name is open, and none was added
  pub shut_added : r ≡ Err NoUser → ((account : Account) → is_closed_account account ≡ true → lines name account ≡ []) → new ≡ old → FindsOver {E = Refusal} (λ (done : Unit {0}). Adds lines name old new) a b (Ok tt)
  shut_added was none same = record {
    found = λ clean accounts p. by (get accounts name) (subst (λ q. IfErr q (λ e. e ≡ NoUser → HasNoOpen name accounts)) was (reads.absent clean accounts p) refl);
    keeps = record {
      same = reads.keeps.same;
      live = λ clean. subst (λ q. IfErr q (λ e. e ≡ NoUser → IsTrue b.is_open)) was (reads.sure clean) refl;
      shut = reads.keeps.shut;
      crash = reads.keeps.crash;
    };
  }
    where
      by : (o : Option Account) → open_one o ≡ None → new ≡ old ++ lines_at lines name o
      by None shut = same ∙ sym (append-nil old)
      by (Some c) shut = go (is_closed_account c) refl shut
        where
          go : (closed : Bool) → is_closed_account c ≡ closed → cond closed None (Some c) ≡ None → new ≡ old ++ lines name c
          go true closed told = same ∙ sym (append-nil old) ∙ ap (λ l. old ++ l) (sym (none c closed))
          go false closed told = absurd (let no = told in cc)

  -- it couldn't be read, or there was no memory for the lines
  pub open_failed : (q : Result (Unit {0}) Refusal) → OnOk q ⊥ → FindsOver {E = Refusal} (λ (done : Unit {0}). Adds lines name old new) a b q
  open_failed (Ok done) none = absurd none
  open_failed (Err e) none = record {
    found = λ clean accounts p. tt;
    keeps = record { same = reads.keeps.same; live = λ clean. tt; shut = reads.keeps.shut; crash = reads.keeps.crash };
  }

-- the lines of a queue, and of notices
pub queue_open : (name : List ℕ) (rows : List QueuedEnvelope) (a : Account) → is_closed_account a ≡ false → rows ≡ map queued_envelope a.queue → named_queue name a ≡ named_lines name (map queue_line rows)
queue_open name rows a live are = ap (λ b. cond b [] (named_lines name (map queue_line (map queued_envelope a.queue)))) live ∙ ap (λ all. named_lines name (map queue_line all)) (sym are)

pub queue_shut : (name : List ℕ) (a : Account) → is_closed_account a ≡ true → named_queue name a ≡ []
queue_shut name a shut = ap (λ b. cond b [] (named_lines name (map queue_line (map queued_envelope a.queue)))) shut

pub notices_open : (name : List ℕ) (notices : List Notice) (a : Account) → is_closed_account a ≡ false → notices ≡ a.notices → named_notices name a ≡ named_lines name (map notice_line notices)
notices_open name notices a live are = ap (λ b. cond b [] (named_lines name (map notice_line a.notices))) live ∙ ap (λ all. named_lines name (map notice_line all)) (sym are)

pub notices_shut : (name : List ℕ) (a : Account) → is_closed_account a ≡ true → named_notices name a ≡ []
notices_shut name a shut = ap (λ b. cond b [] (named_lines name (map notice_line a.notices))) shut

-- ---- and then the next

-- its lines were added, and the next name read
pub user_added : (lines : AccountListing) (name old new : List ℕ) (a b c : State) (r : Result (Unit {0}) Refusal) (done : Unit {0}) → r ≡ Ok done → FindsOver (λ (x : Unit {0}). Adds lines name old new) a b r
    → (q : Result (Option (List ℕ)) Refusal) → FindsOver (IsNextUser name) b c q → FindsOver (AddsLines lines name old new) a c q
user_added lines name old new a b c r done was early q late =
    over_then (λ (x : Unit {0}). Adds lines name old new) (AddsLines lines name old new) a b r early c done was (IsNextUser name) q late (λ accounts next is follows. record { added = is; follows = follows })

-- ---- one after the other

-- an answer
abbrev pub ok_of : {X : Type 0} → X → Result X Refusal
ok_of x = Ok x

abbrev pub Listed : AccountListing → List ℕ → Option (List ℕ) → Accounts → Type 0
Listed lines = AreLinesTo lines

line_same : (lines : AccountListing) (name : List ℕ) (o : Option Account) → lines_at lines name o ≡ line_where lines name o
line_same lines name None = refl
line_same lines name (Some a) = refl

added_where : (lines : AccountListing) (name old new : List ℕ) (next : Option (List ℕ)) (accounts : Accounts) → AddsLines lines name old new next accounts → new ≡ old ++ line_where lines name (get accounts name)
added_where lines name old new next accounts h = h.added ∙ ap (λ l. old ++ l) (line_same lines name (get accounts name))

-- the first one
pub listed_first : (lines : AccountListing) (text : List ℕ) (a b : State) (next : Option (List ℕ)) (r : Result (Option (List ℕ)) Refusal) → r ≡ Ok next → FindsOver (AddsLines lines [] [] text) a b r → FindsOver (Listed lines text) a b (ok_of next)
listed_first lines text a b next r was h = record {
  found = λ clean accounts p.
      let adds = subst (λ o. IfOk o (λ n. AddsLines lines [] [] text n accounts)) was (h.found clean accounts p) in
      line_more lines accounts [] [] text (added_where lines [] [] text next accounts adds) next (lines_begin lines accounts) adds.follows;
  keeps = (subst (λ o. FindsOver (AddsLines lines [] [] text) a b o) was h).keeps;
}

module _ (lines : AccountListing) (a b c : State) (name old : List ℕ) (early : FindsOver (Listed lines old) a b (ok_of (Some name))) where
  -- one more
  pub listed_more : (new : List ℕ) (next : Option (List ℕ)) (q : Result (Option (List ℕ)) Refusal) → q ≡ Ok next → FindsOver (AddsLines lines name old new) b c q → FindsOver (Listed lines new) a c (ok_of next)
  listed_more new next q was late =
      over_then (Listed lines old) (Listed lines new) a b (ok_of (Some name)) early c (Some name) refl (AddsLines lines name old new) (ok_of next) (subst (λ o. FindsOver (AddsLines lines name old new) b c o) was late)
      (λ accounts n so adds. line_more lines accounts name old new (added_where lines name old new n accounts adds) n so adds.follows)

-- none is left
pub listed_all : (lines : AccountListing) (a b : State) (text : List ℕ) → FindsOver (Listed lines text) a b (ok_of None) → FindsOver (λ whole accounts. whole ≡ listing_of lines (entries accounts)) a b (ok_of text)
listed_all lines a b text h = record { found = h.found; keeps = record { same = h.keeps.same; live = h.keeps.live; shut = h.keeps.shut; crash = h.keeps.crash } }

abbrev pub AreAll : AccountListing → List ℕ → Accounts → Type 0
AreAll lines text accounts = text ≡ listing_of lines (entries accounts)

-- the first one couldn't be read, or one more couldn't
pub listed_failed : {X : Type 0} (lines : AccountListing) (Q : X → Accounts → Type 0) (a b : State) (q : Result X Refusal) → FindsOver Q a b q → (r : Result (List ℕ) Refusal) → OnOk r ⊥ → FindsOver (AreAll lines) a b r
listed_failed lines Q a b q h r none = over_failed Q (AreAll lines) a b q h r none

pub listed_stopped : {X : Type 0} (lines : AccountListing) (old : List ℕ) (next : Option (List ℕ)) (a b c : State) → FindsOver (Listed lines old) a b (ok_of next) → (Q : X → Accounts → Type 0) (q : Result X Refusal) → FindsOver Q b c q → (r : Result (List ℕ) Refusal) → OnOk r ⊥ → FindsOver (AreAll lines) a c r
listed_stopped lines old next a b c early Q q late r none = over_then_failed (Listed lines old) Q a b (ok_of next) early c next refl Q q late (AreAll lines) r none

-- ---- over tables

-- a store that saw what `open` makes of what was held, and was handed back, open and over a disk that keeps what is written
module _ (held new : Database) (taken given : State) (opened : OpensAs held taken.now) (ours : IsKnown held) (clean : HasCleanDisk given) (live : IsTrue given.is_open) (back : new ≡ given.now) where
  pub over_turned : (Denied : RunFault → Type 0) (lines : AccountListing) (q : Result (List ℕ) Refusal) → FindsOver (AreAll lines) taken given q → (r : Result (List ℕ) RunFault) → ((accounts : Accounts) → IfOk q (λ text. AreAll lines text accounts) → FindsAllLines Denied lines r accounts)
      → TurnsTables (λ accounts later. (later ≡ accounts) × FindsAllLines Denied lines r accounts) held new
  over_turned Denied lines q reads r finds = record {
    accounts = λ accounts p.
        let was = opened.shown accounts p in
        let same = (reads.keeps.same clean (was.0, was.1)).now_is live in
        (accounts, (refl, finds accounts (reads.found clean accounts was)), inl (subst (λ db. Presents db accounts) (sym back) (subst (λ db. Presents db accounts) (sym same) was)));
    none = λ blank. absurd (ours_not_none held ours blank);
  }

pub listing_denied : (Denied : RunFault → Type 0) (lines : AccountListing) (fault : RunFault) (r : Result (List ℕ) RunFault) → r ≡ Err fault → Denied fault → (held new : Database) → new ≡ held → TurnsTables (λ accounts later. (later ≡ accounts) × FindsAllLines Denied lines r accounts) held new
listing_denied Denied lines fault r is why held new same =
    stays_turned (λ accounts later. (later ≡ accounts) × FindsAllLines Denied lines r accounts) held new same
    (λ accounts. (refl, subst (λ o. FindsAllLines Denied lines o accounts) (sym is) (denied ⊥ ⊥ Denied fault why (λ no. no))))

pub listing_had : (Denied : RunFault → Type 0) (lines : AccountListing) (q : Result (List ℕ) Refusal) (text : List ℕ) (r : Result (List ℕ) RunFault) → q ≡ Ok text → r ≡ Ok text → (accounts : Accounts) → IfOk q (λ t. AreAll lines t accounts) → FindsAllLines Denied lines r accounts
listing_had Denied lines q text r is told accounts found = subst (λ o. FindsAllLines Denied lines o accounts) (sym told) (subst (λ o. IfOk o (λ t. AreAll lines t accounts)) is found)

pub listing_failed : (Denied : RunFault → Type 0) (lines : AccountListing) (e : Refusal) (r : Result (List ℕ) RunFault) → r ≡ Err (Refused e) → IsTransient e → (accounts : Accounts) → FindsAllLines Denied lines r accounts
listing_failed Denied lines e r told transient accounts = subst (λ o. FindsAllLines Denied lines o accounts) (sym told) (transient_hinders ⊥ ⊥ Denied e transient)

-- ---- the word

module _ (Denied : RunFault → Type 0) (lines : AccountListing) (held new : Database) where
  abbrev Found : Result (List ℕ) RunFault → Accounts → Accounts → Type 0
  Found r accounts later = (later ≡ accounts) × FindsAllLines Denied lines r accounts

  abbrev Ends : Option (List ℕ) → Option (List ℕ) → Result (Unit {0}) RunFault → Accounts → Accounts → Type 0
  Ends old out r = FinishesPrinted (ListsAll lines) (λ fault accounts. IsHindered ⊥ ⊥ Denied fault) old out r

  -- nothing was found
  pub lines_refused : (out : Option (List ℕ)) (fault : RunFault) (r : Result (Unit {0}) RunFault) → r ≡ Err fault → TurnsTables (Found (Err fault)) held new → DoesListing Denied lines (from_to out out) r (from_to held new)
  lines_refused out fault r is found =
      turned_wider (Found (Err fault)) (Ends out out r) held new (λ accounts later h. subst (λ o. Ends out out o accounts later) (sym is) (inl (record { cause = h.1; stays = h.0; silent = kept_same out }))) found

  -- all was found, and a write of it was tried
  pub lines_shown : (text : List ℕ) → TurnsTables (Found (Ok text)) held new → (old out : Option (List ℕ)) (r : Result (Unit {0}) RunFault) → IsPrinted r old out text → DoesListing Denied lines (from_to old out) r (from_to held new)
  lines_shown text found old out r printed = turned_wider (Found (Ok text)) (Ends old out r) held new (λ accounts later h. by r printed accounts later h) found
    where
      by : (r : Result (Unit {0}) RunFault) → IsPrinted r old out text → (accounts later : Accounts) → Found (Ok text) accounts later → Ends old out r accounts later
      by (Ok done) printed accounts later h = record { text = text; effect = record { stays = h.0; listed = h.1 }; printed = printed }
      by (Err fault) printed accounts later h = inr (record { text = text; effect = record { stays = h.0; listed = h.1 }; printed = printed })
