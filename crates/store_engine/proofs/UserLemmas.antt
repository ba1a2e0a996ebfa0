-- A new user: the tests, how an account of the name stands, and then the write.
use Rattle.std.proofs.Common.{◌≡◌, ℕ, Bool, true, false, cond, is_some, List, Option, Some, None, option_map, Ok, Err, Result, MatchBool, OnOk, OnErr, IfOk, IfErr, IsSome, refl, sym, ap, ◌∙◌, subst, inl, inr}
use Rattle.std.specs.FinMap.{get}
use Rattle.sqlite.specs.State.{State, HasCleanDisk, Survives}
use Rattle.sasl_plain.specs.Password.{digest_of}
use Rattle.store_accounts.specs.declared.refusal.Refusal.{Refusal}
use Rattle.store_accounts.specs.declared.refusal.Refusal.TheVariants.{Memory, UserExists, UserHasMail, BadUser}
use Rattle.store_accounts.specs.Account.{Account, Accounts, is_closed_account, has_mail, new_user, renews, with_user}
use Rattle.store_accounts.specs.Connection.{StaysSame, IsSettled}
use Rattle.store_accounts.specs.Promises.{HasUser, IsFree, HasOurTables, KeepsTables, ChangesAccounts, CrashLeavesAccounts, WritesStore, WritesUser}
use Rattle.store_accounts.specs.Refusals.{IsTransient}
use Rattle.store_accounts.specs.Shows.{Presents}
use Rattle.managesieve_sessions.proofs.ActLemmas.{no_glance, glanced, read_shows, acts_read, acts_made, acts_undone}
use Rattle.store_engine.specs.declared.answer.Answer.{Answer}
use Rattle.store_engine.specs.declared.answer.Answer.TheVariants.{Added, Refused}
use Rattle.store_engine.specs.declared.standing.Standing.{Standing}
use Rattle.store_engine.specs.AccountEvents.{MachineRefuses, Renews, AddsUnder, Addition}
use Rattle.store_engine.specs.Hosts.{ActsBy, TurnsBy, MayTurnBy, MayRefuseAddition, RefusesAddition, ActsAddition}
use Rattle.store_engine.specs.Limits.{IsNewUser}
use Rattle.store_engine.specs.Lookups.{standing_of, over_standing, ReadsStanding}
use Rattle.store_engine.specs.Upkeep.{rounds, kept_password}

-- which refusals an account of the name gives
pub over_named : (o : Option Standing) (refusal : Refusal) (P : Refusal → Type 0) → P UserExists → P UserHasMail → over_standing o ≡ Some refusal → P refusal
over_named None refusal P there mail is = absurd (let no = is in cc)
over_named (Some standing) refusal P there mail is = go standing.is_closed standing.has_mail is
  where
    go : (closed full : Bool) → cond closed (cond full (Some UserHasMail) None) (Some UserExists) ≡ Some refusal → P refusal
    go true true e = let same : UserHasMail ≡ refusal = cc in subst P same mail
    go true false e = absurd (let no = e in cc)
    go false full e = let same : UserExists ≡ refusal = cc in subst P same there

pub over_refuses : (name address password : List ℕ) (o : Option Standing) (refusal : Refusal) → IsNewUser name address password → over_standing o ≡ Some refusal → RefusesAddition name address password refusal
over_refuses name address password o refusal new is = over_named o refusal (RefusesAddition name address password) (inr (inl (refl, new))) (inr (inr (inl (refl, new)))) is

-- the refusals of the write, and of what is read before it
pub transient_refuses : {X : Type 0} (name address password : List ℕ) (q : Result X Refusal) → IsNewUser name address password → IfErr q IsTransient → IfErr q (RefusesAddition name address password)
transient_refuses name address password (Ok x) new transient = tt
transient_refuses name address password (Err e) new (inl memory) = inr (inr (inr (inl memory)))
transient_refuses name address password (Err e) new (inr store) = inr (inr (inr (inr (store, new))))

-- how the account stands, as it was read
pub standing_found : (name : List ℕ) (a b : State) (r : Result (Option Standing) Refusal) → ReadsStanding name a b r → (o : Option Standing) → r ≡ Ok o → HasCleanDisk b → (accounts : Accounts) → Presents a.now accounts
    → o ≡ option_map standing_of (get accounts name)
standing_found name a b r read o was clean accounts p = subst (λ q. IfOk q (λ standing. standing ≡ option_map standing_of (get accounts name))) was (read.found clean accounts p)

-- the name has no account
pub name_free : (o : Option Standing) → is_some o ≡ false → (has : Option Account) → o ≡ option_map standing_of has → has ≡ None
name_free o none None is = refl
name_free o none (Some account) is = absurd (let no : true ≡ false = sym (ap is_some is) ∙ none in cc)

-- a write after how the account stands was read: one row by which the accounts turn, and what is told of it
module _ (Row : Accounts → Answer → Accounts → Type 0) (May : Refusal → Type 0) (told : Answer) (transient_turn : (e : Refusal) (accounts : Accounts) → IsTransient e → TurnsBy Row May (Refused e) accounts accounts)
    (a b c : State) (r : Result (Option Standing) Refusal) (o : Option Standing) (was : r ≡ Ok o) (k : KeepsTables a b r) (Fit : Accounts → Type 0) (change : Accounts → Accounts)
    (fits : HasCleanDisk b → (accounts : Accounts) → Presents a.now accounts → Fit accounts × Row accounts told (change accounts)) (w : Result (Unit {0}) Refusal) (made : HasCleanDisk c → OnOk w (ChangesAccounts Fit change b.now c.now))
    (settled : HasCleanDisk c → OnOk w (IsSettled c)) (same : HasCleanDisk c → HasOurTables b.now → OnErr w (StaysSame b c)) (crash : Survives b c (CrashLeavesAccounts Fit change b)) where
  pub written_by : (q : Result (Unit {0}) Refusal) → w ≡ q → IfErr q IsTransient → ActsBy Row May (λ done. told) a c q
  written_by (Ok y) done transient =
      acts_made a b c r o was k Fit change w made settled same crash (TurnsBy Row May told) (MayTurnBy Row) y y done (λ clean accounts p. let f = fits clean accounts p in (f.0, inl f.1, (told, f.1)))
  written_by (Err e) refused transient =
      acts_undone a b c r o was k Fit change w made settled same crash (TurnsBy Row May (Refused e)) (MayTurnBy Row) e (Err e) refused
      (λ said. said transient) (λ accounts. transient_turn e accounts transient) (λ clean accounts p. let f = fits clean accounts p in (f.0, (told, f.1)))

module _ (name address salt password : List ℕ) where
  abbrev Row : Accounts → Answer → Accounts → Type 0
  Row accounts = Addition accounts name address salt password

  abbrev May : Refusal → Type 0
  May = MayRefuseAddition name address password

  -- what is given makes no account
  pub addition_bad : (a : State) → (IsNewUser name address password → ⊥) → ActsAddition name address salt password a a (Err BadUser)
  addition_bad a bad = acts_read a a (TurnsBy Row May (Refused BadUser)) (MayTurnBy Row) (Err BadUser) (λ clean open_before. tt) (no_glance a) (λ clean accounts shown. inl (inr (bad, record { refused = refl; stays = refl })))

  -- no memory for the tests
  pub addition_lacks : (a : State) (q : Result (Unit {0}) Refusal) → OnOk q ⊥ → IfErr q (λ e. e ≡ Memory) → ActsAddition name address salt password a a q
  addition_lacks a (Ok done) undone lack = absurd undone
  addition_lacks a (Err e) undone lack = acts_read a a (TurnsBy Row May (Refused e)) (MayTurnBy Row) (Err e) (λ clean open_before. tt) (no_glance a) (λ clean accounts shown. inr (e, inl lack, refl, refl))

  module _ (new : IsNewUser name address password) (a b : State) (r : Result (Option Standing) Refusal) (read : ReadsStanding name a b r) where
    may : (e : Refusal) → IsTransient e → May e
    may e (inl memory) = inl memory
    may e (inr store) = inr (store, new)

    transient_turn : (e : Refusal) (accounts : Accounts) → IsTransient e → TurnsBy Row May (Refused e) accounts accounts
    transient_turn e accounts transient = inr (e, may e transient, refl, refl)

    -- how the account stands couldn't be read
    pub addition_unread : (q : Result (Unit {0}) Refusal) → OnOk q ⊥ → IfErr q IsTransient → ActsAddition name address salt password a b q
    addition_unread (Ok done) undone transient = absurd undone
    addition_unread (Err e) undone transient = acts_read a b (TurnsBy Row May (Refused e)) (MayTurnBy Row) (Err e) (λ clean open_before. tt) (glanced a b r read.keeps) (λ clean accounts shown. transient_turn e accounts transient)

    module _ (o : Option Standing) (was : r ≡ Ok o) where
      found : HasCleanDisk b → (accounts : Accounts) → Presents a.now accounts → o ≡ option_map standing_of (get accounts name)
      found = standing_found name a b r read o was

      -- the name has an account that stands against it
      over_turn : (refusal : Refusal) (accounts : Accounts) (has : Option Account) → over_standing (option_map standing_of has) ≡ Some refusal → AddsUnder accounts name address salt password has (Refused refusal) accounts
      over_turn refusal accounts None is = absurd (let no = is in cc)
      over_turn refusal accounts (Some account) is = go (is_closed_account account) (has_mail account) is
        where
          go : (closed full : Bool) → cond closed (cond full (Some UserHasMail) None) (Some UserExists) ≡ Some refusal
              → MatchBool closed (MatchBool full (MachineRefuses UserHasMail accounts (Refused refusal) accounts) (Renews accounts name address salt password (Refused refusal) accounts)) (MachineRefuses UserExists accounts (Refused refusal) accounts)
          go true true e = let same : UserHasMail ≡ refusal = cc in record { refused = ap Refused (sym same); stays = refl }
          go true false e = absurd (let no = e in cc)
          go false full e = let same : UserExists ≡ refusal = cc in record { refused = ap Refused (sym same); stays = refl }

      pub addition_over : (refusal : Refusal) → over_standing o ≡ Some refusal → ActsAddition name address salt password a b (Err refusal)
      addition_over refusal is = acts_read a b (TurnsBy Row May (Refused refusal)) (MayTurnBy Row) (Err refusal) (λ clean open_before. tt) (glanced a b r read.keeps)
          (λ clean accounts shown.
          let p = (read_shows a b r o was read.keeps clean accounts shown).0 in
          inl (inl (new, over_turn refusal accounts (get accounts name) (sym (ap over_standing (found clean accounts p)) ∙ is))))

      -- the write, whatever it is
      module _ (Fit : Accounts → Type 0) (change : Accounts → Accounts) (fits : HasCleanDisk b → (accounts : Accounts) → Presents a.now accounts → Fit accounts × Row accounts Added (change accounts))
          (c : State) (w : Result (Unit {0}) Refusal) (late : WritesStore Fit change b c w) where
        written : (q : Result (Unit {0}) Refusal) → w ≡ q → IfErr q IsTransient → ActsAddition name address salt password a c q
        written = written_by Row May Added transient_turn a b c r o was read.keeps Fit change fits w late.made late.settled (λ clean tables. late.same clean) late.crash

      -- the name has no account, and a new one is written
      pub addition_written : is_some o ≡ false → (c : State) (w : Result (Unit {0}) Refusal) → WritesStore (IsFree name) (new_user name address salt rounds (digest_of salt password rounds)) b c w → ActsAddition name address salt password a c w
      addition_written none c w late = written (IsFree name) (new_user name address salt rounds (digest_of salt password rounds)) fits c w late w refl late.named
        where
          fits : HasCleanDisk b → (accounts : Accounts) → Presents a.now accounts → IsFree name accounts × Row accounts Added (new_user name address salt rounds (digest_of salt password rounds) accounts)
          fits clean accounts p =
              let is = name_free o none (get accounts name) (found clean accounts p) in
              (is, inl (new, subst (λ h. AddsUnder accounts name address salt password h Added (new_user name address salt rounds (digest_of salt password rounds) accounts)) (sym is) (record { added = refl; changed = refl })))

      -- the name has a closed account without mail, which is opened anew
      abbrev renewed : Accounts → Accounts
      renewed accounts = with_user accounts name (renews address (kept_password salt password))

      renew_turn : is_some o ≡ true → over_standing o ≡ None → (accounts : Accounts) (has : Option Account) → o ≡ option_map standing_of has → IsSome has × AddsUnder accounts name address salt password has Added (renewed accounts)
      renew_turn some clear accounts None is = absurd (let no : false ≡ true = sym (ap is_some is) ∙ some in cc)
      renew_turn some clear accounts (Some account) is = (refl, go (is_closed_account account) (has_mail account) (sym (ap over_standing is) ∙ clear))
        where
          go : (closed full : Bool) → cond closed (cond full (Some UserHasMail) None) (Some UserExists) ≡ None
              → MatchBool closed (MatchBool full (MachineRefuses UserHasMail accounts Added (renewed accounts)) (Renews accounts name address salt password Added (renewed accounts))) (MachineRefuses UserExists accounts Added (renewed accounts))
          go true true e = absurd (let no = e in cc)
          go true false e = record { added = refl; changed = refl }
          go false full e = absurd (let no = e in cc)

      pub addition_renewed : is_some o ≡ true → over_standing o ≡ None → (c : State) (w : Result (Unit {0}) Refusal) → WritesUser name (renews address (kept_password salt password)) b c w → ActsAddition name address salt password a c w
      addition_renewed some clear c w late = written (HasUser name) renewed fits c w late w refl late.named
        where
          fits : HasCleanDisk b → (accounts : Accounts) → Presents a.now accounts → HasUser name accounts × Row accounts Added (renewed accounts)
          fits clean accounts p = let turn = renew_turn some clear accounts (get accounts name) (found clean accounts p) in (turn.0, inl (new, turn.1))
