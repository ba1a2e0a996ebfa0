-- What an administrator does to an account: the tests, the reads, and then the write.
use Rattle.std.proofs.Common.{◌≡◌, ◌⊎◌, ◌≤◌, ℕ, Bool, true, false, cond, not, ◌&&◌, length, List, Option, Some, None, option_map, Ok, Err, Result, MatchBool, OnOk, IfOk, IfErr, IsSome, IsTrue, refl, sym, ap, ◌∙◌, subst, inl, inr}
use Rattle.std.specs.FinMap.{get}
use Rattle.std.specs.Result.{result_and}
use Rattle.sqlite.specs.State.{State, HasCleanDisk}
use Rattle.sieve_lex.specs.declared.fault.ScriptFault.{ScriptFault}
use Rattle.store_tables.proofs.ResultLemmas.{on_ok}
use Rattle.store_accounts.specs.declared.refusal.Refusal.{Refusal}
use Rattle.store_accounts.specs.declared.refusal.Refusal.TheVariants.{Memory, NoUser, BadUser, BadScriptName, ScriptTooLarge, TooManyScripts, UserIsOpen, UserHasMail}
use Rattle.store_accounts.specs.Account.{Account, Accounts, is_closed_account, is_removed, open_one, known_one, has_mail, changes_address, changes_password, closes, opens, removes, takes_notices, in_place, with_user}
use Rattle.store_accounts.specs.Promises as store
use Rattle.store_accounts.specs.Promises.{HasUser, HasNoOpen, OfOpen, WritesUser}
use Rattle.store_accounts.specs.Refusals.{IsTransient}
use Rattle.store_accounts.specs.Shows.{Presents}
use Rattle.store_accounts.proofs.StandingLemmas.{open_there}
use Rattle.managesieve_sessions.specs.Acts.{HasAccounts}
use Rattle.managesieve_sessions.specs.Limits.{script_limit, IsScriptName}
use Rattle.managesieve_sessions.specs.Scripts.{HasRoom, IsValidScript, IsVerdict}
use Rattle.managesieve_sessions.proofs.ActLemmas.{no_glance, glanced, read_shows, acts_read, acts_made, acts_undone}
use Rattle.store_engine.specs.declared.answer.Answer.{Answer}
use Rattle.store_engine.specs.declared.answer.Answer.TheVariants.{Changed, Stored, Invalid, Edited, Objected, Closed, Opened, Removed, NoticesTaken, Refused}
use Rattle.store_engine.specs.declared.script_edit.ScriptEdit.{ScriptEdit}
use Rattle.store_engine.specs.declared.script_edit.ScriptObjection.{ScriptObjection}
use Rattle.store_engine.specs.declared.standing.Standing.{Standing}
use Rattle.store_engine.specs.declared.upkeep.Upkeep.{Upkeep}
use Rattle.store_engine.specs.declared.upkeep.Upkeep.TheVariants.{SetPassword, SetAddress, StoreScript, EditScripts, CloseAccount, OpenAccount, RemoveAccount, TakeNotices}
use Rattle.store_engine.specs.Hosts.{TurnsBy, MayTurnBy, MayRefuseKeeping, ActsKeeping}
use Rattle.store_engine.specs.Limits.{is_password, IsOwnAddress}
use Rattle.store_engine.specs.Lookups.{LooksUp, standing_of, ReadsStanding}
use Rattle.store_engine.specs.Upkeep.{rounds, kept_password, Alters, OnlyAnswers, InAccount, stores, Stores, EditsUnless, Edits, OpensClosed, Removes, DoesUpkeep, Keeping, IsFit, MayLackFor}
use Rattle.store_engine.specs.ScriptEdits.{GivesScriptName, WritesFound, edited, objection_to}
use Rattle.store_engine.proofs.EditLemmas.{found_written}

-- where nothing that was handed in stands against it, memory may lack
lacks_fit : (upkeep : Upkeep) → IsFit upkeep → MayLackFor upkeep
lacks_fit (SetPassword salt password) fit = fit
lacks_fit (SetAddress address) fit = tt
lacks_fit (StoreScript name text activate) fit = fit
lacks_fit (EditScripts edit) fit = fit
lacks_fit CloseAccount fit = fit
lacks_fit OpenAccount fit = fit
lacks_fit (RemoveAccount mail) fit = fit
lacks_fit (TakeNotices until) fit = fit

module _ (user : List ℕ) (upkeep : Upkeep) where
  abbrev Row : Accounts → Answer → Accounts → Type 0
  Row accounts = Keeping accounts user upkeep

  abbrev May : Refusal → Type 0
  May = MayRefuseKeeping upkeep

  -- what was handed in stands against it
  pub keeping_unfit : (a : State) (e : Refusal) → ((o : Option Account) → DoesUpkeep upkeep o (Refused e) None) → ActsKeeping user upkeep a a (Err e)
  keeping_unfit a e tells = acts_read a a (TurnsBy Row May (Refused e)) (MayTurnBy Row) (Err e) (λ clean open_before. tt) (no_glance a) (λ clean accounts shown. inl (None, tells (get accounts user), refl))

  -- no memory for what was handed in
  pub keeping_lacks : (a : State) (q : Result Answer Refusal) → MayLackFor upkeep → OnOk q ⊥ → IfErr q (λ e. e ≡ Memory) → ActsKeeping user upkeep a a q
  keeping_lacks a (Ok answer) may undone lack = absurd undone
  keeping_lacks a (Err e) may undone lack = acts_read a a (TurnsBy Row May (Refused e)) (MayTurnBy Row) (Err e) (λ clean open_before. tt) (no_glance a) (λ clean accounts shown. inr (e, inl (lack, may), refl, refl))

  module _ (fit : IsFit upkeep) where
    may : (e : Refusal) → IsTransient e → May e
    may e (inl memory) = inl (memory, lacks_fit upkeep fit)
    may e (inr failed) = inr (failed, fit)

    transient_turn : (e : Refusal) (accounts : Accounts) → IsTransient e → TurnsBy Row May (Refused e) accounts accounts
    transient_turn e accounts transient = inr (e, may e transient, refl, refl)

    -- ---- after a read

    module _ {X E : Type 0} (a b : State) (r : Result X E) (k : store.KeepsTables a b r) where
      -- no answer came of it
      pub keeping_failed : (q : Result Answer Refusal) → OnOk q ⊥ → IfErr q IsTransient → ActsKeeping user upkeep a b q
      keeping_failed (Ok answer) undone transient = absurd undone
      keeping_failed (Err e) undone transient = acts_read a b (TurnsBy Row May (Refused e)) (MayTurnBy Row) (Err e) (λ clean open_before. tt) (glanced a b r k) (λ clean accounts shown. transient_turn e accounts transient)

      module _ (x : X) (was : r ≡ Ok x) (Known : Option Account → Type 0) (known : HasCleanDisk b → (accounts : Accounts) → Presents a.now accounts → Known (get accounts user)) where
        -- it is refused, or something is told, and nothing changes
        pub keeping_refused : (e : Refusal) → ((o : Option Account) → Known o → DoesUpkeep upkeep o (Refused e) None) → ActsKeeping user upkeep a b (Err e)
        keeping_refused e tells = acts_read a b (TurnsBy Row May (Refused e)) (MayTurnBy Row) (Err e) (λ clean open_before. tt) (glanced a b r k)
            (λ clean accounts shown. inl (None, tells (get accounts user) (known clean accounts (read_shows a b r x was k clean accounts shown).0), refl))

        pub keeping_said : (answer : Answer) → ((o : Option Account) → Known o → DoesUpkeep upkeep o answer None) → ActsKeeping user upkeep a b (Ok answer)
        keeping_said answer tells = acts_read a b (TurnsBy Row May answer) (MayTurnBy Row) (Ok answer) (λ clean open_before. on_ok r x was (IsTrue b.is_open) (k.live clean)) (glanced a b r k)
            (λ clean accounts shown. inl (None, tells (get accounts user) (known clean accounts (read_shows a b r x was k clean accounts shown).0), refl))

        -- the account is changed
        module _ (change : Account → Account) (done : Answer) (makes : (o : Option Account) → Known o → (account : Account) × (o ≡ Some account) × DoesUpkeep upkeep o done (Some (change account)))
            (c : State) (w : Result (Unit {0}) Refusal) (late : WritesFound user change b c w) where
          fits : HasCleanDisk b → (accounts : Accounts) → Presents a.now accounts → HasUser user accounts × Row accounts done (with_user accounts user change)
          fits clean accounts p =
              let it = makes (get accounts user) (known clean accounts p) in
              (subst IsSome (sym it.1) refl, (Some (change it.0), it.2, ap (in_place accounts user change) it.1))

          pub keeping_found : (q : Result Answer Refusal) → q ≡ result_and w (Ok done) → ActsKeeping user upkeep a c q
          keeping_found q same = subst (λ o. ActsKeeping user upkeep a c o) (sym same) (go w refl late.named)
            where
              go : (o : Result (Unit {0}) Refusal) → w ≡ o → IfErr o IsTransient → ActsKeeping user upkeep a c (result_and o (Ok done))
              go (Ok y) is transient =
                  acts_made a b c r x was k (HasUser user) (λ all. with_user all user change) w late.made late.settled late.same late.crash (TurnsBy Row May done) (MayTurnBy Row) y done is
                  (λ clean accounts p. let f = fits clean accounts p in (f.0, inl f.1, (done, f.1)))
              go (Err e) is transient =
                  acts_undone a b c r x was k (HasUser user) (λ all. with_user all user change) w late.made late.settled late.same late.crash (TurnsBy Row May (Refused e)) (MayTurnBy Row) e (Err e) is
                  (λ told. told transient) (λ accounts. transient_turn e accounts transient) (λ clean accounts p. let f = fits clean accounts p in (f.0, (done, f.1)))

        pub keeping_written : (change : Account → Account) (done : Answer) → ((o : Option Account) → Known o → (account : Account) × (o ≡ Some account) × DoesUpkeep upkeep o done (Some (change account)))
            → (c : State) (w : Result (Unit {0}) Refusal) → WritesUser user change b c w → (q : Result Answer Refusal) → q ≡ result_and w (Ok done) → ActsKeeping user upkeep a c q
        keeping_written change done makes c w late = keeping_found change done makes c w (found_written user change b c w late)

    -- ---- of an open account

    -- the account is open, and this holds of it
    abbrev IsOpenAnd : (Account → Type 0) → Option Account → Type 0
    IsOpenAnd P o = (account : Account) × (open_one o ≡ Some account) × P account

    module _ (shut : (o : Option Account) → open_one o ≡ None → DoesUpkeep upkeep o (Refused NoUser) None) {X : Type 0} (P : X → Account → Type 0) (a b : State) where
      -- it couldn't be read
      pub opened_unread : (e : Refusal) (q : Result Answer Refusal) → q ≡ Err e → LooksUp user P a b (Err e) → ActsKeeping user upkeep a b q
      opened_unread e q is look = subst (λ o. ActsKeeping user upkeep a b o) (sym is)
          (acts_read a b (TurnsBy Row May (Refused e)) (MayTurnBy Row) (Err e) (λ clean open_before. tt) (glanced a b (Err e) look.reads.keeps) (λ clean accounts shown. turn clean accounts shown look.reads.named))
        where
          turn : HasCleanDisk b → (accounts : Accounts) → HasAccounts a accounts → (e ≡ NoUser) ⊎ IsTransient e → TurnsBy Row May (Refused e) accounts accounts
          turn clean accounts shown (inl absent) =
              let none = look.reads.absent clean accounts (shown (look.sure clean absent)) absent in
              inl (None, subst (λ f. DoesUpkeep upkeep (get accounts user) (Refused f) None) (sym absent) (shut (get accounts user) none), refl)
          turn clean accounts shown (inr transient) = transient_turn e accounts transient

      module _ (r : Result X Refusal) (x : X) (was : r ≡ Ok x) (look : LooksUp user P a b r) where
        known : HasCleanDisk b → (accounts : Accounts) → Presents a.now accounts → IsOpenAnd (P x) (get accounts user)
        known clean accounts p = subst (λ q. IfOk q (λ y. OfOpen accounts user (P y))) was (look.reads.found clean accounts p)

        pub opened_failed : (q : Result Answer Refusal) → OnOk q ⊥ → IfErr q IsTransient → ActsKeeping user upkeep a b q
        opened_failed = keeping_failed a b r look.reads.keeps

        pub opened_refused : (e : Refusal) → ((o : Option Account) (account : Account) → open_one o ≡ Some account → P x account → DoesUpkeep upkeep o (Refused e) None) → ActsKeeping user upkeep a b (Err e)
        opened_refused e tells = keeping_refused a b r look.reads.keeps x was (IsOpenAnd (P x)) known e (λ o it. tells o it.0 it.1 it.2)

        pub opened_said : (answer : Answer) → ((o : Option Account) (account : Account) → open_one o ≡ Some account → P x account → DoesUpkeep upkeep o answer None) → ActsKeeping user upkeep a b (Ok answer)
        opened_said answer tells = keeping_said a b r look.reads.keeps x was (IsOpenAnd (P x)) known answer (λ o it. tells o it.0 it.1 it.2)

        pub opened_written : (change : Account → Account) (done : Answer) → ((o : Option Account) (account : Account) → open_one o ≡ Some account → P x account → DoesUpkeep upkeep o done (Some (change account)))
            → (c : State) (w : Result (Unit {0}) Refusal) → WritesUser user change b c w → (q : Result Answer Refusal) → q ≡ result_and w (Ok done) → ActsKeeping user upkeep a c q
        opened_written change done makes =
            keeping_written a b r look.reads.keeps x was (IsOpenAnd (P x)) known change done (λ o it. (it.0, open_there o it.0 it.1, makes o it.0 it.1 it.2))

        -- the same of a write that looks for the account again
        pub opened_found : (change : Account → Account) (done : Answer) → ((o : Option Account) (account : Account) → open_one o ≡ Some account → P x account → DoesUpkeep upkeep o done (Some (change account)))
            → (c : State) (w : Result (Unit {0}) Refusal) → WritesFound user change b c w → (q : Result Answer Refusal) → q ≡ result_and w (Ok done) → ActsKeeping user upkeep a c q
        opened_found change done makes =
            keeping_found a b r look.reads.keeps x was (IsOpenAnd (P x)) known change done (λ o it. (it.0, open_there o it.0 it.1, makes o it.0 it.1 it.2))

    -- ---- of one that is open or closed

    abbrev Stands : Option Standing → Option Account → Type 0
    Stands standing o = standing ≡ option_map standing_of o

    module _ (a b : State) (r : Result (Option Standing) Refusal) (read : ReadsStanding user a b r) where
      pub standing_failed : (q : Result Answer Refusal) → OnOk q ⊥ → IfErr q IsTransient → ActsKeeping user upkeep a b q
      standing_failed = keeping_failed a b r read.keeps

      module _ (standing : Option Standing) (was : r ≡ Ok standing) where
        stands : HasCleanDisk b → (accounts : Accounts) → Presents a.now accounts → Stands standing (get accounts user)
        stands clean accounts p = subst (λ q. IfOk q (λ s. s ≡ option_map standing_of (get accounts user))) was (read.found clean accounts p)

        pub standing_refused : (e : Refusal) → ((o : Option Account) → standing ≡ option_map standing_of o → DoesUpkeep upkeep o (Refused e) None) → ActsKeeping user upkeep a b (Err e)
        standing_refused e tells = keeping_refused a b r read.keeps standing was (Stands standing) stands e tells

        pub standing_written : (change : Account → Account) (done : Answer) → ((o : Option Account) → standing ≡ option_map standing_of o → (account : Account) × (o ≡ Some account) × DoesUpkeep upkeep o done (Some (change account)))
            → (c : State) (w : Result (Unit {0}) Refusal) → WritesUser user change b c w → (q : Result Answer Refusal) → q ≡ result_and w (Ok done) → ActsKeeping user upkeep a c q
        standing_written change done makes = keeping_written a b r read.keeps standing was (Stands standing) stands change done makes

-- ---- the table, row by row

-- the row of the account that is found; where none is, there is no such user
in_found : (row : Account → Answer → Option Account → Type 0) (o : Option Account) (account : Account) (answer : Answer) (change : Option Account) → o ≡ Some account → row account answer change → InAccount o row answer change
in_found row o account answer change is made = subst (λ p. InAccount p row answer change) (sym is) made

in_none : (row : Account → Answer → Option Account → Type 0) (o : Option Account) → o ≡ None → InAccount o row (Refused NoUser) None
in_none row o is = subst (λ p. InAccount p row (Refused NoUser) None) (sym is) (record { says = refl; stays = refl })

module _ (salt password : List ℕ) where
  pub password_bad : is_password password ≡ false → (o : Option Account) → DoesUpkeep (SetPassword salt password) o (Refused BadUser) None
  password_bad bad o = inr ((λ fit. let no : true ≡ false = sym fit ∙ bad in cc), record { says = refl; stays = refl })

  module _ (fit : is_password password ≡ true) where
    pub password_shut : (o : Option Account) → open_one o ≡ None → DoesUpkeep (SetPassword salt password) o (Refused NoUser) None
    password_shut o none = inl (fit, in_none (λ a. Alters Changed (changes_password (kept_password salt password) a)) (open_one o) none)

    pub password_makes : (o : Option Account) (account : Account) → open_one o ≡ Some account → DoesUpkeep (SetPassword salt password) o Changed (Some (changes_password (kept_password salt password) account))
    password_makes o account is = inl (fit, in_found (λ a. Alters Changed (changes_password (kept_password salt password) a)) (open_one o) account Changed (Some (changes_password (kept_password salt password) account)) is (record { says = refl; changed = refl }))

module _ (address : List ℕ) where
  pub address_bad : (IsOwnAddress address → ⊥) → (o : Option Account) → DoesUpkeep (SetAddress address) o (Refused BadUser) None
  address_bad bad o = inr (bad, record { says = refl; stays = refl })

  module _ (fit : IsOwnAddress address) where
    pub address_shut : (o : Option Account) → open_one o ≡ None → DoesUpkeep (SetAddress address) o (Refused NoUser) None
    address_shut o none = inl (fit, in_none (λ a. Alters Changed (changes_address address a)) (open_one o) none)

    pub address_makes : (o : Option Account) (account : Account) → open_one o ≡ Some account → DoesUpkeep (SetAddress address) o Changed (Some (changes_address address account))
    address_makes o account is = inl (fit, in_found (λ a. Alters Changed (changes_address address a)) (open_one o) account Changed (Some (changes_address address account)) is (record { says = refl; changed = refl }))

module _ (name text : List ℕ) (activate : Bool) where
  pub name_bad : (IsScriptName name → ⊥) → (o : Option Account) → DoesUpkeep (StoreScript name text activate) o (Refused BadScriptName) None
  name_bad bad o = inr (bad, record { says = refl; stays = refl })

  pub text_bad : IsScriptName name → (length text ≤ script_limit → ⊥) → (o : Option Account) → DoesUpkeep (StoreScript name text activate) o (Refused ScriptTooLarge) None
  text_bad named bad o = inl (named, inr (bad, record { says = refl; stays = refl }))

  module _ (named : IsScriptName name) (short : length text ≤ script_limit) where
    pub script_shut : (o : Option Account) → open_one o ≡ None → DoesUpkeep (StoreScript name text activate) o (Refused NoUser) None
    script_shut o none = inl (named, inl (short, in_none (Stores name text activate) (open_one o) none))

    pub script_many : (o : Option Account) (account : Account) → open_one o ≡ Some account → (HasRoom account name → ⊥) → DoesUpkeep (StoreScript name text activate) o (Refused TooManyScripts) None
    script_many o account is full = inl (named, inl (short, in_found (Stores name text activate) (open_one o) account (Refused TooManyScripts) None is (inr (full, record { says = refl; stays = refl }))))

    pub script_faulty : (fault : ScriptFault) → IsVerdict text (Some fault) → (o : Option Account) (account : Account) → open_one o ≡ Some account → HasRoom account name → DoesUpkeep (StoreScript name text activate) o (Invalid fault) None
    script_faulty fault verdict o account is room =
        inl (named, inl (short, in_found (Stores name text activate) (open_one o) account (Invalid fault) None is (inl (room, inr (verdict.0, (fault, verdict, record { says = refl; stays = refl }))))))

    pub script_makes : IsValidScript text → (o : Option Account) (account : Account) → open_one o ≡ Some account → HasRoom account name → DoesUpkeep (StoreScript name text activate) o Stored (Some (stores name text activate account))
    script_makes valid o account is room =
        inl (named, inl (short, in_found (Stores name text activate) (open_one o) account Stored (Some (stores name text activate account)) is (inl (room, inl (valid, record { says = refl; changed = refl })))))

module _ (edit : ScriptEdit) where
  pub edit_bad : (GivesScriptName edit → ⊥) → (o : Option Account) → DoesUpkeep (EditScripts edit) o (Refused BadScriptName) None
  edit_bad bad o = inr (bad, record { says = refl; stays = refl })

  module _ (named : GivesScriptName edit) where
    pub edit_shut : (o : Option Account) → open_one o ≡ None → DoesUpkeep (EditScripts edit) o (Refused NoUser) None
    edit_shut o none = inl (named, in_none (Edits edit) (open_one o) none)

    pub edit_objected : (objection : ScriptObjection) (o : Option Account) (account : Account) → open_one o ≡ Some account → objection_to edit account ≡ Some objection → DoesUpkeep (EditScripts edit) o (Objected objection) None
    edit_objected objection o account is against =
        inl (named, in_found (Edits edit) (open_one o) account (Objected objection) None is (subst (λ t. EditsUnless t edit account (Objected objection) None) (sym against) (record { says = refl; stays = refl })))

    pub edit_makes : (o : Option Account) (account : Account) → open_one o ≡ Some account → objection_to edit account ≡ None → DoesUpkeep (EditScripts edit) o Edited (Some (edited edit account))
    edit_makes o account is free =
        inl (named, in_found (Edits edit) (open_one o) account Edited (Some (edited edit account)) is (subst (λ t. EditsUnless t edit account Edited (Some (edited edit account))) (sym free) (record { says = refl; changed = refl })))

pub close_shut : (o : Option Account) → open_one o ≡ None → DoesUpkeep CloseAccount o (Refused NoUser) None
close_shut o none = in_none (λ a. Alters Closed (closes a)) (open_one o) none

pub close_makes : (o : Option Account) (account : Account) → open_one o ≡ Some account → DoesUpkeep CloseAccount o Closed (Some (closes account))
close_makes o account is = in_found (λ a. Alters Closed (closes a)) (open_one o) account Closed (Some (closes account)) is (record { says = refl; changed = refl })

pub notices_shut : (until : ℕ) (o : Option Account) → open_one o ≡ None → DoesUpkeep (TakeNotices until) o (Refused NoUser) None
notices_shut until o none = in_none (λ a. Alters NoticesTaken (takes_notices until a)) (open_one o) none

pub notices_makes : (until : ℕ) (o : Option Account) (account : Account) → open_one o ≡ Some account → DoesUpkeep (TakeNotices until) o NoticesTaken (Some (takes_notices until account))
notices_makes until o account is = in_found (λ a. Alters NoticesTaken (takes_notices until a)) (open_one o) account NoticesTaken (Some (takes_notices until account)) is (record { says = refl; changed = refl })

-- ---- by how the account stands

-- an account that stands so
stands_so : (s : Standing) (account : Account) → Some s ≡ option_map standing_of (Some account) → s ≡ standing_of account
stands_so s account is = cc

no_account : (s : Standing) → Some s ≡ option_map standing_of None → ⊥
no_account s is = let no = is in cc

unknown : (row : Account → Answer → Option Account → Type 0) (standing : Option Standing) → (standing ≡ None) ⊎ ((s : Standing) × (standing ≡ Some s) × (s.is_removed ≡ true)) → (o : Option Account) → standing ≡ option_map standing_of o
    → InAccount (known_one o) row (Refused NoUser) None
unknown row standing why None is = record { says = refl; stays = refl }
unknown row standing (inl none) (Some account) is = absurd (let no = sym none ∙ is in cc)
unknown row standing (inr (s, some, gone)) (Some account) is =
    let same = stands_so s account (sym some ∙ is) in
    let removed : is_removed account ≡ true = sym (ap (λ (t : Standing). t.is_removed) same) ∙ gone in
    in_none row (known_one (Some account)) (ap (λ b. cond b None (Some account)) removed)

known_is : (s : Standing) (account : Account) → s ≡ standing_of account → s.is_removed ≡ false → known_one (Some account) ≡ Some account
known_is s account same here = ap (λ b. cond b None (Some account)) (sym (ap (λ (t : Standing). t.is_removed) same) ∙ here)

pub open_unknown : (standing : Option Standing) → (standing ≡ None) ⊎ ((s : Standing) × (standing ≡ Some s) × (s.is_removed ≡ true)) → (o : Option Account) → standing ≡ option_map standing_of o → DoesUpkeep OpenAccount o (Refused NoUser) None
open_unknown standing why o is = unknown OpensClosed standing why o is

pub remove_unknown : (mail : Bool) (standing : Option Standing) → (standing ≡ None) ⊎ ((s : Standing) × (standing ≡ Some s) × (s.is_removed ≡ true)) → (o : Option Account) → standing ≡ option_map standing_of o
    → DoesUpkeep (RemoveAccount mail) o (Refused NoUser) None
remove_unknown mail standing why o is = unknown (Removes mail) standing why o is

is_not : (b answer : Bool) → not b ≡ answer → b ≡ not answer
is_not true answer is = ap not is
is_not false answer is = ap not is

module _ (s : Standing) (here : s.is_removed ≡ false) where
  pub open_there_already : not s.is_closed ≡ true → (o : Option Account) → Some s ≡ option_map standing_of o → DoesUpkeep OpenAccount o (Refused UserIsOpen) None
  open_there_already live None is = absurd (no_account s is)
  open_there_already live (Some account) is =
      let same = stands_so s account is in
      let closed : is_closed_account account ≡ false = sym (ap (λ (t : Standing). t.is_closed) same) ∙ is_not s.is_closed true live in
      in_found OpensClosed (known_one (Some account)) account (Refused UserIsOpen) None (known_is s account same here)
      (subst (λ b. MatchBool b (Alters Opened (opens rounds account) (Refused UserIsOpen) None) (OnlyAnswers (Refused UserIsOpen) (Refused UserIsOpen) None)) (sym closed) (record { says = refl; stays = refl }))

  pub open_makes : not s.is_closed ≡ false → (o : Option Account) → Some s ≡ option_map standing_of o → (account : Account) × (o ≡ Some account) × DoesUpkeep OpenAccount o Opened (Some (opens rounds account))
  open_makes shut None is = absurd (no_account s is)
  open_makes shut (Some account) is =
      let same = stands_so s account is in
      let closed : is_closed_account account ≡ true = sym (ap (λ (t : Standing). t.is_closed) same) ∙ is_not s.is_closed false shut in (
        account,
        refl,
        in_found OpensClosed (known_one (Some account)) account Opened (Some (opens rounds account)) (known_is s account same here)
            (subst (λ b. MatchBool b (Alters Opened (opens rounds account) Opened (Some (opens rounds account))) (OnlyAnswers (Refused UserIsOpen) Opened (Some (opens rounds account)))) (sym closed) (record { says = refl; changed = refl })),
      )

  pub remove_full : (mail : Bool) → (not mail && s.has_mail) ≡ true → (o : Option Account) → Some s ≡ option_map standing_of o → DoesUpkeep (RemoveAccount mail) o (Refused UserHasMail) None
  remove_full mail full None is = absurd (no_account s is)
  remove_full mail full (Some account) is =
      let same = stands_so s account is in
      let has : (not mail && has_mail account) ≡ true = sym (ap (λ (t : Standing). not mail && t.has_mail) same) ∙ full in
      in_found (Removes mail) (known_one (Some account)) account (Refused UserHasMail) None (known_is s account same here)
      (subst (λ b. MatchBool b (OnlyAnswers (Refused UserHasMail) (Refused UserHasMail) None) (Alters Removed (removes account) (Refused UserHasMail) None)) (sym has) (record { says = refl; stays = refl }))

  pub remove_makes : (mail : Bool) → (not mail && s.has_mail) ≡ false → (o : Option Account) → Some s ≡ option_map standing_of o → (account : Account) × (o ≡ Some account) × DoesUpkeep (RemoveAccount mail) o Removed (Some (removes account))
  remove_makes mail clear None is = absurd (no_account s is)
  remove_makes mail clear (Some account) is =
      let same = stands_so s account is in
      let has : (not mail && has_mail account) ≡ false = sym (ap (λ (t : Standing). not mail && t.has_mail) same) ∙ clear in (
        account,
        refl,
        in_found (Removes mail) (known_one (Some account)) account Removed (Some (removes account)) (known_is s account same here)
            (subst (λ b. MatchBool b (OnlyAnswers (Refused UserHasMail) Removed (Some (removes account))) (Alters Removed (removes account) Removed (Some (removes account)))) (sym has) (record { says = refl; changed = refl })),
      )
