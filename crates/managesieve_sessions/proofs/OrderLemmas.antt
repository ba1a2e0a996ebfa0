-- Commands about scripts, over a store.
use Rattle.std.proofs.Common.{◌≡◌, ◌⊎◌, ℕ, Bool, true, false, cond, List, ◌++◌, Option, Some, None, Ok, Err, Result, OnOk, IfOk, IfErr, IsSome, IsTrue, refl, sym, ap, ◌∙◌, subst, inl, inr}
use Rattle.std.specs.Prelude.{is_some, option_copied}
use Rattle.std.specs.Borrow.{Bor}
use Rattle.std.specs.FinMap.{get}
use Rattle.sqlite.specs.State.{State, HasCleanDisk}
use Rattle.managesieve_protocol.specs.declared.commands.ClientCommand.{ClientCommand}
use Rattle.managesieve_protocol.specs.declared.commands.ClientCommand.TheVariants.{GetScript}
use Rattle.managesieve_protocol.specs.declared.replies.ServerReply.{ServerReply}
use Rattle.managesieve_protocol.specs.Replies.{reply_octets}
use Rattle.store_accounts.specs.declared.refusal.Refusal.{Refusal}
use Rattle.store_accounts.specs.declared.refusal.Refusal.TheVariants.{NoUser}
use Rattle.store_accounts.specs.Account.{Account, Accounts, open_account_of, with_user}
use Rattle.store_accounts.specs.Cells.{borrowed_octets}
use Rattle.store_accounts.specs.Promises.{HasUser, HasNoOpen, OfOpen, ReadsOpenAccount, WritesUser, WritesAccount}
use Rattle.store_accounts.proofs.StandingLemmas.{user_there}
use Rattle.store_accounts.specs.Refusals.{IsTransient}
use Rattle.store_accounts.specs.Shows.{Presents}
use Rattle.store_tables.proofs.ResultLemmas.{on_ok}
use Rattle.managesieve_sessions.specs.declared.decision.ScriptChange.{ScriptChange}
use Rattle.managesieve_sessions.specs.declared.decision.Decision.{Decision}
use Rattle.managesieve_sessions.specs.declared.command_class.NamedCommand.{NamedCommand}
use Rattle.managesieve_sessions.specs.declared.command_class.ScriptCommand.{ScriptCommand}
use Rattle.managesieve_sessions.specs.declared.command_class.ScriptCommand.TheVariants.{Named}
use Rattle.managesieve_sessions.specs.Acts.{HasAccounts, Acts}
use Rattle.managesieve_sessions.specs.Decisions.{IsDecision, Decides, change_made, change_made_if}
use Rattle.managesieve_sessions.specs.Orders.{ObeysUser, ObeyedTo, MayObey}
use Rattle.managesieve_sessions.specs.Replies.{is_ok, borrowed_text}
use Rattle.managesieve_sessions.specs.Scripts.{RepliesTo, get_reply, obeyed}
use Rattle.managesieve_sessions.specs.Table.{RepliesOf, early_reply}
use Rattle.managesieve_sessions.specs.CommandClasses.{of_named, of_script}
use Rattle.managesieve_sessions.proofs.LawLemmas.{none_changed}
use Rattle.managesieve_sessions.proofs.ActLemmas.{glanced, read_shows, acts_read, acts_made, acts_undone}

pub value_is : (o : Option (Bor (List ℕ))) → borrowed_octets o ≡ borrowed_text o
value_is None = refl
value_is (Some text) = refl

pub copied_is : (o : Option (Bor (List ℕ))) → borrowed_text o ≡ option_copied o
copied_is None = refl
copied_is (Some text) = refl

-- ---- decisions

same_both : (t : Bool) (a : Account) → a ≡ cond t a a
same_both true a = refl
same_both false a = refl

-- a script was read, or none of that name is there
pub got : (command : ClientCommand) (name seen : List ℕ) (text : Option (List ℕ)) (reply : ServerReply) (a : Account) → command ≡ GetScript name → seen ≡ name → reply ≡ get_reply text → text ≡ get a.scripts seen
    → Decides command (record { reply = reply; change = None }) a
got command name seen text reply a at same right is =
    subst (λ (c : ClientCommand). Decides c (record { reply = reply; change = None }) a) (sym at)
    (record { replies = right ∙ ap get_reply (is ∙ ap (get a.scripts) same); changes = λ b. same_both (is_ok reply.word) b })

-- what was decided by the names
pub decides_named : (script : ScriptCommand) (command : NamedCommand) (Fits : Account → Type 0) (decision : Decision) (a : Account) → script ≡ Named command → IsDecision Fits (of_named command) decision → Fits a
    → Decides (of_script script) decision a
decides_named script command Fits decision a at is fits = subst (λ (s : ScriptCommand). Decides (of_script s) decision a) (sym at) (record { replies = is.replies a fits; changes = is.changes })

-- ---- the answer, and what changes

-- what such a call answers
abbrev pub done : Bool → Result Bool Refusal
done is_open = Ok is_open

abbrev pub refused : Refusal → Result Bool Refusal
refused e = Err e

pub refused_obeys : (user : List ℕ) (command : ClientCommand) (q : Result Bool Refusal) (before after : List ℕ) (accounts : Accounts) → OnOk q ⊥ → ObeyedTo user command q before after accounts accounts
refused_obeys user command (Ok x) before after accounts none = absurd none
refused_obeys user command (Err e) before after accounts none = refl

-- the reply of an open account
replies_open : (user : List ℕ) (command : ClientCommand) (reply : ServerReply) (accounts : Accounts) (a : Account) → open_account_of accounts user ≡ Some a → RepliesTo a command reply → RepliesOf (open_account_of accounts user) command reply
replies_open user command reply accounts a has replies = subst (λ (o : Option Account). RepliesOf o command reply) (sym has) replies

quiet : (user : List ℕ) (command : ClientCommand) (d : Decision) (accounts : Accounts) → OfOpen accounts user (Decides command d) → d.change ≡ None → ObeysUser user command d.reply accounts accounts
quiet user command d accounts own none = record {
  replies = replies_open user command d.reply accounts own.0 own.1 own.2.replies;
  changed = none_changed accounts (Some user) (obeyed command d.reply.word)
      (λ b. sym (subst (λ (o : Option ScriptChange). change_made_if o b ≡ obeyed command d.reply.word b) none (own.2.changes b)));
}

loud : (user : List ℕ) (command : ClientCommand) (d : Decision) (change : ScriptChange) (accounts : Accounts) → OfOpen accounts user (Decides command d) → d.change ≡ Some change
    → ObeysUser user command d.reply accounts (with_user accounts user (change_made change))
loud user command d change accounts own some =
    let same : change_made change ≡ obeyed command d.reply.word =
    λ i b. subst (λ (o : Option ScriptChange). change_made_if o b ≡ obeyed command d.reply.word b) some (own.2.changes b) i in
    record { replies = replies_open user command d.reply accounts own.0 own.1 own.2.replies; changed = ap (with_user accounts user) same }

-- the account isn't open any more
shut : (user : List ℕ) (command : ClientCommand) (accounts : Accounts) → HasNoOpen user accounts → ObeysUser user command early_reply accounts accounts
shut user command accounts none = record {
  replies = subst (λ (o : Option Account). RepliesOf o command early_reply) (sym none) refl;
  changed = none_changed accounts (Some user) (obeyed command early_reply.word) (λ b. refl);
}

-- ---- writes that never find the account absent

transient_named : {X : Type 0} (w : Result X Refusal) → IfErr w IsTransient → IfErr w (λ e. (e ≡ NoUser) ⊎ IsTransient e)
transient_named (Ok x) h = tt
transient_named (Err e) h = inr h

no_user_passes : IsTransient NoUser → ⊥
no_user_passes h = elim h [ inl is ↦ (let e = is in cc) | inr is ↦ (let e = is in cc) ]

never_absent : {X : Type 0} (user : List ℕ) (accounts : Accounts) (w : Result X Refusal) → IfErr w IsTransient → IfErr w (λ e. e ≡ NoUser → HasNoOpen user accounts)
never_absent user accounts (Ok x) h = tt
never_absent user accounts (Err e) h = λ is. absurd (no_user_passes (subst IsTransient is h))

-- such a write is one that asks whether there is an account
pub written : {X : Type 0} (user : List ℕ) (change : Account → Account) (b c : State) (w : Result X Refusal) → WritesUser user change b c w → WritesAccount user change b c w
written user change b c w late = record {
  made = late.made;
  settled = late.settled;
  same = λ clean tables. late.same clean;
  absent = λ clean accounts p. never_absent user accounts w late.named;
  crash = late.crash;
  named = transient_named w late.named;
}

-- the account isn't open any more, and the user is told so
pub obeys_away : (user : List ℕ) (command : ClientCommand) (a b : State) (r : Result Decision Refusal) → r ≡ Err NoUser → ReadsOpenAccount user (Decides command) a b r → (before after : List ℕ) → after ≡ before ++ reply_octets early_reply
    → Acts (ObeyedTo user command (done false) before after) (MayObey user command) a b (done false)
obeys_away user command a b r is reads before after told =
    acts_read a b (ObeyedTo user command (done false) before after) (MayObey user command) (done false) (λ clean open_before. sure clean) (glanced a b r reads.keeps) (λ clean accounts shown. (early_reply, closed clean accounts shown, told, shut user command accounts (gone clean accounts shown)))
  where
    sure : HasCleanDisk b → IsTrue b.is_open
    sure clean = subst (λ q. IfErr q (λ e. e ≡ NoUser → IsTrue b.is_open)) is (reads.sure clean) refl

    gone : HasCleanDisk b → (accounts : Accounts) → HasAccounts a accounts → HasNoOpen user accounts
    gone clean accounts shown = subst (λ q. IfErr q (λ e. e ≡ NoUser → HasNoOpen user accounts)) is (reads.absent clean accounts (shown (reads.keeps.shut clean (subst (λ q. IfErr q (λ e. e ≡ NoUser → IsTrue b.is_open)) is (reads.sure clean) refl)))) refl

    closed : HasCleanDisk b → (accounts : Accounts) → HasAccounts a accounts → false ≡ is_some (open_account_of accounts user)
    closed clean accounts shown = sym (ap is_some (subst (λ q. IfErr q (λ e. e ≡ NoUser → HasNoOpen user accounts)) is (reads.absent clean accounts (shown (reads.keeps.shut clean (subst (λ q. IfErr q (λ e. e ≡ NoUser → IsTrue b.is_open)) is (reads.sure clean) refl)))) refl))

module _ (user : List ℕ) (command : ClientCommand) (a b : State) (r : Result Decision Refusal) (d : Decision) (was : r ≡ Ok d) (reads : ReadsOpenAccount user (Decides command) a b r) where
  own : HasCleanDisk b → (accounts : Accounts) → Presents a.now accounts → OfOpen accounts user (Decides command d)
  own clean accounts p = subst (λ q. IfOk q (λ x. OfOpen accounts user (Decides command x))) was (reads.found clean accounts p)

  -- nothing is to be written
  pub obeys_quietly : (before after : List ℕ) → d.change ≡ None → after ≡ before ++ reply_octets d.reply → Acts (ObeyedTo user command (done true) before after) (MayObey user command) a b (done true)
  obeys_quietly before after none told =
      acts_read a b (ObeyedTo user command (done true) before after) (MayObey user command) (done true) (λ clean open_before. on_ok r d was (IsTrue b.is_open) (reads.keeps.live clean)) (glanced a b r reads.keeps)
      (λ clean accounts shown.
      let o = own clean accounts (read_shows a b r d was reads.keeps clean accounts shown).0 in
      (d.reply, sym (ap is_some o.1), told, quiet user command d accounts o none))

  module _ (c : State) (change : ScriptChange) (some : d.change ≡ Some change) (w : Result (Unit {0}) Refusal) (late : WritesAccount user (change_made change) b c w) where
    fits : HasCleanDisk b → (accounts : Accounts) → Presents a.now accounts → HasUser user accounts × ((true ≡ is_some (open_account_of accounts user)) × ObeysUser user command d.reply accounts (with_user accounts user (change_made change)))
    fits clean accounts p =
        let o = own clean accounts p in
        (subst IsSome (sym (user_there accounts user (Decides command d) o).1) refl, (sym (ap is_some o.1), loud user command d change accounts o some))

    pub obeys_made : (before after : List ℕ) → after ≡ before ++ reply_octets d.reply → (y : Unit {0}) → w ≡ Ok y → Acts (ObeyedTo user command (done true) before after) (MayObey user command) a c (done true)
    obeys_made before after told y is =
        acts_made a b c r d was reads.keeps (HasUser user) (λ all. with_user all user (change_made change)) w late.made late.settled late.same late.crash (ObeyedTo user command (done true) before after) (MayObey user command) y true is
        (λ clean accounts p. let f = fits clean accounts p in (f.0, (d.reply, f.1.0, told, f.1.1), (d.reply, f.1.1)))

    pub obeys_undone : (before after : List ℕ) (e f : Refusal) → w ≡ Err e → IsTransient f → Acts (ObeyedTo user command (refused f) before after) (MayObey user command) a c (refused f)
    obeys_undone before after e f is transient =
        acts_undone a b c r d was reads.keeps (HasUser user) (λ all. with_user all user (change_made change)) w late.made late.settled late.same late.crash (ObeyedTo user command (refused f) before after) (MayObey user command) e (refused f) is
        (λ told. told transient) (λ accounts. refl) (λ clean accounts p. let f = fits clean accounts p in (f.0, (d.reply, f.1.1)))
