-- Mail that stays, is read, and leaves.
use Rattle.std.proofs.Common.{◌≡◌, ◌≤◌, ℕ, List, length, take, Result, Ok, Err, refl, sym, subst, inl, inr, arith}
use Rattle.std.proofs.lemmas.List.{length-take-le, take-take}
use Rattle.sqlite.specs.State.{State}
use Rattle.store_tables.proofs.WriteLemmas.{clean_before}
use Rattle.store_accounts.specs.Account.{Accounts}
use Rattle.store_accounts.specs.Promises.{HasOurTables, KeepsTables}
use Rattle.store_accounts.specs.Refusals.{IsTransient}
use Rattle.store_accounts.specs.declared.refusal.Refusal.{Refusal}
use Rattle.store_accounts.specs.declared.refusal.Refusal.TheVariants.{NoUser, NoRow}
use Rattle.store_accounts.specs.declared.taking.NumberedMessage.{NumberedMessage}
use Rattle.store_engine.specs.Hosts.{RefusesTaking}
use Rattle.store_engine.specs.Takings.{ActsMailTakings, AreFirstMails, LosesMails, TakesLongestRun}
use Rattle.store_engine.specs.World.{World}
use Rattle.store_engine.specs.declared.answer.Answer.TheVariants.{MailTaken, Refused}
use Rattle.maildir_moves.specs.Enduring.{Endures, OnlyReads, leaves_of, none_tried}
use Rattle.maildir_moves.specs.Moving.{IsStill, MovesMessage, MovesNext, TriedMoving, WasClean}
use Rattle.maildir_moves.specs.declared.batch.MailBatch.{MailBatch}
use Rattle.maildir_moves.specs.declared.moving.Moving.{Moving}
use Rattle.maildir_moves.specs.declared.moving.Moving.TheVariants as moving
use Rattle.maildir_moves.proofs.EnduringLemmas.{gone_endures, left_alone, left_then, left_weaker, read_endures, taken_endures, untaken_endures}

-- ---- what only reads

pub read_clean : {X E : Type 0} (a b : State) (r : Result X E) → KeepsTables a b r → WasClean a b
read_clean a b r k = clean_before a b (λ _. HasOurTables a.now → ⊥) k.crash

still_moves : (m : Moving) (accounts : Accounts) → IsStill m → MovesMessage m accounts accounts
still_moves moving.Nothing accounts is = refl
still_moves moving.Passed accounts is = refl
still_moves (moving.Failed refusal) accounts is = refl
still_moves (moving.Stays stay) accounts is = refl
still_moves moving.Went accounts is = refl
still_moves (moving.Kept batch answer) accounts is = absurd is

pub still_on : (m : Moving) (a : State) → IsStill m → MovesNext m a a
still_on m a is clean w shown = (w.accounts, still_moves m w.accounts is, record { shown = shown; left = left_alone (leaves_of a) w.accounts (TriedMoving m w) })

-- what endures where nothing was tried does so where something may have been
any_tried : (m : Moving) (a b : State) (w : World) (later : Accounts) → Endures a w.accounts b later none_tried → Endures a w.accounts b later (TriedMoving m w)
any_tried m a b w later it = record { shown = it.shown; left = left_weaker (leaves_of a) (leaves_of b) w.accounts later none_tried (TriedMoving m w) (λ trees none. absurd none) it.left }

pub still_reads : (m : Moving) (a b : State) → IsStill m → OnlyReads a b → MovesNext m a b
still_reads m a b is reads clean w shown = (w.accounts, still_moves m w.accounts is, any_tried m a b w w.accounts ((reads clean).1 w.accounts shown))

-- a move behind a read
pub moves_behind : {X E : Type 0} (m : Moving) (a b c : State) (r : Result X E) → KeepsTables a b r → WasClean b c → MovesNext m b c → MovesNext m a c
moves_behind m a b c r k was moves clean w shown =
    let read = read_endures a b r k (was clean) w.accounts shown in
    let it = moves clean w read.shown in
    (it.0, it.1, record { shown = it.2.shown; left = left_then (leaves_of a) (leaves_of b) (leaves_of c) w.accounts w.accounts it.0 (TriedMoving m w) read.left it.2.left })

pub still_then : {X E : Type 0} (m : Moving) (a b : State) (r : Result X E) → KeepsTables a b r → IsStill m → MovesNext m a b
still_then m a b r k is = moves_behind m a b b r k (λ clean. clean) (still_on m b is)

-- ---- a batch that is taken out

loses_those : (user folder : List ℕ) (mails : List NumberedMessage) (n : ℕ) (accounts later : Accounts) → LosesMails user folder mails n accounts later → LosesMails user folder (take n mails) (length (take n mails)) accounts later
loses_those user folder mails n accounts later it =
    let same : length (take n mails) ≡ n = length-take-le n mails it.told in
    let self : n ≤ n = omega arith in
    subst (λ k. LosesMails user folder (take n mails) k accounts later) (sym same) (record {
      some = it.some;
      told = subst (λ k. n ≤ k) (sym same) self;
      few = it.few;
      first = subst (AreFirstMails accounts user folder) (sym (take-take n n mails self)) it.first;
      taken = it.taken;
    })

module _ (batch : MailBatch) (a b : State) where
  pub batch_left : (n : ℕ) (m : Moving) → m ≡ moving.Kept (record batch { mails = take n batch.mails }) MailTaken → ActsMailTakings batch.user batch.folder batch.mails a b (Ok n) → MovesNext m a b
  batch_left n m is acts =
      let left : MailBatch = record batch { mails = take n batch.mails } in
      subst (λ x. MovesNext x a b) (sym is) (λ clean w shown.
      let it = taken_endures batch.user batch.folder batch.mails a b clean w shown n acts in
      (it.0, loses_those batch.user batch.folder batch.mails n w.accounts it.0 it.1, any_tried (moving.Kept left MailTaken) a b w it.0 it.2))

  pub batch_refused : (refusal : Refusal) (m : Moving) → m ≡ moving.Kept batch (Refused refusal) → IsTransient refusal → ActsMailTakings batch.user batch.folder batch.mails a b (Err refusal) → MovesNext m a b
  batch_refused refusal m is transient acts =
      subst (λ x. MovesNext x a b) (sym is) (λ clean w shown. (w.accounts, (transient, refl), untaken_endures batch.user batch.folder batch.mails a b clean w shown refusal acts))

  pub batch_gone : (refusal : Refusal) (m : Moving) → m ≡ moving.Passed → (IsTransient refusal → ⊥) → ActsMailTakings batch.user batch.folder batch.mails a b (Err refusal) → MovesNext m a b
  batch_gone refusal m is answered acts =
      subst (λ x. MovesNext x a b) (sym is) (λ clean w shown. (w.accounts, refl, any_tried moving.Passed a b w w.accounts (gone_endures batch.user batch.folder batch.mails a b clean w shown refusal acts answered)))

  pub acts_clean : (r : Result ℕ Refusal) → ActsMailTakings batch.user batch.folder batch.mails a b r → WasClean a b
  acts_clean r acts = clean_before a b _ acts.crash

-- of a batch, by what its parts were passed as
module _ (batch : MailBatch) (user folder : List ℕ) (mails : List NumberedMessage) (a b : State) (r : Result ℕ Refusal) (own_user : user ≡ batch.user) (own_folder : folder ≡ batch.folder) (own_mails : mails ≡ batch.mails) where
  pub acts_of : ActsMailTakings user folder mails a b r → ActsMailTakings batch.user batch.folder batch.mails a b r
  acts_of acts = subst (λ u. ActsMailTakings u batch.folder batch.mails a b r) own_user (subst (λ f. ActsMailTakings user f batch.mails a b r) own_folder (subst (λ m. ActsMailTakings user folder m a b r) own_mails acts))

  pub run_of : TakesLongestRun user folder mails a b r → TakesLongestRun batch.user batch.folder batch.mails a b r
  run_of run = subst (λ u. TakesLongestRun u batch.folder batch.mails a b r) own_user (subst (λ f. TakesLongestRun user f batch.mails a b r) own_folder (subst (λ m. TakesLongestRun user folder m a b r) own_mails run))

-- ---- refusals

pub no_row_lasts : IsTransient NoRow → ⊥
no_row_lasts (inl is) = let no : ⊥ = cc in no
no_row_lasts (inr is) = let no : ⊥ = cc in no

pub no_user_lasts : IsTransient NoUser → ⊥
no_user_lasts (inl is) = let no : ⊥ = cc in no
no_user_lasts (inr is) = let no : ⊥ = cc in no

pub still_transient : (refusal : Refusal) → RefusesTaking refusal → (refusal ≡ NoUser → ⊥) → (refusal ≡ NoRow → ⊥) → IsTransient refusal
still_transient refusal (inl is) there row = absurd (there is)
still_transient refusal (inr (inl is)) there row = absurd (row is)
still_transient refusal (inr (inr transient)) there row = transient
