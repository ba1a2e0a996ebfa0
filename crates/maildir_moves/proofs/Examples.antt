-- Right cases of the definitions, and near misses.
use Rattle.std.proofs.Common.{◌≡◌, ◌⊎◌, ℕ, true, false, List, [], ◌∷◌, ◌++◌, Some, None, refl, inl, inr, subst, true≢false}
use Rattle.std.specs.List.{list_any}
use Rattle.sqlite.specs.State.{State}
use Rattle.sqlite_trees.specs.Tree.{Trees}
use Rattle.store_accounts.specs.Account.{Accounts}
use Rattle.store_accounts.specs.Shows.{ShowsIn}
use Rattle.store_accounts.specs.declared.taking.NumberedMessage.{NumberedMessage}
use Rattle.store_accounts.specs.declared.refusal.Refusal.TheVariants.{Store}
use Rattle.store_engine.specs.Takings.{times}
use Rattle.store_engine.specs.World.{World}
use Rattle.store_engine.specs.declared.answer.Answer.TheVariants.{MailTaken, Refused}
use Rattle.store_engine.specs.declared.event.Event.TheVariants.{TakeMail}
use Rattle.maildir_moves.specs.Enduring.{MayLeave, ShowsMade, ShowsTried, none_tried}
use Rattle.maildir_moves.specs.Moving.{kept_mails}
use Rattle.maildir_moves.specs.Relying.{KeepsOnly}
use Rattle.maildir_moves.specs.Steps.{BeginsBatch, IsBatchOf, TakesFrom, is_batch_of, without_front}
use Rattle.maildir_moves.specs.declared.batch.MailBatch.{MailBatch}
use Rattle.maildir_moves.specs.declared.load.Load.{Load}
use Rattle.maildir_moves.specs.declared.moving.Moving.TheVariants as moving

-- an event that was refused may be left, and one that was made is among the accounts
refused : (user folder : List ℕ) (met : World) (trees : Trees) → ShowsTried (times 2 (TakeMail user folder)) (Refused Store) met trees ≡ ShowsMade (TakeMail user folder ∷ TakeMail user folder ∷ []) met trees
refused user folder met trees = refl

made : (user folder : List ℕ) (met : World) (trees : Trees) → ShowsTried (times 2 (TakeMail user folder)) MailTaken met trees → ⊥
made user folder met trees tried = tried

module _ (before after : Trees → Type 0) (accounts later : Accounts) (trees : Trees) (may : after trees) where
  -- behind a call that changed an account nothing is left of what was tried before it
  nothing_old : MayLeave before accounts after later none_tried → (later ≡ accounts → ⊥) → ShowsIn trees later
  nothing_old left changed = by (left trees may)
    where
      by : ShowsIn trees later ⊎ ((later ≡ accounts) × before trees) ⊎ none_tried trees → ShowsIn trees later
      by (inl shown) = shown
      by (inr (inl old)) = absurd (changed old.0)
      by (inr (inr none)) = absurd none

  -- where nothing might be left before, and nothing was tried, a crash leaves the accounts alone
  alone : MayLeave (λ _. ⊥) accounts after later none_tried → ShowsIn trees later
  alone left = by (left trees may)
    where
      by : ShowsIn trees later ⊎ ((later ≡ accounts) × ⊥) ⊎ none_tried trees → ShowsIn trees later
      by (inl shown) = shown
      by (inr (inl old)) = absurd old.1
      by (inr (inr none)) = absurd none

-- ---- a batch of two messages

module _ (one two : NumberedMessage) (old new : State) where
  both : MailBatch
  both = record { user = 97 ∷ []; folder = 73 ∷ []; mails = one ∷ two ∷ [] }

  -- once the first one left it waits with the other one, and once both left it doesn't wait any more
  one_left : without_front 0 1 both (both ∷ []) ≡ record { user = 97 ∷ []; folder = 73 ∷ []; mails = two ∷ [] } ∷ []
  unfolding both
  one_left = refl

  both_left : without_front 0 2 both (both ∷ []) ≡ []
  unfolding both
  both_left = refl

  -- one whose take-out was refused isn't forgotten, and no other one is begun of its folder
  forgotten : TakesFrom 0 both (both ∷ []) (moving.Kept both (Refused Store)) [] old new → ⊥
  forgotten takes = let no : [] ≡ both ∷ [] = takes.1 in cc

  again : (before after : Load) → before.settled.items ≡ both ∷ [] → (begins : BeginsBatch before after old new) → IsBatchOf (97 ∷ []) (73 ∷ []) begins.begun.batch → ⊥
  unfolding both
  again before after waits begins of =
      let apart : list_any (is_batch_of (97 ∷ []) (73 ∷ [])) (both ∷ []) ≡ false =
      subst (λ w. list_any (is_batch_of (97 ∷ []) (73 ∷ [])) w ≡ false) waits
      (subst (λ u. list_any (is_batch_of u (73 ∷ [])) before.settled.items ≡ false) of.0 (subst (λ f. list_any (is_batch_of begins.begun.batch.user f) before.settled.items ≡ false) of.1 begins.apart)) in
      true≢false apart

  -- a sink that is told its messages twice has too many
  twice : KeepsOnly true (Some (record { batch = both; put = 2 })) (kept_mails both) [] (moving.Kept both MailTaken) None [] (kept_mails both ++ kept_mails both) → ⊥
  unfolding both
  twice keeps = let no = (keeps (λ yes. refl)).1 refl in cc
