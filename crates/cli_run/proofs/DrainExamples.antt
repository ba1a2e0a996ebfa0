-- Messages that leave a folder for a sink by example: a right one, and near misses.
use Rattle.std.proofs.Common.{◌≡◌, ℕ, List, [], ◌∷◌, ◌++◌, take, true, Some, refl, sym, ◌∙◌, ap, subst, inr, codes, get_or, arith}
use Rattle.maildir_files.specs.Kept.{kept_mail}
use Rattle.maildir_files.specs.declared.kept.KeptMail.{KeptMail}
use Rattle.store_accounts.specs.Account.{Account, Accounts, open_account_of, with_user, messages_in, takes_mail}
use Rattle.store_accounts.specs.declared.taking.NumberedMessage.{NumberedMessage}
use Rattle.store_engine.specs.declared.answer.Answer.TheVariants.{MailTaken}
use Rattle.store_engine.specs.AccountEvents.{TakesFirst, TakesMailIn}
use Rattle.cli_run.specs.Draining.{folder_mail, mail_in, IsFirstMessage, AreFirsts, GrowsBy, Moved, StoppedShort, LostNone}
use Rattle.cli_run.proofs.LeaveLemmas.{leave_one}

abbrev alice : List ℕ
alice = codes "alice"

abbrev inbox : List ℕ
inbox = codes "INBOX"

-- what a sink has that had nothing
abbrev Has : List KeptMail → List (List ℕ) → Type 0
Has new = GrowsBy alice inbox true [] new

-- the first of what is kept
abbrev first_of : List KeptMail → KeptMail
first_of [] = kept_mail [] [] 0 [] []
first_of (mail ∷ mails) = mail

-- what is kept of one message is that message, alone
kept_alone : (new mails : List KeptMail) (message : List ℕ) → new ≡ [] ++ mails → AreFirsts alice inbox mails (message ∷ [])
    → (first : NumberedMessage) × IsFirstMessage alice inbox first × (new ≡ kept_mail alice inbox first.number first.message first.flags ∷ []) × (first.message ≡ message)
kept_alone new [] message is kept = absurd kept
kept_alone new (mail ∷ []) message is kept = (kept.0, kept.1, is ∙ ap (λ m. m ∷ []) kept.2, kept.3)
kept_alone new (mail ∷ other ∷ more) message is kept = absurd kept.4

-- alice has two messages, and the first has number 7
module _ (accounts : Accounts) (a : Account) (is : open_account_of accounts alice ≡ Some a) (mail : messages_in a.folders inbox ≡ codes "M" ∷ codes "MM" ∷ []) (told : IsFirstMessage alice inbox (record { number = 7; message = codes "M"; flags = [] })) where
  mail_is : mail_in accounts alice inbox ≡ codes "M" ∷ codes "MM" ∷ []
  mail_is = ap (λ o. folder_mail o inbox) is ∙ mail

  it_is : Has (kept_mail alice inbox 7 (codes "M") [] ∷ []) (take 1 (mail_in accounts alice inbox))
  it_is = subst (λ messages. Has (kept_mail alice inbox 7 (codes "M") [] ∷ []) (take 1 messages)) (sym mail_is) (λ tells. (kept_mail alice inbox 7 (codes "M") [] ∷ [], refl, (record { number = 7; message = codes "M"; flags = [] }, told, refl, refl, tt)))

  -- the first is kept and has left
  first_moved : Moved alice inbox (Has (kept_mail alice inbox 7 (codes "M") [] ∷ [])) 1 accounts (with_user accounts alice (takes_mail inbox 1))
  first_moved = record {
    left = leave_one alice inbox accounts (with_user accounts alice (takes_mail inbox 1))
        (subst (λ o. TakesMailIn accounts alice inbox o MailTaken (with_user accounts alice (takes_mail inbox 1))) (sym is)
        (subst (λ messages. TakesFirst accounts alice inbox messages MailTaken (with_user accounts alice (takes_mail inbox 1))) (sym mail) (record { taken = refl; changed = refl })));
    kept = it_is;
  }

  -- after a refusal the first may be kept and be there still
  in_both : StoppedShort alice inbox (Has (kept_mail alice inbox 7 (codes "M") [] ∷ [])) 0 accounts accounts
  in_both = record { left = refl; kept = inr it_is }

  -- what is kept of the first, once it moved
  module _ (new : List KeptMail) (later : Accounts) (moved : Moved alice inbox (Has new) 1 accounts later) where
    kept_first : (first : NumberedMessage) × IsFirstMessage alice inbox first × (new ≡ kept_mail alice inbox first.number first.message first.flags ∷ []) × (first.message ≡ codes "M")
    kept_first = let k = moved.kept refl in kept_alone new k.0 (codes "M") k.1 (subst (λ messages. AreFirsts alice inbox k.0 (take 1 messages)) mail_is k.2)

    -- near misses: it left, and isn't kept; it is kept twice; the second is kept in its place; it is kept as bob's, or in another folder
    left_unkept : new ≡ [] → ⊥
    left_unkept none = let (first, told_so, whole, same) = kept_first in let no = sym none ∙ whole in cc

    kept_twice : new ≡ kept_mail alice inbox 7 (codes "M") [] ∷ kept_mail alice inbox 7 (codes "M") [] ∷ [] → ⊥
    kept_twice two = let (first, told_so, whole, same) = kept_first in let no = sym two ∙ whole in cc

    another_kept : new ≡ kept_mail alice inbox 7 (codes "MM") [] ∷ [] → ⊥
    another_kept other =
        let (first, told_so, whole, same) = kept_first in
        let no : codes "MM" ≡ codes "M" = ap (λ mails. (first_of mails).message) (sym other ∙ whole) ∙ same in cc

    kept_for_bob : new ≡ kept_mail (codes "bob") inbox 7 (codes "M") [] ∷ [] → ⊥
    kept_for_bob other =
        let (first, told_so, whole, same) = kept_first in
        let no : 98 ≡ 97 = ap (λ mails. get_or (first_of mails).user 0 0) (sym other ∙ whole) in absurd (omega (arith, no))

    kept_elsewhere : new ≡ kept_mail alice (codes "Work") 7 (codes "M") [] ∷ [] → ⊥
    kept_elsewhere other =
        let (first, told_so, whole, same) = kept_first in
        let no : 87 ≡ 73 = ap (λ mails. get_or (first_of mails).folder 0 0) (sym other ∙ whole) in absurd (omega (arith, no))

    -- under another number than it has
    kept_as_next : ((first : NumberedMessage) → IsFirstMessage alice inbox first → first.number ≡ 7) → new ≡ kept_mail alice inbox 8 (codes "M") [] ∷ [] → ⊥
    kept_as_next only other =
        let (first, told_so, whole, same) = kept_first in
        let no : 8 ≡ 7 = ap (λ mails. (first_of mails).number) (sym other ∙ whole) ∙ only first told_so in absurd (omega (arith, no))

  -- after a crash: it left, and isn't kept
  crash_unkept : (later : Accounts) (h : LostNone alice inbox (Has []) accounts later) → h.count ≡ 1 → ⊥
  crash_unkept later h one =
      let k = h.kept refl in
      none k.0 k.1 (subst (λ messages. AreFirsts alice inbox k.0 (take 1 messages ++ h.others)) mail_is (subst (λ n. AreFirsts alice inbox k.0 (take n (mail_in accounts alice inbox) ++ h.others)) one k.2))
    where
      none : (mails : List KeptMail) → [] ≡ [] ++ mails → AreFirsts alice inbox mails (codes "M" ∷ h.others) → ⊥
      none [] e f = f
      none (m ∷ ms) e f = let no = e in cc
