-- Messages that leave a folder, one after the other, and a sink that grows.
use Prim.Native.Nat.{zero}
use Rattle.std.proofs.Common.{◌≡◌, ◌⊎◌, ◌+◌, ℕ, suc, Bool, true, false, cond, List, [], ◌∷◌, ◌++◌, take, drop, replicate, Option, Some, None, option_map, unwrap_or, IsTrue, refl, sym, ◌∙◌, ap, subst, inl, inr, append_assoc, zero-add}
use Rattle.std.proofs.Math.Nat.{suc-add}
use Rattle.std.proofs.Math.Seq.{take-add}
use Rattle.std.proofs.lemmas.List.{append-nil}
use Rattle.std.specs.FinMap.{get}
use Rattle.sqlite_typed.proofs.TestLemmas.{bytes_eq_refl}
use Rattle.maildir_files.specs.Kept.{kept_mail, MayKeep}
use Rattle.maildir_files.specs.declared.kept.KeptMail.{KeptMail}
use Rattle.store_accounts.specs.declared.refusal.Refusal.{Refusal}
use Rattle.store_accounts.specs.declared.taking.NumberedMessage.{NumberedMessage}
use Rattle.store_accounts.specs.Account.{Account, Accounts, is_closed_account, open_one, open_account_of, with_user, messages_in, takes_mail}
use Rattle.store_accounts.proofs.StandingLemmas.{open_there}
use Rattle.store_accounts.proofs.TakingLemmas.{held_get, unless_none}
use Rattle.store_engine.specs.declared.event.Event.TheVariants.{TakeMail}
use Rattle.store_engine.specs.declared.answer.Answer.{Answer}
use Rattle.store_engine.specs.declared.answer.Answer.TheVariants.{MailTaken, Refused}
use Rattle.store_engine.specs.AccountEvents.{TakesFirst, TakesMailIn, MailTaking}
use Rattle.store_engine.specs.World.{World, Next, Runs}
use Rattle.store_engine.proofs.AloneLemmas.{changed_own}
use Rattle.cli_run.specs.Draining.{folder_mail, mail_in, Leave, IsFirstMessage, AreFirsts, GrowsBy}
use Rattle.cli_run.specs.Promise.{world_of_accounts}

module _ (user folder : List ℕ) where
  -- ---- one message

  -- the folder after its first message left
  left_of : (a : Account) → messages_in (takes_mail folder 1 a).folders folder ≡ drop 1 (messages_in a.folders folder)
  left_of a =
      let left = drop 1 (messages_in a.folders folder) in
      ap (λ o. unwrap_or o []) (held_get a.folders folder left folder ∙ ap (λ b. cond b (unless_none left) (get a.folders folder)) (bytes_eq_refl folder)) ∙ whole left
    where
      whole : (xs : List (List ℕ)) → unwrap_or (unless_none xs) [] ≡ xs
      whole [] = refl
      whole (x ∷ xs) = refl

  -- and it is open still
  still_open : (a : Account) (closed : Bool) → cond closed None (Some a) ≡ Some a → folder_mail (cond closed None (Some (takes_mail folder 1 a))) folder ≡ messages_in (takes_mail folder 1 a).folders folder
  still_open a true is = absurd (let no = is in cc)
  still_open a false is = refl

  mail_left : (accounts : Accounts) (a : Account) → open_account_of accounts user ≡ Some a → mail_in (with_user accounts user (takes_mail folder 1)) user folder ≡ drop 1 (messages_in a.folders folder)
  mail_left accounts a has =
      let there = open_there (get accounts user) a has in
      ap (λ o. folder_mail (open_one o) folder) (changed_own accounts user (takes_mail folder 1) (bytes_eq_refl user) ∙ ap (option_map (takes_mail folder 1)) there)
      ∙ (still_open a (is_closed_account a) (sym (ap open_one there) ∙ has) ∙ left_of a)

  mail_is : (accounts : Accounts) (a : Account) → open_account_of accounts user ≡ Some a → mail_in accounts user folder ≡ messages_in a.folders folder
  mail_is accounts a has = ap (λ o. folder_mail o folder) has

  not_refused : {P : Type 0} (r : Refusal) → MailTaken ≡ Refused r → P
  not_refused r is = absurd (let no = is in cc)

  -- a message that was taken was the folder's first
  pub taken_first : (accounts later : Accounts) → MailTaking accounts user folder MailTaken later → (message : List ℕ) × (mail_in accounts user folder ≡ message ∷ mail_in later user folder)
  taken_first accounts later taking = go (open_account_of accounts user) refl taking
    where
      by : (a : Account) (messages : List (List ℕ)) → open_account_of accounts user ≡ Some a → messages_in a.folders folder ≡ messages → TakesFirst accounts user folder messages MailTaken later
          → (message : List ℕ) × (mail_in accounts user folder ≡ message ∷ mail_in later user folder)
      by a [] has is t = not_refused _ t.refused
      by a (message ∷ more) has is t =
          let rest : mail_in later user folder ≡ more = ap (λ all. mail_in all user folder) t.changed ∙ (mail_left accounts a has ∙ ap (drop 1) is) in
          (message, mail_is accounts a has ∙ (is ∙ ap (λ l. message ∷ l) (sym rest)))

      go : (o : Option Account) → open_account_of accounts user ≡ o → TakesMailIn accounts user folder o MailTaken later → (message : List ℕ) × (mail_in accounts user folder ≡ message ∷ mail_in later user folder)
      go None has t = not_refused _ t.refused
      go (Some a) has t = by a (messages_in a.folders folder) has refl t

  -- of a folder that has a message the event takes it
  pub has_first : (accounts later : Accounts) (answer : Answer) (message : List ℕ) (more : List (List ℕ)) → mail_in accounts user folder ≡ message ∷ more → MailTaking accounts user folder answer later → answer ≡ MailTaken
  has_first accounts later answer message more has taking = go (open_account_of accounts user) has taking
    where
      by : (messages : List (List ℕ)) → messages ≡ message ∷ more → TakesFirst accounts user folder messages answer later → answer ≡ MailTaken
      by [] is t = absurd (let no = is in cc)
      by (m ∷ ms) is t = t.taken

      go : (o : Option Account) → folder_mail o folder ≡ message ∷ more → TakesMailIn accounts user folder o answer later → answer ≡ MailTaken
      go None is t = absurd (let no = is in cc)
      go (Some a) is t = by (messages_in a.folders folder) is t

  -- the machine's event took a message
  next_taking : (accounts : Accounts) (w : World) → Next (world_of_accounts accounts) (TakeMail user folder) MailTaken w → (later : Accounts) × MailTaking accounts user folder MailTaken later × (w ≡ world_of_accounts later)
  next_taking accounts w (inl happens) = happens
  next_taking accounts w (inr refused) = not_refused _ refused.refused

  -- ---- several, in turn

  pub none_left : (accounts later : Accounts) → Leave user folder 0 accounts later → later ≡ accounts
  none_left accounts later is = ap (λ (w : World). w.accounts) is

  pub leave_one : (accounts later : Accounts) → MailTaking accounts user folder MailTaken later → Leave user folder 1 accounts later
  leave_one accounts later taking = (world_of_accounts later, inl (later, taking, refl), refl)

  -- the first event of several, and the others
  opened : (count : ℕ) (accounts later : Accounts) → Leave user folder (suc count) accounts later → (mid : Accounts) × MailTaking accounts user folder MailTaken mid × Leave user folder count mid later
  opened count accounts later left =
      let one = next_taking accounts left.0 left.1 in
      (one.0, one.1, subst (λ w. Runs w (replicate count (TakeMail user folder)) (replicate count MailTaken) (world_of_accounts later)) one.2 left.2)

  pub leave_then : (count more : ℕ) (accounts mid later : Accounts) → Leave user folder count accounts mid → Leave user folder more mid later → Leave user folder (count + more) accounts later
  leave_then zero more accounts mid later left right =
      subst (λ n. Leave user folder n accounts later) (sym (zero-add more)) (subst (λ all. Leave user folder more all later) (none_left accounts mid left) right)
  leave_then (suc count) more accounts mid later left right =
      let one = opened count accounts mid left in
      let rest = leave_then count more one.0 mid later one.2 right in
      let whole : Leave user folder (suc (count + more)) accounts later = (world_of_accounts one.0, inl (one.0, one.1, refl), rest) in
      subst (λ n. Leave user folder n accounts later) (sym (suc-add count more)) whole

  -- what is left of the folder
  pub mail_rest : (count : ℕ) (accounts later : Accounts) → Leave user folder count accounts later → mail_in later user folder ≡ drop count (mail_in accounts user folder)
  mail_rest zero accounts later left = ap (λ all. mail_in all user folder) (none_left accounts later left)
  mail_rest (suc count) accounts later left =
      let one = opened count accounts later left in
      let first = taken_first accounts one.0 one.1 in
      mail_rest count one.0 later one.2 ∙ sym (ap (drop (suc count)) first.1)

  -- the first messages, and those after them
  pub take_then : (count more : ℕ) (accounts mid : Accounts) → Leave user folder count accounts mid
      → take (count + more) (mail_in accounts user folder) ≡ take count (mail_in accounts user folder) ++ take more (mail_in mid user folder)
  take_then count more accounts mid left =
      take-add count more (mail_in accounts user folder) ∙ ap (λ l. take count (mail_in accounts user folder) ++ take more l) (sym (mail_rest count accounts mid left))

-- ---- what a sink keeps

module _ (user folder : List ℕ) where
  are_firsts_then : (mails others : List KeptMail) (xs ys : List (List ℕ)) → AreFirsts user folder mails xs → AreFirsts user folder others ys → AreFirsts user folder (mails ++ others) (xs ++ ys)
  are_firsts_then [] others [] ys one two = two
  are_firsts_then (mail ∷ mails) others (x ∷ xs) ys one two = (one.0, one.1, one.2, one.3, are_firsts_then mails others xs ys one.4 two)
  are_firsts_then [] others (x ∷ xs) ys one two = absurd one
  are_firsts_then (mail ∷ mails) others [] ys one two = absurd one

  -- it is as it was
  pub grown_none : (tells : Bool) (old : List KeptMail) → GrowsBy user folder tells old old []
  grown_none tells old told = ([], sym (append-nil old), tt)

  pub grown_then : (tells : Bool) (old mid new : List KeptMail) (xs ys : List (List ℕ)) → GrowsBy user folder tells old mid xs → GrowsBy user folder tells mid new ys → GrowsBy user folder tells old new (xs ++ ys)
  grown_then tells old mid new xs ys one two told =
      let a = one told in
      let b = two told in
      (a.0 ++ b.0, b.1 ∙ (ap (λ l. l ++ b.0) a.1 ∙ append_assoc old a.0 b.0), are_firsts_then a.0 b.0 xs ys a.2 b.2)

  -- a message was told as the first of the folder, and it is the first of the mail
  module _ (tells : Bool) (old new : List KeptMail) (mail : List (List ℕ)) (first : NumberedMessage) (more : List (List ℕ)) (is : mail ≡ first.message ∷ more) (told_first : IsFirstMessage user folder first) where
    one_is_first : AreFirsts user folder (kept_mail user folder first.number first.message first.flags ∷ []) (take 1 mail)
    one_is_first = subst (λ l. AreFirsts user folder (kept_mail user folder first.number first.message first.flags ∷ []) (take 1 l)) (sym is) (first, told_first, refl, refl, tt)

    pub one_kept : (IsTrue tells → new ≡ old ++ kept_mail user folder first.number first.message first.flags ∷ []) → GrowsBy user folder tells old new (take 1 mail)
    one_kept kept told = (kept_mail user folder first.number first.message first.flags ∷ [], kept told, one_is_first)

    -- it may be kept
    pub may_be_kept : (IsTrue tells → MayKeep old (kept_mail user folder first.number first.message first.flags) new) → GrowsBy user folder tells old new (take 0 mail) ⊎ GrowsBy user folder tells old new (take 1 mail)
    may_be_kept may = by tells may
      where
        by : (tells : Bool) → (IsTrue tells → MayKeep old (kept_mail user folder first.number first.message first.flags) new) → GrowsBy user folder tells old new (take 0 mail) ⊎ GrowsBy user folder tells old new (take 1 mail)
        by true may = elim (may refl) [ inl same ↦ inl (λ told. ([], same ∙ sym (append-nil old), tt)) | inr one ↦ inr (λ told. (kept_mail user folder first.number first.message first.flags ∷ [], one, one_is_first)) ]
        by false may = inl (λ told. absurd (let no = told in cc))
