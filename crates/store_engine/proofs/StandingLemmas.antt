-- How a user's account stands, by its row and its messages.
use Rattle.std.proofs.Common.{◌≡◌, ◌==◌, ◌&&◌, ℕ, Bool, length, List, Option, Some, None, option_map, Ok, Result, OnOk, IfOk, IfErr, IfSome, refl, ap, ◌∙◌, subst}
use Rattle.std.specs.FinMap.{get}
use Rattle.sqlite.specs.State.{State, HasCleanDisk}
use Rattle.store_accounts.specs.declared.profile.Profile.{Profile}
use Rattle.store_accounts.specs.declared.refusal.Refusal.{Refusal}
use Rattle.store_accounts.specs.Account.{Account, Accounts, is_closed_account, is_removed, has_mail}
use Rattle.store_accounts.specs.AccountRows.{profile_of}
use Rattle.store_accounts.specs.Promises.{ReadsEntered, ReadsProfile}
use Rattle.store_accounts.specs.Refusals.{IsTransient}
use Rattle.store_accounts.specs.Shows.{Presents}
use Rattle.store_accounts.proofs.KeepLemmas.{keeps_ok, keeps_failed, keeps_then, mid_shows, none_if}
use Rattle.store_tables.proofs.WriteLemmas.{clean_before}
use Rattle.store_engine.specs.declared.standing.Standing.{Standing}
use Rattle.store_engine.specs.Lookups.{standing_of, ReadsStanding}

abbrev HasMail : Bool → Account → Type 0
HasMail found account = found ≡ has_mail account

module _ (user : List ℕ) (a b : State) (r : Result (Option Profile) Refusal) (read : ReadsProfile user a b r) where
  found : (o : Option Profile) → r ≡ Ok o → HasCleanDisk b → (accounts : Accounts) → Presents a.now accounts → o ≡ option_map profile_of (get accounts user)
  found o is clean accounts p = subst (λ q. IfOk q (λ profile. profile ≡ option_map profile_of (get accounts user))) is (read.found clean accounts p)

  -- there is no account
  pub standing_none : r ≡ Ok None → ReadsStanding user a b (Ok None)
  standing_none is = record { found = λ clean accounts p. go (get accounts user) (found None is clean accounts p); keeps = keeps_ok a b r None (Ok None) is read.keeps; named = tt }
    where
      go : (o : Option Account) → None ≡ option_map profile_of o → None ≡ option_map standing_of o
      go None e = refl
      go (Some account) e = absurd (let no = e in cc)

  -- its row couldn't be read
  pub standing_unread : (q : Result (Option Standing) Refusal) → OnOk q ⊥ → IfErr q IsTransient → ReadsStanding user a b q
  standing_unread q none transient = record { found = λ clean accounts p. none_if q (λ standing. standing ≡ option_map standing_of (get accounts user)) none; keeps = keeps_failed a b r q none read.keeps; named = transient }

  module _ (p : Profile) (is : r ≡ Ok (Some p)) (c : State) (w : Result Bool Refusal) (late : ReadsEntered user HasMail b c w) where
    -- its messages couldn't be
    pub standing_unseen : (q : Result (Option Standing) Refusal) → OnOk q ⊥ → IfErr q IsTransient → ReadsStanding user a c q
    standing_unseen q none transient = record {
      found = λ clean accounts p. none_if q (λ standing. standing ≡ option_map standing_of (get accounts user)) none;
      keeps = keeps_failed a c w q none (keeps_then a b c r (Some p) is w read.keeps late.keeps);
      named = transient;
    }

    stands : (closed removed mail : Bool) → closed ≡ (p.rounds == 0) → removed ≡ (p.rounds == 0 && length p.digest == 0) → (o : Option Account) → Some p ≡ option_map profile_of o → IfSome o (HasMail mail)
        → Some (record { is_closed = closed; is_removed = removed; has_mail = mail }) ≡ option_map standing_of o
    stands closed removed mail shut gone None e has = absurd (let no = e in cc)
    stands closed removed mail shut gone (Some account) e has =
        let same : p ≡ profile_of account = cc in
        let one : closed ≡ is_closed_account account = shut ∙ ap (λ (q : Profile). q.rounds == 0) same in
        let two : removed ≡ is_removed account = gone ∙ ap (λ (q : Profile). q.rounds == 0 && length q.digest == 0) same in
        ap (λ x. Some (record { is_closed = x; is_removed = removed; has_mail = mail })) one
        ∙ (ap (λ x. Some (record { is_closed = is_closed_account account; is_removed = x; has_mail = mail })) two ∙ ap (λ x. Some (record { is_closed = is_closed_account account; is_removed = is_removed account; has_mail = x })) has)

    pub standing_seen : (mail : Bool) → w ≡ Ok mail → (closed removed : Bool) → closed ≡ (p.rounds == 0) → removed ≡ (p.rounds == 0 && length p.digest == 0)
        → ReadsStanding user a c (Ok (Some (record { is_closed = closed; is_removed = removed; has_mail = mail })))
    standing_seen mail seen closed removed shut gone = record {
      found = λ clean accounts shown.
          stands closed removed mail shut gone (get accounts user) (found (Some p) is (clean_before b c _ late.keeps.crash clean) accounts shown)
          (subst (λ o. IfOk o (λ m. IfSome (get accounts user) (HasMail m))) seen (late.found clean accounts (mid_shows a b c r (Some p) is w read.keeps late.keeps clean accounts shown)));
      keeps = keeps_ok a c w mail (Ok (Some (record { is_closed = closed; is_removed = removed; has_mail = mail }))) seen (keeps_then a b c r (Some p) is w read.keeps late.keeps);
      named = tt;
    }
