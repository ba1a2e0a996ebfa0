use Rattle.std.proofs.Common.{◌≡◌, ℕ, List, [], ◌∷◌, Option, Some, None, slice_get, slice_set, get_or, sym, ◌∙◌}
use Rattle.std.specs.List.{position}
use Rattle.std.proofs.lemmas.Option.{slice_get-get_or}
use Rattle.net_shares.specs.Shares.{is_same_account, with_spent, more_of}
use Rattle.net_shares.specs.declared.time_account.TimeAccount.{TimeAccount}
use Rattle.net_shares.specs.declared.share.Share.{Share}
use Rattle.net_shares.proofs.FirstLemmas.{changes_at, changes_none, is_within}
use Rattle.net_shares.proofs.share.Shares.raise.Goals as goal

raised : (account : TimeAccount) (slot micros : ℕ) (xs after : List Share) (at : ℕ) → position (λ share. is_same_account share.account account) xs ≡ Some at
    → ((share : Share) → slice_get xs at ≡ Some share → after ≡ slice_set xs at (with_spent slot micros share)) → after ≡ more_of account slot micros xs
raised account slot micros [] after at is sets = let never : ◌≡◌ {A = Option ℕ} None (Some at) = is in cc
raised account slot micros (first ∷ xs) after at is sets =
    let within = is_within (λ (share : Share). is_same_account share.account account) (λ share. share) (first ∷ xs) at is in
    let gets : slice_get (first ∷ xs) at ≡ Some (get_or (first ∷ xs) at first) = slice_get-get_or (first ∷ xs) at first within in
    sets (get_or (first ∷ xs) at first) gets ∙ changes_at (λ share. is_same_account share.account account) (with_spent slot micros) (first ∷ xs) at is (get_or (first ∷ xs) at first) gets

pub raise_at-requires : goal.raise_at-requires
raise_at-requires c = is_within (λ (share : Share). is_same_account share.account c.args.account.now) (λ share. share) c.args.self.now.entries.items c.in-Some.at (sym c.place_of.ensures ∙ c.in-Some.is)

pub returns-in-Some : goal.returns-in-Some
returns-in-Some c =
    raised c.args.account.now c.args.slot c.args.micros c.args.self.now.entries.items c.raise_at.new.self.entries.items c.in-Some.at (sym c.place_of.ensures ∙ c.in-Some.is) c.raise_at.ensures

pub returns-in_default : goal.returns-in_default
returns-in_default c = sym (changes_none (λ share. is_same_account share.account c.args.account.now) (with_spent c.args.slot c.args.micros) c.args.self.now.entries.items (sym c.place_of.ensures ∙ c.in_default.is))
