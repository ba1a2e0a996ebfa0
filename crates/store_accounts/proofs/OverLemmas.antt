-- Parts that are pushed over the moments that an account keeps.
use Rattle.std.proofs.Common.{◌≡◌, ◌<◌, ◌+◌, ℕ, List, [], ◌∷◌, map, take, length, get_or, Option, Some, None, Ok, Err, Result, OnOk, IfOk, IfErr, IfSome, IsSome, refl, sym, ap, ◌∙◌, subst}
use Rattle.std.specs.FinMap.{get}
use Rattle.sqlite.specs.State.{State}
use Rattle.store_tables.specs.Rows.{Tables}
use Rattle.store_tables.specs.declared.change.Change.{Change}
use Rattle.store_tables.specs.Changes.{made, ExtendsChanges}
use Rattle.store_text.specs.Text.{IsAccount}
use Rattle.store_text.specs.declared.head.AccountHead.{AccountHead}
use Rattle.store_text.specs.declared.part.Part.{Part}
use Rattle.store_text.specs.declared.part.Part.TheVariants.{Reply}
use Rattle.store_accounts.specs.declared.refusal.Refusal.{Refusal}
use Rattle.store_accounts.specs.Account.{latest, Account, Accounts, ReplyMoments, with_user}
use Rattle.store_accounts.specs.Delivery.{Pushes, moment_put}
use Rattle.store_accounts.specs.Promises.{HasUser, KeepsSeen, ReadsEntered}
use Rattle.store_accounts.specs.Refusals.{IsTransient}
use Rattle.store_accounts.specs.ReplyRows.{IsReplyMoment}
use Rattle.store_accounts.specs.Shows.{ShowsAccounts}
use Rattle.store_accounts.specs.Whole.{takes_whole}
use Rattle.store_accounts.specs.WholeRows.{part_made, emptied_by, head_made, over_kept, part_over, parts_over, PushesOver}
use Rattle.store_accounts.proofs.AfterLemmas.{seen_read, seen_none, seen_ok, seen_failed, seen_before, seen_shows, seen_then}
use Rattle.store_accounts.proofs.KeepLemmas.{none_ok}
use Rattle.store_accounts.proofs.WholeLemmas.{parts_more, making, carries_renewed}

-- ---- one part

-- what is no moment is pushed as it is, and nothing is asked
pub pushed_plain : (user : List ℕ) (part : Part) → ((replies : ReplyMoments) → over_kept replies part ≡ part) → (s : State) (before after : List Change) (q : Result (Unit {0}) Refusal) → Pushes user (part_made user part) before after q → IfErr q IsTransient
    → PushesOver user (part_over user part) s s before after q
pushed_plain user part plain s before after q pushes named = record { made = λ clean accounts p. go q pushes (get accounts user); keeps = seen_none s q; named = named }
  where
    some : (o : Option Account) → ExtendsChanges user (part_made user part) before after → IfSome o (λ a. ExtendsChanges user (part_over user part a.replies) before after)
    some None e = tt
    some (Some a) e = subst (λ p. ExtendsChanges user (part_made user p) before after) (sym (plain a.replies)) e

    go : (r : Result (Unit {0}) Refusal) → OnOk r (ExtendsChanges user (part_made user part) before after) → (o : Option Account) → OnOk r (IfSome o (λ a. ExtendsChanges user (part_over user part a.replies) before after))
    go (Ok y) e o = some o e
    go (Err e) h o = tt

-- a moment after the one that is kept was read
pub pushed_moment : (user handle sender : List ℕ) (moment : ℕ) (kept : Option ℕ) (a b : State) (r : Result (Option ℕ) Refusal) → r ≡ Ok kept → ReadsEntered user (IsReplyMoment handle sender) a b r → (before after : List Change) (q : Result (Unit {0}) Refusal)
    → Pushes user (moment_put user handle sender (latest kept moment)) before after q → IfErr q IsTransient → PushesOver user (part_over user (Reply handle sender moment)) a b before after q
pushed_moment user handle sender moment kept a b r is read before after q pushes named = record {
  made = λ clean accounts p. go q pushes (get accounts user) (subst (λ o. IfOk o (λ x. IfSome (get accounts user) (IsReplyMoment handle sender x))) is (read.found clean accounts p));
  keeps = seen_ok a b r kept q is (seen_read a b r read.keeps);
  named = named;
}
  where
    some : (o : Option Account) → IfSome o (IsReplyMoment handle sender kept) → ExtendsChanges user (moment_put user handle sender (latest kept moment)) before after → IfSome o (λ a. ExtendsChanges user (part_over user (Reply handle sender moment) a.replies) before after)
    some None same e = tt
    some (Some a) same e = subst (λ k. ExtendsChanges user (moment_put user handle sender (latest k moment)) before after) same e

    go : (r : Result (Unit {0}) Refusal) → OnOk r (ExtendsChanges user (moment_put user handle sender (latest kept moment)) before after) → (o : Option Account) → IfSome o (IsReplyMoment handle sender kept)
        → OnOk r (IfSome o (λ a. ExtendsChanges user (part_over user (Reply handle sender moment) a.replies) before after))
    go (Ok y) e o same = some o same e
    go (Err e) h o same = tt

-- something failed after reads
pub pushed_failed : {X : Type 0} (user : List ℕ) (change : ReplyMoments → Tables → Tables) (a b : State) (r : Result X Refusal) (before after : List Change) (q : Result (Unit {0}) Refusal) → KeepsSeen a b r → OnOk q ⊥ → IfErr q IsTransient → PushesOver user change a b before after q
pushed_failed user change a b r before after q kept none named = record { made = λ clean accounts p. none_ok q _ none; keeps = seen_failed a b r q none kept; named = named }

-- ---- all parts

pub pushed_none : (user : List ℕ) (s : State) (before : List Change) → PushesOver user (parts_over user []) s s before before (Ok tt)
pushed_none user s before = record { made = λ clean accounts p. go (get accounts user); keeps = seen_none s (Ok tt); named = tt }
  where
    go : (o : Option Account) → IfSome o (λ a. ExtendsChanges user (parts_over user [] a.replies) before before)
    go None = tt
    go (Some a) = record { owned = λ are. are; makes = λ own. refl }

module _ (user : List ℕ) (parts : List Part) (i : ℕ) (part : Part) (within : i < length parts) (is : part ≡ get_or parts i part) (a b c : State) (before mid after : List Change) (early : PushesOver user (parts_over user (take i parts)) a b before mid (Ok tt))
    (q : Result (Unit {0}) Refusal) (late : PushesOver user (part_over user part) b c mid after q) where
  pub pushed_more : (y : Unit {0}) → q ≡ Ok y → PushesOver user (parts_over user (take (i + 1) parts)) a c before after (Ok tt)
  pushed_more y ok = record {
    made = λ clean accounts p.
        both (get accounts user) (early.made (seen_before a b c (Ok tt) tt refl early.keeps q late.keeps clean) accounts p)
        (subst (λ o. OnOk o (IfSome (get accounts user) (λ x. ExtendsChanges user (part_over user part x.replies) mid after))) ok (late.made clean accounts (seen_shows a b c (Ok tt) tt refl early.keeps q late.keeps clean accounts p)));
    keeps = seen_ok a c q y (Ok tt) ok (seen_then a b c (Ok tt) tt refl early.keeps q late.keeps);
    named = tt;
  }
    where
      both : (o : Option Account) → IfSome o (λ x. ExtendsChanges user (parts_over user (take i parts) x.replies) before mid) → IfSome o (λ x. ExtendsChanges user (part_over user part x.replies) mid after)
          → IfSome o (λ x. ExtendsChanges user (parts_over user (take (i + 1) parts) x.replies) before after)
      both None one two = tt
      both (Some x) one two = parts_more user (over_kept x.replies) parts i part before mid after within is one two

  pub pushed_lost : (end : Result (Unit {0}) Refusal) → OnOk end ⊥ → IfErr end IsTransient → PushesOver user (parts_over user parts) a c before after end
  pushed_lost end none named = pushed_failed user (parts_over user parts) a c q before after end (seen_then a b c (Ok tt) tt refl early.keeps q late.keeps) none named

-- ---- the account of a text in place of the user's

pub renewed_shows : (head : AccountHead) (parts : List Part) → IsAccount head parts → (one two three : List Change) → ExtendsChanges head.owner.name (emptied_by head.owner.name) [] one → ExtendsChanges head.owner.name (head_made head) one two → (tables : Tables) (accounts : Accounts)
    → ShowsAccounts tables accounts → HasUser head.owner.name accounts → IfSome (get accounts head.owner.name) (λ a. ExtendsChanges head.owner.name (parts_over head.owner.name parts a.replies) two three)
    → ShowsAccounts (made tables three) (with_user accounts head.owner.name (takes_whole head parts))
renewed_shows head parts is one two three begins goes tables accounts shows has = go (get accounts head.owner.name) refl has
  where
    go : (o : Option Account) → get accounts head.owner.name ≡ o → IsSome o → IfSome o (λ a. ExtendsChanges head.owner.name (parts_over head.owner.name parts a.replies) two three)
        → ShowsAccounts (made tables three) (with_user accounts head.owner.name (takes_whole head parts))
    go None none some ends = absurd (let never = some in cc)
    go (Some a) there some ends =
        let all = making head.owner.name (emptied_by head.owner.name) head (map (over_kept a.replies) parts) one two three begins goes ends in
        carries_renewed head parts three is all.owned tables accounts shows (a, there, all)
