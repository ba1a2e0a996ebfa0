-- How far a message goes on, and what is kept of it.
use Rattle.std.proofs.Common.{◌≡◌, ◌+◌, ◌-◌, ◌≤◌, ℕ, zero, suc, Bool, true, false, not, cond, length, map, take, filter, List, [], ◌∷◌, Some, refl, ap, ◌∙◌, arith}
use Rattle.std.specs.FinMap.{get, get-insert}
use Rattle.std.specs.List.{AllByRecursion}
use Rattle.std.specs.Cmp.{eq_by_cmp_equiv}
use Rattle.std.specs.Ordering.{eq_by_cmp}
use Rattle.mail_address.specs.declared.address.Addr.{Addr}
use Rattle.mail_address.specs.Spelling.{address_spelling}
use Rattle.sieve_syntax.specs.Meaning.{Actions}
use Rattle.sieve_exec.specs.Mails.{MailSpec}
use Rattle.store_accounts.specs.Account.{Account, files_copies, forgets, keeps_moment, keeps_sent, reply_cmp, room_in}
use Rattle.store_accounts.specs.declared.reply.ReplyKey.{ReplyKey}
use Rattle.store_accounts.proofs.AccountLemmas.{reply_total}
use Rattle.sieve_plan.specs.Delivered.{acts, redirects}
use Rattle.sieve_plan.specs.Sent.{fresh, going, half_of, is_among_texts, most_of_size, most_sent, redirect_key, sent_handle, known_targets}

take_short : {X : Type 0} (n : ℕ) (xs : List X) → length (take n xs) ≤ n
take_short zero [] = omega arith
take_short zero (x ∷ xs) = omega arith
take_short (suc n) [] = omega arith
take_short (suc n) (x ∷ xs) = omega (arith, take_short n xs)

-- a message goes on at most 16 times within 12 hours: as often as it did, and to those to which it goes now
pub at_most_16 : (a : Account) (mail : MailSpec) (targets : List Addr) → length (known_targets a mail) ≤ 16 → length (known_targets a mail) + length (going a mail targets) ≤ 16
at_most_16 a mail targets few =
    omega (arith, take_short (most_sent - length (known_targets a mail)) (take (most_of_size (length mail.octets)) (take (room_in a) (fresh a mail targets))))

-- and to no more addresses where it went on 16 times or, by an import, more often
pub none_beyond : (a : Account) (mail : MailSpec) (targets : List Addr) → 16 ≤ length (known_targets a mail) → length (going a mail targets) ≤ 0
none_beyond a mail targets many =
    omega (arith, take_short (most_sent - length (known_targets a mail)) (take (most_of_size (length mail.octets)) (take (room_in a) (fresh a mail targets))))

all_taken : {X : Type 0} (P : X → Type 0) (n : ℕ) (xs : List X) → AllByRecursion P xs → AllByRecursion P (take n xs)
all_taken P zero [] all = tt
all_taken P zero (x ∷ xs) all = tt
all_taken P (suc n) [] all = tt
all_taken P (suc n) (x ∷ xs) all = (all.0, all_taken P n xs all.1)

all_failed : {X : Type 0} (p : X → Bool) (xs : List X) → AllByRecursion (λ x. p x ≡ false) (filter (λ x. not (p x)) xs)
all_failed p [] = tt
all_failed p (x ∷ xs) = go (p x) refl (all_failed p xs)
  where
    go : (b : Bool) → p x ≡ b → AllByRecursion (λ y. p y ≡ false) (filter (λ y. not (p y)) xs) → AllByRecursion (λ y. p y ≡ false) (cond (not b) (x ∷ filter (λ y. not (p y)) xs) (filter (λ y. not (p y)) xs))
    go true is more = more
    go false is more = (is, more)

-- to none of the addresses to which a message goes it was sent less than 12 hours from its moment
pub goes_once : (a : Account) (mail : MailSpec) (targets : List Addr) → AllByRecursion (λ target. is_among_texts (known_targets a mail) (address_spelling target) ≡ false) (going a mail targets)
goes_once a mail targets =
    let P = λ (target : Addr). is_among_texts (known_targets a mail) (address_spelling target) ≡ false in
    let all = all_failed (λ (target : Addr). is_among_texts (known_targets a mail) (address_spelling target)) targets in
    all_taken P (most_sent - length (known_targets a mail)) (take (most_of_size (length mail.octets)) (take (room_in a) (fresh a mail targets)))
    (all_taken P (most_of_size (length mail.octets)) (take (room_in a) (fresh a mail targets)) (all_taken P (room_in a) (fresh a mail targets) all))

-- ---- what is kept

-- a moment that is kept is there until another one takes its place, as the same one may
stays : (message : List ℕ) (moment : ℕ) (handles : List (List ℕ)) (a : Account) (key : List ℕ × List ℕ) → get a.replies key ≡ Some moment → get (keeps_sent message moment handles a).replies key ≡ Some moment
stays message moment [] a key is = is
stays message moment (handle ∷ more) a key is =
    stays message moment more (keeps_moment (handle, message) moment a) key (get-insert reply_total a.replies (handle, message) moment key ∙ by (eq_by_cmp reply_cmp key (handle, message)))
  where
    by : (b : Bool) → cond b (Some moment) (get a.replies key) ≡ Some moment
    by true = refl
    by false = is

all_kept : (message : List ℕ) (moment : ℕ) (handle_for : Addr → List ℕ) (targets : List Addr) (a : Account)
    → AllByRecursion (λ target. get (keeps_sent message moment (map handle_for targets) a).replies (handle_for target, message) ≡ Some moment) targets
all_kept message moment handle_for [] a = tt
all_kept message moment handle_for (target ∷ more) a =
    let key : List ℕ × List ℕ = (handle_for target, message) in
    let first : get (keeps_moment key moment a).replies key ≡ Some moment = get-insert reply_total a.replies key moment key ∙ ap (λ b. cond b (Some moment) (get a.replies key)) ((eq_by_cmp_equiv reply_total).refl key) in
    (stays message moment (map handle_for more) (keeps_moment key moment a) key first, all_kept message moment handle_for more (keeps_moment key moment a))

-- of each address to which a message goes its moment is kept
pub keeps_going : (mail : MailSpec) (deeds : Actions) (over : List ReplyKey) (a : Account)
    → AllByRecursion (λ target. get (acts mail deeds over a).replies (sent_handle (half_of mail.moment) (redirect_key mail) (address_spelling target), redirect_key mail) ≡ Some mail.moment) deeds.sent
keeps_going mail deeds over a =
    all_kept (redirect_key mail) mail.moment (λ target. sent_handle (half_of mail.moment) (redirect_key mail) (address_spelling target)) deeds.sent (forgets over (redirects mail deeds.sent (files_copies deeds.filed mail.octets a)))
