-- What is kept of a message that was sent on is found when it comes again.
use Rattle.std.proofs.Common.{◌≡◌, ◌⊎◌, ◌+◌, ◌-◌, ◌&&◌, ◌||◌, ℕ, Bool, true, false, not, cond, nat_eq, nat_lt, length, drop, filter, map, is_some, List, [], ◌∷◌, ◌++◌, Some, refl, sym, ap, ◌∙◌, inl, inr, subst, arith}
use Rattle.std.specs.Prelude.{T, flat_map}
use Rattle.std.specs.Cmp.{eq_by_cmp_equiv, nat_cmp_total}
use Rattle.std.specs.Cmp.Lexicographic.{pointwise}
use Rattle.std.specs.FinMap.{get, keys, contains_key-keys}
use Rattle.std.specs.List.{list_any}
use Rattle.std.specs.Ordering.{eq_by_cmp, is_eq, is_lt, nat_cmp, ordering_then}
use Rattle.std.specs.declared.cmp.Ordering.{Ordering}
use Rattle.std.specs.declared.cmp.Ordering.TheVariants.{Less, Equal, Greater}
use Rattle.std.proofs.Math.Dec.{eqb_refl}
use Rattle.std.proofs.Math.Seq.{drop-append_seam}
use Rattle.std.proofs.lemmas.Bool.{ltb-false, ltb-true}
use Rattle.std.proofs.lemmas.List.{append_assoc, take_all}
use Rattle.std.proofs.lemmas.List.Folds.{list_any-append}
use Rattle.std.proofs.lemmas.Map.Views.{any-filter_same}
use Rattle.mail_head.specs.Heads.{body_of}
use Rattle.sieve_exec.specs.Mails.{MailSpec}
use Rattle.store_accounts.specs.Account.{Account, ReplyMoments, bytes_cmp, reply_cmp}
use Rattle.store_accounts.specs.ReplyRows.{first_between, is_key_between, reply_key_of}
use Rattle.store_accounts.specs.declared.reply.ReplyKey.{ReplyKey}
use Rattle.store_accounts.proofs.AccountLemmas.{reply_antisymmetric}
use Rattle.sieve_plan.specs.Few.{AreFew}
use Rattle.sieve_plan.specs.Sent.{half_day, half_handle, half_of, message_id_of, is_among_texts, is_near, is_near_if, key_of, named_by, names_by, near_targets, redirect_key, sent_end, sent_handle, known_in_half, known_targets, known_under}

-- ---- tests

or_true : (b : Bool) → (b || true) ≡ true
or_true true = refl
or_true false = refl

tied : (o : Ordering) → is_eq o ≡ true → o ≡ Equal
tied Less is = let never : false ≡ true = is in cc
tied Equal is = refl
tied Greater is = let never : false ≡ true = is in cc

same_number : (n : ℕ) → nat_cmp n n ≡ Equal
same_number n = tied (nat_cmp n n) ((eq_by_cmp_equiv nat_cmp_total).refl n)

same_octet : (n : ℕ) → nat_eq n n ≡ true
same_octet n = go (nat_eq n n) (eqb_refl n)
  where
    go : (b : Bool) → T b → b ≡ true
    go true is = refl
    go false is = absurd is

same_text : (text : List ℕ) → pointwise nat_eq text text ≡ true
same_text [] = refl
same_text (octet ∷ text) = ap (λ b. b && pointwise nat_eq text text) (same_octet octet) ∙ same_text text

-- ---- the range of a message and a half day

-- what stands before both counts for nothing
cmp_behind : (front one two : List ℕ) → bytes_cmp (front ++ one) (front ++ two) ≡ bytes_cmp one two
cmp_behind [] one two = refl
cmp_behind (octet ∷ front) one two = ap (λ o. ordering_then o (bytes_cmp (front ++ one) (front ++ two))) (same_number octet) ∙ cmp_behind front one two

not_before_nothing : (text : List ℕ) → is_lt (bytes_cmp text []) ≡ false
not_before_nothing [] = refl
not_before_nothing (octet ∷ text) = refl

between : (half : ℕ) (key target sender : List ℕ) → is_key_between (sent_handle half key []) (sent_end half key) (sent_handle half key target, sender) ≡ true
between half key target sender =
    let front = half_handle half ++ key in
    ap (λ o. not (is_lt o) && is_lt (bytes_cmp (front ++ 0 ∷ target) (front ++ 1 ∷ []))) (cmp_behind front (0 ∷ target) (0 ∷ []))
    ∙ (ap (λ o. not (is_lt (bytes_cmp target [])) && is_lt o) (cmp_behind front (0 ∷ target) (1 ∷ [])) ∙ ap (λ b. not b && true) (not_before_nothing target))

read_back : (half : ℕ) (key target : List ℕ) → drop (length (sent_handle half key [])) (sent_handle half key target) ≡ target
read_back half key target =
    let front = half_handle half ++ key in
    ap (drop (length (front ++ 0 ∷ []))) (sym (append_assoc front (0 ∷ []) target)) ∙ drop-append_seam (front ++ 0 ∷ []) target

-- ---- what is kept is found

same_key : (one two : List ℕ × List ℕ) → eq_by_cmp reply_cmp one two ≡ true → one ≡ two
same_key one two is = reply_antisymmetric one two (tied (reply_cmp one two) is)

in_range : (replies : ReplyMoments) (from below : List ℕ) (key : List ℕ × List ℕ) (kept : ℕ) → get replies key ≡ Some kept → is_key_between from below key ≡ true
    → list_any (eq_by_cmp reply_cmp key) (filter (is_key_between from below) (keys replies)) ≡ true
in_range replies from below key kept is within =
    any-filter_same (eq_by_cmp reply_cmp key) (is_key_between from below) true (λ other same. ap (is_key_between from below) (sym (same_key key other same)) ∙ within) (keys replies)
    ∙ (sym (contains_key-keys replies key) ∙ ap is_some is)

-- one key more, which is the one that is looked for, or another one
this_one : (near : Bool) (key : ReplyKey) (rest : List ReplyKey) (before : ℕ) (target : List ℕ) → near ≡ true → drop before key.handle ≡ target → is_among_texts (map (λ k. drop before k.handle) (cond near (key ∷ rest) rest)) target ≡ true
this_one near key rest before target is behind =
    ap (λ b. is_among_texts (map (λ (k : ReplyKey). drop before k.handle) (cond b (key ∷ rest) rest)) target) is
    ∙ ap (λ b. b || is_among_texts (map (λ (k : ReplyKey). drop before k.handle) rest) target) (ap (λ t. pointwise nat_eq t target) behind ∙ same_text target)

other_one : (near : Bool) (key : ReplyKey) (rest : List ReplyKey) (before : ℕ) (target : List ℕ) → is_among_texts (map (λ k. drop before k.handle) rest) target ≡ true → is_among_texts (map (λ k. drop before k.handle) (cond near (key ∷ rest) rest)) target ≡ true
other_one true key rest before target is = ap (λ b. pointwise nat_eq (drop before key.handle) target || b) is ∙ or_true (pointwise nat_eq (drop before key.handle) target)
other_one false key rest before target is = is

near_found : (a : Account) (moment before kept : ℕ) (key : List ℕ × List ℕ) (target : List ℕ) (all : List (List ℕ × List ℕ)) → get a.replies key ≡ Some kept → is_near moment kept ≡ true → drop before key.0 ≡ target
    → list_any (eq_by_cmp reply_cmp key) all ≡ true → is_among_texts (near_targets a moment before (map reply_key_of all)) target ≡ true
near_found a moment before kept key target [] is near behind found = let never : false ≡ true = found in cc
near_found a moment before kept key target (other ∷ all) is near behind found = go (λ more. near_found a moment before kept key target all is near behind more) (eq_by_cmp reply_cmp key other) refl found
  where
    go : (list_any (eq_by_cmp reply_cmp key) all ≡ true → is_among_texts (near_targets a moment before (map reply_key_of all)) target ≡ true) → (b : Bool) → eq_by_cmp reply_cmp key other ≡ b → (b || list_any (eq_by_cmp reply_cmp key) all) ≡ true → is_among_texts (near_targets a moment before (map reply_key_of (other ∷ all))) target ≡ true
    go deeper true same more =
        let as_key : key ≡ other = same_key key other same in
        this_one (is_near_if moment (get a.replies (other.0, other.1))) (reply_key_of other) (filter (λ k. is_near_if moment (get a.replies (k.handle, k.sender))) (map reply_key_of all)) before target
        (ap (λ (k : List ℕ × List ℕ). is_near_if moment (get a.replies (k.0, k.1))) (sym as_key) ∙ (ap (is_near_if moment) is ∙ near)) (ap (λ (k : List ℕ × List ℕ). drop before k.0) (sym as_key) ∙ behind)
    go deeper false same more =
        other_one (is_near_if moment (get a.replies (other.0, other.1))) (reply_key_of other) (filter (λ k. is_near_if moment (get a.replies (k.handle, k.sender))) (map reply_key_of all)) before target (deeper more)

in_half : (a : Account) (moment kept half : ℕ) (key target : List ℕ) → get a.replies (sent_handle half key target, key) ≡ Some kept → is_near moment kept ≡ true → AreFew a key half → is_among_texts (known_in_half a moment key half) target ≡ true
in_half a moment kept half key target is near few =
    let place : List ℕ × List ℕ = (sent_handle half key target, key) in
    near_found a moment (length (sent_handle half key [])) kept place target (first_between (sent_handle half key []) (sent_end half key) a.replies) is near (read_back half key target)
    (ap (list_any (eq_by_cmp reply_cmp place)) (take_all 32 (filter (is_key_between (sent_handle half key []) (sent_end half key)) (keys a.replies)) few)
    ∙ in_range a.replies (sent_handle half key []) (sent_end half key) place kept is (between half key target key))

-- ---- in one of three half days, and under one of the keys

among_left : (one two : List (List ℕ)) (text : List ℕ) → is_among_texts one text ≡ true → is_among_texts (one ++ two) text ≡ true
among_left one two text is = list_any-append (λ other. pointwise nat_eq other text) one two ∙ ap (λ b. b || is_among_texts two text) is

among_right : (one two : List (List ℕ)) (text : List ℕ) → is_among_texts two text ≡ true → is_among_texts (one ++ two) text ≡ true
among_right one two text is = list_any-append (λ other. pointwise nat_eq other text) one two ∙ (ap (λ b. is_among_texts one text || b) is ∙ or_true (is_among_texts one text))

both_true : (one two : Bool) → (one && two) ≡ true → (one ≡ true) × (two ≡ true)
both_true true two is = (refl, is)
both_true false two is = let never : false ≡ true = is in cc

-- the half day of a moment that is near
half_near : (moment kept : ℕ) → is_near moment kept ≡ true → (half_of kept ≡ half_of moment - 1) ⊎ ((half_of kept ≡ half_of moment) ⊎ (half_of kept ≡ half_of moment + 1))
half_near moment kept near = go (nat_lt (half_of kept) (half_of moment)) refl (nat_lt (half_of moment) (half_of kept)) refl
  where
    two : (nat_lt moment (kept + half_day) ≡ true) × (nat_lt kept (moment + half_day) ≡ true)
    two = both_true (nat_lt moment (kept + half_day)) (nat_lt kept (moment + half_day)) near

    go : (early : Bool) → nat_lt (half_of kept) (half_of moment) ≡ early → (late : Bool) → nat_lt (half_of moment) (half_of kept) ≡ late → (half_of kept ≡ half_of moment - 1) ⊎ ((half_of kept ≡ half_of moment) ⊎ (half_of kept ≡ half_of moment + 1))
    go true is late at =
        let one = ltb-true moment (kept + half_day) two.0 in
        let below = ltb-true (half_of kept) (half_of moment) is in
        inl (omega arith)
    go false is true at =
        let one = ltb-true kept (moment + half_day) two.1 in
        let above = ltb-true (half_of moment) (half_of kept) at in
        inr (inr (omega arith))
    go false is false at =
        let one = ltb-false (half_of kept) (half_of moment) is in
        let other = ltb-false (half_of moment) (half_of kept) at in
        inr (inl (omega arith))

under_key : (a : Account) (moment kept : ℕ) (key target : List ℕ) → get a.replies (sent_handle (half_of kept) key target, key) ≡ Some kept → is_near moment kept ≡ true → AreFew a key (half_of kept) → is_among_texts (known_under a moment key) target ≡ true
under_key a moment kept key target is near few = go (half_near moment kept near)
  where
    there : is_among_texts (known_in_half a moment key (half_of kept)) target ≡ true
    there = in_half a moment kept (half_of kept) key target is near few

    go : (half_of kept ≡ half_of moment - 1) ⊎ ((half_of kept ≡ half_of moment) ⊎ (half_of kept ≡ half_of moment + 1)) → is_among_texts (known_under a moment key) target ≡ true
    go (inl at) =
        among_left (known_in_half a moment key (half_of moment - 1)) (known_in_half a moment key (half_of moment) ++ (known_in_half a moment key (half_of moment + 1) ++ [])) target (subst (λ h. is_among_texts (known_in_half a moment key h) target ≡ true) at there)
    go (inr (inl at)) =
        among_right (known_in_half a moment key (half_of moment - 1)) (known_in_half a moment key (half_of moment) ++ (known_in_half a moment key (half_of moment + 1) ++ [])) target
        (among_left (known_in_half a moment key (half_of moment)) (known_in_half a moment key (half_of moment + 1) ++ []) target (subst (λ h. is_among_texts (known_in_half a moment key h) target ≡ true) at there))
    go (inr (inr at)) =
        among_right (known_in_half a moment key (half_of moment - 1)) (known_in_half a moment key (half_of moment) ++ (known_in_half a moment key (half_of moment + 1) ++ [])) target
        (among_right (known_in_half a moment key (half_of moment)) (known_in_half a moment key (half_of moment + 1) ++ []) target
        (among_left (known_in_half a moment key (half_of moment + 1)) [] target (subst (λ h. is_among_texts (known_in_half a moment key h) target ≡ true) at there)))

own_key : (a : Account) (moment : ℕ) (id body target : List ℕ) → is_among_texts (known_under a moment (key_of (named_by id body))) target ≡ true → is_among_texts (flat_map (known_under a moment) (map key_of (names_by id body))) target ≡ true
own_key a moment [] body target is = among_left (known_under a moment (key_of (2 ∷ body))) [] target is
own_key a moment (octet ∷ id) body target is = among_left (known_under a moment (key_of (1 ∷ (octet ∷ id)))) (known_under a moment (key_of (2 ∷ body)) ++ []) target is

body_key : (a : Account) (moment : ℕ) (id body target : List ℕ) → is_among_texts (known_under a moment (key_of (2 ∷ body))) target ≡ true → is_among_texts (flat_map (known_under a moment) (map key_of (names_by id body))) target ≡ true
body_key a moment [] body target is = among_left (known_under a moment (key_of (2 ∷ body))) [] target is
body_key a moment (octet ∷ id) body target is =
    among_right (known_under a moment (key_of (1 ∷ (octet ∷ id)))) (known_under a moment (key_of (2 ∷ body)) ++ []) target (among_left (known_under a moment (key_of (2 ∷ body))) [] target is)

-- an address whose moment is near is among those to which the message was sent
pub found_again : (a : Account) (mail : MailSpec) (kept : ℕ) (target : List ℕ) → get a.replies (sent_handle (half_of kept) (redirect_key mail) target, redirect_key mail) ≡ Some kept → is_near mail.moment kept ≡ true
    → AreFew a (redirect_key mail) (half_of kept) → is_among_texts (known_targets a mail) target ≡ true
found_again a mail kept target is near few = own_key a mail.moment (message_id_of mail) (body_of mail.octets) target (under_key a mail.moment kept (redirect_key mail) target is near few)

-- so it is where it was kept while the message had no Message-ID, whatever its Message-ID now
pub found_by_body : (a : Account) (mail : MailSpec) (kept : ℕ) (target : List ℕ)
    → get a.replies (sent_handle (half_of kept) (key_of (2 ∷ body_of mail.octets)) target, key_of (2 ∷ body_of mail.octets)) ≡ Some kept → is_near mail.moment kept ≡ true → AreFew a (key_of (2 ∷ body_of mail.octets)) (half_of kept)
    → is_among_texts (known_targets a mail) target ≡ true
found_by_body a mail kept target is near few = body_key a mail.moment (message_id_of mail) (body_of mail.octets) target (under_key a mail.moment kept (key_of (2 ∷ body_of mail.octets)) target is near few)
