-- Reads of an account that was entered, in turn, and maybe none.
use Rattle.std.proofs.Common.{◌≡◌, ℕ, ◌+◌, ◌-◌, ◌<◌, ◌==◌, Bool, true, false, cond, length, get_or, map, filter, take, drop, List, [], ◌∷◌, ◌++◌, Option, Some, None, Ok, Err, Result, OnOk, IfOk, IfErr, IfSome, IsTrue, refl, sym, ap, ◌∙◌, subst}
use Rattle.std.specs.Prelude.{flat_map}
use Rattle.std.proofs.lemmas.Bool.{eqb-true, false≢true}
use Rattle.std.proofs.lemmas.Grind.{flat_map-append}
use Rattle.std.proofs.lemmas.List.{append-nil, append_assoc, map-append, nil_from_length, take_more}
use Rattle.std.proofs.lemmas.List.Elements.{filter_more}
use Rattle.std.specs.FinMap.{get}
use Rattle.sqlite.specs.State.{State, HasCleanDisk}
use Rattle.mail_address.specs.declared.address.Addr.{Addr}
use Rattle.mail_address.specs.Outbound.{IsBareAddress}
use Rattle.sieve_syntax.specs.Meaning.{Actions}
use Rattle.sieve_exec.specs.Mails.{MailSpec}
use Rattle.sieve_plan.specs.declared.view.AccountView.{AccountView}
use Rattle.sieve_plan.specs.Sent.{half_of, is_near_if, near_targets, over_keys, known_in_half, known_targets, known_under}
use Rattle.sieve_plan.specs.Views.{asks_room, known_of, last_of}
use Rattle.store_tables.proofs.ResultLemmas.{on_any, on_ok}
use Rattle.store_accounts.specs.declared.refusal.Refusal.{Refusal}
use Rattle.store_accounts.specs.Account.{Account, room_in}
use Rattle.store_accounts.specs.Promises.{ReadsEntered}
use Rattle.store_accounts.specs.declared.reply.ReplyKey.{ReplyKey}
use Rattle.store_accounts.specs.Refusals.{IsTransient}
use Rattle.store_accounts.proofs.AfterLemmas.{seen_before, seen_failed, seen_none, seen_ok, seen_read, seen_shows, seen_then}
use Rattle.store_accounts.proofs.KeepLemmas.{none_if, none_ok}
use Rattle.store_engine.specs.Lookups.{IsRecalled, Recalls}

if_there : {X : Type 0} (Part : X → Account → Type 0) (q : Result X Refusal) (o : Option Account) → ((a : Account) → IfOk q (λ x. Part x a)) → IfOk q (λ x. IfSome o (Part x))
if_there Part (Err e) o made = tt
if_there Part (Ok x) None made = tt
if_there Part (Ok x) (Some a) made = made a

-- nothing is read
pub recalls_none : {X : Type 0} (user : List ℕ) (Part : X → Account → Type 0) (s : State) (q : Result X Refusal) → IfErr q IsTransient → ((a : Account) → IfOk q (λ x. Part x a)) → Recalls user Part s s q
recalls_none user Part s q transient made = record {
  found = λ clean accounts p. if_there Part q (get accounts user) made;
  keeps = seen_none s q;
  live = λ clean is_open. on_any q (IsTrue s.is_open) is_open;
  shut = λ clean is_open. is_open;
  named = transient;
}

pub recalls_unmade : {X : Type 0} (user : List ℕ) (Part : X → Account → Type 0) (s : State) (q : Result X Refusal) → OnOk q ⊥ → IfErr q IsTransient → Recalls user Part s s q
recalls_unmade user Part s q none transient = recalls_none user Part s q transient (λ a. none_if q (λ x. Part x a) none)

-- one query
pub recalls_read : {X : Type 0} (user : List ℕ) (Part : X → Account → Type 0) (a b : State) (q : Result X Refusal) → ReadsEntered user Part a b q → Recalls user Part a b q
recalls_read user Part a b q h = record {
  found = h.found;
  keeps = seen_read a b q h.keeps;
  live = λ clean is_open. h.keeps.live clean;
  shut = h.keeps.shut;
  named = h.named;
}

-- after one that was open this is a read
pub recalls_entered : {X : Type 0} (user : List ℕ) (Part : X → Account → Type 0) (a b : State) (q : Result X Refusal) → (HasCleanDisk b → IsTrue a.is_open) → Recalls user Part a b q → ReadsEntered user Part a b q
recalls_entered user Part a b q is_open h = record {
  found = h.found;
  keeps = record { same = h.keeps.same; live = λ clean. h.live clean (is_open clean); shut = h.shut; crash = h.keeps.crash };
  named = h.named;
}

-- whether there is something to ask for
pub none_to_ask : {X : Type 0} (xs : List X) → (length xs == 0) ≡ true → xs ≡ []
none_to_ask xs none = nil_from_length xs (eqb-true (length xs) 0 none)

pub some_to_ask : {X : Type 0} (xs : List X) → (length xs == 0) ≡ false → xs ≡ [] → ⊥
some_to_ask xs some none = false≢true (sym some ∙ ap (λ l. length l == 0) none)

-- ---- another answer

other_part : {X Y : Type 0} (P : X → Account → Type 0) (Q : Y → Account → Type 0) (x : X) (q : Result Y Refusal) (o : Option Account) → ((a : Account) → P x a → IfOk q (λ y. Q y a)) → IfSome o (P x) → IfOk q (λ y. IfSome o (Q y))
other_part P Q x (Err e) o made h = tt
other_part P Q x (Ok y) None made h = tt
other_part P Q x (Ok y) (Some a) made h = made a h

module _ {X Y : Type 0} (user : List ℕ) (P : X → Account → Type 0) (Q : Y → Account → Type 0) (a b : State) (r : Result X Refusal) (h : Recalls user P a b r) (q : Result Y Refusal) where
  pub recalls_other : (x : X) → r ≡ Ok x → IfErr q IsTransient → ((account : Account) → P x account → IfOk q (λ y. Q y account)) → Recalls user Q a b q
  recalls_other x was named made = record {
    found = λ clean accounts p. other_part P Q x q (get accounts user) made (subst (λ o. IfOk o (λ z. IfSome (get accounts user) (P z))) was (h.found clean accounts p));
    keeps = seen_ok a b r x q was h.keeps;
    live = λ clean is_open. on_any q (IsTrue b.is_open) (on_ok r x was (IsTrue b.is_open) (h.live clean is_open));
    shut = h.shut;
    named = named;
  }

  pub recalls_failed : OnOk q ⊥ → IfErr q IsTransient → Recalls user Q a b q
  recalls_failed none named = record {
    found = λ clean accounts p. none_if q (λ y. IfSome (get accounts user) (Q y)) none;
    keeps = seen_failed a b r q none h.keeps;
    live = λ clean is_open. none_ok q (IsTrue b.is_open) none;
    shut = h.shut;
    named = named;
  }

-- what was read says this too
pub recalls_told : {X : Type 0} (user : List ℕ) (P Q : X → Account → Type 0) (a b : State) (r : Result X Refusal) → ((x : X) (account : Account) → P x account → Q x account) → Recalls user P a b r → Recalls user Q a b r
recalls_told {X} user P Q a b r tells h = record { found = λ clean accounts p. told (get accounts user) r (h.found clean accounts p); keeps = h.keeps; live = h.live; shut = h.shut; named = h.named }
  where
    told : (o : Option Account) (q : Result X Refusal) → IfOk q (λ x. IfSome o (P x)) → IfOk q (λ x. IfSome o (Q x))
    told o (Err e) h = tt
    told None (Ok x) h = tt
    told (Some account) (Ok x) h = tells x account h

-- ---- one after the other

both_parts : {X Y Z : Type 0} (P : X → Account → Type 0) (Q : Y → Account → Type 0) (R : Z → Account → Type 0) (x : X) (y : Y) (z : Z) (o : Option Account) → ((a : Account) → P x a → Q y a → R z a) → IfSome o (P x) → IfSome o (Q y) → IfSome o (R z)
both_parts P Q R x y z None both one two = tt
both_parts P Q R x y z (Some a) both one two = both a one two

module _ {X Y : Type 0} (user : List ℕ) (P : X → Account → Type 0) (Q : Y → Account → Type 0) (a b c : State) (r : Result X Refusal) (x : X) (was : r ≡ Ok x) (early : Recalls user P a b r) (q : Result Y Refusal) (late : Recalls user Q b c q) where
  clean_mid : HasCleanDisk c → HasCleanDisk b
  clean_mid = seen_before a b c r x was early.keeps q late.keeps

  mid_open : HasCleanDisk c → IsTrue a.is_open → IsTrue b.is_open
  mid_open clean is_open = on_ok r x was (IsTrue b.is_open) (early.live (clean_mid clean) is_open)

  pub recalls_both : (y : Y) → q ≡ Ok y → {Z : Type 0} (R : Z → Account → Type 0) (z : Z) → ((account : Account) → P x account → Q y account → R z account) → Recalls user R a c (Ok z)
  recalls_both y is R z both = record {
    found = λ clean accounts p.
        both_parts P Q R x y z (get accounts user) both (subst (λ o. IfOk o (λ w. IfSome (get accounts user) (P w))) was (early.found (clean_mid clean) accounts p))
        (subst (λ o. IfOk o (λ w. IfSome (get accounts user) (Q w))) is (late.found clean accounts (seen_shows a b c r x was early.keeps q late.keeps clean accounts p)));
    keeps = seen_ok a c q y (Ok z) is (seen_then a b c r x was early.keeps q late.keeps);
    live = λ clean is_open. on_ok q y is (IsTrue c.is_open) (late.live clean (mid_open clean is_open));
    shut = λ clean is_open. early.shut (clean_mid clean) (late.shut clean is_open);
    named = tt;
  }

  pub recalls_both_failed : {Z : Type 0} (R : Z → Account → Type 0) (end : Result Z Refusal) → OnOk end ⊥ → IfErr end IsTransient → Recalls user R a c end
  recalls_both_failed R end none named = record {
    found = λ clean accounts p. none_if end (λ z. IfSome (get accounts user) (R z)) none;
    keeps = seen_failed a c q end none (seen_then a b c r x was early.keeps q late.keeps);
    live = λ clean is_open. none_ok end (IsTrue c.is_open) none;
    shut = λ clean is_open. early.shut (clean_mid clean) (late.shut clean is_open);
    named = named;
  }

-- what was read before, and this
abbrev pub Besides : {X Y : Type 0} → (X → Account → Type 0) → X → (Y → Account → Type 0) → Y → Account → Type 0
Besides P x Q y a = P x a × Q y a

pub recalls_besides : {X Y : Type 0} (user : List ℕ) (P : X → Account → Type 0) (Q : Y → Account → Type 0) (a b c : State) (r : Result X Refusal) (x : X) → r ≡ Ok x → Recalls user P a b r → (q : Result Y Refusal) → Recalls user Q b c q
    → (y : Y) → q ≡ Ok y → Recalls user (Besides P x Q) a c (Ok y)
recalls_besides user P Q a b c r x was early q late y is = recalls_both user P Q a b c r x was early q late y is (Besides P x Q) y (λ account one two. (one, two))

-- and what the second one answers is the answer
pub recalls_then : {X Y : Type 0} (user : List ℕ) (P : X → Account → Type 0) (Q R : Y → Account → Type 0) (a b c : State) (r : Result X Refusal) (x : X) → r ≡ Ok x → Recalls user P a b r → (q : Result Y Refusal) → Recalls user Q b c q
    → ((y : Y) (account : Account) → P x account → Q y account → R y account) → Recalls user R a c q
recalls_then user P Q R a b c r x was early (Ok y) late both = recalls_both user P Q a b c r x was early (Ok y) late y refl R y (both y)
recalls_then user P Q R a b c r x was early (Err e) late both = recalls_both_failed user P Q a b c r x was early (Err e) late R (Err e) tt late.named

-- ---- what a delivery has to know

pub deeds_recalled : (view : AccountView) (address : Addr) (mail : MailSpec) (deeds : Actions) (a : Account) → view.address ≡ address → view.last ≡ last_of a mail.from deeds.reply → view.known ≡ known_of a mail deeds.sent
    → (asks_room deeds ≡ true → view.room ≡ room_in a) → view.over ≡ over_keys a mail.moment → IsRecalled view address mail deeds a
deeds_recalled view address mail deeds a same last known room over =
    record { same = same; of = λ bare. record { address = subst (IsBareAddress a.address) (sym same) bare; last = last; known = known; room = room; over = over } }

-- ---- where a message was sent

-- behind what is known, what was found
abbrev pub Adds : (Account → List (List ℕ)) → List (List ℕ) → List (List ℕ) → Account → Type 0
Adds found known all a = all ≡ known ++ found a

-- a thing more, or not
one_more : {X : Type 0} (f : X → List ℕ) (b : Bool) (x : X) (xs : List X) (known all : List (List ℕ)) → all ≡ known ++ map f xs → cond b (all ++ f x ∷ []) all ≡ known ++ map f (xs ++ cond b (x ∷ []) [])
one_more f true x xs known all is = ap (λ l. l ++ f x ∷ []) is ∙ (append_assoc known (map f xs) (f x ∷ []) ∙ ap (λ l. known ++ l) (sym (map-append f xs (x ∷ []))))
one_more f false x xs known all is = is ∙ ap (λ l. known ++ map f l) (sym (append-nil xs))

-- one key more was looked at
pub near_more : (a : Account) (moment before : ℕ) (keys : List ReplyKey) (i : ℕ) (key : ReplyKey) (known all next : List (List ℕ)) (kept : Option ℕ) (near : Bool) → i < length keys → key ≡ get_or keys i key
    → all ≡ known ++ near_targets a moment before (take i keys) → kept ≡ get a.replies (key.handle, key.sender) → is_near_if moment kept ≡ near → next ≡ cond near (all ++ drop before key.handle ∷ []) all → next ≡ known ++ near_targets a moment before (take (i + 1) keys)
near_more a moment before keys i key known all next kept near within item so_far found test is =
    let f : ReplyKey → List ℕ = λ k. drop before k.handle in
    let p : ReplyKey → Bool = λ k. is_near_if moment (get a.replies (k.handle, k.sender)) in
    let tested : near ≡ p key = sym test ∙ ap (is_near_if moment) found in
    let more : filter p (take (i + 1) keys) ≡ filter p (take i keys) ++ cond (p key) (key ∷ []) [] = filter_more p keys i key within ∙ ap (λ k. filter p (take i keys) ++ cond (p k) (k ∷ []) []) (sym item) in
    is ∙ (ap (λ b. cond b (all ++ drop before key.handle ∷ []) all) tested ∙ (one_more f (p key) key (filter p (take i keys)) known all so_far ∙ ap (λ l. known ++ map f l) (sym more)))

-- one half day behind the other, and one key behind the other
pub three_halves : (a : Account) (moment : ℕ) (key : List ℕ) (known early here late : List (List ℕ)) → early ≡ known ++ known_in_half a moment key (half_of moment - 1) → here ≡ early ++ known_in_half a moment key (half_of moment) → late ≡ here ++ known_in_half a moment key (half_of moment + 1)
    → late ≡ known ++ known_under a moment key
three_halves a moment key known early here late is_early is_here is_late =
    let one = known_in_half a moment key (half_of moment - 1) in
    let two = known_in_half a moment key (half_of moment) in
    let three = known_in_half a moment key (half_of moment + 1) in
    is_late
    ∙ (ap (λ l. l ++ three) (is_here ∙ ap (λ l. l ++ two) is_early)
    ∙ (append_assoc (known ++ one) two three
    ∙ (append_assoc known one (two ++ three) ∙ ap (λ l. known ++ (one ++ (two ++ l))) (sym (append-nil three)))))

pub keys_more : (a : Account) (moment : ℕ) (keys : List (List ℕ)) (i : ℕ) (key : List ℕ) (known next : List (List ℕ)) → i < length keys → key ≡ get_or keys i key → known ≡ flat_map (known_under a moment) (take i keys) → next ≡ known ++ known_under a moment key
    → next ≡ flat_map (known_under a moment) (take (i + 1) keys)
keys_more a moment keys i key known next within item so_far is =
    let f = known_under a moment in
    is
    ∙ (ap (λ l. l ++ f key) so_far
    ∙ (sym (flat_map_last f (take i keys) key) ∙ ap (flat_map f) (sym (take_more keys i key within ∙ ap (λ k. take i keys ++ k ∷ []) (sym item)))))
  where
    flat_map_last : (f : List ℕ → List (List ℕ)) (xs : List (List ℕ)) (x : List ℕ) → flat_map f (xs ++ x ∷ []) ≡ flat_map f xs ++ f x
    flat_map_last f xs x = flat_map-append f xs (x ∷ []) ∙ ap (λ l. flat_map f xs ++ l) (append-nil (f x))

-- where it was sent, if it is to be sent on
pub known_some : (a : Account) (mail : MailSpec) (targets : List Addr) → (targets ≡ [] → ⊥) → known_targets a mail ≡ known_of a mail targets
known_some a mail [] some = absurd (some refl)
known_some a mail (target ∷ more) some = refl
