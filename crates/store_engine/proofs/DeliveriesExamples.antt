-- Deliveries to several users together on small cases: what is right, and beside it what nearly is.
use Rattle.std.proofs.Common.{◌≡◌, ◌≢◌, ◌<◌, ℕ, zero, suc, List, [], ◌∷◌, codes, length, None, Some, option_map, slice_get, get_or, refl, sym, ap, ◌∙◌, subst, inl, inr, arith}
use Rattle.std.specs.Borrow.{Bor}
use Rattle.std.specs.FinMap.{get-empty}
use Rattle.std.proofs.lemmas.List.Elements.{All-cons, All-nil}
use Rattle.store_accounts.specs.Account.{bytes_cmp, Accounts, no_accounts, open_one}
use Rattle.store_accounts.specs.Deliveries.{HasNoUserTwice}
use Rattle.store_accounts.proofs.DeliveriesLemmas.{apart_cons}
use Rattle.store_accounts.specs.declared.refusal.Refusal.TheVariants.{NoUser, BadEnvelope}
use Rattle.store_engine.specs.declared.answer.Answer.{Answer}
use Rattle.store_engine.specs.declared.answer.Answer.TheVariants.{Refused}
use Rattle.store_engine.specs.declared.event.Event.TheVariants.{Deliver}
use Rattle.store_engine.specs.declared.parcel.Parcel.{Parcel}
use Rattle.store_engine.specs.AccountEvents.{absence, DeliversIn, Delivery}
use Rattle.store_engine.specs.Deliveries.{IsLongestFront, Deliveries, delivery_events}
use Rattle.store_engine.proofs.EventExamples.{alice, bob, envelope, message, at_five}

abbrev lent : List ℕ → Bor (List ℕ)
lent octets = record { ref_ptr = (0, 0); now = octets }

abbrev for_alice : Parcel
for_alice = record { user = lent alice; envelope = envelope; message = lent message }

abbrev for_bob : Parcel
for_bob = record { user = lent bob; envelope = envelope; message = lent message }

-- its sender is an LF, which no address may have
abbrev forged : Parcel
forged = record { user = lent bob; envelope = record { from = 10 ∷ []; to = codes "bob@example.org" }; message = lent message }

-- ---- which go together

alice_differs : alice ≢ bob
alice_differs same = let no : 5 ≡ 3 = ap (λ (l : List ℕ). length l) same in omega (arith, no)

each_once : HasNoUserTwice (alice ∷ bob ∷ [])
each_once = apart_cons alice (bob ∷ []) (All-cons (λ later. alice ≢ later) bob [] alice_differs (All-nil (λ later. alice ≢ later)))
    (apart_cons bob [] (All-nil (λ later. bob ≢ later)) (λ i j d before less. absurd (omega arith)))

-- before a second one for alice the front ends
before_the_second : IsLongestFront (for_alice ∷ for_bob ∷ for_alice ∷ []) 2
before_the_second = record { within = omega arith; once = each_once; ends = inr (for_alice, refl, (0, omega arith, refl)) }

-- and else with the last one
with_the_last : IsLongestFront (for_alice ∷ for_bob ∷ []) 2
with_the_last = record { within = omega arith; once = each_once; ends = inl refl }

-- near miss: the second one for alice goes with the first
second_goes_too : IsLongestFront (for_alice ∷ for_bob ∷ for_alice ∷ []) 3 → ⊥
second_goes_too is = is.once 0 2 [] (omega arith) (omega arith) refl

-- near miss: one that might go is left
one_is_left : IsLongestFront (for_alice ∷ for_bob ∷ []) 1 → ⊥
one_is_left is = elim is.ends [ inl all ↦ omega (arith, all) | inr more ↦ go more.0 more.1 more.2.0 more.2.1 more.2.2 ]
  where
    go : (p : Parcel) → slice_get (for_alice ∷ for_bob ∷ []) 1 ≡ Some p → (k : ℕ) → k < 1 → get_or (alice ∷ []) k p.user.now ≡ p.user.now → ⊥
    go p has zero less same =
        let whose : Some bob ≡ Some p.user.now = ap (option_map (λ (q : Parcel). q.user.now)) has in
        let bobs : bob ≡ p.user.now = cc in
        alice_differs (same ∙ sym bobs)
    go p has (suc k) less same = omega (arith, less)

-- ---- what they are to the accounts

-- nobody has an account
unknown : (p : Parcel) (name : List ℕ) → p.user.now ≡ name → DeliversIn no_accounts name at_five p.envelope p.message.now (open_one None) (Refused NoUser) no_accounts
unknown p name is = record { refused = ap Refused (sym (ap absence (get-empty bytes_cmp name))); stays = refl }

unknown_alice : Delivery no_accounts alice envelope message at_five (Refused NoUser) no_accounts
unknown_alice = subst (λ o. DeliversIn no_accounts alice at_five envelope message o (Refused NoUser) no_accounts) (sym (ap open_one (get-empty bytes_cmp alice))) (unknown for_alice alice refl)

unknown_bob : Delivery no_accounts bob envelope message at_five (Refused NoUser) no_accounts
unknown_bob = subst (λ o. DeliversIn no_accounts bob at_five envelope message o (Refused NoUser) no_accounts) (sym (ap open_one (get-empty bytes_cmp bob))) (unknown for_bob bob refl)

-- each has its own answer: that of a limit, and that of an account that isn't there
own_answers : Deliveries at_five (forged ∷ for_alice ∷ for_bob ∷ []) (Refused BadEnvelope ∷ Refused NoUser ∷ Refused NoUser ∷ []) no_accounts no_accounts
own_answers = (no_accounts, record { refused = refl; stays = refl }, (no_accounts, unknown_alice, (no_accounts, unknown_bob, refl)))

-- the envelope of the one is no fault of the other's
not_forged : (answer : Answer) (later : Accounts) → Delivery no_accounts alice envelope message at_five answer later → answer ≡ Refused NoUser
not_forged answer later is =
    let why = subst (λ o. DeliversIn no_accounts alice at_five envelope message o answer later) (ap open_one (get-empty bytes_cmp alice)) is in
    why.refused ∙ ap Refused (ap absence (get-empty bytes_cmp alice))

-- near miss: one is refused, and so all are
all_refused : (later : Accounts) → Deliveries at_five (forged ∷ for_alice ∷ []) (Refused BadEnvelope ∷ Refused BadEnvelope ∷ []) no_accounts later → ⊥
all_refused later is =
    let first : is.0 ≡ no_accounts = is.1.stays in
    let no : Refused BadEnvelope ≡ Refused NoUser = not_forged (Refused BadEnvelope) is.2.0 (subst (λ all. Delivery all alice envelope message at_five (Refused BadEnvelope) is.2.0) first is.2.1) in
    cc

-- near miss: the answers are in another order
answered_in_another_order : (later : Accounts) → Deliveries at_five (forged ∷ for_alice ∷ []) (Refused NoUser ∷ Refused BadEnvelope ∷ []) no_accounts later → ⊥
answered_in_another_order later is = let no : Refused NoUser ≡ Refused BadEnvelope = is.1.refused in cc

-- near misses: one is answered that wasn't delivered, or delivered and not answered
one_answer_more : (first second : Answer) (later : Accounts) → Deliveries at_five (for_alice ∷ []) (first ∷ second ∷ []) no_accounts later → ⊥
one_answer_more first second later is = is.2

one_answer_less : (first : Answer) (later : Accounts) → Deliveries at_five (for_alice ∷ for_bob ∷ []) (first ∷ []) no_accounts later → ⊥
one_answer_less first later is = is.2

-- ---- as events

in_order : delivery_events at_five (for_alice ∷ for_bob ∷ []) ≡ Deliver alice envelope message at_five ∷ Deliver bob envelope message at_five ∷ []
in_order = refl
