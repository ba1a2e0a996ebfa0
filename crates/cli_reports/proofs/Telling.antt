-- What a line of a queue tells is the row's: no part of it ends before its mark.
use Rattle.std.proofs.Common.{◌≡◌, ℕ, zero, suc, ◌+◌, ◌/◌, ◌%◌, ◌<◌, ◌≤◌, ◌^◌, Bool, true, false, not, ◌||◌, ◌&&◌, ◌==◌, cond, List, [], ◌∷◌, ◌++◌, codes, decimal, Ok, refl, sym, ap, ap₂, ◌∙◌, subst, arith, append_assoc, drop, get_or, map}
use Rattle.std.specs.Prelude.{nat_le}
use Rattle.std.specs.List.{flat_map, list_all}
use Rattle.std.proofs.lemmas.Bool.{and_parts, and_from, agree_below_at}
use Rattle.std.proofs.lemmas.Bool.Decides.{nat_tests}
use Rattle.std.proofs.lemmas.Fmt.{decimal_by_steps, decimal_injective}
use Rattle.std.proofs.lemmas.List.Folds.{list_all-append}
use Rattle.hex.specs.Hex.{IsBytes, decode_of, encode_lower, encode_with, lower_digits}
use Rattle.hex.proofs.HexLemmas.{decode_of-encode_lower}
use Rattle.octets.specs.Ascii.{is_digit}
use Rattle.store_tables.specs.declared.queue.QueuedKind.{QueuedKind}
use Rattle.store_tables.specs.declared.queue.QueuedKind.TheVariants.{Redirect, Reply}
use Rattle.store_accounts.specs.declared.queued_envelope.QueuedEnvelope.{QueuedEnvelope}
use Rattle.cli_reports.specs.Addresses.{is_escaped, may_stand, shown_address, address_octet}
use Rattle.cli_reports.specs.Laws.{AreRows, IsQueueRow}
use Rattle.cli_reports.specs.Listings.{kind_word, queue_line, queue_listing}
use Rattle.cli_reports.specs.Reports.{ended_line}

-- two texts of octets that pass, each before an octet that doesn't
cut : (p : ℕ → Bool) (c : ℕ) (a b r s : List ℕ) → p c ≡ false → list_all p a ≡ true → list_all p b ≡ true → a ++ c ∷ r ≡ b ++ c ∷ s → (a ≡ b) × (r ≡ s)
cut p c [] [] r s not_c one two e = (refl, cc)
cut p c [] (y ∷ b) r s not_c one two e =
    let head : c ≡ y = cc in
    let passes : p y ≡ true = (and_parts (p y) (list_all p b) two).0 in
    absurd cc
cut p c (x ∷ a) [] r s not_c one two e =
    let head : x ≡ c = cc in
    let passes : p x ≡ true = (and_parts (p x) (list_all p a) one).0 in
    absurd cc
cut p c (x ∷ a) (y ∷ b) r s not_c one two e =
    let head : x ≡ y = cc in
    let tail : a ++ c ∷ r ≡ b ++ c ∷ s = cc in
    let more = cut p c a b r s not_c (and_parts (p x) (list_all p a) one).1 (and_parts (p y) (list_all p b) two).1 tail in
    let same : a ≡ b = more.0 in
    (cc, more.1)

-- ---- decimals

last_digit : (m : ℕ) → list_all is_digit ((48 + m % 10) ∷ []) ≡ true
last_digit m = let small : m % 10 < 10 = omega arith in grind (arith, nat_tests)

digits-decimal : (n : ℕ) → n < 2 ^ 64 → list_all is_digit (decimal n) ≡ true
digits-decimal n fits =
    decimal_by_steps (λ m ds. list_all is_digit ds ≡ true)
    (λ m small. grind (arith, nat_tests))
    (λ m ds big h. simp list_all-append (rw h (last_digit m)))
    n fits

-- ---- addresses

-- an octet that is escaped is one of eight bits
escaped_small : (octet : ℕ) → is_escaped octet ≡ true → octet < 256
escaped_small octet h = grind (arith, nat_tests)

-- no digit is escaped
digits_stand : (octet : ℕ) → octet < 256 → list_all may_stand (encode_lower (octet ∷ [])) ≡ true
unfolding encode_with
digits_stand octet small = agree_below_at (λ o. list_all may_stand (encode_lower (o ∷ []))) (λ o. true) 256 octet refl small

unescaped_stands : (is_backslash escaped : Bool) → escaped ≡ false → ((is_backslash || not escaped) && true) ≡ true
unescaped_stands true escaped e = refl
unescaped_stands false escaped e = rw e refl

octet_stands : (octet : ℕ) → list_all may_stand (address_octet octet) ≡ true
octet_stands octet = go (is_escaped octet) refl
  where
    go : (escaped : Bool) → is_escaped octet ≡ escaped → list_all may_stand (cond escaped (92 ∷ encode_lower (octet ∷ [])) (octet ∷ [])) ≡ true
    go true e = digits_stand octet (escaped_small octet e)
    go false e = unescaped_stands (octet == 92) (is_escaped octet) e

pub address_stands : (address : List ℕ) → list_all may_stand (shown_address address) ≡ true
address_stands [] = refl
address_stands (octet ∷ rest) =
    list_all-append may_stand (address_octet octet) (shown_address rest) ∙ and_from (list_all may_stand (address_octet octet)) (list_all may_stand (shown_address rest)) (octet_stands octet) (address_stands rest)

bytes_one : (octet : ℕ) → octet < 256 → IsBytes (octet ∷ [])
bytes_one octet small zero = small
bytes_one octet small (suc i) = omega arith

-- the digits of an octet are its own
digits_one : (x y : ℕ) → x < 256 → y < 256 → encode_lower (x ∷ []) ≡ encode_lower (y ∷ []) → x ≡ y
digits_one x y small too e =
    let same : decode_of (encode_lower (x ∷ [])) ≡ decode_of (encode_lower (y ∷ [])) = ap decode_of e in
    let one = decode_of-encode_lower (x ∷ []) (bytes_one x small) in
    let two = decode_of-encode_lower (y ∷ []) (bytes_one y too) in
    cc

digits_before : (x y : ℕ) (r s : List ℕ) → encode_lower (x ∷ []) ++ r ≡ encode_lower (y ∷ []) ++ s → (encode_lower (x ∷ []) ≡ encode_lower (y ∷ [])) × (r ≡ s)
unfolding encode_with
digits_before x y r s e = (cc, cc)

is_no_escape : (octet : ℕ) → is_escaped octet ≡ false → octet ≡ 92 → ⊥
is_no_escape octet e is = let plain : is_escaped 92 ≡ false = subst (λ (o : ℕ). is_escaped o ≡ false) is e in absurd cc

octet_told : (x y : ℕ) (r s : List ℕ) → address_octet x ++ r ≡ address_octet y ++ s → (x ≡ y) × (r ≡ s)
octet_told x y r s = go (is_escaped x) (is_escaped y) refl refl
  where
    go : (a b : Bool) → is_escaped x ≡ a → is_escaped y ≡ b → cond a (92 ∷ encode_lower (x ∷ [])) (x ∷ []) ++ r ≡ cond b (92 ∷ encode_lower (y ∷ [])) (y ∷ []) ++ s → (x ≡ y) × (r ≡ s)
    go true true one two e =
        let rest : encode_lower (x ∷ []) ++ r ≡ encode_lower (y ∷ []) ++ s = cc in
        let parts = digits_before x y r s rest in
        (digits_one x y (escaped_small x one) (escaped_small y two) parts.0, parts.1)
    go true false one two e = let is : y ≡ 92 = cc in absurd (is_no_escape y two is)
    go false true one two e = let is : x ≡ 92 = cc in absurd (is_no_escape x one is)
    go false false one two e = (cc, cc)

octet_there : (octet : ℕ) (rest : List ℕ) → [] ≡ address_octet octet ++ rest → ⊥
octet_there octet rest = go (is_escaped octet)
  where
    go : (escaped : Bool) → [] ≡ cond escaped (92 ∷ encode_lower (octet ∷ [])) (octet ∷ []) ++ rest → ⊥
    go true e = absurd cc
    go false e = absurd cc

address_told : (one two : List ℕ) → shown_address one ≡ shown_address two → one ≡ two
address_told [] [] e = refl
address_told [] (y ∷ ys) e = absurd (octet_there y (shown_address ys) e)
address_told (x ∷ xs) [] e = absurd (octet_there x (shown_address xs) (sym e))
address_told (x ∷ xs) (y ∷ ys) e =
    let parts = octet_told x y (shown_address xs) (shown_address ys) e in
    let head : x ≡ y = parts.0 in
    let tail : xs ≡ ys = address_told xs ys parts.1 in
    cc

-- ---- lines

distinct : (x y : ℕ) → x ≡ 100 → y ≡ 112 → x ≡ y → ⊥
distinct x y a b same = omega arith

kind_told : (one two : QueuedKind) (r s : List ℕ) → kind_word one ++ 32 ∷ r ≡ kind_word two ++ 32 ∷ s → (one ≡ two) × (r ≡ s)
kind_told Redirect Redirect r s e = (refl, cc)
kind_told Redirect Reply r s e = absurd (distinct 100 112 refl refl (ap (λ (l : List ℕ). get_or l 2 0) e))
kind_told Reply Redirect r s e = absurd (distinct 100 112 refl refl (sym (ap (λ (l : List ℕ). get_or l 2 0) e)))
kind_told Reply Reply r s e = (refl, cc)

pub line_told : (one two : QueuedEnvelope) → IsQueueRow one → IsQueueRow two → queue_line one ≡ queue_line two → one ≡ two
line_told one two fits too e =
    let numbers = cut is_digit 32 (decimal one.id) (decimal two.id) _ _ refl (digits-decimal one.id fits.id_fits) (digits-decimal two.id too.id_fits) e in
    let kinds = kind_told one.kind two.kind _ _ numbers.1 in
    let opened = ap (λ (t : List ℕ). drop 1 t) kinds.1 in
    let senders = cut may_stand 62 (shown_address one.sender) (shown_address two.sender) _ _ refl (address_stands one.sender) (address_stands two.sender) opened in
    let opened_again = ap (λ (t : List ℕ). drop 2 t) senders.1 in
    let targets = cut may_stand 62 (shown_address one.target) (shown_address two.target) _ _ refl (address_stands one.target) (address_stands two.target) opened_again in
    let lengths = ap (λ (t : List ℕ). drop 1 t) targets.1 in
    let id = decimal_injective one.id two.id fits.id_fits too.id_fits numbers.0 in
    let sender = address_told one.sender two.sender senders.0 in
    let target = address_told one.target two.target targets.0 in
    let len = decimal_injective one.len two.len fits.octets_fit too.octets_fit lengths in
    λ i. record { id = id i; kind = kinds.0 i; sender = sender i; target = target i; len = len i }

-- ---- listings

-- an octet that doesn't end a line
goes_on : ℕ → Bool
goes_on octet = not (octet == 10)

all_weaker : (p q : ℕ → Bool) (text : List ℕ) → ((octet : ℕ) → p octet ≡ true → q octet ≡ true) → list_all p text ≡ true → list_all q text ≡ true
all_weaker p q [] weaker h = refl
all_weaker p q (octet ∷ rest) weaker h =
    let parts = and_parts (p octet) (list_all p rest) h in
    and_from (q octet) (list_all q rest) (weaker octet parts.0) (all_weaker p q rest weaker parts.1)

digit_goes_on : (octet : ℕ) → is_digit octet ≡ true → goes_on octet ≡ true
unfolding goes_on
digit_goes_on octet h = grind (arith, nat_tests)

standing_goes_on : (octet : ℕ) → may_stand octet ≡ true → goes_on octet ≡ true
unfolding goes_on
standing_goes_on octet h = grind (arith, nat_tests)

kind_goes_on : (kind : QueuedKind) → list_all goes_on (kind_word kind) ≡ true
unfolding goes_on
kind_goes_on Redirect = refl
kind_goes_on Reply = refl

number_goes_on : (n : ℕ) → n < 2 ^ 64 → list_all goes_on (decimal n) ≡ true
number_goes_on n fits = all_weaker is_digit goes_on (decimal n) digit_goes_on (digits-decimal n fits)

address_goes_on : (address : List ℕ) → list_all goes_on (shown_address address) ≡ true
address_goes_on address = all_weaker may_stand goes_on (shown_address address) standing_goes_on (address_stands address)

parts_go_on : (a b c d e : List ℕ) → list_all goes_on a ≡ true → list_all goes_on b ≡ true → list_all goes_on c ≡ true → list_all goes_on d ≡ true → list_all goes_on e ≡ true
    → list_all goes_on (a ++ (codes " " ++ (b ++ (codes " <" ++ (c ++ (codes "> <" ++ (d ++ (codes "> " ++ e)))))))) ≡ true
unfolding goes_on
parts_go_on a b c d e one two three four five = simp (list_all-append, one, two, three, four, five)

line_goes_on : (row : QueuedEnvelope) → IsQueueRow row → list_all goes_on (queue_line row) ≡ true
line_goes_on row fits =
    parts_go_on (decimal row.id) (kind_word row.kind) (shown_address row.sender) (shown_address row.target) (decimal row.len)
    (number_goes_on row.id fits.id_fits) (kind_goes_on row.kind) (address_goes_on row.sender) (address_goes_on row.target) (number_goes_on row.len fits.octets_fit)

ended : (line rest : List ℕ) → ended_line line ++ rest ≡ line ++ 10 ∷ rest
ended line rest = append_assoc line (10 ∷ []) rest

not_empty : (line rest : List ℕ) → [] ≡ ended_line line ++ rest → ⊥
not_empty [] rest e = absurd cc
not_empty (octet ∷ line) rest e = absurd cc

ends : goes_on 10 ≡ false
unfolding goes_on
ends = refl

pub listing_told : (one two : List QueuedEnvelope) → AreRows one → AreRows two → queue_listing one ≡ queue_listing two → one ≡ two
listing_told [] [] fits too e = refl
listing_told [] (row ∷ more) fits too e = absurd (not_empty (queue_line row) (queue_listing more) e)
listing_told (row ∷ more) [] fits too e = absurd (not_empty (queue_line row) (queue_listing more) (sym e))
listing_told (row ∷ more) (other ∷ others) fits too e =
    let same = sym (ended (queue_line row) (queue_listing more)) ∙ e ∙ ended (queue_line other) (queue_listing others) in
    let parts = cut goes_on 10 (queue_line row) (queue_line other) (queue_listing more) (queue_listing others) ends (line_goes_on row fits.0) (line_goes_on other too.0) same in
    ap₂ (λ (x : QueuedEnvelope) xs. x ∷ xs) (line_told row other fits.0 too.0 parts.0) (listing_told more others fits.1 too.1 parts.1)
