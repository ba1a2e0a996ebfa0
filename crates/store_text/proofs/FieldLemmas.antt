-- What fields say is what they were written for.
use Rattle.std.proofs.Common.{◌≡◌, ℕ, ◌^◌, ◌<◌, ◌⊎◌, inl, inr, cond, Bool, true, false, List, [], ◌∷◌, codes, decimal, Option, Some, None, option_map, refl, ap, ◌∙◌, subst, arith}
use Rattle.std.specs.Prelude.{nat_lt, option_and_then, option_to_list, ⊤}
use Rattle.std.proofs.lemmas.Bool.{and_parts, lt-ltb, ltb-true}
use Rattle.store_text.specs.Netstring.{same_text, decimal_in}
use Rattle.store_text.specs.Fields.{version_fields, owner_fields, numbers_fields, part_fields, flags_fields, sum_fields, letter_word, owner_at, owner_with, owner_by, rounds_in, counters_at, numbers_at, numbers_by, script_at, reply_at, mail_at, copy_at, notice_at, four_at, where_flags, five_at, kind_at, letter_at, part_at, sum_at, is_version}
use Rattle.store_text.specs.Reading.{HasNumbers, AreSmall, entry_fields, IsEntry, entry_by, entry_at}
use Rattle.store_text.specs.declared.head.AccountOwner.{AccountOwner}
use Rattle.store_text.specs.declared.head.Numbers.{Numbers}
use Rattle.store_text.specs.declared.entry.Entry.{Entry}
use Rattle.store_text.specs.declared.entry.Entry.TheVariants as entry
use Rattle.store_text.specs.declared.part.LetterKind.{LetterKind}
use Rattle.store_text.specs.declared.part.LetterKind.TheVariants.{Redirect, Answer}
use Rattle.store_text.specs.declared.part.Part.{Part}
use Rattle.store_text.specs.declared.part.Part.TheVariants.{Script, Reply, Mail, Copy, Letter, Notice}
use Rattle.store_text.proofs.NumberLemmas.{same_is, number_written, number_again}

-- fields are read as what they were written for, and as nothing else
pub record IsCodec {X : Type 0} (fields_of : X → List (List ℕ)) (Fits : X → Type 0) (at : List (List ℕ) → Option X) : Type 0 where
  pub written : (fields : List (List ℕ)) (x : X) → at fields ≡ Some x → (fields ≡ fields_of x) × Fits x
  pub again : (x : X) → Fits x → at (fields_of x) ≡ Some x

-- ---- tests and options

passed : {X : Type 0} (b : Bool) (o : Option X) (x : X) → cond b o None ≡ Some x → (b ≡ true) × (o ≡ Some x)
passed true o x is = (refl, is)
passed false o x is = absurd (let no = is in cc)

either : {X : Type 0} (b : Bool) (o p : Option X) (x : X) → cond b o p ≡ Some x → ((b ≡ true) × (o ≡ Some x)) ⊎ ((b ≡ false) × (p ≡ Some x))
either true o p x is = inl (refl, is)
either false o p x is = inr (refl, is)

mapped : {X Y : Type 0} (f : X → Y) (o : Option X) (y : Y) → option_map f o ≡ Some y → (x : X) × (o ≡ Some x) × (f x ≡ y)
mapped f None y is = absurd (let no = is in cc)
mapped f (Some x) y is = (x, refl, let same = is in cc)

then_some : {X Y : Type 0} (f : X → Option Y) (o : Option X) (y : Y) → option_and_then f o ≡ Some y → (x : X) × (o ≡ Some x) × (f x ≡ Some y)
then_some f None y is = absurd (let no = is in cc)
then_some f (Some x) y is = (x, refl, is)

same_some : {X : Type 0} (x y : X) → Some x ≡ Some y → x ≡ y
same_some x y is = cc

none_some : {X : Type 0} {A : Type 0} (x : X) → None ≡ Some x → A
none_some x is = absurd (let no = is in cc)

-- ---- the first line

pub version_written : (fields : List (List ℕ)) → is_version fields ≡ true → fields ≡ version_fields
unfolding is_version
version_written [] is = absurd (let no = is in cc)
version_written (word ∷ []) is = absurd (let no = is in cc)
version_written (word ∷ a ∷ []) is =
    let parts = and_parts (same_text word (codes "sieved-account")) (same_text a (codes "1")) is in
    ap (λ w. w ∷ a ∷ []) (same_is word (codes "sieved-account") parts.0) ∙ ap (λ w. codes "sieved-account" ∷ w ∷ []) (same_is a (codes "1") parts.1)
version_written (word ∷ a ∷ b ∷ more) is = absurd (let no = is in cc)

pub version_again : is_version version_fields ≡ true
unfolding is_version
version_again = refl

-- ---- the owner

owner_read : (word a b c d : List ℕ) (e : Option (List ℕ)) (o : AccountOwner) → owner_with word a b c d e ≡ Some o → word ∷ a ∷ b ∷ c ∷ d ∷ option_to_list e ≡ owner_fields o
unfolding owner_with
owner_read word a b c d e o is =
    let found = passed (same_text word (codes "account")) (Some (owner_by a b c d e)) o is in
    ap (λ w. w ∷ a ∷ b ∷ c ∷ d ∷ option_to_list e) (same_is word (codes "account") found.0) ∙ ap owner_fields (same_some (owner_by a b c d e) o found.1)

owner_written : (fields : List (List ℕ)) (o : AccountOwner) → owner_at fields ≡ Some o → (fields ≡ owner_fields o) × ⊤
unfolding owner_at
owner_written [] o is = none_some o is
owner_written (word ∷ []) o is = none_some o is
owner_written (word ∷ a ∷ []) o is = none_some o is
owner_written (word ∷ a ∷ b ∷ []) o is = none_some o is
owner_written (word ∷ a ∷ b ∷ c ∷ []) o is = none_some o is
owner_written (word ∷ a ∷ b ∷ c ∷ d ∷ []) o is = (owner_read word a b c d None o is, tt)
owner_written (word ∷ a ∷ b ∷ c ∷ d ∷ e ∷ []) o is = (owner_read word a b c d (Some e) o is, tt)
owner_written (word ∷ a ∷ b ∷ c ∷ d ∷ e ∷ f ∷ more) o is = none_some o is

owner_again : (o : AccountOwner) → ⊤ → owner_at (owner_fields o) ≡ Some o
unfolding owner_at owner_with
owner_again o fits = go o.active refl
  where
    go : (active : Option (List ℕ)) → o.active ≡ active → owner_at (codes "account" ∷ o.name ∷ o.address ∷ o.salt ∷ o.digest ∷ option_to_list active) ≡ Some (record o { active = active })
    go None is = refl
    go (Some name) is = refl

pub owner_codec : IsCodec owner_fields (λ _. ⊤) owner_at
owner_codec = record { written = owner_written; again = owner_again }

-- ---- the numbers

rounds_written : (text : List ℕ) (n : ℕ) → rounds_in text ≡ Some n → (text ≡ decimal n) × (n < 2 ^ 32)
unfolding rounds_in
rounds_written text n is =
    let found = then_some (λ m. cond (nat_lt m (2 ^ 32)) (Some m) None) (decimal_in text) n is in
    let small = passed (nat_lt found.0 (2 ^ 32)) (Some found.0) n found.2 in
    let same : found.0 ≡ n = same_some found.0 n small.1 in
    ((number_written text found.0 found.1).0 ∙ ap decimal same, subst (λ k. k < 2 ^ 32) same (ltb-true found.0 (2 ^ 32) small.0))

rounds_again : (n : ℕ) → n < 2 ^ 32 → rounds_in (decimal n) ≡ Some n
unfolding rounds_in
rounds_again n small = rw (number_again n (omega arith)) (rw (lt-ltb n (2 ^ 32) small) refl)

same_four : (a b c d e f g h : List ℕ) → a ≡ b → c ≡ d → e ≡ f → g ≡ h → codes "numbers" ∷ a ∷ c ∷ e ∷ g ∷ [] ≡ codes "numbers" ∷ b ∷ d ∷ f ∷ h ∷ []
same_four a b c d e f g h one two three four =
    ap (λ x. codes "numbers" ∷ x ∷ c ∷ e ∷ g ∷ []) one ∙ (ap (λ x. codes "numbers" ∷ b ∷ x ∷ e ∷ g ∷ []) two
    ∙ (ap (λ x. codes "numbers" ∷ b ∷ d ∷ x ∷ g ∷ []) three ∙ ap (λ x. codes "numbers" ∷ b ∷ d ∷ f ∷ x ∷ []) four))

numbers_read : (rounds : ℕ) (r c o n : List ℕ) (x : Numbers) → rounds < 2 ^ 32 → r ≡ decimal rounds → counters_at rounds c o n ≡ Some x → (codes "numbers" ∷ r ∷ c ∷ o ∷ n ∷ [] ≡ numbers_fields x) × AreSmall x
unfolding counters_at
numbers_read rounds r c o n x small read is =
    let one = then_some (λ c. option_and_then (λ o. option_map (λ n. numbers_by rounds c o n) (decimal_in n)) (decimal_in o)) (decimal_in c) x is in
    let two = then_some (λ o. option_map (λ n. numbers_by rounds one.0 o n) (decimal_in n)) (decimal_in o) x one.2 in
    let three = mapped (λ n. numbers_by rounds one.0 two.0 n) (decimal_in n) x two.2 in
    let first = number_written c one.0 one.1 in
    let second = number_written o two.0 two.1 in
    let third = number_written n three.0 three.1 in
    let fields : codes "numbers" ∷ r ∷ c ∷ o ∷ n ∷ [] ≡ numbers_fields (numbers_by rounds one.0 two.0 three.0) =
    same_four r (decimal rounds) c (decimal one.0) o (decimal two.0) n (decimal three.0) read first.0 second.0 third.0 in
    (fields ∙ ap numbers_fields three.2, subst AreSmall three.2 (record { rounds = small; copy = first.1; out = second.1; notice = third.1 }))

numbers_written : (fields : List (List ℕ)) (x : Numbers) → numbers_at fields ≡ Some x → (fields ≡ numbers_fields x) × AreSmall x
unfolding numbers_at
numbers_written [] x is = none_some x is
numbers_written (word ∷ []) x is = none_some x is
numbers_written (word ∷ a ∷ []) x is = none_some x is
numbers_written (word ∷ a ∷ b ∷ []) x is = none_some x is
numbers_written (word ∷ a ∷ b ∷ c ∷ []) x is = none_some x is
numbers_written (word ∷ a ∷ b ∷ c ∷ d ∷ []) x is =
    let named = passed (same_text word (codes "numbers")) (option_and_then (λ r. counters_at r b c d) (rounds_in a)) x is in
    let found = then_some (λ r. counters_at r b c d) (rounds_in a) x named.1 in
    let rounds = rounds_written a found.0 found.1 in
    let read = numbers_read found.0 a b c d x rounds.1 rounds.0 found.2 in
    (ap (λ w. w ∷ a ∷ b ∷ c ∷ d ∷ []) (same_is word (codes "numbers") named.0) ∙ read.0, read.1)
numbers_written (word ∷ a ∷ b ∷ c ∷ d ∷ e ∷ more) x is = none_some x is

numbers_again : (x : Numbers) → AreSmall x → numbers_at (numbers_fields x) ≡ Some x
unfolding numbers_at counters_at
numbers_again x small = rw (rounds_again x.rounds small.rounds, number_again x.next_copy small.copy, number_again x.next_out small.out, number_again x.next_notice small.notice) refl

pub numbers_codec : IsCodec numbers_fields AreSmall numbers_at
numbers_codec = record { written = numbers_written; again = numbers_again }

-- ---- parts

-- the fields are those of the part, and a database can have its numbers
abbrev ReadsPart : List (List ℕ) → Part → Type 0
ReadsPart fields p = (fields ≡ part_fields p) × HasNumbers p

-- a field written so, in the place of one that is the same
script_written : (word name text : List ℕ) (p : Part) → script_at word name text ≡ Some p → ReadsPart (word ∷ name ∷ text ∷ []) p
unfolding script_at
script_written word name text p is =
    let found = passed (same_text word (codes "script")) (Some (Script name text)) p is in
    subst (ReadsPart (word ∷ name ∷ text ∷ [])) (same_some (Script name text) p found.1) (ap (λ w. w ∷ name ∷ text ∷ []) (same_is word (codes "script") found.0), tt)

reply_written : (handle sender moment : List ℕ) (p : Part) → reply_at handle sender moment ≡ Some p → ReadsPart (codes "reply" ∷ handle ∷ sender ∷ moment ∷ []) p
unfolding reply_at
reply_written handle sender moment p is =
    let found = mapped (λ n. Reply handle sender n) (decimal_in moment) p is in
    let number = number_written moment found.0 found.1 in
    subst (ReadsPart (codes "reply" ∷ handle ∷ sender ∷ moment ∷ [])) found.2 (ap (λ m. codes "reply" ∷ handle ∷ sender ∷ m ∷ []) number.0, number.1)

mail_written : (number folder message flags : List ℕ) (more : List (List ℕ)) (p : Part) → more ≡ flags_fields flags → mail_at number folder message flags ≡ Some p → ReadsPart (codes "mail" ∷ number ∷ folder ∷ message ∷ more) p
unfolding mail_at
mail_written number folder message flags more p written is =
    let found = mapped (λ n. Mail n folder message flags) (decimal_in number) p is in
    let read = number_written number found.0 found.1 in
    subst (ReadsPart (codes "mail" ∷ number ∷ folder ∷ message ∷ more)) found.2 (ap (λ m. codes "mail" ∷ m ∷ folder ∷ message ∷ more) read.0 ∙ ap (λ fs. codes "mail" ∷ decimal found.0 ∷ folder ∷ message ∷ fs) written, read.1)

copy_written : (number folder first flags : List ℕ) (more : List (List ℕ)) (p : Part) → more ≡ flags_fields flags → copy_at number folder first flags ≡ Some p → ReadsPart (codes "copy" ∷ number ∷ folder ∷ first ∷ more) p
unfolding copy_at
copy_written number folder first flags more p written is =
    let one = then_some (λ n. option_map (λ m. Copy n folder m flags) (decimal_in first)) (decimal_in number) p is in
    let two = mapped (λ m. Copy one.0 folder m flags) (decimal_in first) p one.2 in
    let read = number_written number one.0 one.1 in
    let other = number_written first two.0 two.1 in
    subst (ReadsPart (codes "copy" ∷ number ∷ folder ∷ first ∷ more)) two.2
    (ap (λ m. codes "copy" ∷ m ∷ folder ∷ first ∷ more) read.0 ∙ (ap (λ m. codes "copy" ∷ decimal one.0 ∷ folder ∷ m ∷ more) other.0 ∙ ap (λ fs. codes "copy" ∷ decimal one.0 ∷ folder ∷ decimal two.0 ∷ fs) written), (read.1, other.1))

notice_written : (number moment text : List ℕ) (p : Part) → notice_at number moment text ≡ Some p → ReadsPart (codes "notice" ∷ number ∷ moment ∷ text ∷ []) p
unfolding notice_at
notice_written number moment text p is =
    let one = then_some (λ n. option_map (λ m. Notice n m text) (decimal_in moment)) (decimal_in number) p is in
    let two = mapped (λ m. Notice one.0 m text) (decimal_in moment) p one.2 in
    let read = number_written number one.0 one.1 in
    let other = number_written moment two.0 two.1 in
    subst (ReadsPart (codes "notice" ∷ number ∷ moment ∷ text ∷ [])) two.2 (ap (λ m. codes "notice" ∷ m ∷ moment ∷ text ∷ []) read.0 ∙ ap (λ m. codes "notice" ∷ decimal one.0 ∷ m ∷ text ∷ []) other.0, (read.1, other.1))

kind_written : (word : List ℕ) (kind : LetterKind) → kind_at word ≡ Some kind → word ≡ letter_word kind
unfolding kind_at
kind_written word kind is =
    elim (either (same_text word (codes "redirect")) (Some Redirect) (cond (same_text word (codes "answer")) (Some Answer) None) kind is) [
      | inl one ↦ same_is word (codes "redirect") one.0 ∙ ap letter_word (same_some Redirect kind one.1)
      | inr more ↦ let two = passed (same_text word (codes "answer")) (Some Answer) kind more.1 in same_is word (codes "answer") two.0 ∙ ap letter_word (same_some Answer kind two.1)
    ]

letter_written : (word id sender target message : List ℕ) (p : Part) → letter_at word id sender target message ≡ Some p → ReadsPart (word ∷ id ∷ sender ∷ target ∷ message ∷ []) p
unfolding letter_at
letter_written word id sender target message p is =
    let one = then_some (λ kind. option_map (λ n. Letter n kind sender target message) (decimal_in id)) (kind_at word) p is in
    let two = mapped (λ n. Letter n one.0 sender target message) (decimal_in id) p one.2 in
    let read = number_written id two.0 two.1 in
    subst (ReadsPart (word ∷ id ∷ sender ∷ target ∷ message ∷ [])) two.2 (ap (λ w. w ∷ id ∷ sender ∷ target ∷ message ∷ []) (kind_written word one.0 one.1) ∙ ap (λ m. letter_word one.0 ∷ m ∷ sender ∷ target ∷ message ∷ []) read.0, read.1)

four_written : (word a b c : List ℕ) (p : Part) → four_at word a b c ≡ Some p → ReadsPart (word ∷ a ∷ b ∷ c ∷ []) p
unfolding four_at
four_written word a b c p is =
    elim (either (same_text word (codes "mail")) (mail_at a b c []) _ p is) [
      | inl one ↦ named (codes "mail") one.0 (mail_written a b c [] [] p refl one.1)
      | inr more ↦ elim (either (same_text word (codes "copy")) (copy_at a b c []) _ p more.1) [
        | inl one ↦ named (codes "copy") one.0 (copy_written a b c [] [] p refl one.1)
        | inr more ↦ elim (either (same_text word (codes "reply")) (reply_at a b c) _ p more.1) [
          | inl one ↦ named (codes "reply") one.0 (reply_written a b c p one.1)
          | inr more ↦ let last = passed (same_text word (codes "notice")) (notice_at a b c) p more.1 in named (codes "notice") last.0 (notice_written a b c p last.1)
        ]
      ]
    ]
  where
    named : (w : List ℕ) → same_text word w ≡ true → ReadsPart (w ∷ a ∷ b ∷ c ∷ []) p → ReadsPart (word ∷ a ∷ b ∷ c ∷ []) p
    named w same read = (ap (λ v. v ∷ a ∷ b ∷ c ∷ []) (same_is word w same) ∙ read.0, read.1)

-- a field of flags that is there isn't empty
flags_there : (flags : List ℕ) (o : Option Part) (p : Part) → where_flags flags o ≡ Some p → (flags ∷ [] ≡ flags_fields flags) × (o ≡ Some p)
flags_there [] o p is = none_some p is
flags_there (octet ∷ flags) o p is = (refl, is)

five_written : (word a b c d : List ℕ) (p : Part) → five_at word a b c d ≡ Some p → ReadsPart (word ∷ a ∷ b ∷ c ∷ d ∷ []) p
unfolding five_at
five_written word a b c d p is =
    elim (either (same_text word (codes "mail")) (where_flags d (mail_at a b c d)) _ p is) [
      | inl one ↦ let there = flags_there d (mail_at a b c d) p one.1 in named (codes "mail") one.0 (mail_written a b c d (d ∷ []) p there.0 there.1)
      | inr more ↦ elim (either (same_text word (codes "copy")) (where_flags d (copy_at a b c d)) _ p more.1) [
        | inl one ↦ let there = flags_there d (copy_at a b c d) p one.1 in named (codes "copy") one.0 (copy_written a b c d (d ∷ []) p there.0 there.1)
        | inr more ↦ letter_written word a b c d p more.1
      ]
    ]
  where
    named : (w : List ℕ) → same_text word w ≡ true → ReadsPart (w ∷ a ∷ b ∷ c ∷ d ∷ []) p → ReadsPart (word ∷ a ∷ b ∷ c ∷ d ∷ []) p
    named w same read = (ap (λ v. v ∷ a ∷ b ∷ c ∷ d ∷ []) (same_is word w same) ∙ read.0, read.1)

part_written : (fields : List (List ℕ)) (p : Part) → part_at fields ≡ Some p → ReadsPart fields p
unfolding part_at
part_written [] p is = none_some p is
part_written (word ∷ []) p is = none_some p is
part_written (word ∷ a ∷ []) p is = none_some p is
part_written (word ∷ a ∷ b ∷ []) p is = script_written word a b p is
part_written (word ∷ a ∷ b ∷ c ∷ []) p is = four_written word a b c p is
part_written (word ∷ a ∷ b ∷ c ∷ d ∷ []) p is = five_written word a b c d p is
part_written (word ∷ a ∷ b ∷ c ∷ d ∷ e ∷ more) p is = none_some p is

part_again : (p : Part) → HasNumbers p → part_at (part_fields p) ≡ Some p
unfolding part_at script_at four_at five_at reply_at mail_at copy_at notice_at letter_at kind_at
part_again (Script name text) fits = refl
part_again (Reply handle sender moment) fits = rw (number_again moment fits) refl
part_again (Mail number folder message []) fits = rw (number_again number fits) refl
part_again (Mail number folder message (octet ∷ flags)) fits = rw (number_again number fits) refl
part_again (Copy number folder first []) fits = rw (number_again number fits.0, number_again first fits.1) refl
part_again (Copy number folder first (octet ∷ flags)) fits = rw (number_again number fits.0, number_again first fits.1) refl
part_again (Letter id Redirect sender target message) fits = rw (number_again id fits) refl
part_again (Letter id Answer sender target message) fits = rw (number_again id fits) refl
part_again (Notice number moment text) fits = rw (number_again number fits.0, number_again moment fits.1) refl

-- ---- a part, or the last line

sum_written : (fields : List (List ℕ)) (sum : List ℕ) → sum_at fields ≡ Some sum → fields ≡ sum_fields sum
unfolding sum_at
sum_written [] sum is = none_some sum is
sum_written (word ∷ []) sum is = none_some sum is
sum_written (word ∷ a ∷ []) sum is =
    let found = passed (same_text word (codes "sum")) (Some a) sum is in
    ap (λ w. w ∷ a ∷ []) (same_is word (codes "sum") found.0) ∙ ap sum_fields (same_some a sum found.1)
sum_written (word ∷ a ∷ b ∷ more) sum is = none_some sum is

-- no part's line is the last one
no_sum : (p : Part) → sum_at (part_fields p) ≡ None
unfolding sum_at
no_sum (Script name text) = refl
no_sum (Reply handle sender moment) = refl
no_sum (Mail number folder message flags) = refl
no_sum (Copy number folder first flags) = refl
no_sum (Letter id kind sender target message) = refl
no_sum (Notice number moment text) = refl

sum_again : (sum : List ℕ) → sum_at (sum_fields sum) ≡ Some sum
unfolding sum_at
sum_again sum = refl

entry_written : (fields : List (List ℕ)) (e : Entry) → entry_at fields ≡ Some e → (fields ≡ entry_fields e) × IsEntry e
entry_written fields e is = go (sum_at fields) refl is
  where
    go : (sum : Option (List ℕ)) → sum_at fields ≡ sum → entry_by sum (part_at fields) ≡ Some e → (fields ≡ entry_fields e) × IsEntry e
    go (Some sum) at is = subst (λ x. (fields ≡ entry_fields x) × IsEntry x) (same_some (entry.Sum sum) e is) (sum_written fields sum at, tt)
    go None at is =
        let found = mapped entry.Part (part_at fields) e is in
        subst (λ x. (fields ≡ entry_fields x) × IsEntry x) found.2 (part_written fields found.0 found.1)

entry_again : (e : Entry) → IsEntry e → entry_at (entry_fields e) ≡ Some e
entry_again (entry.Part p) fits = rw (no_sum p, part_again p fits) refl
entry_again (entry.Sum sum) fits = rw (sum_again sum) refl

pub entry_codec : IsCodec entry_fields IsEntry entry_at
entry_codec = record { written = entry_written; again = entry_again }
