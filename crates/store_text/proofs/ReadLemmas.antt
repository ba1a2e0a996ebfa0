-- A text that is read line by line.
use Rattle.std.proofs.Common.{◌≡◌, ◌≤◌, ◌<◌, ◌-◌, ◌^◌, ◌*◌, ◌==◌, ℕ, suc, true, false, List, [], ◌∷◌, ◌++◌, length, take, Option, Some, None, Ok, Err, decimal, refl, sym, ap, ◌∙◌, subst, arith, lit≤, append_assoc, slice_get}
use Prim.Native.Nat.{zero}
use Rattle.std.specs.Prelude.{slice_index, nat_le, nat_lt}
use Rattle.std.specs.Borrow.{Bor}
use Rattle.std.specs.Int.{w32, to_be_bytes}
use Rattle.std.specs.List.{flat_map, AllByRecursion, list_all}
use Rattle.std.proofs.lemmas.Bool.{and_parts, ltb-true, leb-true, eqb-true}
use Rattle.std.proofs.lemmas.Fmt.{length-decimal-le}
use Rattle.std.proofs.lemmas.List.{append_cancel_left, append-nil, length-append, take_at}
use Rattle.std.proofs.lemmas.List.Concat.{flat_map-append}
use Rattle.std.proofs.lemmas.List.Folds.{list_all-append}
use Rattle.sha2.specs.Sha256.{sha256, digest_bytes, final_hash, initial_hash_256}
use Rattle.hex.specs.Hex.{encode_lower, lower_digits}
use Rattle.hex.proofs.HexLemmas.{length-encode_with}
use Rattle.store_text.specs.Netstring.{netstring, line, IsNetstringField, AreFields, same_text}
use Rattle.store_text.specs.Fields.{version_fields, owner_fields, numbers_fields, part_fields, sum_fields}
use Rattle.store_text.specs.Order.{is_counter, are_numbers, is_given, fits, follows, are_chained, has_active}
use Rattle.store_text.specs.Reading.{ReadsAccountLine, HasNumbers, AreSmall, entry_fields, IsEntry, MayStand, stands, ends}
use Rattle.store_text.specs.Text.{IsHead, IsAccountText, head_text, account_body, part_line, sum_line, has_sum}
use Rattle.store_text.specs.declared.account_file.AccountReadError.TheVariants.{NotAnAccount}
use Rattle.store_text.specs.declared.entry.Entry.{Entry}
use Rattle.store_text.specs.declared.entry.Entry.TheVariants as entry
use Rattle.store_text.specs.declared.head.AccountHead.{AccountHead}
use Rattle.store_text.specs.declared.head.AccountOwner.{AccountOwner}
use Rattle.store_text.specs.declared.head.Numbers.{Numbers}
use Rattle.store_text.specs.declared.part.Part.{Part}
use Rattle.store_text.specs.declared.part.Part.TheVariants.{Script, Reply, Mail, Copy, Letter, Notice}
use Rattle.store_text.proofs.CutLemmas.{both_true, no_octets}
use Rattle.store_text.proofs.FieldLemmas.{IsCodec, owner_codec, numbers_codec, entry_codec}
use Rattle.store_text.proofs.NetstringLemmas.{one_line}
use Rattle.store_text.proofs.NumberLemmas.{same_is, same_itself}

-- a line says one thing
pub line_same : {X : Type 0} (fields_of : X → List (List ℕ)) (Fits : X → Type 0) (at : List (List ℕ) → Option X) → IsCodec fields_of Fits at → (octets : List ℕ) (x y : X) (a b : List ℕ) → Fits x → Fits y → AreFields (fields_of x)
    → AreFields (fields_of y) → octets ≡ line (fields_of x) ++ a → octets ≡ line (fields_of y) ++ b → (x ≡ y) × (a ≡ b)
line_same fields_of Fits at codec octets x y a b fx fy sx sy isx isy =
    let one = one_line (fields_of x) (fields_of y) a b sx sy (sym isx ∙ isy) in
    let both : Some x ≡ Some y = sym (codec.again x fx) ∙ (ap at one.0 ∙ codec.again y fy) in
    ((let h = both in cc), one.1)

-- ---- what an account has once

pub head_then : (h : AccountHead) (more : List ℕ) → head_text h ++ more ≡ line version_fields ++ (line (owner_fields h.owner) ++ (line (numbers_fields h.numbers) ++ more))
head_then h more =
    append_assoc (line version_fields) (line (owner_fields h.owner) ++ line (numbers_fields h.numbers)) more
    ∙ ap (λ t. line version_fields ++ t) (append_assoc (line (owner_fields h.owner)) (line (numbers_fields h.numbers)) more)

pub number_small : (n : ℕ) → n < 2 ^ 64 → IsNetstringField (decimal n)
number_small n small = let h = length-decimal-le 20 n (omega arith) (omega arith) (omega arith) in omega (arith, h)

counter_below : (n : ℕ) → is_counter n ≡ true → (1 ≤ n) × (n < 2 ^ 63)
counter_below n is = let parts = and_parts _ _ is in (leb-true 1 n parts.0, ltb-true n (2 ^ 63) parts.1)

pub numbers_below : (n : Numbers) → are_numbers n ≡ true → ((1 ≤ n.next_copy) × (n.next_copy < 2 ^ 63)) × (((1 ≤ n.next_out) × (n.next_out < 2 ^ 63)) × ((1 ≤ n.next_notice) × (n.next_notice < 2 ^ 63)))
numbers_below n is =
    let one = and_parts _ _ is in
    let two = and_parts _ _ one.1 in
    (counter_below n.next_copy one.0, (counter_below n.next_out two.0, counter_below n.next_notice two.1))

pub head_numbers : (h : AccountHead) → IsHead h → AreSmall h.numbers
head_numbers h is = let below = numbers_below h.numbers is.counters in record { rounds = is.rounds; copy = below.0.1; out = below.1.0.1; notice = below.1.1.1 }

pub numbers_fields_small : (n : Numbers) → AreSmall n → AreFields (numbers_fields n)
numbers_fields_small n small = (lit≤ tt, (number_small n.rounds (omega (arith, small.rounds)), (number_small n.next_copy (omega (arith, small.copy)), (number_small n.next_out (omega (arith, small.out)), (number_small n.next_notice (omega (arith, small.notice)), tt)))))

module _ (text rest : List ℕ) (version : text ≡ line version_fields ++ rest) (h : AccountHead) (more : List ℕ) (is : IsHead h) (written : text ≡ head_text h ++ more) where
  pub owner_next : rest ≡ line (owner_fields h.owner) ++ (line (numbers_fields h.numbers) ++ more)
  owner_next = append_cancel_left (line version_fields) rest _ (sym version ∙ (written ∙ head_then h more))

  module _ (o : AccountOwner) (later : List ℕ) (found : rest ≡ line (owner_fields o) ++ later) (small : AreFields (owner_fields o)) where
    owner_same : (o ≡ h.owner) × (later ≡ line (numbers_fields h.numbers) ++ more)
    owner_same = line_same owner_fields _ _ owner_codec rest o h.owner later (line (numbers_fields h.numbers) ++ more) tt tt small is.small found owner_next

    pub numbers_next : later ≡ line (numbers_fields h.numbers) ++ more
    numbers_next = owner_same.1

    pub numbers_same : (n : Numbers) (last : List ℕ) → later ≡ line (numbers_fields n) ++ last → AreSmall n → AreFields (numbers_fields n) → (n ≡ h.numbers) × (last ≡ more)
    numbers_same n last found fits small =
        line_same numbers_fields AreSmall _ numbers_codec later n h.numbers last more fits (head_numbers h is) small (numbers_fields_small h.numbers (head_numbers h is)) found numbers_next

-- what was read once is what the text has once
pub head_same : (text rest more : List ℕ) (g h : AccountHead) → IsHead g → IsHead h → text ≡ head_text g ++ rest → text ≡ head_text h ++ more → (h ≡ g) × (rest ≡ more)
head_same text rest more g h isg ish wg wh =
    let version = wg ∙ head_then g rest in
    let after = line (owner_fields g.owner) ++ (line (numbers_fields g.numbers) ++ rest) in
    let owner = owner_same text after version h more ish wh g.owner (line (numbers_fields g.numbers) ++ rest) refl isg.small in
    let numbers = numbers_same text after version h more ish wh g.owner (line (numbers_fields g.numbers) ++ rest) refl isg.small g.numbers rest refl (head_numbers g isg) (numbers_fields_small g.numbers (head_numbers g isg)) in
    (sym (ap (λ o. record { owner = o; numbers = g.numbers }) owner.0 ∙ ap (λ n. record { owner = h.owner; numbers = n }) numbers.0), numbers.1)

-- ---- what stands behind the last part

pub next_refused : (numbers : Numbers) (last : Option Part) (octets : List ℕ) (e : Entry) (rest : Bor (List ℕ)) → ReadsAccountLine entry_fields IsEntry octets (Ok (e, rest)) → stands numbers last e ≡ false
    → ReadsAccountLine entry_fields (MayStand numbers last) octets (Err NotAnAccount)
next_refused numbers last octets e rest read fails = record {
  found = tt;
  fits = tt;
  small = tt;
  none = λ same x more may small written.
      let one = line_same entry_fields IsEntry _ entry_codec octets e x rest.now more read.fits may.is read.small small read.found written in
      let never : false ≡ true = sym fails ∙ (ap (stands numbers last) one.0 ∙ may.there) in
      cc;
}

-- ---- the parts so far, and those that are left

-- the last of the parts, or this one
abbrev pub last_of : Option Part → List Part → Option Part
last_of last [] = last
last_of last (p ∷ ps) = last_of (Some p) ps

at_end : (p : Part) (ps : List Part) → slice_get (p ∷ ps) (length ps) ≡ last_of (Some p) ps
at_end p [] = refl
at_end p (q ∷ ps) = at_end q ps

pub last_is : (ps : List Part) → slice_get ps (length ps - 1) ≡ last_of None ps
last_is [] = refl
last_is (p ∷ ps) = let same : suc (length ps) - 1 ≡ length ps = omega arith in ap (slice_get (p ∷ ps)) same ∙ at_end p ps

chained_push : (last : Option Part) (ps : List Part) (p : Part) → are_chained last ps ≡ true → follows (last_of last ps) p ≡ true → are_chained last (ps ++ p ∷ []) ≡ true
chained_push last [] p is next = both_true (follows last p) true next refl
chained_push last (q ∷ ps) p is next =
    let parts = and_parts (follows last q) (are_chained (Some q) ps) is in
    both_true (follows last q) (are_chained (Some q) (ps ++ p ∷ [])) parts.0 (chained_push (Some q) ps p parts.1 next)

pub chained_at : (last : Option Part) (ps more : List Part) (p : Part) → are_chained last (ps ++ p ∷ more) ≡ true → follows (last_of last ps) p ≡ true
chained_at last [] more p is = (and_parts (follows last p) (are_chained (Some p) more) is).0
chained_at last (q ∷ ps) more p is = chained_at (Some q) ps more p (and_parts (follows last q) (are_chained (Some q) (ps ++ p ∷ more)) is).1

pub given_at : (n : Numbers) (ps more : List Part) (p : Part) → list_all (fits n) (ps ++ p ∷ more) ≡ true → fits n p ≡ true
given_at n [] more p is = (and_parts (fits n p) (list_all (fits n) more) is).0
given_at n (q ∷ ps) more p is = given_at n ps more p (and_parts (fits n q) (list_all (fits n) (ps ++ p ∷ more)) is).1

small_at : (ps more : List Part) (p : Part) → AllByRecursion (λ p. AreFields (part_fields p)) (ps ++ p ∷ more) → AreFields (part_fields p)
small_at [] more p all = all.0
small_at (q ∷ ps) more p all = small_at ps more p all.1

small_push : (ps : List Part) (p : Part) → AllByRecursion (λ p. AreFields (part_fields p)) ps → AreFields (part_fields p) → AllByRecursion (λ p. AreFields (part_fields p)) (ps ++ p ∷ [])
small_push [] p all one = (one, tt)
small_push (q ∷ ps) p all one = (all.0, small_push ps p all.1 one)

given_below : (next n : ℕ) → next < 2 ^ 63 → is_given next n ≡ true → n < 2 ^ 63
given_below next n small is = let less : n < next = ltb-true n next (and_parts (nat_le 1 n) (nat_lt n next) is).1 in omega (arith, less)

-- a database can have the numbers that were given
pub part_numbers : (n : Numbers) → AreSmall n → (p : Part) → fits n p ≡ true → HasNumbers p
part_numbers n small (Script name text) is = tt
part_numbers n small (Reply handle sender moment) is = ltb-true moment (2 ^ 63) is
part_numbers n small (Mail number folder message flags) is = given_below n.next_copy number small.copy is
part_numbers n small (Copy number folder first flags) is =
    let parts = and_parts _ _ is in
    (given_below n.next_copy number small.copy parts.0, given_below n.next_copy first small.copy parts.1)
part_numbers n small (Letter id kind sender target message) is = given_below n.next_out id small.out is
part_numbers n small (Notice number moment text) is =
    let parts = and_parts _ _ is in
    (given_below n.next_notice number small.notice parts.0, ltb-true moment (2 ^ 63) parts.1)

-- ---- the sum

digest_length : (h : List ℕ) (n : ℕ) → length (digest_bytes h n) ≡ 4 * n
unfolding digest_bytes
digest_length h zero = refl
digest_length h (suc n) = let sum = length-append (digest_bytes h n) (to_be_bytes w32 (slice_index h n)) in let four : length (to_be_bytes w32 (slice_index h n)) ≡ 4 = refl in omega (arith, sum, four, digest_length h n)

sha_length : (m : List ℕ) → length (sha256 m) ≡ 32
unfolding sha256
sha_length m = digest_length (final_hash initial_hash_256 m) 8

pub sum_small : (body : List ℕ) → AreFields (sum_fields (encode_lower (sha256 body)))
sum_small body = (lit≤ tt, (omega (arith, length-encode_with lower_digits (sha256 body), sha_length body), tt))

-- ---- a text of which the parts so far were read

pub record IsReading (text : List ℕ) (head : AccountHead) (parts : List Part) (rest : List ℕ) : Type 0 where
  pub once : IsHead head
  pub given : list_all (fits head.numbers) parts ≡ true
  pub chained : are_chained None parts ≡ true
  pub small : AllByRecursion (λ p. AreFields (part_fields p)) parts
  pub spelled : text ≡ account_body head parts ++ rest
  pub left : (h : AccountHead) (ps : List Part) → IsAccountText text h ps → (h ≡ head) × ((more : List Part) × (ps ≡ parts ++ more) × (rest ≡ flat_map part_line more ++ sum_line (account_body h ps)))

pub reading_begins : (text : List ℕ) (head : AccountHead) (rest : List ℕ) → IsHead head → text ≡ head_text head ++ rest → IsReading text head [] rest
reading_begins text head rest is written = record {
  once = is;
  given = refl;
  chained = refl;
  small = tt;
  spelled = written ∙ ap (λ t. t ++ rest) (sym (append-nil (head_text head)));
  left = λ h ps of.
      let whole = of.spelled ∙ append_assoc (head_text h) (flat_map part_line ps) (sum_line (account_body h ps)) in
      let same = head_same text rest (flat_map part_line ps ++ sum_line (account_body h ps)) head h is of.account.once written whole in
      (same.0, (ps, refl, same.1));
}

module _ (text : List ℕ) (head : AccountHead) (parts : List Part) (rest : List ℕ) (so_far : IsReading text head parts rest) where
  -- the next line of a text of an account may stand there
  module _ (h : AccountHead) (ps : List Part) (of : IsAccountText text h ps) (same : h ≡ head) where
    part_may : (p : Part) (more : List Part) → ps ≡ parts ++ p ∷ more → MayStand head.numbers (last_of None parts) (entry.Part p)
    part_may p more is =
        let fit : fits head.numbers p ≡ true = given_at head.numbers parts more p (ap (list_all (fits head.numbers)) (sym is) ∙ (ap (λ g. list_all (fits g.numbers) ps) (sym same) ∙ of.account.given)) in
        let next : follows (last_of None parts) p ≡ true = chained_at None parts more p (ap (are_chained None) (sym is) ∙ of.account.chained) in
        record { is = part_numbers head.numbers (head_numbers head so_far.once) p fit; there = both_true (fits head.numbers p) (follows (last_of None parts) p) fit next }

    part_small : (p : Part) (more : List Part) → ps ≡ parts ++ p ∷ more → AreFields (part_fields p)
    part_small p more is = small_at parts more p (subst (AllByRecursion (λ p. AreFields (part_fields p))) is of.account.small)

  part_behind : (p : Part) (more : List Part) (last : List ℕ) → flat_map part_line (p ∷ more) ++ last ≡ line (part_fields p) ++ (flat_map part_line more ++ last)
  part_behind p more last = append_assoc (part_line p) (flat_map part_line more) last

  -- where nothing that may stand there does, it is no text of an account
  pub reading_lost : ((x : Entry) (more : List ℕ) → MayStand head.numbers (last_of None parts) x → AreFields (entry_fields x) → rest ≡ line (entry_fields x) ++ more → ⊥) → (h : AccountHead) (ps : List Part) → IsAccountText text h ps → ⊥
  reading_lost none h ps of = go (so_far.left h ps of)
    where
      go : (h ≡ head) × ((more : List Part) × (ps ≡ parts ++ more) × (rest ≡ flat_map part_line more ++ sum_line (account_body h ps))) → ⊥
      go (same, ([], is, behind)) = none (entry.Sum (encode_lower (sha256 (account_body h ps)))) [] (record { is = tt; there = refl }) (sum_small (account_body h ps)) (behind ∙ sym (append-nil (sum_line (account_body h ps))))
      go (same, (p ∷ more, is, behind)) =
          none (entry.Part p) (flat_map part_line more ++ sum_line (account_body h ps)) (part_may h ps of same p more is) (part_small h ps of same p more is) (behind ∙ part_behind p more (sum_line (account_body h ps)))

  pub reading_on : (p : Part) (more : List ℕ) → rest ≡ line (part_fields p) ++ more → MayStand head.numbers (last_of None parts) (entry.Part p) → AreFields (part_fields p) → IsReading text head (parts ++ p ∷ []) more
  reading_on p more found may small = record {
    once = so_far.once;
    given = list_all-append (fits head.numbers) parts (p ∷ []) ∙ both_true _ _ so_far.given (both_true (fits head.numbers p) true (and_parts (fits head.numbers p) (follows (last_of None parts) p) may.there).0 refl);
    chained = chained_push None parts p so_far.chained (and_parts (fits head.numbers p) (follows (last_of None parts) p) may.there).1;
    small = small_push parts p so_far.small small;
    spelled = so_far.spelled ∙ (ap (λ r. account_body head parts ++ r) found ∙ (sym (append_assoc (account_body head parts) (part_line p) more) ∙ ap (λ t. t ++ more) pushed));
    left = λ h ps of. go h ps of (so_far.left h ps of);
  }
    where
      pushed : account_body head parts ++ part_line p ≡ account_body head (parts ++ p ∷ [])
      pushed = append_assoc (head_text head) (flat_map part_line parts) (part_line p)
          ∙ ap (λ t. head_text head ++ t) (ap (λ t. flat_map part_line parts ++ t) (sym (append-nil (part_line p))) ∙ sym (flat_map-append part_line parts (p ∷ [])))

      go : (h : AccountHead) (ps : List Part) → IsAccountText text h ps → (h ≡ head) × ((left : List Part) × (ps ≡ parts ++ left) × (rest ≡ flat_map part_line left ++ sum_line (account_body h ps)))
          → (h ≡ head) × ((left : List Part) × (ps ≡ (parts ++ p ∷ []) ++ left) × (more ≡ flat_map part_line left ++ sum_line (account_body h ps)))
      go h ps of (same, ([], is, behind)) =
          let one = line_same entry_fields IsEntry _ entry_codec rest (entry.Part p) (entry.Sum (encode_lower (sha256 (account_body h ps)))) more [] may.is tt small (sum_small (account_body h ps)) found (behind ∙ sym (append-nil (sum_line (account_body h ps)))) in
          absurd (let no = one.0 in cc)
      go h ps of (same, (q ∷ left, is, behind)) =
          let stands_there = part_may h ps of same q left is in
          let one = line_same entry_fields IsEntry _ entry_codec rest (entry.Part p) (entry.Part q) more (flat_map part_line left ++ sum_line (account_body h ps)) may.is stands_there.is small (part_small h ps of same q left is) found
          (behind ∙ part_behind q left (sum_line (account_body h ps))) in
          let part : p ≡ q = (let e = one.0 in cc) in
          (same, (left, is ∙ (ap (λ x. parts ++ x ∷ left) (sym part) ∙ sym (append_assoc parts (p ∷ []) left)), one.1))

  -- the last line
  module _ (sum more : List ℕ) (found : rest ≡ line (sum_fields sum) ++ more) (small : AreFields (sum_fields sum)) where
    pub text_whole : more ≡ [] → has_active head.owner.active parts ≡ true → has_sum sum (account_body head parts) ≡ true → IsAccountText text head parts
    text_whole none active is = record {
      account = record { once = so_far.once; given = so_far.given; chained = so_far.chained; active = active; small = so_far.small };
      spelled =
          so_far.spelled ∙ ap (λ r. account_body head parts ++ r)
          (found ∙ (ap (λ m. line (sum_fields sum) ++ m) none ∙ (append-nil (line (sum_fields sum)) ∙ ap (λ s. line (sum_fields s)) (same_is sum (encode_lower (sha256 (account_body head parts))) is))));
    }

    -- a text of an account is the one of these parts, and has their sum
    pub text_told : (h : AccountHead) (ps : List Part) → IsAccountText text h ps → (more ≡ []) × ((has_active head.owner.active parts ≡ true) × (has_sum sum (account_body head parts) ≡ true))
    text_told h ps of = go (so_far.left h ps of)
      where
        go : (h ≡ head) × ((left : List Part) × (ps ≡ parts ++ left) × (rest ≡ flat_map part_line left ++ sum_line (account_body h ps))) → (more ≡ []) × ((has_active head.owner.active parts ≡ true) × (has_sum sum (account_body head parts) ≡ true))
        go (same, ([], is, behind)) =
            let body : account_body h ps ≡ account_body head parts = ap (λ g. account_body g ps) same ∙ ap (account_body head) (is ∙ append-nil parts) in
            let one = line_same entry_fields IsEntry _ entry_codec rest (entry.Sum sum) (entry.Sum (encode_lower (sha256 (account_body h ps)))) more [] tt tt small (sum_small (account_body h ps)) found (behind ∙ sym (append-nil (sum_line (account_body h ps)))) in
            let told : sum ≡ encode_lower (sha256 (account_body h ps)) = (let e = one.0 in cc) in (
              one.1,
              (
                ap (λ g. has_active g.owner.active parts) (sym same) ∙ (ap (has_active h.owner.active) (sym (is ∙ append-nil parts)) ∙ of.account.active),
                ap (same_text sum) (ap (λ b. encode_lower (sha256 b)) (sym body) ∙ sym told) ∙ same_itself sum,
              ),
            )
        go (same, (q ∷ left, is, behind)) =
            let stands_there = part_may h ps of same q left is in
            let one = line_same entry_fields IsEntry _ entry_codec rest (entry.Sum sum) (entry.Part q) more (flat_map part_line left ++ sum_line (account_body h ps)) tt stands_there.is small (part_small h ps of same q left is) found
            (behind ∙ part_behind q left (sum_line (account_body h ps))) in
            absurd (let no = one.0 in cc)

    -- the last line ends the parts exactly where the text is of an account
    module _ (body : List ℕ) (is : body ≡ account_body head parts) where
      pub text_ends : ends head parts body sum more ≡ true → IsAccountText text head parts
      text_ends told =
          let one = and_parts _ _ told in
          let two = and_parts (has_active head.owner.active parts) (has_sum sum body) one.1 in
          text_whole (no_octets more (eqb-true (length more) 0 one.0)) two.0 (ap (has_sum sum) (sym is) ∙ two.1)

      pub text_goes_on : ends head parts body sum more ≡ false → (h : AccountHead) (ps : List Part) → IsAccountText text h ps → ⊥
      text_goes_on told h ps of =
          let parts_of = text_told h ps of in
          let empty : (length more == 0) ≡ true = ap (λ m. length m == 0) parts_of.0 in
          let holds : ends head parts body sum more ≡ true = both_true _ _ empty (both_true _ _ parts_of.1.0 (ap (has_sum sum) is ∙ parts_of.1.1)) in
          let never : false ≡ true = sym told ∙ holds in
          cc

pub body_is : (text body rest : List ℕ) → text ≡ body ++ rest → take (length text - length rest) text ≡ body
body_is text body rest is =
    let size : length text - length rest ≡ length body = omega (arith, ap length is, length-append body rest) in
    ap (λ n. take n text) size ∙ (ap (take (length body)) is ∙ take_at body rest (length body) refl)

pub line_shrinks : (rest : List ℕ) (fields : List (List ℕ)) (more : List ℕ) → rest ≡ line fields ++ more → length more < length rest
unfolding line
line_shrinks rest fields more is = omega (arith, ap length is, length-append (flat_map netstring fields ++ 10 ∷ []) more, length-append (flat_map netstring fields) (10 ∷ []))

pub text_head : (text : List ℕ) (h : AccountHead) (ps : List Part) → IsAccountText text h ps → text ≡ head_text h ++ (flat_map part_line ps ++ sum_line (account_body h ps))
text_head text h ps of = of.spelled ∙ append_assoc (head_text h) (flat_map part_line ps) (sum_line (account_body h ps))

-- ---- a text is that of one account

all_numbers : (n : Numbers) → AreSmall n → (ps : List Part) → list_all (fits n) ps ≡ true → AllByRecursion HasNumbers ps
all_numbers n small [] is = tt
all_numbers n small (p ∷ ps) is = let parts = and_parts (fits n p) (list_all (fits n) ps) is in (part_numbers n small p parts.0, all_numbers n small ps parts.1)

abbrev AreFine : List Part → Type 0
AreFine ps = AllByRecursion HasNumbers ps × AllByRecursion (λ p. AreFields (part_fields p)) ps

fine_parts : (text : List ℕ) (h : AccountHead) (ps : List Part) → IsAccountText text h ps → AreFine ps
fine_parts text h ps of = (all_numbers h.numbers (head_numbers h of.account.once) ps of.account.given, of.account.small)

later_parts : (p : Part) (ps : List Part) → AreFine (p ∷ ps) → AreFine ps
later_parts p ps fine = (fine.0.1, fine.1.1)

-- parts and a last line behind them are such in one way
parts_same : (ps qs : List Part) (b c more last : List ℕ) → AreFine ps → AreFine qs → flat_map part_line ps ++ (sum_line b ++ more) ≡ flat_map part_line qs ++ (sum_line c ++ last) → (ps ≡ qs) × (sum_line b ++ more ≡ sum_line c ++ last)
parts_same [] [] b c more last fp fq is = (refl, is)
parts_same [] (q ∷ qs) b c more last fp fq is =
    let behind = is ∙ append_assoc (part_line q) (flat_map part_line qs) (sum_line c ++ last) in
    let one = line_same entry_fields IsEntry _ entry_codec (sum_line b ++ more) (entry.Sum (encode_lower (sha256 b))) (entry.Part q) more (flat_map part_line qs ++ (sum_line c ++ last)) tt fq.0.0 (sum_small b) fq.1.0 refl behind in
    absurd (let never = one.0 in cc)
parts_same (p ∷ ps) [] b c more last fp fq is =
    let behind = sym is ∙ append_assoc (part_line p) (flat_map part_line ps) (sum_line b ++ more) in
    let one = line_same entry_fields IsEntry _ entry_codec (sum_line c ++ last) (entry.Sum (encode_lower (sha256 c))) (entry.Part p) last (flat_map part_line ps ++ (sum_line b ++ more)) tt fp.0.0 (sum_small c) fp.1.0 refl behind in
    absurd (let never = one.0 in cc)
parts_same (p ∷ ps) (q ∷ qs) b c more last fp fq is =
    let behind = sym (append_assoc (part_line p) (flat_map part_line ps) (sum_line b ++ more)) ∙ (is ∙ append_assoc (part_line q) (flat_map part_line qs) (sum_line c ++ last)) in
    let one =
    line_same entry_fields IsEntry _ entry_codec (part_line p ++ (flat_map part_line ps ++ (sum_line b ++ more))) (entry.Part p) (entry.Part q) (flat_map part_line ps ++ (sum_line b ++ more)) (flat_map part_line qs ++ (sum_line c ++ last)) fp.0.0 fq.0.0
    fp.1.0 fq.1.0 refl behind in
    let first : p ≡ q = (let e = one.0 in cc) in
    let later = parts_same ps qs b c more last (later_parts p ps fp) (later_parts q qs fq) one.1 in
    (ap (λ x. x ∷ ps) first ∙ ap (λ xs. q ∷ xs) later.0, later.1)

pub texts_same : (text more : List ℕ) (h g : AccountHead) (ps qs : List Part) → IsAccountText text h ps → IsAccountText (text ++ more) g qs → (more ≡ []) × ((h ≡ g) × (ps ≡ qs))
texts_same text more h g ps qs one two =
    let first : text ++ more ≡ head_text h ++ (flat_map part_line ps ++ (sum_line (account_body h ps) ++ more)) =
    ap (λ t. t ++ more) (text_head text h ps one)
    ∙ (append_assoc (head_text h) (flat_map part_line ps ++ sum_line (account_body h ps)) more ∙ ap (λ t. head_text h ++ t) (append_assoc (flat_map part_line ps) (sum_line (account_body h ps)) more)) in
    let second : text ++ more ≡ head_text g ++ (flat_map part_line qs ++ (sum_line (account_body g qs) ++ [])) =
    text_head (text ++ more) g qs two ∙ ap (λ t. head_text g ++ (flat_map part_line qs ++ t)) (sym (append-nil (sum_line (account_body g qs)))) in
    let heads = head_same (text ++ more) (flat_map part_line qs ++ (sum_line (account_body g qs) ++ [])) (flat_map part_line ps ++ (sum_line (account_body h ps) ++ more)) g h two.account.once one.account.once second first in
    let parts = parts_same ps qs (account_body h ps) (account_body g qs) more [] (fine_parts text h ps one) (fine_parts (text ++ more) g qs two) (sym heads.1) in
    let body : account_body h ps ≡ account_body g qs = ap (λ x. account_body x ps) heads.0 ∙ ap (account_body g) parts.0 in
    let last = append_cancel_left (sum_line (account_body g qs)) more [] (ap (λ b. sum_line b ++ more) (sym body) ∙ parts.1) in
    (last, (heads.0, parts.0))
