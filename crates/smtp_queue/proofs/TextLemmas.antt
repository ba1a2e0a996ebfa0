-- Rows that wait, as a text: what was written is read back.
use Prim.Native.Nat.{zero}
use Rattle.std.proofs.Common.{◌≡◌, ◌≢◌, ◌==◌, ◌<◌, ◌≤◌, ◌^◌, ◌&&◌, ℕ, suc, not, Bool, true, false, List, [], ◌∷◌, ◌++◌, length, fold, decimal, Option, Some, None, MatchOption, refl, sym, ◌∙◌, ap, subst, arith, append_assoc, leb}
use Rattle.std.specs.List.{AllPass, list_all}
use Rattle.std.proofs.lemmas.List.{append-nil}
use Rattle.std.proofs.lemmas.List.Folds.{list_all-append}
use Rattle.std.proofs.lemmas.Bool.{and_parts, leb-true, le-leb, ne_eqb}
use Rattle.std.proofs.lemmas.Fmt.{decimal_nonempty, digits_decimal, digits_value-decimal}
use Rattle.std.proofs.lemmas.Str.Parse.{IsDigitsTest, FoldsDigits, IsNumeralModel, numerals_by_fold}
use Rattle.octets.specs.Ascii.{is_digit}
use Rattle.octets.specs.Decimal.{with_digit, Writes}
use Rattle.smtp_dialogue.specs.Mailboxes.{CutsAtOctet, HasNoMark}
use Rattle.smtp_dialogue.proofs.MailboxLemmas.{one_cut}
use Rattle.std.specs.BTreeMap.{insert_entry}
use Rattle.std.specs.Cmp.{IsTotalOrder, nat_cmp_total, on_total, then_total}
use Rattle.std.specs.Cmp.Lexicographic.{nat_list_cmp_total}
use Rattle.std.specs.List.Sorted.{IsStrictlySortedBy}
use Rattle.std.specs.List.{AllByRecursion}
use Rattle.std.specs.Map.{keys_of}
use Rattle.std.specs.Ordering.{match_ordering, ordering_reverse}
use Rattle.std.specs.declared.cmp.Ordering.TheVariants.{Less, Greater}
use Rattle.smtp_queue.specs.Texts.{wait_body, wait_line, waits_text, wait_in, IsWritable, AreWritable, IsNumberRead, IsPartsOf, ArePartsOf}
use Rattle.smtp_queue.specs.Waits.{row_key, row_key_cmp}
use Rattle.smtp_queue.specs.declared.waits_file.Parts.{Parts}
use Rattle.smtp_queue.specs.declared.row_key.RowKey.{RowKey}
use Rattle.smtp_queue.specs.declared.waits_file.Number.{Number}
use Rattle.smtp_queue.specs.declared.wait.Wait.{Wait}

abbrev other : ℕ → ℕ → Bool
other mark octet = not (octet == mark)

both_true : (a b : Bool) → a ≡ true → b ≡ true → (a && b) ≡ true
both_true true b one two = two
both_true false b one two = one

-- ---- digits

digit_range : (c : ℕ) → is_digit c ≡ true → (48 ≤ c) × (c ≤ 57)
digit_range c is = let parts = and_parts (leb 48 c) (leb c 57) is in (leb-true 48 c parts.0, leb-true c 57 parts.1)

apart : (c mark : ℕ) → mark < c → other mark c ≡ true
apart c mark less = ap not (ne_eqb c mark (λ same. absurd (omega (arith, less, same))))

-- digits alone, none of them an LF or a space
record AreDigits (ds : List ℕ) : Type 0 where
  pass : AllPass is_digit ds
  feed : list_all (other 10) ds ≡ true
  space : list_all (other 32) ds ≡ true

pass_more : (c : ℕ) (cs : List ℕ) → (48 ≤ c) × (c ≤ 57) → AllPass is_digit cs → AllPass is_digit (c ∷ cs)
pass_more c cs range rest zero d within = both_true (leb 48 c) (leb c 57) (le-leb 48 c range.0) (le-leb c 57 range.1)
pass_more c cs range rest (suc k) d within = rest k d (omega (arith, within))

no_digits : AllPass is_digit []
no_digits k d within = absurd (omega (arith, within))

digits_test : IsDigitsTest AreDigits
digits_test = record {
  empty = record { pass = no_digits; feed = refl; space = refl };
  parts = λ c cs p. (
    digit_range c (p.pass 0 0 (omega arith)),
    record {
      pass = λ k d within. p.pass (suc k) d (omega (arith, within));
      feed = (and_parts (other 10 c) (list_all (other 10) cs) p.feed).1;
      space = (and_parts (other 32 c) (list_all (other 32) cs) p.space).1;
    },
  );
  more = λ c cs range p. record {
    pass = pass_more c cs range p.pass;
    feed = both_true (other 10 c) (list_all (other 10) cs) (apart c 10 (omega (arith, range.0))) p.feed;
    space = both_true (other 32 c) (list_all (other 32) cs) (apart c 32 (omega (arith, range.0))) p.space;
  };
}

folds : FoldsDigits (λ n ds. fold with_digit n ds)
folds = record { empty = λ n. refl; more = λ n c cs range. refl }

model : IsNumeralModel AreDigits (λ ds. fold with_digit 0 ds)
model = numerals_by_fold AreDigits digits_test (λ n ds. fold with_digit n ds) folds

some_there : (ds : List ℕ) → 0 < length ds → ds ≢ []
some_there [] some is = omega (arith, some)
some_there (d ∷ ds) some is = let never = is in cc

digits_of : (n : ℕ) → n < 2 ^ 64 → AreDigits (decimal n)
digits_of n small = digits_decimal model n small

pub decimal_writes : (n : ℕ) → n < 2 ^ 64 → Writes (decimal n) n
decimal_writes n small = record { present = some_there (decimal n) (decimal_nonempty n small); digits = (digits_of n small).pass; value = digits_value-decimal model n small }

-- the number that digits write is read
read_number : (front : List ℕ) (r : Option ℕ) → MatchOption r ((n : ℕ) → n < 2 ^ 64 → Writes front n → ⊥) (λ n. Writes front n) → (n : ℕ) → n < 2 ^ 64 → front ≡ decimal n → r ≡ Some n
read_number front None none n small is = absurd (none n small (subst (λ t. Writes t n) (sym is) (decimal_writes n small)))
read_number front (Some m) writes n small is =
    let written : Writes front n = subst (λ t. Writes t n) (sym is) (decimal_writes n small) in
    ap Some (sym writes.value ∙ written.value)

module _ (text front rest : List ℕ) (cut : CutsAtOctet 32 text front rest) (n : ℕ) (after : List ℕ) (small : n < 2 ^ 64) (is : text ≡ decimal n ++ 32 ∷ after) where
  as_cut : (front ≡ decimal n) × (rest ≡ after)
  as_cut = one_cut 32 front (decimal n) rest after (sym cut.written ∙ is) cut.first (digits_of n small).space

  module _ (r : Option ℕ) (read : MatchOption r ((m : ℕ) → m < 2 ^ 64 → Writes front m → ⊥) (λ m. Writes front m)) where
    pub number_read : (number : Number) → r ≡ Some number.value → number.rest.now ≡ rest → IsNumberRead n after (Some number)
    number_read number told behind =
        let found : r ≡ Some n = read_number front r read n small as_cut.0 in
        ((let h = sym told ∙ found in cc), behind ∙ as_cut.1)

    pub number_lost : r ≡ None → ⊥
    number_lost none = let h = sym none ∙ read_number front r read n small as_cut.0 in cc

pub number_uncut : (text : List ℕ) → HasNoMark 32 text → (n : ℕ) (after : List ℕ) → text ≡ decimal n ++ 32 ∷ after → ⊥
number_uncut text none n after is = none (decimal n) after is

-- ---- lines

abbrev Entry : Type 0
Entry = RowKey × Wait

body_lacks : (wait : Entry) → IsWritable wait → list_all (other 10) (wait_body wait) ≡ true
body_lacks wait own =
    joined (decimal wait.1.due) (decimal wait.1.tries ++ 32 ∷ (decimal wait.0.id ++ 32 ∷ wait.0.user)) (digits_of wait.1.due own.due).feed
    (joined (decimal wait.1.tries) (decimal wait.0.id ++ 32 ∷ wait.0.user) (digits_of wait.1.tries own.tries).feed (joined (decimal wait.0.id) wait.0.user (digits_of wait.0.id own.id).feed own.user))
  where
    joined : (front rest : List ℕ) → list_all (other 10) front ≡ true → list_all (other 10) rest ≡ true → list_all (other 10) (front ++ 32 ∷ rest) ≡ true
    joined front rest one two = list_all-append (other 10) front (32 ∷ rest) ∙ both_true (list_all (other 10) front) (list_all (other 10) (32 ∷ rest)) one two

line_then : (wait : Entry) (more : List ℕ) → wait_line wait ++ more ≡ wait_body wait ++ 10 ∷ more
line_then wait more = append_assoc (wait_body wait) (10 ∷ []) more

-- ---- places in order

pub place_total : IsTotalOrder row_key_cmp
place_total = then_total (on_total (λ p. p.user) nat_list_cmp_total) (on_total (λ p. p.id) nat_cmp_total)

-- what holds of all holds of one behind others
among : (P : RowKey → Type 0) (front : List Entry) (entry : Entry) (later : List Entry) → AllByRecursion P (keys_of (front ++ entry ∷ later)) → P entry.0
among P [] entry later all = all.0
among P (e ∷ front) entry later all = among P front entry later all.1

flipped : (a b : RowKey) → row_key_cmp a b ≡ Less → row_key_cmp b a ≡ Greater
flipped a b less = place_total.antisymm b a ∙ ap ordering_reverse less

-- one that comes after all others is put behind them
insert_last : (front : List Entry) (at : RowKey) (wait : Wait) (later : List Entry) → IsStrictlySortedBy row_key_cmp (keys_of (front ++ (at, wait) ∷ later))
    → insert_entry row_key_cmp front at wait ≡ front ++ (at, wait) ∷ []
unfolding IsStrictlySortedBy
insert_last [] at wait later sorted = refl
insert_last (e ∷ front) at wait later sorted =
    let after : row_key_cmp at e.0 ≡ Greater = flipped e.0 at (among (λ y. row_key_cmp e.0 y ≡ Less) front (at, wait) later sorted.0) in
    ap (λ o. match_ordering o ((at, wait) ∷ e ∷ front) ((e.0, wait) ∷ front) (e ∷ insert_entry row_key_cmp front at wait)) after
    ∙ ap (λ l. e ∷ l) (insert_last front at wait later sorted.1)

-- what is left of a text that was written
pub record Left (own waits : List Entry) (rest : List ℕ) : Type 0 where
  pub more : List Entry
  pub all : own ≡ waits ++ more
  pub writable : AreWritable more
  pub text : rest ≡ waits_text more

module _ (own waits : List Entry) (rest front behind : List ℕ) (left : Left own waits rest) (cut : CutsAtOctet 10 rest front behind) where
  -- its first line is that of the next wait
  pub next_line : (wait : Entry) × (later : List Entry) × (left.more ≡ wait ∷ later) × IsWritable wait × AreWritable later × (front ≡ wait_body wait) × (behind ≡ waits_text later)
  next_line = by left.more left.writable left.text
    where
      by : (more : List Entry) → AreWritable more → rest ≡ waits_text more
          → (wait : Entry) × (later : List Entry) × (more ≡ wait ∷ later) × IsWritable wait × AreWritable later × (front ≡ wait_body wait) × (behind ≡ waits_text later)
      by [] writable text = absurd (nothing front (sym cut.written ∙ text))
        where
          nothing : (some : List ℕ) → some ++ 10 ∷ behind ≡ [] → ⊥
          nothing [] is = let never = is in cc
          nothing (x ∷ some) is = let never = is in cc
      by (wait ∷ later) writable text =
          let same = one_cut 10 front (wait_body wait) behind (waits_text later) (sym cut.written ∙ text ∙ line_then wait (waits_text later)) cut.first (body_lacks wait writable.0) in
          (wait, later, refl, writable.0, writable.1, same.0, same.1)

  -- and it is put behind the others
  pub line_on : IsStrictlySortedBy row_key_cmp (keys_of own) → (parts : Parts) → ((w : Entry) → IsWritable w → front ≡ wait_body w → IsPartsOf w parts)
      → (at : RowKey) → at ≡ row_key parts.user.now parts.id → (then : List Entry) → then ≡ insert_entry row_key_cmp waits at (wait_in parts) → Left own then behind
  line_on sorted parts reads at there then put =
      let it = next_line in
      let is = reads it.0 it.3 it.5 in
      let same : (at, wait_in parts) ≡ it.0 = (λ i. ((there ∙ (λ j. row_key (is.user j) (is.id j))) i, record { due = is.due i; tries = is.tries i })) in
      let whole : own ≡ waits ++ (at, wait_in parts) ∷ it.1 = left.all ∙ ap (λ l. waits ++ l) it.2 ∙ ap (λ e. waits ++ e ∷ it.1) (sym same) in
      let last : then ≡ waits ++ (at, wait_in parts) ∷ [] = put ∙ insert_last waits at (wait_in parts) it.1 (subst (λ l. IsStrictlySortedBy row_key_cmp (keys_of l)) whole sorted) in
      record {
        more = it.1;
        all = whole ∙ sym (append_assoc waits ((at, wait_in parts) ∷ []) it.1) ∙ ap (λ l. l ++ it.1) (sym last);
        writable = it.4;
        text = it.6;
      }

  pub line_lost : (found : Option Parts) → ((w : Entry) → IsWritable w → front ≡ wait_body w → ArePartsOf w found) → found ≡ None → ⊥
  line_lost found reads none = let it = next_line in subst (ArePartsOf it.0) none (reads it.0 it.3 it.5)

-- no line is left
pub lines_end : (own waits : List Entry) (rest : List ℕ) → Left own waits rest → HasNoMark 10 rest → (rest ≡ []) × (own ≡ waits)
lines_end own waits rest left none = by left.more left.all left.text
  where
    by : (more : List Entry) → own ≡ waits ++ more → rest ≡ waits_text more → (rest ≡ []) × (own ≡ waits)
    by [] all text = (text, all ∙ append-nil waits)
    by (wait ∷ later) all text = absurd (none (wait_body wait) (waits_text later) (text ∙ line_then wait (waits_text later)))

pub left_all : (own : List Entry) (text : List ℕ) → AreWritable own → text ≡ waits_text own → Left own [] text
left_all own text writable is = record { more = own; all = refl; writable = writable; text = is }
