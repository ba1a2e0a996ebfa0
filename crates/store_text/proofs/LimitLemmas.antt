-- A part whose texts are fields, and whose numbers were given, is one of fields alone.
use Rattle.std.proofs.Common.{◌≡◌, ◌<◌, ◌^◌, ℕ, true, arith, decimal, lit≤, nat_le, nat_lt}
use Rattle.std.proofs.lemmas.Bool.{and_parts, ltb-true}
use Rattle.store_text.specs.Netstring.{AreFields, IsNetstringField}
use Rattle.store_text.specs.Fields.{letter_word, part_fields}
use Rattle.store_text.specs.Limits.{part_texts}
use Rattle.store_text.specs.Order.{fits, is_given}
use Rattle.store_text.specs.declared.head.Numbers.{Numbers}
use Rattle.store_text.specs.declared.part.LetterKind.{LetterKind}
use Rattle.store_text.specs.declared.part.LetterKind.TheVariants.{Redirect, Answer}
use Rattle.store_text.specs.declared.part.Part.{Part}
use Rattle.store_text.specs.declared.part.Part.TheVariants.{Script, Reply, Mail, Copy, Letter, Notice}
use Rattle.store_text.proofs.ReadLemmas.{number_small}

given_small : (next n : ℕ) → next < 2 ^ 64 → is_given next n ≡ true → IsNetstringField (decimal n)
given_small next n small is = let less : n < next = ltb-true n next (and_parts (nat_le 1 n) (nat_lt n next) is).1 in number_small n (omega (arith, less, small))

moment_small : (n : ℕ) → nat_lt n (2 ^ 63) ≡ true → IsNetstringField (decimal n)
moment_small n is = let less = ltb-true n (2 ^ 63) is in number_small n (omega (arith, less))

word_small : (kind : LetterKind) → IsNetstringField (letter_word kind)
word_small Redirect = lit≤ tt
word_small Answer = lit≤ tt

pub fields_small : (n : Numbers) → n.next_copy < 2 ^ 64 → n.next_out < 2 ^ 64 → n.next_notice < 2 ^ 64 → (p : Part) → fits n p ≡ true → AreFields (part_texts p) → AreFields (part_fields p)
fields_small n copy out notice (Script name text) is small = (lit≤ tt, small)
fields_small n copy out notice (Reply handle sender moment) is small = (lit≤ tt, (small.0, (small.1.0, (moment_small moment is, tt))))
fields_small n copy out notice (Mail number folder message flags) is small = (lit≤ tt, (given_small n.next_copy number copy is, small))
fields_small n copy out notice (Copy number folder first flags) is small =
    let parts = and_parts _ _ is in
    (lit≤ tt, (given_small n.next_copy number copy parts.0, (small.0, (given_small n.next_copy first copy parts.1, small.1))))
fields_small n copy out notice (Letter id kind sender target message) is small = (word_small kind, (given_small n.next_out id out is, small))
fields_small n copy out notice (Notice number moment text) is small =
    let parts = and_parts _ _ is in
    (lit≤ tt, (given_small n.next_notice number notice parts.0, (moment_small moment parts.1, small)))

pub texts_small : (p : Part) → AreFields (part_fields p) → AreFields (part_texts p)
texts_small (Script name text) small = small.1
texts_small (Reply handle sender moment) small = (small.1.0, (small.1.1.0, tt))
texts_small (Mail number folder message flags) small = small.1.1
texts_small (Copy number folder first flags) small = (small.1.1.0, small.1.1.1.1)
texts_small (Letter id kind sender target message) small = small.1.1
texts_small (Notice number moment text) small = small.1.1.1
