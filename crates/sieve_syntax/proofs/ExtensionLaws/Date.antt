-- What `date` owes: its tests say one thing, with tags that the grammar knows, and may be asked where more is granted.
use Rattle.std.proofs.Common.{◌≡◌, ℕ, List, Some, None, sym, ap, ◌∙◌}
use Rattle.octets.proofs.Lists.{some_is, some_pair}
use Rattle.mail_dates.specs.Parts.{part_named}
use Rattle.sieve_syntax.specs.declared.extension.date.DateTest.{DateTest}
use Rattle.sieve_syntax.specs.declared.extension.date.CurrentDate.{CurrentDate}
use Rattle.sieve_syntax.specs.declared.parser.argument.Argument.{Argument}
use Rattle.sieve_syntax.specs.declared.table.tag_group.TagValue.{TagValue}
use Rattle.sieve_syntax.specs.Positional.{text_and_list, two_texts_and_list}
use Rattle.sieve_syntax.specs.Extension.Date.{SaysDate, SaysCurrentDate, IsDateTest, IsCurrentDateTest, MayAskDate, MayAskCurrentDate}
use Rattle.sieve_syntax.specs.Rows.{IsTableRow}
use Rattle.sieve_syntax.specs.Capabilities.{Capabilities, IsWithin}
use Rattle.sieve_syntax.proofs.GrowthLemmas.{match_grows}
use Rattle.sieve_syntax.proofs.KnownLemmas.{AreKnown, row_known, two_known, three_known}
use Rattle.sieve_syntax.proofs.RowLemmas.{call_same, row_same}
use Rattle.sieve_syntax.specs.declared.extension.ExtensionTest.{ExtensionTest}
use Rattle.sieve_syntax.specs.declared.extension.ExtensionTest.TheVariants as X
use Rattle.sieve_syntax.specs.declared.capability.Capability.TheVariants as C

-- tags and positional arguments say one thing at most
module _ (tag_values : List TagValue) (positional : List Argument) where
  pub date_same : (x y : DateTest) → SaysDate tag_values positional x → SaysDate tag_values positional y → x ≡ y
  date_same x y a b =
      let zone : x.zone ≡ y.zone = a.zone ∙ sym b.zone in
      let comparator : x.comparator ≡ y.comparator = a.comparator ∙ sym b.comparator in
      let matching : x.matching ≡ y.matching = a.matching ∙ sym b.matching in
      let all = some_pair (x.field, (a.name, x.keys)) (y.field, (b.name, y.keys)) (sym a.arguments ∙ b.arguments) in
      let name : a.name ≡ b.name = ap (λ (p : List ℕ × List (List ℕ)). p.0) all.1 in
      let keys : x.keys ≡ y.keys = ap (λ (p : List ℕ × List (List ℕ)). p.1) all.1 in
      let part : x.part ≡ y.part = some_is x.part y.part (sym a.part ∙ (ap part_named name ∙ b.part)) in
      λ i. record { zone = zone i; comparator = comparator i; matching = matching i; field = all.0 i; part = part i; keys = keys i }

  pub current_date_same : (x y : CurrentDate) → SaysCurrentDate tag_values positional x → SaysCurrentDate tag_values positional y → x ≡ y
  current_date_same x y a b =
      let zone : x.zone ≡ y.zone = some_is x.zone y.zone (sym a.zone ∙ b.zone) in
      let comparator : x.comparator ≡ y.comparator = a.comparator ∙ sym b.comparator in
      let matching : x.matching ≡ y.matching = a.matching ∙ sym b.matching in
      let both = some_pair (a.name, x.keys) (b.name, y.keys) (sym a.arguments ∙ b.arguments) in
      let part : x.part ≡ y.part = some_is x.part y.part (sym a.part ∙ (ap part_named both.0 ∙ b.part)) in
      λ i. record { zone = zone i; comparator = comparator i; matching = matching i; part = part i; keys = both.1 i }

  -- what names no part of a date
  pub date_no_part : (field name : List ℕ) (keys : List (List ℕ)) → two_texts_and_list positional ≡ Some (field, (name, keys)) → part_named name ≡ None → (x : DateTest) → SaysDate tag_values positional x → ⊥
  date_no_part field name keys arguments none x a =
      let all = some_pair (x.field, (a.name, x.keys)) (field, (name, keys)) (sym a.arguments ∙ arguments) in
      let named : a.name ≡ name = ap (λ (p : List ℕ × List (List ℕ)). p.0) all.1 in
      let bad : None ≡ Some x.part = sym none ∙ (ap part_named (sym named) ∙ a.part) in
      absurd (cc bad)

  pub current_no_part : (name : List ℕ) (keys : List (List ℕ)) → text_and_list positional ≡ Some (name, keys) → part_named name ≡ None → (x : CurrentDate) → SaysCurrentDate tag_values positional x → ⊥
  current_no_part name keys arguments none x a =
      let both = some_pair (a.name, x.keys) (name, keys) (sym a.arguments ∙ arguments) in
      let bad : None ≡ Some x.part = sym none ∙ (ap part_named (sym both.0) ∙ a.part) in
      absurd (cc bad)

-- one word with arguments stands for one test
pub date_test_same : (args : List Argument) (t u : ExtensionTest) → IsTableRow IsDateTest X.Date args t → IsTableRow IsDateTest X.Date args u → t ≡ u
date_test_same args t u a b = row_same _ _ args (call_same _ _ date_same args) t u a b

pub current_test_same : (args : List Argument) (t u : ExtensionTest) → IsTableRow IsCurrentDateTest X.CurrentDate args t → IsTableRow IsCurrentDateTest X.CurrentDate args u → t ≡ u
current_test_same args t u a b = row_same _ _ args (call_same _ _ current_date_same args) t u a b

pub date_known : (args : List Argument) (t : ExtensionTest) → IsTableRow IsDateTest X.Date args t → AreKnown args
date_known args t is = row_known _ _ _ (λ s p date says. three_known p (date.field, (says.name, date.keys)) says.arguments) args t is

pub current_known : (args : List Argument) (t : ExtensionTest) → IsTableRow IsCurrentDateTest X.CurrentDate args t → AreKnown args
current_known args t is = row_known _ _ _ (λ s p current says. two_known p (says.name, current.keys) says.arguments) args t is

-- what may be asked where few are granted may be where more are
pub date_grows : (few more : Capabilities) → IsWithin few more → (date : DateTest) → MayAskDate few date → MayAskDate more date
date_grows few more within date may = (within C.Date may.0, match_grows few more within date.comparator date.matching may.1)

pub current_grows : (few more : Capabilities) → IsWithin few more → (current : CurrentDate) → MayAskCurrentDate few current → MayAskCurrentDate more current
current_grows few more within current may = (within C.Date may.0, match_grows few more within current.comparator current.matching may.1)
