-- Once each place was read, the parts are the account's text.
use Rattle.std.proofs.Common.{◌≡◌, true, List, [], ◌∷◌, length, take, Some, None, refl, sym, ap, ◌∙◌, subst, arith}
use Rattle.std.specs.List.{AllByRecursion, list_all}
use Rattle.std.specs.FinMap.{empty, get}
use Rattle.std.proofs.lemmas.Bool.{and_from}
use Rattle.std.proofs.lemmas.List.{take_all}
use Rattle.sqlite.specs.Effect.{Database}
use Rattle.sqlite_keyed.proofs.ListLemmas.{all_weaker}
use Rattle.store_text.specs.Fields.{part_fields}
use Rattle.store_text.specs.Limits.{MayHave}
use Rattle.store_text.specs.Netstring.{AreFields}
use Rattle.store_text.specs.Order.{fits, are_chained, has_active}
use Rattle.store_text.specs.Text.{IsAccount, account_text}
use Rattle.store_text.specs.declared.head.Numbers.{Numbers}
use Rattle.store_text.specs.declared.part.Part.{Part}
use Rattle.store_tables.specs.Rows.{Tables}
use Rattle.store_accounts.specs.Account.{Account, Accounts}
use Rattle.store_accounts.specs.Whole.{IsCopyOf}
use Rattle.store_accounts.specs.Shows.{rows_of, IsShown, IsShownOrAbsent, Presents}
use Rattle.store_accounts.specs.Whole.{whole}
use Rattle.store_export.specs.declared.contents.Contents.{Contents}
use Rattle.store_export.specs.Parts.{account_head, account_parts}
use Rattle.store_export.specs.Reading.{AreRead, IsListOf}
use Rattle.store_export.proofs.AgainLemmas.{account_again, alike}
use Rattle.store_export.proofs.ChainLemmas.{parts_chained}
use Rattle.store_export.proofs.PlaceLemmas.{active_is, as_many}

each_given : (n : Numbers) (ps : List Part) → AllByRecursion (MayHave n) ps → list_all (fits n) ps ≡ true
each_given n [] all = refl
each_given n (p ∷ ps) all = and_from (fits n p) (list_all (fits n) ps) all.0.given (each_given n ps all.1)

module _ (contents : Contents) (parts : List Part) (a : Account) (own : Tables) (s : IsShown contents.head.owner.name own a) (listed : IsListOf contents a own s) (all : parts ≡ account_parts a s.copies.entries s.notices.entries) where
  makes_again : whole contents.head parts empty ≡ a
  makes_again =
      ap (λ h. whole h parts empty) listed.head ∙ ap (λ ps. whole (account_head contents.head.owner.name a s.next_copy s.next_notice) ps empty) all
      ∙ account_again a s.copies.entries s.notices.entries contents.head.owner.name s.next_copy s.next_notice (alike s.copies.messages s.copies.stored.rise s.copies.entries s.copies.kept.present) s.copies.shown s.copies.shown_flags s.notices.shown

  in_order : are_chained None parts ≡ true
  in_order = ap (are_chained None) all ∙ parts_chained a s.copies.entries s.notices.entries s.copies.numbered.rise s.queue.rise s.notices.numbered.rise

pub copy_whole : (contents : Contents) (parts : List Part) (db : Database) (accounts : Accounts) (a : Account) → Presents db accounts → get accounts contents.head.owner.name ≡ Some a → AreRead contents parts db a → length parts ≡ length contents.places
    → IsCopyOf (account_text contents.head parts) contents.head.owner.name a
copy_whole contents parts db accounts a p there read count =
    let user = contents.head.owner.name in
    let own = rows_of user p.0 in
    let s : IsShown user own a = subst (IsShownOrAbsent user own) there (p.2.users user) in
    let listed = read.listed p.0 p.1 s in
    let every = account_parts a s.copies.entries s.notices.entries in
    let long : length parts ≡ length every = count ∙ ap length listed.places ∙ as_many user own a s in
    let all : parts ≡ every = read.first p.0 p.1 s ∙ take_all (length parts) every (omega (arith, long)) in
    let account : IsAccount contents.head parts = record {
      once = read.head;
      given = each_given contents.head.numbers parts read.fit;
      chained = in_order contents parts a own s listed all;
      active = ap (has_active contents.head.owner.active) all ∙ active_is user own a s contents.head.owner.active (ap (Rattle.store_export.specs.Places.has_active_place contents.head.owner.active) (sym listed.places) ∙ read.active);
      small = all_weaker (MayHave contents.head.numbers) (λ q. AreFields (part_fields q)) (λ q may. may.small) parts read.fit;
    } in
    record { head = contents.head; parts = parts; spelled = record { account = account; spelled = refl }; named = refl; makes = makes_again contents parts a own s listed all }

-- of parts that were read so far: they are the first of those that make the account again
pub copy_front : (contents : Contents) (parts : List Part) (db : Database) (accounts : Accounts) (a : Account) → Presents db accounts → get accounts contents.head.owner.name ≡ Some a → AreRead contents parts db a
    → (all : List Part) × (parts ≡ take (length parts) all) × (whole contents.head all empty ≡ a)
copy_front contents parts db accounts a p there read =
    let user = contents.head.owner.name in
    let own = rows_of user p.0 in
    let s : IsShown user own a = subst (IsShownOrAbsent user own) there (p.2.users user) in
    let every = account_parts a s.copies.entries s.notices.entries in
    (every, read.first p.0 p.1 s, makes_again contents every a own s (read.listed p.0 p.1 s) refl)
