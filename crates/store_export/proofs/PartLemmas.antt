-- One part more was read.
use Rattle.std.proofs.Common.{◌≡◌, ◌+◌, ◌++◌, ℕ, List, [], ◌∷◌, length, take, get_or, slice_get, Some, sym, ap, ◌∙◌, length-append}
use Rattle.std.proofs.lemmas.List.{take_more}
use Rattle.std.proofs.lemmas.Option.{get_or_from_slice_get, slice_get_within}
use Rattle.sqlite.specs.Effect.{Database}
use Rattle.sqlite_keyed.proofs.ListLemmas.{all-append}
use Rattle.store_text.specs.Limits.{MayHave}
use Rattle.store_text.specs.declared.part.Part.{Part}
use Rattle.store_accounts.specs.Account.{Account}
use Rattle.store_export.specs.declared.contents.Contents.{Contents}
use Rattle.store_export.specs.declared.place.PartPlace.{PartPlace}
use Rattle.store_export.specs.Parts.{account_parts}
use Rattle.store_export.specs.Reading.{IsNextPart}
use Rattle.store_export.specs.Saying.{SaysAt}
use Rattle.store_export.proofs.PlaceLemmas.{part_is}

take_next : (all front : List Part) (p : Part) → front ≡ take (length front) all → slice_get all (length front) ≡ Some p → front ++ p ∷ [] ≡ take (length (front ++ p ∷ [])) all
take_next all front p first is =
    let more : take (length front + 1) all ≡ take (length front) all ++ get_or all (length front) p ∷ [] = take_more all (length front) p (slice_get_within all (length front) p is) in
    let long : length (front ++ p ∷ []) ≡ length front + 1 = length-append front (p ∷ []) in
    ap (λ l. l ++ p ∷ []) first ∙ ap (λ q. take (length front) all ++ q ∷ []) (sym (get_or_from_slice_get all (length front) p p is)) ∙ sym more ∙ ap (λ n. take n all) (sym long)

pub next_part : (contents : Contents) (n : ℕ) (at : PartPlace) (p : Part) (db : Database) (a : Account) → slice_get contents.places n ≡ Some at → SaysAt contents.head.owner.name at p db a → MayHave contents.head.numbers p → IsNextPart contents n p db a
next_part contents n at p db a is says may parts count read = record {
  listed = read.listed;
  first = λ tables held s.
      let places = (read.listed tables held s).places in
      let here = part_is contents.head.owner.name _ a s n at p (ap (λ l. slice_get l n) (sym places) ∙ is) (says tables held s) in
      take_next (account_parts a s.copies.entries s.notices.entries) parts p (read.first tables held s) (ap (slice_get (account_parts a s.copies.entries s.notices.entries)) count ∙ here);
  head = read.head;
  active = read.active;
  fit = all-append (MayHave contents.head.numbers) parts (p ∷ []) read.fit (may, tt);
}
