-- Each place tells its part.
use Rattle.std.proofs.Common.{◌≡◌, ◌<◌, ◌==◌, ◌||◌, ◌++◌, ℕ, zero, suc, Bool, true, false, cond, List, [], ◌∷◌, map, find, length, slice_get, Option, Some, None, option_map, inl, inr, refl, sym, ap, ap₂, ◌∙◌, subst, is_eq, Ordering}
use Rattle.std.specs.Cmp.{IsTotalOrder}
use Rattle.std.specs.List.{list_any}
use Rattle.std.specs.FinMap.{FinMap, IsAntisymmetric, get, entries, get-entries}
use Rattle.std.specs.FinMap.{find as find_in}
use Rattle.std.proofs.lemmas.Cmp.{nat_list_cmp_total}
use Rattle.sqlite_value.specs.declared.value.Value.TheVariants.{Blob}
use Rattle.sqlite_value.specs.Order.{column}
use Rattle.sqlite_trees.specs.Tree.{IsAscending}
use Rattle.sqlite_keyed.proofs.ListLemmas.{map-map, slice_get-filter}
use Rattle.sqlite_rules.specs.Lists.{Has}
use Rattle.sqlite_rules.proofs.ListLemmas.{all_has}
use Rattle.store_text.specs.Order.{has_active as has_active_part, is_script as is_script_part}
use Rattle.store_text.specs.declared.part.Part.{Part}
use Rattle.store_text.specs.declared.part.Part.TheVariants as part
use Rattle.store_tables.specs.MessageTable.{bytes_column}
use Rattle.store_tables.specs.Rows.{Tables}
use Rattle.store_accounts.specs.declared.notice.Notice.{Notice as KeptNotice}
use Rattle.store_accounts.specs.declared.queue.QueuedMessage.{QueuedMessage}
use Rattle.store_accounts.specs.Account.{bytes_cmp, reply_cmp, Account}
use Rattle.store_accounts.specs.CopyRows.{Copy as KeptCopy, filing_of}
use Rattle.store_accounts.specs.ReplyRows.{reply_key_of}
use Rattle.store_accounts.specs.ScriptRows.{AreKeysApart}
use Rattle.store_accounts.specs.Shows.{IsShown}
use Rattle.store_accounts.proofs.AccountLemmas.{bytes_antisymmetric, reply_total, reply_antisymmetric}
use Rattle.store_accounts.proofs.FirstLemmas.{own_message}
use Rattle.store_accounts.proofs.MapLemmas.{tied, itself}
use Rattle.store_accounts.proofs.NumberLemmas.{alone_at}
use Rattle.store_export.specs.declared.place.PartPlace.{PartPlace}
use Rattle.store_export.specs.declared.place.PartPlace.TheVariants as place
use Rattle.store_export.specs.declared.run.Run.{Run}
use Rattle.store_export.specs.Parts.{continues_run, first_in, run_with, script_part, reply_part, copy_parts, letter_part, notice_part, account_parts}
use Rattle.store_export.specs.Places.{copy_places, part_places, is_script_place, has_active_place}
use Rattle.store_export.specs.Saying.{SaysPart}
use Rattle.store_export.proofs.PutLemmas.{entries_apart}

-- ---- what is found by its key or its number

module _ {K X : Type 0} (R : K → K → Ordering) (total : IsTotalOrder R) (same : IsAntisymmetric R) where
  found_entry : (es : List (K × X)) → AreKeysApart es → (e : K × X) → Has es e → find_in R e.0 es ≡ Some e.1
  found_entry [] apart e there = absurd there
  found_entry (d ∷ es) apart e (inl is) = ap (λ b. cond b (Some d.1) (find_in R e.0 es)) (ap (λ k. is_eq (R e.0 k)) (sym (ap (λ (x : K × X). x.0) is)) ∙ itself R total same e.0) ∙ ap Some (sym (ap (λ (x : K × X). x.1) is))
  found_entry (d ∷ es) apart e (inr later) = go (is_eq (R e.0 d.0)) refl (found_entry es apart.1 e later)
    where
      go : (b : Bool) → is_eq (R e.0 d.0) ≡ b → find_in R e.0 es ≡ Some e.1 → cond b (Some d.1) (find_in R e.0 es) ≡ Some e.1
      go true tie more = absurd (all_has (λ (y : K × X). d.0 ≡ y.0 → ⊥) es e apart.0 later (sym (tied R total same e.0 d.0 tie)))
      go false other more = more

  get_entry : (m : FinMap R X) (e : K × X) → Has (entries m) e → get m e.0 ≡ Some e.1
  get_entry m e there = get-entries m e.0 ∙ found_entry (entries m) (entries_apart R total same m) e there

found_numbered : {X : Type 0} (number : X → ℕ) (xs : List X) → IsAscending (λ x y. number x < number y) xs → (x : X) → Has xs x → find (λ y. number y == number x) xs ≡ Some x
found_numbered number xs rise x there = sym (slice_get-filter (λ y. number y == number x) xs) ∙ ap (λ l. slice_get l 0) (alone_at number (λ _. []) xs rise x there)

-- ---- a place and its part

some_one : {X : Type 0} (x y : X) → Some x ≡ Some y → x ≡ y
some_one x y e = cc

module _ (user : List ℕ) (own : Tables) (a : Account) (s : IsShown user own a) where
  -- what the rows say of the place is the part, and it is a script where the part is that script
  record Tells (at : PartPlace) (p : Part) : Type 0 where
    told : (q : Part) → SaysPart user a q at own s → q ≡ p
    named : (name : List ℕ) → is_script_place name at ≡ is_script_part name p

  abbrev AreTold : List PartPlace → List Part → Type 0
  AreTold [] [] = Unit {0}
  AreTold [] (p ∷ ps) = ⊥
  AreTold (x ∷ xs) [] = ⊥
  AreTold (x ∷ xs) (p ∷ ps) = Tells x p × AreTold xs ps

  told-append : (xs : List PartPlace) (ps : List Part) (ys : List PartPlace) (qs : List Part) → AreTold xs ps → AreTold ys qs → AreTold (xs ++ ys) (ps ++ qs)
  told-append [] [] ys qs one two = two
  told-append [] (p ∷ ps) ys qs one two = absurd one
  told-append (x ∷ xs) [] ys qs one two = absurd one
  told-append (x ∷ xs) (p ∷ ps) ys qs one two = (one.0, told-append xs ps ys qs one.1 two)

  told-map : {X : Type 0} (f : X → PartPlace) (g : X → Part) (xs : List X) → ((x : X) → Has xs x → Tells (f x) (g x)) → AreTold (map f xs) (map g xs)
  told-map f g [] each = tt
  told-map f g (x ∷ xs) each = (each x (inl refl), told-map f g xs (λ y there. each y (inr there)))

  told_at : (xs : List PartPlace) (ps : List Part) → AreTold xs ps → (n : ℕ) (at : PartPlace) (q : Part) → slice_get xs n ≡ Some at → SaysPart user a q at own s → slice_get ps n ≡ Some q
  told_at [] ps all n at q is says = absurd (let no = is in cc)
  told_at (x ∷ xs) [] all n at q is says = absurd all
  told_at (x ∷ xs) (p ∷ ps) all zero at q is says =
      let same : x ≡ at = some_one x at is in
      ap Some (sym (all.0.told q (subst (λ y. SaysPart user a q y own s) (sym same) says)))
  told_at (x ∷ xs) (p ∷ ps) all (suc n) at q is says = told_at xs ps all.1 n at q is says

  told_length : (xs : List PartPlace) (ps : List Part) → AreTold xs ps → length xs ≡ length ps
  told_length [] [] all = refl
  told_length [] (p ∷ ps) all = absurd all
  told_length (x ∷ xs) [] all = absurd all
  told_length (x ∷ xs) (p ∷ ps) all = ap suc (told_length xs ps all.1)

  told_script : (name : List ℕ) (xs : List PartPlace) (ps : List Part) → AreTold xs ps → list_any (is_script_place name) xs ≡ list_any (is_script_part name) ps
  told_script name [] [] all = refl
  told_script name [] (p ∷ ps) all = absurd all
  told_script name (x ∷ xs) [] all = absurd all
  told_script name (x ∷ xs) (p ∷ ps) all = ap₂ ◌||◌ (all.0.named name) (told_script name xs ps all.1)

  -- ---- of each kind

  tells_script : (e : List ℕ × List ℕ) → Has (entries a.scripts) e → Tells (place.Script e.0) (script_part e)
  tells_script e there = record {
    told = λ q says. some_one q (script_part e) (says ∙ ap (option_map (part.Script e.0)) (get_entry bytes_cmp nat_list_cmp_total bytes_antisymmetric a.scripts e there));
    named = λ name. refl;
  }

  tells_reply : (e : (List ℕ × List ℕ) × ℕ) → Has (entries a.replies) e → Tells (place.Reply (reply_key_of e.0)) (reply_part e)
  tells_reply e there = record {
    told = λ q says. some_one q (reply_part e) (says ∙ ap (option_map (part.Reply e.0.0 e.0.1)) (get_entry reply_cmp reply_total reply_antisymmetric a.replies e there));
    named = λ name. refl;
  }

  tells_mail : (c : KeptCopy) → Has s.copies.entries c → Tells (place.Mail (filing_of c)) (part.Mail c.n c.folder c.message c.flags)
  tells_mail c there = record {
    told = λ q says.
        let row = ap (λ l. slice_get (map (λ r. column r bytes_column) l) 0) (own_message user own a s c there) in
        let both : Some (Blob c.message) ≡ Some (Blob says.0) = sym row ∙ says.1 in
        let octets : says.0 ≡ c.message = cc in
        says.2 ∙ ap (λ o. part.Mail c.n c.folder o c.flags) octets;
    named = λ name. refl;
  }

  tells_copy : (c : KeptCopy) (first : ℕ) → Tells (place.Copy (filing_of c) first) (part.Copy c.n c.folder first c.flags)
  tells_copy c first = record { told = λ q says. says; named = λ name. refl }

  tells_copies : (run : Option Run) (cs : List KeptCopy) → ((c : KeptCopy) → Has cs c → Has s.copies.entries c) → AreTold (copy_places run (map filing_of cs)) (copy_parts run cs)
  tells_copies run [] each = tt
  tells_copies run (c ∷ cs) each = (go (continues_run run c.id), tells_copies (Some (run_with run c.n c.id)) cs (λ d there. each d (inr there)))
    where
      go : (b : Bool) → Tells (cond b (place.Copy (filing_of c) (first_in run c.n c.id)) (place.Mail (filing_of c))) (cond b (part.Copy c.n c.folder (first_in run c.n c.id) c.flags) (part.Mail c.n c.folder c.message c.flags))
      go true = tells_copy c (first_in run c.n c.id)
      go false = tells_mail c (each c (inl refl))

  tells_letter : (out : QueuedMessage) → Has a.queue out → Tells (place.Letter out.id) (letter_part out)
  tells_letter out there = record { told = λ q says. some_one q (letter_part out) (says ∙ ap (option_map letter_part) (found_numbered (λ (x : QueuedMessage). x.id) a.queue s.queue.rise out there)); named = λ name. refl }

  tells_notice : (e : ℕ × KeptNotice) → Has s.notices.entries e → Tells (place.Notice e.0) (notice_part e)
  tells_notice e there = record {
    told = λ q says.
        some_one q (notice_part e) (says ∙ ap (λ o. option_map (λ (n : KeptNotice). part.Notice e.0 n.moment n.text) (option_map (λ (x : ℕ × KeptNotice). x.1) o)) (found_numbered (λ (x : ℕ × KeptNotice). x.0) s.notices.entries s.notices.numbered.rise e there));
    named = λ name. refl;
  }

  -- ---- all of them

  all_told : AreTold (part_places a s.copies.entries s.notices.entries) (account_parts a s.copies.entries s.notices.entries)
  all_told =
      let scripts : AreTold (map place.Script (map (λ e. e.0) (entries a.scripts))) (map script_part (entries a.scripts)) =
      subst (λ l. AreTold l (map script_part (entries a.scripts))) (sym (map-map place.Script (λ (e : List ℕ × List ℕ). e.0) (entries a.scripts))) (told-map (λ (e : List ℕ × List ℕ). place.Script e.0) script_part (entries a.scripts) tells_script) in
      let replies : AreTold (map place.Reply (map reply_key_of (map (λ e. e.0) (entries a.replies)))) (map reply_part (entries a.replies)) =
      subst (λ l. AreTold l (map reply_part (entries a.replies)))
      (sym (ap (map place.Reply) (map-map reply_key_of (λ (e : (List ℕ × List ℕ) × ℕ). e.0) (entries a.replies)) ∙ map-map place.Reply (λ (e : (List ℕ × List ℕ) × ℕ). reply_key_of e.0) (entries a.replies)))
      (told-map (λ (e : (List ℕ × List ℕ) × ℕ). place.Reply (reply_key_of e.0)) reply_part (entries a.replies) tells_reply) in
      let notices : AreTold (map place.Notice (map (λ e. e.0) s.notices.entries)) (map notice_part s.notices.entries) =
      subst (λ l. AreTold l (map notice_part s.notices.entries)) (sym (map-map place.Notice (λ (e : ℕ × KeptNotice). e.0) s.notices.entries)) (told-map (λ (e : ℕ × KeptNotice). place.Notice e.0) notice_part s.notices.entries tells_notice) in
      let letters = told-map (λ (out : QueuedMessage). place.Letter out.id) letter_part a.queue tells_letter in
      told-append _ _ _ _ scripts (told-append _ _ _ _ replies (told-append _ _ _ _ (tells_copies None s.copies.entries (λ c there. there)) (told-append _ _ _ _ letters notices)))

  pub part_is : (n : ℕ) (at : PartPlace) (q : Part) → slice_get (part_places a s.copies.entries s.notices.entries) n ≡ Some at → SaysPart user a q at own s → slice_get (account_parts a s.copies.entries s.notices.entries) n ≡ Some q
  part_is = told_at (part_places a s.copies.entries s.notices.entries) (account_parts a s.copies.entries s.notices.entries) all_told

  pub as_many : length (part_places a s.copies.entries s.notices.entries) ≡ length (account_parts a s.copies.entries s.notices.entries)
  as_many = told_length (part_places a s.copies.entries s.notices.entries) (account_parts a s.copies.entries s.notices.entries) all_told

  pub active_is : (active : Option (List ℕ)) → has_active_place active (part_places a s.copies.entries s.notices.entries) ≡ true → has_active_part active (account_parts a s.copies.entries s.notices.entries) ≡ true
  active_is None is = refl
  active_is (Some name) is = sym (told_script name (part_places a s.copies.entries s.notices.entries) (account_parts a s.copies.entries s.notices.entries) all_told) ∙ is
