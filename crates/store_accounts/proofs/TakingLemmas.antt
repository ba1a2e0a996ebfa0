-- The first message of a folder leaves it: the copies, the messages and the folders that are left.
use Rattle.std.proofs.Common.{◌≡◌, ◌≢◌, ◌==◌, ◌&&◌, ◌<◌, ℕ, pos, Bool, true, false, not, cond, List, [], ◌∷◌, ◌++◌, drop, map, filter, find, fold, slice_get, Option, Some, None, unwrap_or, refl, sym, ap, ◌∙◌, subst, inl, inr, is_eq, true≢false, eq-eqb, ne_eqb, eqb-true, arith}
use Rattle.std.specs.List.{list_any}
use Rattle.std.specs.FinMap.{empty, get, get-empty, get-insert, get-remove, same_map}
use Rattle.std.proofs.lemmas.Bool.{cases_eq, and_parts, and_from, and_right, false_from_ne_true}
use Rattle.std.proofs.lemmas.Cmp.{nat_list_cmp_total}
use Rattle.sqlite_trees.specs.Tree.{IsAscending}
use Rattle.sqlite_sql.specs.declared.ops.CompareOp.TheVariants.{Eq}
use Rattle.sqlite_rules.specs.Lists.{Has}
use Rattle.sqlite_rules.proofs.ListLemmas.{all_has, all_from, some_has, has_filtered, has_kept, has_found}
use Rattle.sqlite_keyed.specs.Lists.{delete_where}
use Rattle.sqlite_keyed.proofs.ListLemmas.{all-filter, all_weaker, ascending-filter, filter_all, none_from_any, slice_get-filter}
use Rattle.sqlite_typed.proofs.TestLemmas.{at_blobs, at_ints, last_term, then_term, same_bytes, bytes_eq_refl}
use Rattle.store_tables.specs.Rows.{Tables, has_key}
use Rattle.store_tables.proofs.ListLemmas.{equal_itself, filter_kept}
use Rattle.store_accounts.specs.Account.{bytes_cmp, Account, Folders, messages_in, filed, holding, left_in, takes_mail}
use Rattle.store_tables.specs.Changes.{copy_removed, message_removed}
use Rattle.store_accounts.specs.Taking.{message_left}
use Rattle.store_accounts.specs.CopyRows.{Copy, copy_row, message_of, HasCopy, AreKept, filed_from, filing_of, is_in, is_other_copy}
use Rattle.store_tables.specs.CopyTable.{copy_key, copy_tree}
use Rattle.store_accounts.specs.MessageRows.{Message, message_row}
use Rattle.store_tables.specs.MessageTable.{message_key, message_tree}
use Rattle.store_accounts.specs.Shows.{IsShown}
use Rattle.store_accounts.proofs.AccountLemmas.{bytes_antisymmetric, message_is, same_numbers}
use Rattle.store_accounts.proofs.NumberLemmas.{alone_at, numbered_without}
use Rattle.store_accounts.proofs.OrderLemmas.{filed_are}
use Rattle.store_accounts.proofs.ShowLemmas.{filter_swapped}

-- ---- the folders that copies make

abbrev pub unless_none : {X : Type 0} → List X → Option (List X)
unless_none [] = None
unless_none (x ∷ xs) = Some (x ∷ xs)

-- a folder is there where it has a message
abbrev HasNoEmpty : Folders → Type 0
HasNoEmpty m = (q : List ℕ) → get m q ≡ unless_none (messages_in m q)

empty_full : HasNoEmpty empty
empty_full q = get-empty bytes_cmp q ∙ sym (ap (λ o. unless_none (unwrap_or o [])) (get-empty bytes_cmp q))

some_pushed : (xs : List (List ℕ)) (x : List ℕ) → Some (xs ++ x ∷ []) ≡ unless_none (xs ++ x ∷ [])
some_pushed [] x = refl
some_pushed (y ∷ ys) x = refl

filed_full : (m : Folders) (name message : List ℕ) → HasNoEmpty m → HasNoEmpty (filed m name message)
filed_full m name message full q =
    let got = get-insert nat_list_cmp_total m name (messages_in m name ++ message ∷ []) q in
    got ∙ go (is_eq (bytes_cmp q name)) ∙ sym (ap (λ o. unless_none (unwrap_or o [])) got)
  where
    go : (b : Bool) → cond b (Some (messages_in m name ++ message ∷ [])) (get m q) ≡ unless_none (unwrap_or (cond b (Some (messages_in m name ++ message ∷ [])) (get m q)) [])
    go true = some_pushed (messages_in m name) message
    go false = full q

folded_full : (what : Copy → List ℕ) (copies : List Copy) (m : Folders) → HasNoEmpty m → HasNoEmpty (fold (λ there c. filed there c.folder (what c)) m copies)
folded_full what [] m full = full
folded_full what (c ∷ copies) m full = folded_full what copies (filed m c.folder (what c)) (filed_full m c.folder (what c) full)

folders_full : (what : Copy → List ℕ) (copies : List Copy) → HasNoEmpty (filed_from what copies)
folders_full what copies = folded_full what copies empty empty_full

pub held_get : (m : Folders) (name : List ℕ) (left : List (List ℕ)) (q : List ℕ) → get (holding m name left) q ≡ cond (is_eq (bytes_cmp q name)) (unless_none left) (get m q)
held_get m name [] q = get-remove nat_list_cmp_total m name q
held_get m name (x ∷ xs) q = get-insert nat_list_cmp_total m name (x ∷ xs) q

-- of copies, where those of one folder have these and those of the others are as they were
held_folders : (what : Copy → List ℕ) (copies later : List Copy) (folder : List ℕ) (left : List (List ℕ)) → map what (filter (is_in folder) later) ≡ left
    → ((q : List ℕ) → is_eq (bytes_cmp q folder) ≡ false → filter (is_in q) later ≡ filter (is_in q) copies) → holding (filed_from what copies) folder left ≡ filed_from what later
held_folders what copies later folder left here others = same_map nat_list_cmp_total bytes_antisymmetric _ _ (λ q. held_get (filed_from what copies) folder left q ∙ at q (is_eq (bytes_cmp q folder)) refl)
  where
    at : (q : List ℕ) (b : Bool) → is_eq (bytes_cmp q folder) ≡ b → cond b (unless_none left) (get (filed_from what copies) q) ≡ get (filed_from what later) q
    at q true same = ap unless_none (sym here ∙ sym (filed_are what later folder)) ∙ sym (folders_full what later folder) ∙ ap (get (filed_from what later)) (sym (same_bytes q folder same))
    at q false apart = folders_full what copies q ∙ ap unless_none (filed_are what copies q ∙ ap (map what) (sym (others q apart)) ∙ sym (filed_are what later q)) ∙ sym (folders_full what later q)

-- ---- the copy that goes

abbrev pub is_gone : List ℕ → ℕ → Copy → Bool
is_gone folder n c = is_in folder c && c.n == n

-- a row of a copy has a key of its owner, a folder and a number where both are these
copy_is : (user folder : List ℕ) (n : ℕ) (c : Copy) → has_key (copy_key user folder (pos n)) (copy_row user c) ≡ is_gone folder n c
copy_is user folder n c = rw (equal_itself user) (then_term (at_blobs false Eq c.folder folder) (last_term (at_ints false Eq (pos c.n) (pos n) ∙ same_numbers c.n n)))

module _ (folder : List ℕ) (copies : List Copy) (rise : IsAscending (λ c d. c.n < d.n) copies) (c : Copy) (there : Has copies c) (inside : is_in folder c ≡ true) where
  abbrev left : List Copy
  left = delete_where (is_gone folder c.n) copies

  -- copies of one number are one
  pub one_copy : (d : Copy) → Has copies d → d.n ≡ c.n → d ≡ c
  one_copy d here same =
      let row = copy_row [] in
      let both : d ∷ [] ≡ c ∷ [] = sym (alone_at (λ x. x.n) row copies rise d here) ∙ ap (λ n. filter (λ (x : Copy). x.n == n) copies) same ∙ alone_at (λ x. x.n) row copies rise c there in
      cc

  stays : (d : Copy) → Has copies d → d.n ≢ c.n → Has left d
  stays d here differ = has_kept (λ x. not (is_gone folder c.n x)) copies d here (ap not (and_right (is_in folder d) (d.n == c.n) (ne_eqb d.n c.n differ)))

  goes : is_gone folder c.n c ≡ true
  goes = and_from (is_in folder c) (c.n == c.n) inside (eq-eqb c.n c.n refl)

  differs : (d : Copy) → Has left d → d.n ≢ c.n
  differs d here same =
      let parts = has_filtered (λ x. not (is_gone folder c.n x)) copies d here in
      true≢false (sym parts.1 ∙ ap (λ x. not (is_gone folder c.n x)) (one_copy d parts.0 same) ∙ ap not goes)

  -- the others' folders have what they had
  others_left : (q : List ℕ) → is_eq (bytes_cmp q folder) ≡ false → filter (is_in q) left ≡ filter (is_in q) copies
  others_left q apart = filter_kept (is_in q) (is_gone folder c.n) (λ x h. false_from_ne_true (is_in q x) (λ both.
      let here = same_bytes x.folder folder (and_parts (is_in folder x) (x.n == c.n) h).0 in
      let is = sym (same_bytes x.folder q both) ∙ here in
      true≢false (sym (ap (λ k. is_eq (bytes_cmp k folder)) is ∙ bytes_eq_refl folder) ∙ apart))) copies

  -- its own has the rest
  pub rest_left : (rest : List Copy) → filter (is_in folder) copies ≡ c ∷ rest → filter (is_in folder) left ≡ rest
  rest_left rest split =
      let up = subst (IsAscending (λ x y. x.n < y.n)) split (ascending-filter (λ x y. x.n < y.n) (is_in folder) copies rise) in
      let later = all_weaker (λ d. c.n < d.n) (λ d. not (is_gone folder c.n d) ≡ true) (λ d low. ap not (and_right (is_in folder d) (d.n == c.n) (ne_eqb d.n c.n (λ same. omega (arith, same, low))))) rest up.0 in
      filter_swapped (is_in folder) (is_gone folder c.n) copies ∙ ap (delete_where (is_gone folder c.n)) split ∙ rw goes (filter_all (λ d. not (is_gone folder c.n d)) rest later)

  module _ (messages : List Message) (k : AreKept copies messages) where
    -- another copy has the message
    still_kept : (d : Copy) → Has copies d → d.id ≡ c.id → d.n ≢ c.n → AreKept left messages
    still_kept d here same differ = record {
      present = all-filter (λ x. Has messages (message_of x)) (λ x. not (is_gone folder c.n x)) copies k.present;
      used = all_from (HasCopy left) messages used;
      first = all-filter _ (λ x. not (is_gone folder c.n x)) copies k.first;
    }
      where
        used : (m : Message) → Has messages m → HasCopy left m
        used m at = go (all_has (HasCopy copies) messages m k.used at)
          where
            go : HasCopy copies m → HasCopy left m
            go u = elim (cases_eq u.0.n c.n) [
              | inl is ↦ (d, stays d here differ, same ∙ ap (λ (x : Copy). x.id) (sym (one_copy u.0 u.1 is)) ∙ u.2)
              | inr other ↦ (u.0, stays u.0 u.1 other, u.2)
            ]

    abbrev messages_left : List Message
    messages_left = delete_where (λ m. m.id == c.id) messages

    -- no other copy has it
    less_kept : ((d : Copy) → Has copies d → d.id ≡ c.id → d.n ≡ c.n) → AreKept left messages_left
    less_kept alone = record { present = all_from (λ d. Has messages_left (message_of d)) left present; used = all_from (HasCopy left) messages_left used; first = all-filter _ (λ x. not (is_gone folder c.n x)) copies k.first }
      where
        present : (d : Copy) → Has left d → Has messages_left (message_of d)
        present d here =
            let was = (has_filtered (λ x. not (is_gone folder c.n x)) copies d here).0 in
            has_kept (λ m. not (m.id == c.id)) messages (message_of d) (all_has (λ x. Has messages (message_of x)) copies d k.present was) (ap not (ne_eqb d.id c.id (λ same. differs d here (alone d was same))))

        used : (m : Message) → Has messages_left m → HasCopy left m
        used m at =
            let parts = has_filtered (λ x. not (x.id == c.id)) messages m at in
            let u = all_has (HasCopy copies) messages m k.used parts.0 in
            (u.0, stays u.0 u.1 (λ is. true≢false (sym parts.1 ∙ ap not (eq-eqb m.id c.id (sym u.2 ∙ ap (λ (x : Copy). x.id) (one_copy u.0 u.1 is))))), u.2)

-- ---- the other copies of its message

other_there : (c : Copy) (copies : List Copy) → list_any (is_other_copy (filing_of c)) copies ≡ true → (d : Copy) × Has copies d × (d.id ≡ c.id) × (d.n ≢ c.n)
other_there c copies h =
    let f = some_has (is_other_copy (filing_of c)) copies h in
    let parts = and_parts (f.0.id == c.id) (not (f.0.n == c.n)) f.2 in
    (f.0, f.1, eqb-true f.0.id c.id parts.0, λ same. true≢false (sym parts.1 ∙ ap not (eq-eqb f.0.n c.n same)))

other_none : (c : Copy) (copies : List Copy) → list_any (is_other_copy (filing_of c)) copies ≡ false → (d : Copy) → Has copies d → d.id ≡ c.id → d.n ≡ c.n
other_none c copies h d there same =
    let none = all_has (λ x. is_other_copy (filing_of c) x ≡ false) copies d (none_from_any (is_other_copy (filing_of c)) copies h) there in
    elim (cases_eq d.n c.n) [
      | inl is ↦ is
      | inr differ ↦ absurd (true≢false (sym (and_from (d.id == c.id) (not (d.n == c.n)) (eq-eqb d.id c.id same) (ap not (ne_eqb d.n c.n differ))) ∙ none))
    ]

first_split : (p : Copy → Bool) (copies : List Copy) (c : Copy) → find p copies ≡ Some c → (rest : List Copy) × (filter p copies ≡ c ∷ rest)
first_split p copies c is = go (filter p copies) refl
  where
    go : (l : List Copy) → filter p copies ≡ l → (rest : List Copy) × (filter p copies ≡ c ∷ rest)
    go [] none = absurd (let no = sym is ∙ sym (slice_get-filter p copies) ∙ ap (λ l. slice_get l 0) none in cc)
    go (d ∷ rest) some =
        let both = sym (ap (λ l. slice_get l 0) some) ∙ slice_get-filter p copies ∙ is in
        let same : d ≡ c = cc in
        (rest, some ∙ ap (λ x. x ∷ rest) same)

none_split : (p : Copy → Bool) (copies : List Copy) → find p copies ≡ None → filter p copies ≡ []
none_split p copies is = go (filter p copies) refl
  where
    go : (l : List Copy) → filter p copies ≡ l → filter p copies ≡ []
    go [] none = none
    go (d ∷ rest) some = absurd (let no = sym is ∙ sym (slice_get-filter p copies) ∙ ap (λ l. slice_get l 0) some in cc)

-- ---- the account

module _ (user folder : List ℕ) (own : Tables) (a : Account) (s : IsShown user own a) where
  abbrev copies_are : List Copy
  copies_are = s.copies.entries

  folders_left : (what : Copy → List ℕ) (m : Folders) (later rest : List Copy) (taken : List Copy) → m ≡ filed_from what copies_are → filter (is_in folder) copies_are ≡ taken → drop 1 (map what taken) ≡ map what rest → filter (is_in folder) later ≡ rest
      → ((q : List ℕ) → is_eq (bytes_cmp q folder) ≡ false → filter (is_in q) later ≡ filter (is_in q) copies_are) → left_in m folder 1 ≡ filed_from what later
  folders_left what m later rest taken shown split less here others =
      ap (λ there. left_in there folder 1) shown ∙ ap (λ l. holding (filed_from what copies_are) folder (drop 1 l)) (filed_are what copies_are folder ∙ ap (map what) split)
      ∙ ap (holding (filed_from what copies_are) folder) less ∙ held_folders what copies_are later folder (map what rest) (ap (map what) here) others

  -- the folder has no message
  none_taken : find (is_in folder) copies_are ≡ None → IsShown user own (takes_mail folder 1 a)
  none_taken is =
      let none = none_split (is_in folder) copies_are is in
      record {
        next_copy = s.next_copy;
        next_notice = s.next_notice;
        account_is = s.account_is;
        scripts = s.scripts;
        queue = s.queue;
        replies = s.replies;
        notices = s.notices;
        copies = record {
          entries = copies_are;
          messages = s.copies.messages;
          numbered = s.copies.numbered;
          stored = s.copies.stored;
          kept = s.copies.kept;
          shown = folders_left (λ c. c.message) a.folders copies_are [] [] s.copies.shown none refl none (λ q apart. refl);
          shown_flags = folders_left (λ c. c.flags) a.flags copies_are [] [] s.copies.shown_flags none refl none (λ q apart. refl);
        };
      }

  module _ (c : Copy) (is : find (is_in folder) copies_are ≡ Some c) where
    there : Has copies_are c × (is_in folder c ≡ true)
    there = has_found (is_in folder) copies_are c is

    abbrev still : List Copy
    still = delete_where (is_gone folder c.n) copies_are

    shown_still : (what : Copy → List ℕ) (m : Folders) → m ≡ filed_from what copies_are → left_in m folder 1 ≡ filed_from what still
    shown_still what m shown =
        let split = first_split (is_in folder) copies_are c is in
        folders_left what m still split.0 (c ∷ split.0) shown split.1 refl (rest_left folder copies_are s.copies.numbered.rise c there.0 there.1 split.0 split.1) (others_left folder copies_are s.copies.numbered.rise c there.0 there.1)

    -- its message has another copy
    copy_gone : list_any (is_other_copy (filing_of c)) copies_are ≡ true → IsShown user (copy_removed user folder (pos c.n) own) (takes_mail folder 1 a)
    copy_gone some =
        let other = other_there c copies_are some in
        record {
          next_copy = s.next_copy;
          next_notice = s.next_notice;
          account_is = s.account_is;
          scripts = s.scripts;
          queue = s.queue;
          replies = s.replies;
          notices = s.notices;
          copies = record {
            entries = still;
            messages = s.copies.messages;
            numbered = numbered_without (λ d. d.n) (copy_row user) (has_key (copy_key user folder (pos c.n))) (is_gone folder c.n) (copy_is user folder c.n) (own copy_tree) copies_are s.next_copy s.copies.numbered;
            stored = s.copies.stored;
            kept = still_kept folder copies_are s.copies.numbered.rise c there.0 there.1 s.copies.messages s.copies.kept other.0 other.1 other.2 other.3;
            shown = shown_still (λ d. d.message) a.folders s.copies.shown;
            shown_flags = shown_still (λ d. d.flags) a.flags s.copies.shown_flags;
          };
        }

    -- its message goes with it
    message_gone : list_any (is_other_copy (filing_of c)) copies_are ≡ false → IsShown user (message_removed user (pos c.id) (copy_removed user folder (pos c.n) own)) (takes_mail folder 1 a)
    message_gone none = record {
      next_copy = s.next_copy;
      next_notice = s.next_notice;
      account_is = s.account_is;
      scripts = s.scripts;
      queue = s.queue;
      replies = s.replies;
      notices = s.notices;
      copies = record {
        entries = still;
        messages = delete_where (λ m. m.id == c.id) s.copies.messages;
        numbered = numbered_without (λ d. d.n) (copy_row user) (has_key (copy_key user folder (pos c.n))) (is_gone folder c.n) (copy_is user folder c.n) (own copy_tree) copies_are s.next_copy s.copies.numbered;
        stored = numbered_without (λ m. m.id) (message_row user) (has_key (message_key user (pos c.id))) (λ m. m.id == c.id) (message_is user c.id) (own message_tree) s.copies.messages s.next_copy s.copies.stored;
        kept = less_kept folder copies_are s.copies.numbered.rise c there.0 there.1 s.copies.messages s.copies.kept (other_none c copies_are none);
        shown = shown_still (λ d. d.message) a.folders s.copies.shown;
        shown_flags = shown_still (λ d. d.flags) a.flags s.copies.shown_flags;
      };
    }

    -- whether its message goes or not, the other copies are left
    pub one_gone : (b : Bool) → list_any (is_other_copy (filing_of c)) copies_are ≡ b → (t : IsShown user (message_left user (filing_of c) b (copy_removed user folder (pos c.n) own)) (takes_mail folder 1 a)) × (t.copies.entries ≡ still)
    unfolding copy_gone message_gone
    one_gone true some = (copy_gone some, refl)
    one_gone false none = (message_gone none, refl)

  -- where there is none, all are left
  pub none_gone : find (is_in folder) copies_are ≡ None → (t : IsShown user own (takes_mail folder 1 a)) × (t.copies.entries ≡ copies_are)
  unfolding none_taken
  none_gone is = (none_taken is, refl)
