-- The first messages of a folder leave it, one after the other.
use Rattle.std.proofs.Common.{◌≡◌, ◌≢◌, ◌==◌, ◌&&◌, ◌||◌, ◌≤◌, ◌<◌, ◌+◌, ℕ, zero, suc, ℤ, pos, Bool, Bor, true, false, not, cond, List, [], ◌∷◌, ◌++◌, drop, take, map, filter, find, slice_get, Option, Some, None, IsSome, Ok, Result, Vec, OnOk, IfOk, length, get_or, option_map, unwrap_or, refl, sym, ap, ◌∙◌, subst, inl, inr, is_eq, eq-eqb, ne_eqb, eqb-true, add-one, append-nil, append_assoc, arith}
use Rattle.std.specs.List.{AllByRecursion, list_any}
use Rattle.std.specs.FinMap.{get, same_map}
use Rattle.std.specs.declared.alloc.Global.{Global}
use Rattle.std.proofs.lemmas.Bool.{cases_eq, and_parts, and_right}
use Rattle.std.proofs.lemmas.Cmp.{nat_list_cmp_total}
use Rattle.std.proofs.lemmas.List.{take_all}
use Rattle.std.proofs.lemmas.List.Folds.{list_any-append}
use Rattle.sqlite.specs.State.{State, HasCleanDisk}
use Rattle.sqlite_trees.specs.Tree.{IsAscending}
use Rattle.sqlite_rules.specs.Lists.{Has}
use Rattle.sqlite_rules.proofs.ListLemmas.{all_from, some_has, some_from, has_filtered, has_kept, has_found}
use Rattle.sqlite_keyed.specs.Lists.{delete_where}
use Rattle.sqlite_keyed.proofs.ListLemmas.{all_of, all_weaker, all-filter, ascending-filter, filter_all, none_from_any, any_from_none, slice_get-filter}
use Rattle.sqlite_typed.proofs.TestLemmas.{bytes_eq_refl}
use Rattle.store_tables.specs.Rows.{Tables, HoldsTables}
use Rattle.store_tables.specs.Schema.{mail_schema}
use Rattle.store_tables.specs.declared.change.Change.{Change}
use Rattle.store_tables.specs.Changes.{made, AreOf, ExtendsChanges, MakesOwn, message_removed, copy_removed}
use Rattle.store_tables.specs.declared.change.Change.TheVariants.{RemoveCopy, RemoveMessage}
use Rattle.store_accounts.specs.declared.filing.Filing.{Filing}
use Rattle.store_accounts.specs.declared.refusal.Refusal.{Refusal}
use Rattle.store_accounts.specs.declared.taking.Leaving.{Leaving}
use Rattle.store_accounts.specs.Account.{bytes_cmp, Account, Accounts, Folders, with_user, in_place, messages_in, holding, left_in, takes_mail}
use Rattle.store_accounts.specs.CopyRows.{Copy, copies_in, filing_of, is_in, is_other_copy, leaving_of}
use Rattle.store_accounts.specs.Listing.{AreFilingsOf}
use Rattle.store_accounts.specs.Promises.{HasUser}
use Rattle.store_accounts.specs.Shows.{rows_of, IsShown, IsShownOrAbsent, ShowsAccounts, IsNthFiling, IsShared}
use Rattle.store_accounts.specs.Taking.{is_filing_of, stays_behind, left_behind, leaving_in_turn, AreLeaving, is_other_beside, IsSharedBeside, PushesLeaving, SeesAmong, message_left, copy_taken, copies_taken, AreTaking}
use Rattle.store_accounts.proofs.AccountLemmas.{bytes_antisymmetric}
use Rattle.store_accounts.proofs.AfterLemmas.{seen_read, seen_none, seen_ok, seen_failed, seen_before, seen_then}
use Rattle.store_accounts.proofs.DeliveryLemmas.{extends_one, extends_then, fold_more}
use Rattle.store_accounts.proofs.KeepLemmas.{none_if}
use Rattle.store_accounts.proofs.ShowLemmas.{shows_after}
use Rattle.store_accounts.proofs.TakingLemmas.{unless_none, held_get, is_gone, one_copy, rest_left, one_gone, none_gone}

-- ---- the folder, where more than one message leaves

unwrapped : {X : Type 0} (xs : List X) → unwrap_or (unless_none xs) [] ≡ xs
unwrapped [] = refl
unwrapped (x ∷ xs) = refl

pub held_itself : (m : Folders) (name : List ℕ) (xs : List (List ℕ)) → messages_in (holding m name xs) name ≡ xs
held_itself m name xs = ap (λ o. unwrap_or o []) (held_get m name xs name ∙ ap (λ b. cond b (unless_none xs) (get m name)) (bytes_eq_refl name)) ∙ unwrapped xs

held_twice : (m : Folders) (name : List ℕ) (xs ys : List (List ℕ)) → holding (holding m name xs) name ys ≡ holding m name ys
held_twice m name xs ys = same_map nat_list_cmp_total bytes_antisymmetric _ _ (λ q. held_get (holding m name xs) name ys q ∙ ap (cond (is_eq (bytes_cmp q name)) (unless_none ys)) (held_get m name xs q) ∙ go q (is_eq (bytes_cmp q name)) ∙ sym (held_get m name ys q))
  where
    go : (q : List ℕ) (b : Bool) → cond b (unless_none ys) (cond b (unless_none xs) (get m q)) ≡ cond b (unless_none ys) (get m q)
    go q true = refl
    go q false = refl

dropped_more : {X : Type 0} (k : ℕ) (xs : List X) → drop (suc k) (drop 1 xs) ≡ drop (suc (suc k)) xs
dropped_more k [] = refl
dropped_more k (x ∷ xs) = refl

left_more : (m : Folders) (folder : List ℕ) (k : ℕ) → left_in (left_in m folder 1) folder (suc k) ≡ left_in m folder (suc (suc k))
left_more m folder k =
    let xs = drop 1 (messages_in m folder) in
    ap (λ l. holding (holding m folder xs) folder (drop (suc k) l)) (held_itself m folder xs) ∙ held_twice m folder xs (drop (suc k) xs) ∙ ap (holding m folder) (dropped_more k (messages_in m folder))

-- one after the other is all at once
pub takes_more : (folder : List ℕ) (k : ℕ) (a : Account) → takes_mail folder (suc k) (takes_mail folder 1 a) ≡ takes_mail folder (suc (suc k)) a
takes_more folder k a = let here = left_more a.folders folder k in let flags = left_more a.flags folder k in λ i. record a { folders = here i; flags = flags i }

-- ---- the copies that are left

filter_step : {X : Type 0} (p : X → Bool) (x : X) (xs kept : List X) (b d : Bool) → p x ≡ d → filter p xs ≡ kept → filter p (cond b (x ∷ xs) xs) ≡ cond (b && d) (x ∷ kept) kept
filter_step p x xs kept true true is rest = rw is (ap (λ l. x ∷ l) rest)
filter_step p x xs kept true false is rest = rw is rest
filter_step p x xs kept false true is rest = rest
filter_step p x xs kept false false is rest = rest

filter_twice : {X : Type 0} (p q r : X → Bool) (xs : List X) → AllByRecursion (λ x. r x ≡ (q x && p x)) xs → filter p (filter q xs) ≡ filter r xs
filter_twice p q r [] all = refl
filter_twice p q r (x ∷ xs) all = filter_step p x (filter q xs) (filter r xs) (q x) (p x) refl (filter_twice p q r xs all.1) ∙ ap (λ b. cond b (x ∷ filter r xs) (filter r xs)) (sym all.0)

any_step : {X : Type 0} (p : X → Bool) (x : X) (xs : List X) (b rest : Bool) → rest ≡ list_any p xs → ((p x && b) || rest) ≡ list_any p (cond b (x ∷ xs) xs)
any_step p x xs true rest is = elim (p x) as (λ v. ((v && true) || rest) ≡ (v || list_any p xs)) [ true ↦ refl | false ↦ is ]
any_step p x xs false rest is = elim (p x) as (λ v. ((v && false) || rest) ≡ list_any p xs) [ true ↦ is | false ↦ is ]

neither : (a b : Bool) → not (a || (b || false)) ≡ (not a && not b)
neither true b = refl
neither false true = refl
neither false false = refl

module _ (folder : List ℕ) (all : List Copy) (rise : IsAscending (λ c d. c.n < d.n) all) (c : Copy) (there : Has all c) (inside : is_in folder c ≡ true) where
  -- the copy is found by its numbers, or by its folder and its own
  same_gone : (x : Copy) → Has all x → is_filing_of (filing_of x) (filing_of c) ≡ is_gone folder c.n x
  same_gone x here = elim (cases_eq x.n c.n) [
    | inl is ↦ let same = one_copy folder all rise c there inside x here is in subst (λ (d : Copy). is_filing_of (filing_of d) (filing_of c) ≡ is_gone folder c.n d) (sym same) both
    | inr other ↦ apart other
  ]
    where
      both : is_filing_of (filing_of c) (filing_of c) ≡ is_gone folder c.n c
      both = rw (eq-eqb c.n c.n refl, eq-eqb c.id c.id refl, inside) refl

      apart : x.n ≢ c.n → is_filing_of (filing_of x) (filing_of c) ≡ is_gone folder c.n x
      apart other = rw (ne_eqb c.n x.n (λ e. other (sym e))) (sym (and_right (is_in folder x) (x.n == c.n) (ne_eqb x.n c.n other)))

  -- once it is gone too
  behind_more : (gone : List Leaving) (shared : Bool) → delete_where (is_gone folder c.n) (left_behind gone all) ≡ left_behind (gone ++ record { copy = filing_of c; is_shared = shared } ∷ []) all
  behind_more gone shared =
      let one : Leaving = record { copy = filing_of c; is_shared = shared } in
      filter_twice (λ x. not (is_gone folder c.n x)) (stays_behind gone) (stays_behind (gone ++ one ∷ [])) all
      (all_from _ all (λ x here. ap not (list_any-append (λ l. is_filing_of (filing_of x) l.copy) gone (one ∷ [])) ∙ neither (list_any (λ l. is_filing_of (filing_of x) l.copy) gone) (is_filing_of (filing_of x) (filing_of c)) ∙ ap (λ b. stays_behind gone x && not b) (same_gone x here)))

none_behind : (all : List Copy) → left_behind [] all ≡ all
none_behind all = filter_all (stays_behind []) all (all_of (λ c. stays_behind [] c ≡ true) (λ c. refl) all)

-- ---- the account

module _ (user folder : List ℕ) (all : List Copy) (rise : IsAscending (λ c d. c.n < d.n) all) where
  module _ (gone : List Leaving) (own : Tables) (a : Account) (s : IsShown user own a) (same : s.copies.entries ≡ left_behind gone all) where
    first_is : (few : List Copy) → filter (is_in folder) (left_behind gone all) ≡ few → find (is_in folder) s.copies.entries ≡ slice_get few 0
    first_is few is = sym (slice_get-filter (is_in folder) s.copies.entries) ∙ ap (λ l. slice_get (filter (is_in folder) l) 0) same ∙ ap (λ l. slice_get l 0) is

    -- there is none
    abbrev Ended : Type 0
    Ended = (t : IsShown user own (takes_mail folder 1 a)) × (t.copies.entries ≡ left_behind gone all)

    ended : filter (is_in folder) (left_behind gone all) ≡ [] → Ended
    ended none = let end = none_gone user folder own a s (first_is [] none) in (end.0, end.1 ∙ same)

    -- the next one leaves
    module _ (c : Copy) (more : List Copy) (split : filter (is_in folder) (left_behind gone all) ≡ c ∷ more) where
      abbrev one : Leaving
      one = leaving_of (left_behind gone all) c

      abbrev Went : Type 0
      Went = (t : IsShown user (copy_taken user folder one own) (takes_mail folder 1 a)) × (t.copies.entries ≡ left_behind (gone ++ one ∷ []) all) × (filter (is_in folder) (left_behind (gone ++ one ∷ []) all) ≡ more)

      went : Went
      went =
          let found = first_is (c ∷ more) split in
          let at = has_found (is_in folder) (left_behind gone all) c (sym (slice_get-filter (is_in folder) (left_behind gone all)) ∙ ap (λ l. slice_get l 0) split) in
          let was = has_filtered (stays_behind gone) all c at.0 in
          let step = one_gone user folder own a s c found one.is_shared (ap (list_any (is_other_copy (filing_of c))) same) in
          let behind = behind_more folder all rise c was.0 at.1 gone one.is_shared in (
            step.0,
            step.1 ∙ ap (delete_where (is_gone folder c.n)) same ∙ behind,
            ap (filter (is_in folder)) (sym behind) ∙ rest_left folder (left_behind gone all) (ascending-filter (λ x y. x.n < y.n) (stays_behind gone) all rise) c at.0 at.1 more split,
          )

  -- so many leave
  took : (k : ℕ) (gone : List Leaving) (own : Tables) (a : Account) (s : IsShown user own a) → s.copies.entries ≡ left_behind gone all → (few : List Copy) → filter (is_in folder) (left_behind gone all) ≡ few
      → IsShown user (copies_taken user folder (leaving_in_turn all gone (take (suc k) few)) own) (takes_mail folder (suc k) a)
  took zero gone own a s same [] none = (ended gone own a s same none).0
  took zero gone own a s same (c ∷ more) split = (went gone own a s same c more split).0
  took (suc k) gone own a s same [] none =
      let end = ended gone own a s same none in
      subst (IsShown user own) (takes_more folder k a) (took k gone own (takes_mail folder 1 a) end.0 end.1 [] none)
  took (suc k) gone own a s same (c ∷ more) split =
      let one = leaving_of (left_behind gone all) c in
      let step = went gone own a s same c more split in
      subst (IsShown user (copies_taken user folder (leaving_in_turn all (gone ++ one ∷ []) (take (suc k) more)) (copy_taken user folder one own))) (takes_more folder k a)
      (took k (gone ++ one ∷ []) (copy_taken user folder one own) (takes_mail folder 1 a) step.0 step.1 more step.2)

-- the rows that are left show the account without the messages
mails_gone : (user folder : List ℕ) (own : Tables) (a : Account) → IsShown user own a → (k : ℕ) (leaving : List Leaving) → AreLeaving user folder (suc k) leaving own → IsShown user (copies_taken user folder leaving own) (takes_mail folder (suc k) a)
mails_gone user folder own a s k leaving told =
    let all = s.copies.entries in
    subst (λ l. IsShown user (copies_taken user folder l own) (takes_mail folder (suc k) a)) (sym (told a s))
    (took user folder all s.copies.numbered.rise k [] own a s (sym (none_behind all)) (copies_in folder all) (ap (filter (is_in folder)) (none_behind all)))

-- ---- the accounts

one_less : (count : ℕ) → 1 ≤ count → (k : ℕ) × (count ≡ suc k)
one_less zero some = absurd (omega (arith, some))
one_less (suc k) some = (k, refl)

pub mails_show : (user folder : List ℕ) (count : ℕ) (leaving : List Leaving) (ds : List Change) → 1 ≤ count → AreTaking user folder leaving ds → (tables : Tables) (accounts : Accounts) → ShowsAccounts tables accounts → HasUser user accounts
    → AreLeaving user folder count leaving (rows_of user tables) → ShowsAccounts (made tables ds) (with_user accounts user (takes_mail folder count))
mails_show user folder count leaving ds some taking tables accounts shows has told =
    let less = one_less count some in
    subst (λ n. ShowsAccounts (made tables ds) (with_user accounts user (takes_mail folder n))) (sym less.1) (go less.0 (subst (λ n. AreLeaving user folder n leaving (rows_of user tables)) less.1 told) (get accounts user) refl has)
  where
    go : (k : ℕ) → AreLeaving user folder (suc k) leaving (rows_of user tables) → (o : Option Account) → get accounts user ≡ o → IsSome o → ShowsAccounts (made tables ds) (in_place accounts user (takes_mail folder (suc k)) (get accounts user))
    go k are None is some = absurd (let e = some in cc)
    go k are (Some a) is some =
        let own = rows_of user tables in
        let here = subst (IsShownOrAbsent user own) is (shows.users user) in
        let gone = mails_gone user folder own a here k leaving are in
        rw is (shows_after tables accounts user ds (takes_mail folder (suc k) a) taking.owned shows (subst (λ t. IsShown user t (takes_mail folder (suc k) a)) (sym (taking.makes own)) gone))

-- ---- the reads: whether another copy is left

module _ (user : List ℕ) (f : Filing) (gone : List Leaving) (own : Tables) where
  -- there is no other at all
  pub no_other : IsShared user f false own → IsSharedBeside user f gone false own
  no_other none a s =
      let copies = s.copies.entries in
      sym (any_from_none (is_other_copy f) (left_behind gone copies) (all-filter (λ x. is_other_copy f x ≡ false) (stays_behind gone) copies (none_from_any (is_other_copy f) copies (sym (none a s)))))

  -- there is one, and none of those that leave has its message
  pub other_stays : IsShared user f true own → list_any (λ (l : Leaving). l.copy.id == f.id) gone ≡ false → IsSharedBeside user f gone true own
  other_stays some apart a s =
      let copies = s.copies.entries in
      let x = some_has (is_other_copy f) copies (sym (some a s)) in
      let same = eqb-true x.0.id f.id (and_parts (x.0.id == f.id) (not (x.0.n == f.n)) x.2).0 in
      let none = all_weaker (λ (l : Leaving). (l.copy.id == f.id) ≡ false) (λ l. is_filing_of (filing_of x.0) l.copy ≡ false)
      (λ l differ. and_right (l.copy.n == x.0.n) (l.copy.id == x.0.id) (ap (λ i. l.copy.id == i) same ∙ differ)) gone (none_from_any (λ (l : Leaving). l.copy.id == f.id) gone apart) in
      sym (some_from (is_other_copy f) (left_behind gone copies) x.0 (has_kept (stays_behind gone) copies x.0 x.1 (ap not (any_from_none (λ l. is_filing_of (filing_of x.0) l.copy) gone none))) x.2)

  any_listed : (copies : List Copy) → list_any (is_other_beside f gone) (map filing_of copies) ≡ list_any (is_other_copy f) (left_behind gone copies)
  any_listed [] = refl
  any_listed (c ∷ copies) = any_step (is_other_copy f) c (left_behind gone copies) (stays_behind gone c) (list_any (is_other_beside f gone) (map filing_of copies)) (any_listed copies)

  -- one is found among all
  pub other_listed : (filings : List Filing) → AreFilingsOf user filings own → IsSharedBeside user f gone (list_any (is_other_beside f gone) filings) own
  other_listed filings are a s = ap (list_any (is_other_beside f gone)) (are a s) ∙ any_listed s.copies.entries

-- ---- the reads: one copy more

taken_end : {X : Type 0} (xs : List X) (n : ℕ) → slice_get xs n ≡ None → take (suc n) xs ≡ take n xs
taken_end [] zero none = refl
taken_end [] (suc n) none = refl
taken_end (x ∷ xs) zero none = absurd (let no = none in cc)
taken_end (x ∷ xs) (suc n) none = ap (λ l. x ∷ l) (taken_end xs n none)

pub taken_next : {X : Type 0} (xs : List X) (n : ℕ) (x : X) → slice_get xs n ≡ Some x → take (suc n) xs ≡ take n xs ++ x ∷ []
taken_next [] zero x is = absurd (let no = is in cc)
taken_next [] (suc n) x is = absurd (let no = is in cc)
taken_next (y ∷ xs) zero x is = let same : y ≡ x = cc in ap (λ z. z ∷ []) same
taken_next (y ∷ xs) (suc n) x is = ap (λ l. y ∷ l) (taken_next xs n x is)

turn_more : (all : List Copy) (gone : List Leaving) (few : List Copy) (c : Copy) → leaving_in_turn all gone (few ++ c ∷ []) ≡ leaving_in_turn all gone few ++ leaving_of (left_behind (gone ++ leaving_in_turn all gone few) all) c ∷ []
turn_more all gone [] c = ap (λ l. leaving_of (left_behind l all) c ∷ []) (sym (append-nil gone))
turn_more all gone (d ∷ few) c =
    let one = leaving_of (left_behind gone all) d in
    let later = leaving_in_turn all (gone ++ one ∷ []) few in
    ap (λ l. one ∷ l) (turn_more all (gone ++ one ∷ []) few c ∙ ap (λ l. later ++ leaving_of (left_behind l all) c ∷ []) (append_assoc gone (one ∷ []) later))

module _ (user folder : List ℕ) (at : ℕ) (before : List Leaving) (own : Tables) where
  pub leaving_end : IsNthFiling user folder (pos at) None own → AreLeaving user folder at before own → AreLeaving user folder (at + 1) before own
  leaving_end is are a s =
      let few = copies_in folder s.copies.entries in
      are a s ∙ ap (leaving_in_turn s.copies.entries []) (sym (taken_end few at (none (slice_get few at) (is a s at refl))) ∙ ap (λ n. take n few) (sym (add-one at)))
    where
      none : (o : Option Copy) → None ≡ option_map filing_of o → o ≡ None
      none None e = refl
      none (Some c) e = absurd (let no = e in cc)

  pub leaving_next : (f : Filing) (shared : Bool) → IsNthFiling user folder (pos at) (Some f) own → IsSharedBeside user f before shared own → AreLeaving user folder at before own
      → AreLeaving user folder (at + 1) (before ++ record { copy = f; is_shared = shared } ∷ []) own
  leaving_next f shared is beside are a s = go (slice_get (copies_in folder s.copies.entries) at) refl (is a s at refl)
    where
      go : (o : Option Copy) → slice_get (copies_in folder s.copies.entries) at ≡ o → Some f ≡ option_map filing_of o
          → before ++ record { copy = f; is_shared = shared } ∷ [] ≡ leaving_in_turn s.copies.entries [] (take (at + 1) (copies_in folder s.copies.entries))
      go None at_is e = absurd (let no = e in cc)
      go (Some c) at_is e =
          let all = s.copies.entries in
          let few = copies_in folder all in
          let same : f ≡ filing_of c = cc in
          let told : shared ≡ list_any (is_other_copy (filing_of c)) (left_behind before all) = beside a s ∙ ap (λ g. list_any (is_other_copy g) (left_behind before all)) same in
          let last : record { copy = f; is_shared = shared } ≡ leaving_of (left_behind before all) c = λ i. record { copy = same i; is_shared = told i } in
          ap (λ l. before ++ l ∷ []) last ∙ ap (λ l. l ++ leaving_of (left_behind l all) c ∷ []) (are a s) ∙ sym (turn_more all [] (take at few) c) ∙ ap (leaving_in_turn all []) (sym (taken_next few at c at_is) ∙ ap (λ n. take n few) (sym (add-one at)))

-- ---- the reads in turn

-- what one more read is to find
abbrev pub pushes : List ℕ → List ℕ → ℕ → List Leaving → List Leaving → Unit {0} → Tables → Type 0
pushes user folder at before after done own = AreLeaving user folder at before own → AreLeaving user folder (at + 1) after own

abbrev pub IsLeavingVec : List ℕ → List ℕ → ℕ → Vec Leaving Global → Tables → Type 0
IsLeavingVec user folder at leaving own = AreLeaving user folder at leaving.items own

module _ (user folder : List ℕ) where
  -- none so far
  pub leaving_none : (s : State) (none : Vec Leaving Global) → none.items ≡ [] → SeesAmong {E = Refusal} user (IsLeavingVec user folder 0) s s (Ok none)
  leaving_none s none is = record { found = λ clean tables h a shown. is; keeps = seen_none s (Ok none) }

  module _ (at : ℕ) (before after : Vec Leaving Global) (a b c : State) (early : SeesAmong {E = Refusal} user (IsLeavingVec user folder at) a b (Ok before)) (q : Result (Unit {0}) Refusal) (late : PushesLeaving user folder at before.items after.items b c q) where
    abbrev turn : Tables → Type 0
    turn own = AreLeaving user folder at before.items own → AreLeaving user folder (at + 1) after.items own

    held : HasCleanDisk c → (tables : Tables) → HoldsTables mail_schema a.now tables → HoldsTables mail_schema b.now tables
    held clean tables h =
        let mid = early.keeps.seen (seen_before a b c (Ok before) before refl early.keeps q (seen_read b c q late.keeps) clean) (tables, h) in
        subst (λ d. HoldsTables mail_schema d tables) (sym mid.0) h

    -- one more
    pub leaving_more : (y : Unit {0}) → q ≡ Ok y → SeesAmong {E = Refusal} user (IsLeavingVec user folder (at + 1)) a c (Ok after)
    leaving_more y is = record {
      found = λ clean tables h.
          subst (λ o. IfOk o (λ done. turn (rows_of user tables))) is (late.found clean tables (held clean tables h)) (early.found (seen_before a b c (Ok before) before refl early.keeps q (seen_read b c q late.keeps) clean) tables h);
      keeps = seen_ok a c q y (Ok after) is (seen_then a b c (Ok before) before refl early.keeps q (seen_read b c q late.keeps));
    }

    -- it couldn't be read
    pub leaving_lost : (Part : Vec Leaving Global → Tables → Type 0) (end : Result (Vec Leaving Global) Refusal) → OnOk end ⊥ → SeesAmong user Part a c end
    leaving_lost Part end none = record {
      found = λ clean tables h. none_if end (λ x. Part x (rows_of user tables)) none;
      keeps = seen_failed a c q end none (seen_then a b c (Ok before) before refl early.keeps q (seen_read b c q late.keeps));
    }

-- ---- the changes

-- one more copy is taken out
pub takings_more : (user folder : List ℕ) (all : List Leaving) (i : ℕ) (one : Leaving) (a b c : List Change) → i < length all → one ≡ get_or all i one → ExtendsChanges user (copies_taken user folder (take i all)) a b → ExtendsChanges user (copy_taken user folder one) b c
    → ExtendsChanges user (copies_taken user folder (take (i + 1) all)) a c
takings_more user folder all i one a b c within is was more = fold_more user (λ left l. copy_taken user folder l left) all i one a b c within was (subst (λ l. ExtendsChanges user (copy_taken user folder l) b c) is more)

-- one copy is taken out, and its message with it
pub takings_pushed : (user folder : Bor (List ℕ)) (l : Leaving) (n id : ℤ) (a b c : List Change) → n ≡ pos l.copy.n → id ≡ pos l.copy.id → l.is_shared ≡ false → b ≡ a ++ RemoveCopy user folder n ∷ [] → c ≡ b ++ RemoveMessage user id ∷ []
    → ExtendsChanges user.now (copy_taken user.now folder.now l) a c
takings_pushed user folder l n id a b c same_n same_id alone one two =
    let first : MakesOwn user.now (copy_removed user.now folder.now n) (RemoveCopy user folder n) = record { owned = refl; makes = λ own. refl } in
    let second : MakesOwn user.now (message_removed user.now id) (RemoveMessage user id) = record { owned = refl; makes = λ own. refl } in
    let both = extends_then user.now (copy_removed user.now folder.now n) (message_removed user.now id) a b c (extends_one user.now (copy_removed user.now folder.now n) a b (RemoveCopy user folder n) one first)
    (extends_one user.now (message_removed user.now id) b c (RemoveMessage user id) two second) in
    record {
      owned = both.owned;
      makes = λ own.
          both.makes own ∙ ap (λ k. message_removed user.now id (copy_removed user.now folder.now k (made own a))) same_n ∙ ap (λ k. message_removed user.now k (copy_removed user.now folder.now (pos l.copy.n) (made own a))) same_id
          ∙ ap (λ s. message_left user.now l.copy s (copy_removed user.now folder.now (pos l.copy.n) (made own a))) (sym alone);
    }

-- all are taken out, from no changes on
pub takings_are : (user folder : List ℕ) (all : List Leaving) (i : ℕ) (a b : List Change) → length all ≤ i → a ≡ [] → ExtendsChanges user (copies_taken user folder (take i all)) a b → AreTaking user folder all b
takings_are user folder all i a b past none extends = record {
  owned = extends.owned (subst (AreOf user) (sym none) tt);
  makes = λ own. extends.makes own ∙ ap (λ l. copies_taken user folder (take i all) (made own l)) none ∙ ap (λ l. copies_taken user folder l own) (take_all i all past);
}
