-- Users one after another: a line for each, and reads over all accounts that follow one another.
use Rattle.std.proofs.Common.{◌≡◌, ℕ, Bool, true, false, not, cond, T, ◌&&◌, List, [], ◌∷◌, ◌++◌, filter, refl, sym, ap, ◌∙◌, subst, inl, inr, append_assoc, append-nil, Ordering, Less, Equal, Greater, is_eq, is_lt, is_gt, is_some, Option, Some, None, option_map, Ok, Err, Result, OnOk, IfOk, true≢false}
use Rattle.std.specs.Ordering.{ordering_reverse}
use Rattle.std.specs.List.{flat_map}
use Rattle.std.specs.FinMap.{entries, entries_sorted, find, get, get-entries, is_sorted}
use Rattle.std.specs.FinMap.Entries.{below_all}
use Rattle.std.proofs.lemmas.Cmp.{nat_list_cmp_total}
use Rattle.sqlite_rules.specs.Lists.{Has}
use Rattle.sqlite_typed.proofs.TestLemmas.{same_bytes, bytes_eq_refl}
use Rattle.sqlite.specs.State.{State, HasCleanDisk}
use Rattle.store_tables.proofs.WriteLemmas.{clean_before}
use Rattle.store_accounts.specs.Account.{Account, Accounts, bytes_cmp}
use Rattle.store_accounts.specs.AccountRows.{profile_of}
use Rattle.store_accounts.specs.Promises.{HasUser, ReadsProfile}
use Rattle.store_accounts.specs.Shows.{Presents}
use Rattle.store_accounts.specs.Users.{FindsOver, IsNextUser}
use Rattle.store_accounts.specs.declared.profile.Profile.{Profile}
use Rattle.store_accounts.specs.declared.refusal.Refusal.{Refusal}
use Rattle.store_accounts.proofs.KeepLemmas.{keeps_failed, keeps_then, mid_shows, none_if}

abbrev User : Type 0
User = List ℕ × Account

-- those whose names come after one, and these with the one itself
abbrev later : List ℕ → List User → List User
later name users = filter (λ (u : User). is_lt (bytes_cmp name u.0)) users

abbrev onward : List ℕ → List User → List User
onward name users = filter (λ (u : User). not (is_gt (bytes_cmp name u.0))) users

-- ---- tests that agree

same_kept : (p q : User → Bool) (users : List User) → ((u : User) → Has users u → p u ≡ q u) → filter p users ≡ filter q users
same_kept p q [] same = refl
same_kept p q (u ∷ users) same =
    let rest = same_kept p q users (λ v h. same v (inr h)) in
    ap (λ b. cond b (u ∷ filter p users) (filter p users)) (same u (inl refl)) ∙ ap (λ l. cond (q u) (u ∷ l) l) rest

none_kept : (p : User → Bool) (users : List User) → ((u : User) → Has users u → p u ≡ false) → filter p users ≡ []
none_kept p [] none = refl
none_kept p (u ∷ users) none = ap (λ b. cond b (u ∷ filter p users) (filter p users)) (none u (inl refl)) ∙ none_kept p users (λ v h. none v (inr h))

all_kept : (p : User → Bool) (users : List User) → ((u : User) → p u ≡ true) → filter p users ≡ users
all_kept p [] all = refl
all_kept p (u ∷ users) all = ap (λ b. cond b (u ∷ filter p users) (filter p users)) (all u) ∙ ap (λ l. u ∷ l) (all_kept p users all)

-- ---- the order of the names

first : (a b : Bool) → T (a && b) → T a
first true b h = tt
first false b h = absurd h

second : (a b : Bool) → T (a && b) → T b
second true b h = h
second false b h = absurd h

both : (a b : Bool) → T a → T b → T (a && b)
both true b p q = q
both false b p q = p

less : (o : Ordering) → T (is_lt o) → o ≡ Less
less Less h = refl
less Equal h = absurd h
less Greater h = absurd h

turned : (x y : List ℕ) (o : Ordering) → bytes_cmp x y ≡ o → bytes_cmp y x ≡ ordering_reverse o
turned x y o is = nat_list_cmp_total.antisymm y x ∙ ap ordering_reverse is

same_name : (x y : List ℕ) → bytes_cmp x y ≡ Equal → x ≡ y
same_name x y is = same_bytes x y (ap is_eq is)

lower : (name k : List ℕ) (users : List User) → bytes_cmp name k ≡ Less → T (below_all bytes_cmp k users) → T (below_all bytes_cmp name users)
lower name k [] low up = tt
lower name k (u ∷ users) low up =
    both _ _ (subst (λ o. T (is_lt o)) (sym (nat_list_cmp_total.trans name k u.0 low (less _ (first _ _ up)))) tt) (lower name k users low (second _ _ up))

-- a name that comes before all of them has no account, and all come after it
not_found : (name : List ℕ) (users : List User) → T (below_all bytes_cmp name users) → find bytes_cmp name users ≡ None
not_found name [] up = refl
not_found name (u ∷ users) up = ap (λ o. cond (is_eq o) (Some u.1) (find bytes_cmp name users)) (less _ (first _ _ up)) ∙ not_found name users (second _ _ up)

all_later : (name : List ℕ) (users : List User) → T (below_all bytes_cmp name users) → onward name users ≡ later name users
all_later name [] up = refl
all_later name (u ∷ users) up =
    let is = less _ (first _ _ up) in
    let rest = all_later name users (second _ _ up) in
    ap (λ o. cond (not (is_gt o)) (u ∷ onward name users) (onward name users)) is ∙ ap (λ l. u ∷ l) rest ∙ sym (ap (λ o. cond (is_lt o) (u ∷ later name users) (later name users)) is)

has_account : (users : List User) (u : User) → Has users u → is_some (find bytes_cmp u.0 users) ≡ true
has_account [] u there = absurd there
has_account (v ∷ users) u (inl same) =
    let is : is_eq (bytes_cmp u.0 v.0) ≡ true = ap (λ (w : User). is_eq (bytes_cmp u.0 w.0)) (sym same) ∙ bytes_eq_refl u.0 in
    ap (λ b. is_some (cond b (Some v.1) (find bytes_cmp u.0 users))) is
has_account (v ∷ users) u (inr more) =
    elim (is_eq (bytes_cmp u.0 v.0)) as (λ b. is_some (cond b (Some v.1) (find bytes_cmp u.0 users)) ≡ true) [ true ↦ refl | false ↦ has_account users u more ]

-- ---- the next user

module _ (accounts : Accounts) (name : List ℕ) where
  known : (u : User) → Has (entries accounts) u → HasUser u.0 accounts
  known u there = ap is_some (get-entries accounts u.0) ∙ has_account (entries accounts) u there

  -- those after the name are those from the next user on
  from_next : (n : List ℕ) → IsNextUser name (Some n) accounts → onward n (entries accounts) ≡ later name (entries accounts)
  from_next n next = same_kept (λ u. not (is_gt (bytes_cmp n u.0))) (λ u. is_lt (bytes_cmp name u.0)) (entries accounts) (λ u there. by u there (bytes_cmp name u.0) (bytes_cmp n u.0) refl refl)
    where
      below : (x : List ℕ) (o : Ordering) → bytes_cmp name x ≡ o → (o ≡ Less → ⊥) → bytes_cmp n x ≡ Greater
      below x Less is other = absurd (other refl)
      below x Equal is other = ap (bytes_cmp n) (sym (same_name name x is)) ∙ turned name n Less next.1
      below x Greater is other = turned x n Less (nat_list_cmp_total.trans x name n (turned name x Greater is) next.1)

      by : (u : User) → Has (entries accounts) u → (o r : Ordering) → bytes_cmp name u.0 ≡ o → bytes_cmp n u.0 ≡ r → not (is_gt (bytes_cmp n u.0)) ≡ is_lt (bytes_cmp name u.0)
      by u there Less Greater is up = absurd (next.2 u.0 (known u there) is (turned n u.0 Greater up))
      by u there Less Less is up = ap (λ z. not (is_gt z)) up ∙ sym (ap is_lt is)
      by u there Less Equal is up = ap (λ z. not (is_gt z)) up ∙ sym (ap is_lt is)
      by u there Equal r is up = ap (λ z. not (is_gt z)) (below u.0 Equal is (λ e. let no = e in cc)) ∙ sym (ap is_lt is)
      by u there Greater r is up = ap (λ z. not (is_gt z)) (below u.0 Greater is (λ e. let no = e in cc)) ∙ sym (ap is_lt is)

  -- none comes after it
  none_after : IsNextUser name None accounts → later name (entries accounts) ≡ []
  none_after next = none_kept (λ u. is_lt (bytes_cmp name u.0)) (entries accounts) (λ u there. by u there (bytes_cmp name u.0) refl)
    where
      by : (u : User) → Has (entries accounts) u → (o : Ordering) → bytes_cmp name u.0 ≡ o → is_lt (bytes_cmp name u.0) ≡ false
      by u there Less is = absurd (next u.0 (known u there) is)
      by u there Equal is = ap is_lt is
      by u there Greater is = ap is_lt is

-- ---- a line for each

module _ (line : List ℕ → Account → List ℕ) where
  -- the lines of users, and of the one with a name, where there is an account
  abbrev pub lines : List User → List ℕ
  lines users = flat_map (λ (u : User). line u.0 u.1) users

  abbrev pub line_where : List ℕ → Option Account → List ℕ
  line_where name None = []
  line_where name (Some a) = line name a

  -- of users whose names rise, by how the name stands to that of the first one
  abbrev left : List ℕ → User → List User → Ordering → List ℕ
  left name u users o = lines (cond (not (is_gt o)) (u ∷ onward name users) (onward name users))

  abbrev right : List ℕ → User → List User → Ordering → List ℕ
  right name u users o = line_where name (cond (is_eq o) (Some u.1) (find bytes_cmp name users)) ++ lines (cond (is_lt o) (u ∷ later name users) (later name users))

  parted : (name : List ℕ) (users : List User) → T (is_sorted bytes_cmp users) → lines (onward name users) ≡ line_where name (find bytes_cmp name users) ++ lines (later name users)
  parted name [] rise = refl
  parted name (u ∷ users) rise = go (bytes_cmp name u.0) refl (parted name users (second _ _ rise))
    where
      go : (o : Ordering) → bytes_cmp name u.0 ≡ o → lines (onward name users) ≡ line_where name (find bytes_cmp name users) ++ lines (later name users) → left name u users (bytes_cmp name u.0) ≡ right name u users (bytes_cmp name u.0)
      go Less is rest =
          let up = lower name u.0 users is (first _ _ rise) in
          ap (left name u users) is ∙ ap (λ l. lines (u ∷ l)) (all_later name users up) ∙ sym (ap (λ f. line_where name f ++ lines (u ∷ later name users)) (not_found name users up)) ∙ sym (ap (right name u users) is)
      go Equal is rest =
          let same = same_name name u.0 is in
          let up = subst (λ k. T (below_all bytes_cmp k users)) (sym same) (first _ _ rise) in
          ap (left name u users) is ∙ ap (λ l. lines (u ∷ l)) (all_later name users up) ∙ ap (λ k. line k u.1 ++ lines (later name users)) (sym same) ∙ sym (ap (right name u users) is)
      go Greater is rest = ap (left name u users) is ∙ rest ∙ sym (ap (right name u users) is)

  -- the lines so far and those from the next user on are all
  abbrev pub AreLinesTo : List ℕ → Option (List ℕ) → Accounts → Type 0
  AreLinesTo text None accounts = text ≡ lines (entries accounts)
  AreLinesTo text (Some name) accounts = text ++ lines (onward name (entries accounts)) ≡ lines (entries accounts)

  module _ (accounts : Accounts) (name old new : List ℕ) (added : new ≡ old ++ line_where name (get accounts name)) where
    whole : old ++ lines (onward name (entries accounts)) ≡ new ++ lines (later name (entries accounts))
    whole =
        ap (λ l. old ++ l) (parted name (entries accounts) (entries_sorted accounts))
        ∙ sym (append_assoc old (line_where name (find bytes_cmp name (entries accounts))) (lines (later name (entries accounts))))
        ∙ ap (λ o. (old ++ line_where name o) ++ lines (later name (entries accounts))) (sym (get-entries accounts name))
        ∙ ap (λ l. l ++ lines (later name (entries accounts))) (sym added)

    pub line_more : (next : Option (List ℕ)) → AreLinesTo old (Some name) accounts → IsNextUser name next accounts → AreLinesTo new next accounts
    line_more None so next = sym (append-nil new) ∙ ap (λ l. new ++ lines l) (sym (none_after accounts name next)) ∙ sym whole ∙ so
    line_more (Some n) so next = ap (λ l. new ++ lines l) (from_next accounts name n next) ∙ sym whole ∙ so

  -- the first of all come after the empty name
  from_empty : (x : List ℕ) → not (is_gt (bytes_cmp [] x)) ≡ true
  from_empty [] = refl
  from_empty (o ∷ x) = refl

  pub lines_begin : (accounts : Accounts) → AreLinesTo [] (Some []) accounts
  lines_begin accounts = ap lines (all_kept (λ u. not (is_gt (bytes_cmp [] u.0))) (entries accounts) (λ u. from_empty u.0))

-- ---- reads that follow one another

-- the read of one account
pub profile_over : (user : List ℕ) (a b : State) (r : Result (Option Profile) Refusal) → ReadsProfile user a b r → FindsOver (λ profile accounts. profile ≡ option_map profile_of (get accounts user)) a b r
profile_over user a b r reads = record { found = reads.found; keeps = reads.keeps }

module _ {X Y E F : Type 0} (P : X → Accounts → Type 0) (R : Y → Accounts → Type 0) (a b : State) (r : Result X E) (h : FindsOver P a b r) where
  pub over_failed : (q : Result Y F) → OnOk q ⊥ → FindsOver R a b q
  over_failed q none = record { found = λ clean accounts p. none_if q (λ y. R y accounts) none; keeps = keeps_failed a b r q none h.keeps }

  module _ (c : State) (x : X) (was : r ≡ Ok x) (Q : Y → Accounts → Type 0) (q : Result Y F) (late : FindsOver Q b c q) where
    pub over_then : ((accounts : Accounts) (y : Y) → P x accounts → Q y accounts → R y accounts) → FindsOver R a c q
    over_then made = record {
      found = λ clean accounts p.
          told accounts q (subst (λ o. IfOk o (λ z. P z accounts)) was (h.found (clean_before b c _ late.keeps.crash clean) accounts p)) (late.found clean accounts (mid_shows a b c r x was q h.keeps late.keeps clean accounts p));
      keeps = keeps_then a b c r x was q h.keeps late.keeps;
    }
      where
        told : (accounts : Accounts) (o : Result Y F) → P x accounts → IfOk o (λ y. Q y accounts) → IfOk o (λ y. R y accounts)
        told accounts (Err e) one two = tt
        told accounts (Ok y) one two = made accounts y one two

    pub over_then_failed : {Z G : Type 0} (S : Z → Accounts → Type 0) (s : Result Z G) → OnOk s ⊥ → FindsOver S a c s
    over_then_failed S s none = record { found = λ clean accounts p. none_if s (λ z. S z accounts) none; keeps = keeps_failed a c q s none (keeps_then a b c r x was q h.keeps late.keeps) }
