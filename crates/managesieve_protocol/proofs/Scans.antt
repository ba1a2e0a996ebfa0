-- What is known after a text is right for it.
use Rattle.std.proofs.Common.{◌≡◌, ◌≢◌, ℕ, ◌+◌, ◌≤◌, inl, inr, Bool, true, false, ◌||◌, ◌&&◌, ◌==◌, cond, List, [], ◌∷◌, ◌++◌, length, take, refl, sym, ap, ◌∙◌, subst, arith, append_assoc}
use Rattle.std.specs.Prelude.{nat_lt, fold}
use Rattle.std.proofs.lemmas.Bool.{cases_Bool, cases_lt, eqb-true, eq-eqb, ltb-true, ltb-false, lt-ltb, or_cases, or_parts, and_parts, and_from, false≢true, both_ways}
use Rattle.std.proofs.lemmas.List.{append-nil, length_push, length-append, take_all, take-append-le}
use Rattle.managesieve_protocol.specs.declared.items.ItemExtent.{ItemExtent}
use Rattle.managesieve_protocol.specs.declared.items.ItemExtent.TheVariants.{Need, Command, Bad, TooBig}
use Rattle.managesieve_protocol.specs.Machine.{LineState, Whole, Dead, step, run, start_state, is_large, ends_command, is_dead, weight}
use Rattle.managesieve_protocol.specs.Commands.{IsCommand, IsViable}
use Rattle.managesieve_protocol.specs.Items.{EndsAtFeed, IsBadLine, CountsOutside, IsTooBig, IsItem, NoItem, IsFirstExtent}
use Rattle.managesieve_protocol.specs.Scanning.{Scanned, Open, Found, scan_step, scan_start, scanned, found, extent_of}
use Rattle.managesieve_protocol.proofs.Runs.{run-append, run_dead}
use Rattle.managesieve_protocol.proofs.Law.{spelling_whole, whole_spelling, viable_live, live_viable}
use Rattle.managesieve_protocol.proofs.Outside.{outside_from, outside_from-push, outside_from_nothing, after-push, counts, counts_only}
use Rattle.managesieve_protocol.proofs.Heads.{large_head, head_large}

-- ---- states

whole_is : (s : LineState) → ends_command s ≡ true → s ≡ Whole
whole_is Whole e = refl
whole_is _ e = absurd (false≢true e)

is_whole_of : (s : LineState) → s ≡ Whole → ends_command s ≡ true
is_whole_of s e = rw e refl

dead_is : (s : LineState) → is_dead s ≡ true → s ≡ Dead
dead_is Dead e = refl
dead_is _ e = absurd (false≢true e)

is_dead_of : (s : LineState) → s ≡ Dead → is_dead s ≡ true
is_dead_of s e = rw e refl

pub not_viable_dead : (pending : Bool) (text : List ℕ) → (IsViable pending text → ⊥) → run (start_state pending) text ≡ Dead
not_viable_dead pending text never =
    elim (cases_Bool (is_dead (run (start_state pending) text))) [
      | inl e ↦ dead_is (run (start_state pending) text) e
      | inr e ↦ absurd (never (live_viable pending text (λ d. both_ways (is_dead (run (start_state pending) text)) e (is_dead_of (run (start_state pending) text) d))))
    ]

-- ---- the shortest front

pub NoItem-append : (pending : Bool) (n : ℕ) (b u : List ℕ) → n ≤ length b + 1 → NoItem pending n b → NoItem pending n (b ++ u)
NoItem-append pending n b u le none k lt item =
    let short : k ≤ length b = omega arith in
    none k lt (subst (λ (t : List ℕ). IsItem pending t) (take-append-le k b u short) item)

-- none ends here either
none_more : (pending : Bool) (b : List ℕ) (x : ℕ) → NoItem pending (length b + 1) b → (IsItem pending (b ++ x ∷ []) → ⊥) → NoItem pending (length (b ++ x ∷ []) + 1) (b ++ x ∷ [])
none_more pending b x none never k lt item =
    elim (cases_lt k (length b + 1)) [
      | inl below ↦ NoItem-append pending (length b + 1) b (x ∷ []) (omega arith) none k below item
      | inr above ↦ never (subst (λ (t : List ℕ). IsItem pending t) (take_all k (b ++ x ∷ []) (omega (arith, length_push b x))) item)
    ]

-- the whole text
whole_text : (b : List ℕ) (x : ℕ) → take (length b + 1) (b ++ x ∷ []) ≡ b ++ x ∷ []
whole_text b x = take_all (length b + 1) (b ++ x ∷ []) (omega (arith, length_push b x))

-- ---- lines

-- no LF
abbrev pub NoFeed : List ℕ → Type 0
NoFeed [] = Unit {0}
NoFeed (octet ∷ rest) = (octet ≢ 10) × NoFeed rest

NoFeed-push : (l : List ℕ) (x : ℕ) → NoFeed l → x ≢ 10 → NoFeed (l ++ x ∷ [])
NoFeed-push [] x h ne = (ne, tt)
NoFeed-push (y ∷ l) x h ne = (h.0, NoFeed-push l x h.1 ne)

ends_at_feed : (y : ℕ) (l : List ℕ) (x : ℕ) → NoFeed (y ∷ l) → x ≡ 10 → EndsAtFeed (y ∷ (l ++ x ∷ []))
ends_at_feed y [] x h e = (h.0, e)
ends_at_feed y (z ∷ l) x h e = (h.0, ends_at_feed z l x h.1 e)

feed_last : (y : ℕ) (l b : List ℕ) (x : ℕ) → y ∷ l ≡ b ++ x ∷ [] → EndsAtFeed (y ∷ l) → x ≡ 10
feed_last y [] [] x e h = let same : y ≡ x = cc in sym same ∙ h
feed_last y [] (z ∷ []) x e h = absurd cc
feed_last y [] (z ∷ w ∷ b) x e h = absurd cc
feed_last y (z ∷ l) [] x e h = absurd cc
feed_last y (z ∷ l) (w ∷ b) x e h = let rest : z ∷ l ≡ b ++ x ∷ [] = cc in feed_last z l b x rest h.1

line_last : (front : List ℕ) (y : ℕ) (l b : List ℕ) (x : ℕ) → b ++ x ∷ [] ≡ front ++ y ∷ l → EndsAtFeed (y ∷ l) → x ≡ 10
line_last [] y l b x e h = feed_last y l b x (sym e) h
line_last (z ∷ front) y l [] x e h = absurd (no_nil front (cc))
  where
    no_nil : (f : List ℕ) → [] ≡ f ++ y ∷ l → ⊥
    no_nil [] e = cc
    no_nil (w ∷ f) e = cc
line_last (z ∷ front) y l (w ∷ b) x e h = let rest : b ++ x ∷ [] ≡ front ++ y ∷ l = cc in line_last front y l b x rest h

-- a bad line without its LF yet
pub record IsOpenLine (pending : Bool) (text : List ℕ) : Type 0 where
  pub front : List ℕ
  pub octet : ℕ
  pub tail : List ℕ
  pub viable : IsViable pending front
  pub fails : IsViable pending (front ++ octet ∷ []) → ⊥
  pub feedless : NoFeed (octet ∷ tail)
  pub written : text ≡ front ++ octet ∷ tail

open_more : (pending : Bool) (b : List ℕ) (x : ℕ) → IsOpenLine pending b → x ≢ 10 → IsOpenLine pending (b ++ x ∷ [])
open_more pending b x h ne = record {
  front = h.front;
  octet = h.octet;
  tail = h.tail ++ x ∷ [];
  viable = h.viable;
  fails = h.fails;
  feedless = NoFeed-push (h.octet ∷ h.tail) x h.feedless ne;
  written = ap (λ (u : List ℕ). u ++ x ∷ []) h.written ∙ append_assoc h.front (h.octet ∷ h.tail) (x ∷ []);
}

line_ends : (pending : Bool) (b : List ℕ) (x : ℕ) → IsOpenLine pending b → x ≡ 10 → IsBadLine pending (b ++ x ∷ [])
line_ends pending b x h e = record {
  front = h.front;
  octet = h.octet;
  tail = h.tail ++ x ∷ [];
  viable = h.viable;
  fails = h.fails;
  line = ends_at_feed h.octet h.tail x h.feedless e;
  written = ap (λ (u : List ℕ). u ++ x ∷ []) h.written ∙ append_assoc h.front (h.octet ∷ h.tail) (x ∷ []);
}

-- ---- what stands for a text

pub record Stands (pending : Bool) (state : LineState) (outside used : ℕ) (text : List ℕ) : Type 0 where
  pub state_is : state ≡ run (start_state pending) text
  pub outside_is : outside ≡ outside_from (start_state pending) text
  pub used_is : used ≡ length text
  pub low : outside ≤ 8192
  pub none : NoItem pending (length text + 1) text
  pub open_line : state ≡ Dead → IsOpenLine pending text

abbrev pub Represents : Bool → Scanned → List ℕ → Type 0
Represents pending (Open state outside used) text = Stands pending state outside used text
Represents pending (Found reach) text = IsFirstExtent pending reach text × (reach ≡ Need → ⊥)

-- ---- nothing more is looked at

pub stays : (pending : Bool) (r : ItemExtent) (b u : List ℕ) → (r ≡ Need → ⊥) → IsFirstExtent pending r b → IsFirstExtent pending r (b ++ u)
stays pending Need b u some h = absurd (some refl)
stays pending (Command n) b u some h =
    let same : take n (b ++ u) ≡ take n b = take-append-le n b u h.0 in
    (omega (arith, length-append b u, h.0), NoItem-append pending n b u (omega (arith, h.0)) h.1, rw same h.2, rw same h.3)
stays pending (Bad n) b u some h =
    let same : take n (b ++ u) ≡ take n b = take-append-le n b u h.0 in
    (omega (arith, length-append b u, h.0), NoItem-append pending n b u (omega (arith, h.0)) h.1, rw same h.2, rw same h.3)
stays pending TooBig b u some h =
    let same : take h.0 (b ++ u) ≡ take h.0 b = take-append-le h.0 b u h.1 in
    (h.0, omega (arith, length-append b u, h.1), NoItem-append pending h.0 b u (omega (arith, h.1)) h.2, rw same h.3)

-- ---- one octet more

module _ (pending : Bool) (s : LineState) (n k : ℕ) (b : List ℕ) (x : ℕ) (h : Stands pending s n k b) where
  next : run (start_state pending) (b ++ x ∷ []) ≡ step s x
  next = after-push pending b x ∙ ap (λ (u : LineState). step u x) (sym h.state_is)

  count : outside_from (start_state pending) (b ++ x ∷ []) ≡ n + weight s
  count = outside_from-push (start_state pending) b x ∙ rw (← h.outside_is, ← h.state_is) refl

  used_more : k + 1 ≡ length (b ++ x ∷ [])
  used_more = omega (arith, h.used_is, length_push b x)

  too_long : nat_lt 8192 (n + weight s) ≡ true → IsTooBig pending (b ++ x ∷ [])
  too_long e = inr (n + weight s, subst (λ (m : ℕ). CountsOutside pending [] (b ++ x ∷ []) m) count (counts pending (b ++ x ∷ []) []), ltb-true 8192 (n + weight s) e)

  too_large : (is_large s && x == 10) ≡ true → IsTooBig pending (b ++ x ∷ [])
  too_large e =
      let parts = and_parts (is_large s) (x == 10) e in
      inl (large_head pending b x (rw (← h.state_is) parts.0) (eqb-true x 10 parts.1))

  too_big : (nat_lt 8192 (n + weight s) || (is_large s && x == 10)) ≡ true → IsTooBig pending (b ++ x ∷ [])
  too_big e = elim (or_cases (nat_lt 8192 (n + weight s)) (is_large s && x == 10) e) [ inl a ↦ too_long a | inr a ↦ too_large a ]

  not_big : (nat_lt 8192 (n + weight s) || (is_large s && x == 10)) ≡ false → IsTooBig pending (b ++ x ∷ []) → ⊥
  not_big e (inl head) =
      let parts = or_parts (nat_lt 8192 (n + weight s)) (is_large s && x == 10) e in
      let large = head_large pending b x head in
      both_ways (is_large s && x == 10) parts.1 (and_from (is_large s) (x == 10) (rw h.state_is large.0) (eq-eqb x 10 large.1))
  not_big e (inr long) =
      let parts = or_parts (nat_lt 8192 (n + weight s)) (is_large s && x == 10) e in
      let same : long.0 ≡ n + weight s = counts_only pending (b ++ x ∷ []) [] long.0 long.1 ∙ count in
      both_ways (nat_lt 8192 (n + weight s)) parts.0 (lt-ltb 8192 (n + weight s) (rw (← same) long.2))

  command_ends : ends_command (step s x) ≡ true → IsCommand pending (b ++ x ∷ [])
  command_ends e = whole_spelling pending (b ++ x ∷ []) (next ∙ whole_is (step s x) e)

  no_command : ends_command (step s x) ≡ false → IsCommand pending (b ++ x ∷ []) → ⊥
  no_command e c =
      both_ways (ends_command (step s x)) e (is_whole_of (step s x) (sym next ∙ spelling_whole pending c.0 (b ++ x ∷ []) c.1))

  -- dead before the octet, or with it
  dead_line : step s x ≡ Dead → x ≢ 10 → IsOpenLine pending (b ++ x ∷ [])
  dead_line e ne =
      elim (cases_Bool (is_dead s)) [
        | inl d ↦ open_more pending b x (h.open_line (dead_is s d)) ne
        | inr d ↦ record {
          front = b;
          octet = x;
          tail = [];
          viable = live_viable pending b (λ gone. both_ways (is_dead s) d (is_dead_of s (h.state_is ∙ gone)));
          fails = λ v. viable_live pending (b ++ x ∷ []) v (next ∙ e);
          feedless = (ne, tt);
          written = refl;
        }
      ]

  bad_line : (is_dead (step s x) && x == 10) ≡ true → IsBadLine pending (b ++ x ∷ [])
  bad_line e =
      let parts = and_parts (is_dead (step s x)) (x == 10) e in
      let feed : x ≡ 10 = eqb-true x 10 parts.1 in
      elim (cases_Bool (is_dead s)) [
        | inl d ↦ line_ends pending b x (h.open_line (dead_is s d)) feed
        | inr d ↦ record {
          front = b;
          octet = x;
          tail = [];
          viable = live_viable pending b (λ gone. both_ways (is_dead s) d (is_dead_of s (h.state_is ∙ gone)));
          fails = λ v. viable_live pending (b ++ x ∷ []) v (next ∙ dead_is (step s x) parts.0);
          line = feed;
          written = refl;
        }
      ]

  no_line : (is_dead (step s x) && x == 10) ≡ false → IsBadLine pending (b ++ x ∷ []) → ⊥
  no_line e l =
      let gone : run (start_state pending) (l.front ++ l.octet ∷ []) ≡ Dead = not_viable_dead pending (l.front ++ l.octet ∷ []) l.fails in
      let dead : run (start_state pending) (b ++ x ∷ []) ≡ Dead =
      ap (run (start_state pending)) (l.written ∙ sym (append_assoc l.front (l.octet ∷ []) l.tail)) ∙ run-append (start_state pending) (l.front ++ l.octet ∷ []) l.tail ∙ ap (λ (u : LineState). run u l.tail) gone ∙ run_dead l.tail in
      let feed : x ≡ 10 = line_last l.front l.octet l.tail b x l.written l.line in
      both_ways (is_dead (step s x) && x == 10) e (and_from (is_dead (step s x)) (x == 10) (is_dead_of (step s x) (sym next ∙ dead)) (eq-eqb x 10 feed))

  before : NoItem pending (length b + 1) (b ++ x ∷ [])
  before = NoItem-append pending (length b + 1) b (x ∷ []) (omega arith) h.none

  here : take (k + 1) (b ++ x ∷ []) ≡ b ++ x ∷ []
  here = rw h.used_is (whole_text b x)

  fits : k + 1 ≤ length (b ++ x ∷ [])
  fits = omega (arith, used_more)

  before_used : NoItem pending (k + 1) (b ++ x ∷ [])
  before_used = rw h.used_is before

  quiet : (nat_lt 8192 (n + weight s) || (is_large s && x == 10)) ≡ false → ends_command (step s x) ≡ false → (is_dead (step s x) && x == 10) ≡ false → Stands pending (step s x) (n + weight s) (k + 1) (b ++ x ∷ [])
  quiet big whole line = record {
    state_is = sym next;
    outside_is = sym count;
    used_is = used_more;
    low = ltb-false 8192 (n + weight s) (or_parts (nat_lt 8192 (n + weight s)) (is_large s && x == 10) big).0;
    none = none_more pending b x h.none no_item;
    open_line = λ d. dead_line d (λ feed. both_ways (is_dead (step s x) && x == 10) line (and_from (is_dead (step s x)) (x == 10) (is_dead_of (step s x) d) (eq-eqb x 10 feed)));
  }
    where
      no_item : IsItem pending (b ++ x ∷ []) → ⊥
      no_item (inl c) = no_command whole c
      no_item (inr (inl l)) = no_line line l
      no_item (inr (inr t)) = not_big big t

pick : (pending : Bool) (t : List ℕ) (b : Bool) (u v : Scanned) → (b ≡ true → Represents pending u t) → (b ≡ false → Represents pending v t) → Represents pending (cond b u v) t
pick pending t true u v f g = f refl
pick pending t false u v f g = g refl

pub turned_holds : (pending : Bool) (sc : Scanned) (b : List ℕ) (x : ℕ) → Represents pending sc b → Represents pending (scan_step sc x) (b ++ x ∷ [])
turned_holds pending (Open s n k) b x h =
    pick pending (b ++ x ∷ []) (nat_lt 8192 (n + weight s) || (is_large s && x == 10)) (Found TooBig) _
    (λ e. ((length b + 1, omega (arith, length_push b x), before pending s n k b x h, rw (whole_text b x) (too_big pending s n k b x h e)), (λ i. cc)))
    (λ big. pick pending (b ++ x ∷ []) (ends_command (step s x)) (Found (Command (k + 1))) _
    (λ e. ((fits pending s n k b x h, before_used pending s n k b x h, rw (here pending s n k b x h) (command_ends pending s n k b x h e), rw (here pending s n k b x h) (not_big pending s n k b x h big)), (λ i. cc)))
    (λ whole. pick pending (b ++ x ∷ []) (is_dead (step s x) && x == 10) (Found (Bad (k + 1))) (Open (step s x) (n + weight s) (k + 1))
    (λ e. ((fits pending s n k b x h, before_used pending s n k b x h, rw (here pending s n k b x h) (bad_line pending s n k b x h e), rw (here pending s n k b x h) (not_big pending s n k b x h big)), (λ i. cc)))
    (λ line. quiet pending s n k b x h big whole line)))
turned_holds pending (Found r) b x h = (stays pending r b (x ∷ []) h.1 h.0, h.1)

-- ---- the empty text

no_item_empty : (pending : Bool) → IsItem pending [] → ⊥
no_item_empty pending (inl c) = not_yet pending (spelling_whole pending c.0 [] c.1)
  where
    not_yet : (p : Bool) → start_state p ≡ Whole → ⊥
    not_yet false e = cc
    not_yet true e = cc
no_item_empty pending (inr (inl l)) = no_nil l.front (l.written)
  where
    no_nil : (f : List ℕ) → [] ≡ f ++ l.octet ∷ l.tail → ⊥
    no_nil [] e = cc
    no_nil (w ∷ f) e = cc
no_item_empty pending (inr (inr (inl g))) = no_nil g.front g.written
  where
    no_nil : (f : List ℕ) → [] ≡ f ++ 123 ∷ (g.digits ++ 43 ∷ 125 ∷ 13 ∷ 10 ∷ []) → ⊥
    no_nil [] e = cc
    no_nil (w ∷ f) e = cc
no_item_empty pending (inr (inr (inr g))) = omega (arith, g.1, g.2)

pub fresh_holds : (pending : Bool) → Represents pending (scan_start pending) []
fresh_holds pending = record {
  state_is = refl;
  outside_is = sym (outside_from_nothing (start_state pending));
  used_is = refl;
  low = omega arith;
  none = λ k lt item. no_item_empty pending (subst (λ (t : List ℕ). IsItem pending t) (take_all k [] (omega arith)) item);
  open_line = λ e. absurd (alive pending e);
}
  where
    alive : (p : Bool) → start_state p ≡ Dead → ⊥
    alive false e = cc
    alive true e = cc

-- ---- all texts

holds_from : (pending : Bool) (sc : Scanned) (b t : List ℕ) → Represents pending sc b → Represents pending (fold scan_step sc t) (b ++ t)
holds_from pending sc b [] h = rw (append-nil b) h
holds_from pending sc b (x ∷ t) h =
    subst (λ (u : List ℕ). Represents pending (fold scan_step (scan_step sc x) t) u) (append_assoc b (x ∷ []) t) (holds_from pending (scan_step sc x) (b ++ x ∷ []) t (turned_holds pending sc b x h))

pub scanned_holds : (pending : Bool) (text : List ℕ) → Represents pending (scanned pending text) text
scanned_holds pending text = holds_from pending (scan_start pending) [] text (fresh_holds pending)

found_reaches : (pending : Bool) (sc : Scanned) (text : List ℕ) → Represents pending sc text → IsFirstExtent pending (found sc) text
found_reaches pending (Open s n k) text h = h.none
found_reaches pending (Found r) text h = h.0

-- the function is the relation's answer
pub reaches : (pending : Bool) (text : List ℕ) → IsFirstExtent pending (extent_of pending text) text
reaches pending text = found_reaches pending (scanned pending text) text (scanned_holds pending text)
