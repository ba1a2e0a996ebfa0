-- Who makes room is the first of those that claim.
use Rattle.std.proofs.Common.{◌≡◌, ◌⊎◌, ℕ, ◌≤◌, ◌<◌, nat_lt, Bool, true, false, if◌then◌else◌, List, [], ◌∷◌, Option, Some, None, unwrap_or, inl, inr, refl, sym, ◌∙◌, ap, subst, arith}
use Rattle.std.specs.List.{All, Contains}
use Rattle.std.proofs.lemmas.Bool.{ltb-false, ltb-true, lt-ltb, le-ltb}
use Rattle.std.proofs.lemmas.List.Elements.{All-nil, All-cons, All-contains, Contains-append_left, Contains-append_right}
use Rattle.net_loop.specs.declared.machine.Claim.{Claim}
use Rattle.net_loop.specs.declared.service.Client.{Client}
use Rattle.net_loop.specs.declared.service.Service.{Service}
use Rattle.net_loop.specs.Room.{goes_before, better, best_from, best_number, may_go, claim_in, makes_room, MakesRoom, RoomChoice, FirstGoes}
use Rattle.net_loop.specs.Rules.{Rules}

-- ---- the order of claims

abbrev Before : Claim → Claim → Type 0
Before a b = (a.rank < b.rank) ⊎ ((a.rank ≡ b.rank) × (a.moment < b.moment))

abbrev Behind : Claim → Claim → Type 0
Behind a b = (b.rank < a.rank) ⊎ ((a.rank ≡ b.rank) × (b.moment ≤ a.moment))

before_by : (s t : Bool) (a b : Claim) → nat_lt a.rank b.rank ≡ s → nat_lt b.rank a.rank ≡ t → (if s then true else if t then false else nat_lt a.moment b.moment) ≡ true → Before a b
before_by true t a b p q is = inl (ltb-true a.rank b.rank p)
before_by false true a b p q is = let never : false ≡ true = is in cc
before_by false false a b p q is = inr (omega (arith, ltb-false a.rank b.rank p, ltb-false b.rank a.rank q), ltb-true a.moment b.moment is)

before_is : (a b : Claim) → goes_before a b ≡ true → Before a b
before_is a b is = before_by (nat_lt a.rank b.rank) (nat_lt b.rank a.rank) a b refl refl is

behind_by : (s t : Bool) (a b : Claim) → nat_lt a.rank b.rank ≡ s → nat_lt b.rank a.rank ≡ t → (if s then true else if t then false else nat_lt a.moment b.moment) ≡ false → Behind a b
behind_by true t a b p q is = let never : true ≡ false = is in cc
behind_by false true a b p q is = inl (ltb-true b.rank a.rank q)
behind_by false false a b p q is = inr (omega (arith, ltb-false a.rank b.rank p, ltb-false b.rank a.rank q), ltb-false a.moment b.moment is)

behind_is : (a b : Claim) → goes_before a b ≡ false → Behind a b
behind_is a b is = behind_by (nat_lt a.rank b.rank) (nat_lt b.rank a.rank) a b refl refl is

is_behind : (a b : Claim) → Behind a b → goes_before a b ≡ false
is_behind a b (inl less) = rw (le-ltb a.rank b.rank (omega arith), lt-ltb b.rank a.rank less) refl
is_behind a b (inr same) = rw (le-ltb a.rank b.rank (omega (arith, same.0)), le-ltb b.rank a.rank (omega (arith, same.0)), le-ltb a.moment b.moment same.1) refl

behind_both : (a b c : Claim) → Behind a b → Behind b c → Behind a c
behind_both a b c (inl one) (inl other) = inl (omega arith)
behind_both a b c (inl one) (inr other) = inl (omega (arith, other.0))
behind_both a b c (inr one) (inl other) = inl (omega (arith, one.0))
behind_both a b c (inr one) (inr other) = inr (omega (arith, one.0, other.0), omega (arith, one.1, other.1))

before_both : (c b e : Claim) → Before c b → Behind c e → Behind b e
before_both c b e (inl one) (inl other) = inl (omega arith)
before_both c b e (inl one) (inr other) = inl (omega (arith, other.0))
before_both c b e (inr one) (inl other) = inl (omega (arith, one.0))
before_both c b e (inr one) (inr other) = inr (omega (arith, one.0, other.0), omega (arith, one.1, other.1))

-- what doesn't go before one that doesn't go before the third doesn't go before that
falls_behind : (a b c : Claim) → goes_before a b ≡ false → goes_before b c ≡ false → goes_before a c ≡ false
falls_behind a b c one other = is_behind a c (behind_both a b c (behind_is a b one) (behind_is b c other))

-- where one goes before the second, and not before the third, the second doesn't go before that
stays_behind : (c b e : Claim) → goes_before c b ≡ true → goes_before c e ≡ false → goes_before b e ≡ false
stays_behind c b e one other = is_behind b e (before_both c b e (before_is c b one) (behind_is c e other))

not_itself : (a : Claim) → goes_before a a ≡ false
not_itself a = is_behind a a (inr (refl, omega arith))

in_some : {X : Type 0} (a b : X) → Some a ≡ Some b → a ≡ b
in_some a b is = ap (λ (o : Option _). unwrap_or o a) is

-- ---- the first of a list

abbrev pub It : Type 0
It = ℕ × Claim

abbrev pub Entry : Type 0
Entry = ℕ × Client

module _ (claim : Client → Option Claim) where
  -- an entry that claims that
  pub record From (entries : List Entry) (it : It) : Type 0 where
    pub at : ℕ
    pub client : Client
    pub among : Contains entries (at, client)
    pub number : client.id ≡ it.0
    pub claims : claim client ≡ Some it.1

  abbrev pub AtMost : It → Option It → Type 0
  AtMost it None = Unit {0}
  AtMost it (Some best) = goes_before best.1 it.1 ≡ false

  abbrev pub NotBefore : It → Entry → Type 0
  NotBefore it e = (other : Claim) → claim e.1 ≡ Some other → goes_before other it.1 ≡ false

  pub record Found (best : Option It) (entries : List Entry) (it : It) : Type 0 where
    pub whence : (best ≡ Some it) ⊎ From entries it
    pub at_most : AtMost it best
    pub least : All (NotBefore it) entries

  abbrev pub Silent : Entry → Type 0
  Silent e = claim e.1 ≡ None

  abbrev pub OutOf : Option It → List Entry → Option It → Type 0
  OutOf best entries None = (best ≡ None) × All Silent entries
  OutOf best entries (Some it) = Found best entries it

  from_tail : (e : Entry) (entries : List Entry) (it : It) → From entries it → From (e ∷ entries) it
  from_tail e entries it from =
      record { at = from.at; client = from.client; among = Contains-append_right (e ∷ []) entries (from.at, from.client) from.among; number = from.number; claims = from.claims }

  -- an entry that claims nothing
  passed : (best : Option It) (e : Entry) (entries : List Entry) (r : Option It) → claim e.1 ≡ None → OutOf best entries r → OutOf best (e ∷ entries) r
  passed best e entries None silent out = (out.0, All-cons Silent e entries silent out.1)
  passed best e entries (Some it) silent out = record {
    whence = whence_of out.whence;
    at_most = out.at_most;
    least = All-cons (NotBefore it) e entries (λ other claims. let never : None ≡ Some other = sym silent ∙ claims in cc) out.least;
  }
    where
      whence_of : (best ≡ Some it) ⊎ From entries it → (best ≡ Some it) ⊎ From (e ∷ entries) it
      whence_of (inl is) = inl is
      whence_of (inr from) = inr (from_tail e entries it from)

  -- an entry that claims something
  module _ (e : Entry) (entries : List Entry) (its : Claim) (claims : claim e.1 ≡ Some its) where
    abbrev Itself : It
    Itself = (e.1.id, its)

    own : From (e ∷ entries) Itself
    own = record { at = e.0; client = e.1; among = Contains-append_left (e ∷ []) entries e (0, omega arith, refl); number = refl; claims = claims }

    least_with : (it : It) → goes_before its it.1 ≡ false → All (NotBefore it) entries → All (NotBefore it) (e ∷ entries)
    least_with it behind least =
        All-cons (NotBefore it) e entries (λ other is. let same : its ≡ other = in_some its other (sym claims ∙ is) in subst (λ n. goes_before n it.1 ≡ false) same behind) least

    whence_own : (best : Option It) (it : It) → (Some Itself ≡ Some it) ⊎ From entries it → (best ≡ Some it) ⊎ From (e ∷ entries) it
    whence_own best it (inl is) = inr (subst (From (e ∷ entries)) (in_some Itself it is) own)
    whence_own best it (inr from) = inr (from_tail e entries it from)

    whence_old : (best : It) (it : It) → (Some best ≡ Some it) ⊎ From entries it → (Some best ≡ Some it) ⊎ From (e ∷ entries) it
    whence_old best it (inl is) = inl is
    whence_old best it (inr from) = inr (from_tail e entries it from)

    beside : (old : It) (it : It) (test : Bool) → goes_before its old.1 ≡ test → Found (if test then Some Itself else Some old) entries it → Found (Some old) (e ∷ entries) it
    beside old it true is found =
        record { whence = whence_own (Some old) it found.whence; at_most = stays_behind its old.1 it.1 is found.at_most; least = least_with it found.at_most found.least }
    beside old it false is found =
        record { whence = whence_old old it found.whence; at_most = found.at_most; least = least_with it (falls_behind its old.1 it.1 is found.at_most) found.least }

    not_none : (old : It) (test : Bool) → (if test then Some Itself else Some old) ≡ None → ⊥
    not_none old true is = let never : Some Itself ≡ None = is in cc
    not_none old false is = let never : Some old ≡ None = is in cc

    taken : (best : Option It) (r : Option It) → OutOf (better best e.1.id (Some its)) entries r → OutOf best (e ∷ entries) r
    taken None None out = let never : Some Itself ≡ None = out.0 in cc
    taken (Some old) None out = absurd (not_none old (goes_before its old.1) out.0)
    taken None (Some it) found = record { whence = whence_own None it found.whence; at_most = tt; least = least_with it found.at_most found.least }
    taken (Some old) (Some it) found = beside old it (goes_before its old.1) refl found

  pub first_is : (best : Option It) (entries : List Entry) → OutOf best entries (best_from claim best entries)
  first_is None [] = (refl, All-nil Silent)
  first_is (Some best) [] = record { whence = inl refl; at_most = not_itself best.1; least = All-nil (NotBefore best) }
  first_is best (e ∷ entries) = by_claim (claim e.1) refl (first_is (better best e.1.id (claim e.1)) entries)
    where
      by_claim : (claimed : Option Claim) → claim e.1 ≡ claimed → OutOf (better best e.1.id claimed) entries (best_from claim (better best e.1.id claimed) entries)
          → OutOf best (e ∷ entries) (best_from claim (better best e.1.id claimed) entries)
      by_claim None is out = passed best e entries (best_from claim best entries) is out
      by_claim (Some its) is out = taken e entries its is best (best_from claim (better best e.1.id (Some its)) entries) out

-- ---- who makes room

module _ {M N R : Type 0} (rules : Rules M N R) (m : M) (s : Service) (kind : ℕ) where
  abbrev claims_so : Client → Option Claim
  claims_so c = claim_in rules m s.moment kind c

  may_by : (test : Bool) (o : Option Claim) (its : Claim) → (if test then o else None) ≡ Some its → (test ≡ true) × (o ≡ Some its)
  may_by true o its is = (refl, is)
  may_by false o its is = let never : ◌≡◌ {A = Option Claim} None (Some its) = is in cc

  goes_by : (it : It) → Found claims_so None s.clients.entries it → MakesRoom rules m s kind it.0
  goes_by it found = of found.whence
    where
      of : (None ≡ Some it) ⊎ From claims_so s.clients.entries it → MakesRoom rules m s kind it.0
      of (inl never) = cc
      of (inr from) =
          let may = may_by (may_go s.moment kind from.client) (rules.claim m s.moment from.client.id) it.1 from.claims in
          record {
            at = from.at;
            client = from.client;
            is_there = from.among;
            number = from.number;
            may = may.0;
            claim = it.1;
            claims = subst (λ n. rules.claim m s.moment n ≡ Some it.1) from.number may.1;
            first = λ other its among claims. All-contains (NotBefore claims_so it) s.clients.entries other found.least among its claims;
          }

  by_first : (o : Option It) → OutOf claims_so None s.clients.entries o → RoomChoice rules m s kind (best_number o)
  by_first None out = λ it among. All-contains (Silent claims_so) s.clients.entries it out.1 among
  by_first (Some it) found = goes_by it found

  goes_out : RoomChoice rules m s kind (makes_room rules m s kind)
  goes_out = by_first (best_from claims_so None s.clients.entries) (first_is claims_so None s.clients.entries)

  claims_of : (o : Option ℕ) (id : ℕ) → RoomChoice rules m s kind o → o ≡ Some id → (its : Claim) × (rules.claim m s.moment id ≡ Some its)
  claims_of None id out is = let never : ◌≡◌ {A = Option ℕ} None (Some id) = is in cc
  claims_of (Some other) id out is = (out.claim, subst (λ n. rules.claim m s.moment n ≡ Some out.claim) (in_some other id is) out.claims)

  -- who makes room claims something
  pub claims_one : (id : ℕ) → makes_room rules m s kind ≡ Some id → (its : Claim) × (rules.claim m s.moment id ≡ Some its)
  claims_one id is = claims_of (makes_room rules m s kind) id goes_out is

pub first_goes : {M N R : Type 0} (rules : Rules M N R) → FirstGoes rules
first_goes rules = λ m s kind. goes_out rules m s kind
