-- Deliveries to several users together: which go together, what is decided on each, and then the write.
use Rattle.std.proofs.Common.{◌≡◌, ◌≢◌, ◌≤◌, ◌<◌, ◌+◌, ◌⊎◌, ℕ, zero, suc, Bool, true, false, List, [], ◌∷◌, ◌++◌, ◌↔◌, map, take, length, get_or, Option, Some, None, IsSome, IsTrue, Ok, Err, Result, OnOk, IfOk, IfErr, Vec, append-nil, refl, sym, ap, ◌∙◌, subst, inl, inr, arith}
use Rattle.std.specs.Prelude.{All, Any, Contains, MatchBool}
use Rattle.std.specs.declared.alloc.Global.{Global}
use Rattle.std.specs.List.{AllWithin, AllZip, HoldsAt, filter_map}
use Rattle.std.specs.Option.{option_to_list}
use Rattle.std.specs.FinMap.{get}
use Rattle.std.proofs.lemmas.Bool.{false≢true}
use Rattle.std.proofs.lemmas.List.{get_or-map, get_or_default, length-map, length-take-le, map-append, take_all, take_more}
use Rattle.std.proofs.lemmas.List.Elements.{All-cons, All-head, All-nil, All-tail, Contains-get_or, filter_map-append}
use Rattle.std.proofs.lemmas.List.Quantifiers.{all_pairs_push}
use Rattle.std.proofs.lemmas.Option.{slice_get_read}
use Rattle.sqlite.specs.State.{State, HasCleanDisk}
use Rattle.store_tables.specs.Connection.{IsSettled, StaysSame}
use Rattle.store_tables.proofs.ResultLemmas.{on_ok}
use Rattle.store_tables.proofs.WriteLemmas.{clean_before}
use Rattle.store_accounts.specs.declared.deliveries.PlannedDelivery.{PlannedDelivery}
use Rattle.store_accounts.specs.declared.refusal.Refusal.{Refusal}
use Rattle.store_accounts.specs.declared.refusal.Refusal.TheVariants.{NoUser}
use Rattle.store_accounts.specs.declared.report.Plan.{Plan}
use Rattle.store_accounts.specs.Account.{Account, Accounts, delivers, in_place, open_one, with_user}
use Rattle.store_accounts.specs.Deliveries.{UserPlan, plan_in, plans_in, users_of, HasNoUserTwice, delivers_each, HaveAccounts, WritesDeliveries}
use Rattle.store_accounts.specs.Promises.{HasUser, KeepsSeen, KeepsTables}
use Rattle.store_accounts.specs.Refusals.{IsTransient}
use Rattle.store_accounts.specs.Shows.{Presents}
use Rattle.store_accounts.proofs.AfterLemmas.{seen_before, seen_none, seen_ok, seen_read, seen_then}
use Rattle.store_accounts.proofs.DeliveriesLemmas.{apart_cons, apart_first, apart_rest, zip_length, zip_more}
use Rattle.store_accounts.proofs.KeepLemmas.{none_if, none_ok}
use Rattle.store_accounts.proofs.StandingLemmas.{has_there, open_there}
use Rattle.managesieve_sessions.specs.Acts.{HasAccounts, Glances, ReadsAccounts}
use Rattle.managesieve_sessions.proofs.ActLemmas.{accounts_stay, acts_made, acts_read, acts_undone, glanced, glances_then}
use Rattle.store_engine.specs.declared.answer.Answer.{Answer}
use Rattle.store_engine.specs.declared.answer.Answer.TheVariants.{Delivered, Refused as IsRefused}
use Rattle.store_engine.specs.declared.delivery.Lookup.{Lookup}
use Rattle.store_engine.specs.declared.deliveries.Decision.{Decision}
use Rattle.store_engine.specs.declared.deliveries.Decision.TheVariants.{Refused, Planned}
use Rattle.store_engine.specs.declared.parcel.Parcel.{Parcel}
use Rattle.store_engine.specs.declared.terms.Terms.{Terms}
use Rattle.store_engine.specs.AccountEvents.{absence, DeliversIn, DeliversTo, DeliversUnder, Delivery}
use Rattle.store_engine.specs.Deliveries.{parcel_users, IsLongestFront, Deliveries, DeliversFront, TurnsDeliveries, MayTurnDeliveries, ActsDeliveries, AreSpacedDeliveries, IsDelivered, answers_in, delivery_events, IsRefusedFor, IsPlannedFor, IsDecided, IsFor, AreDecided, DecidesByReads, DecidesOne, DecidesEach, plan_made, plans_made, answer_to}
use Rattle.store_engine.specs.Limits.{limit_refusal}
use Rattle.store_engine.specs.Lookups.{LooksUp, IsLookup}
use Rattle.store_engine.specs.OwnActs.{is_user}
use Rattle.store_engine.specs.World.{World, Runs}
use Rattle.store_engine.proofs.AloneLemmas.{same_name, changed_other}
use Rattle.store_engine.proofs.SpacingLemmas.{spacing}

-- ---- which go together

-- a parcel is for the user
pub among_users : (parcels : List Parcel) (name : List ℕ) → Any (λ p. p.user.now ≡ name) parcels → Contains (parcel_users parcels) name
among_users parcels name (k, p, less, is, whose) =
    (k, simp length-map less, get_or-map (λ (q : Parcel). q.user.now) parcels k p name less ∙ ap (λ (q : Parcel). q.user.now) is ∙ whose)

pub is_among_users : (parcels : List Parcel) (name : List ℕ) → Contains (parcel_users parcels) name → Any (λ p. p.user.now ≡ name) parcels
is_among_users [] name (k, less, is) = absurd (omega arith)
is_among_users (p ∷ parcels) name (zero, less, is) = (0, p, omega arith, refl, is)
is_among_users (p ∷ parcels) name (suc k, less, is) =
    let rest = is_among_users parcels name (k, omega arith, is) in
    (suc rest.0, rest.1, omega (arith, rest.2), rest.3, rest.4)

one_among : (parcels : List Parcel) (name : List ℕ) (k : ℕ) → k < length parcels → HoldsAt (λ (p : Parcel). p.user.now ≡ name) parcels k → Any (λ (p : Parcel). p.user.now ≡ name) parcels
one_among [] name k less holds = absurd (omega (arith, less))
one_among (p ∷ parcels) name k less holds = (k, get_or (p ∷ parcels) k p, less, get_or_default (p ∷ parcels) k (get_or (p ∷ parcels) k p) p less, holds p)

-- what a search among them answers
pub among_answer : (parcels : List Parcel) (name : List ℕ) (r : Bool) → MatchBool r ((k : ℕ) × (k < length parcels) × HoldsAt (λ (p : Parcel). p.user.now ≡ name) parcels k) (AllWithin (λ (p : Parcel). p.user.now ≢ name) parcels 0 (length parcels))
    → IsTrue r ↔ Any (λ (p : Parcel). p.user.now ≡ name) parcels
among_answer parcels name true found = (λ is. one_among parcels name found.0 found.1 found.2, λ any. refl)
among_answer parcels name false none = (λ is. absurd (false≢true is), λ any. absurd (none any.0 any.1 (omega arith) any.2 (ap (λ (p : Parcel). p.user.now) any.3 ∙ any.4)))

module _ (parcels : List Parcel) (i : ℕ) (p : Parcel) (within : i < length parcels) (is : p ≡ get_or parcels i p) (apart : HasNoUserTwice (parcel_users (take i parcels))) where
  abbrev users_before : List (List ℕ)
  users_before = parcel_users (take i parcels)

  -- one more, for a user who has none before
  pub front_more : (Contains (parcel_users (take i parcels)) p.user.now → ⊥) → HasNoUserTwice (parcel_users (take (i + 1) parcels))
  front_more new =
      let taken : take (i + 1) parcels ≡ take i parcels ++ p ∷ [] = take_more parcels i p within ∙ ap (λ q. take i parcels ++ q ∷ []) (sym is) in
      let next : parcel_users (take (i + 1) parcels) ≡ users_before ++ p.user.now ∷ [] = ap parcel_users taken ∙ map-append (λ (q : Parcel). q.user.now) (take i parcels) (p ∷ []) in
      subst HasNoUserTwice (sym next) (all_pairs_push (λ one later. one ≢ later) users_before p.user.now apart (λ k d less same. new (subst (Contains users_before) same (Contains-get_or users_before k d less))))

  -- before one for a user who has one the front ends
  pub front_ends : Contains (parcel_users (take i parcels)) p.user.now → IsLongestFront parcels i
  front_ends has = record { within = omega (arith, within); once = apart; ends = inr (p, slice_get_read parcels (length parcels) i p refl within is, has) }

-- and it ends with the last one
pub front_all : (parcels : List Parcel) (i : ℕ) → length parcels ≤ i → HasNoUserTwice (parcel_users (take i parcels)) → IsLongestFront parcels (length parcels)
front_all parcels i end apart = record {
  within = omega arith;
  once = subst (λ l. HasNoUserTwice (parcel_users l)) (take_all i parcels end ∙ sym (take_all (length parcels) parcels (omega arith))) apart;
  ends = inl refl;
}

-- two of one place
pub zip_at : {A B : Type 0} (R : A → B → Type 0) (xs : List A) (ys : List B) (i : ℕ) (x : A) (y : B) → AllZip R xs ys → i < length xs → x ≡ get_or xs i x → y ≡ get_or ys i y → R x y
zip_at R [] [] i x y zip less one two = absurd (omega (arith, less))
zip_at R (a ∷ xs) (b ∷ ys) zero x y zip less one two = subst (λ v. R v y) (sym one) (subst (R a) (sym two) zip.0)
zip_at R (a ∷ xs) (b ∷ ys) (suc i) x y zip less one two = zip_at R xs ys i x y zip.1 (omega (arith, less)) one two
zip_at R [] (b ∷ ys) i x y zip less one two = absurd zip
zip_at R (a ∷ xs) [] i x y zip less one two = absurd zip

-- ---- what is decided by reads

glance_seen : {X E : Type 0} (a b : State) (q : Result X E) → Glances a b → (HasCleanDisk b → OnOk q (IsTrue b.is_open)) → KeepsSeen a b q
glance_seen {X} {E} a b q k live = record { same = k.same; seen = λ clean ours. go q (live clean) (k.same clean ours); crash = k.crash }
  where
    go : (o : Result X E) → OnOk o (IsTrue b.is_open) → StaysSame a b → OnOk o ((b.now ≡ a.now) × (b.committed ≡ a.committed))
    go (Ok x) is_open same = (same.now_is is_open, same.committed_is is_open)
    go (Err e) is_open same = tt

module _ {X : Type 0} (Part : X → Accounts → Type 0) (made : X → List UserPlan) where
  pub decided_glances : (a b : State) (q : Result X Refusal) → DecidesByReads Part made a b q → Glances a b
  decided_glances a b q h = record { same = h.keeps.same; shut = h.shut; crash = h.keeps.crash }

  -- without a look at the store
  pub decided_unread : (s : State) (x : X) → ((accounts : Accounts) → Part x accounts) → made x ≡ [] → DecidesByReads Part made s s (Ok x)
  decided_unread s x is none = record {
    found = λ clean accounts shown. is accounts;
    sure = λ clean some. absurd (some none);
    keeps = seen_none s (Ok x);
    live = λ clean is_open. is_open;
    shut = λ clean is_open. is_open;
    named = tt;
  }

  -- it couldn't be
  pub undecided : (a b : State) (q : Result X Refusal) → OnOk q ⊥ → IfErr q IsTransient → Glances a b → DecidesByReads Part made a b q
  undecided a b q none transient k = record {
    found = λ clean accounts shown. none_if q (λ x. Part x accounts) none;
    sure = λ clean. none_if q (λ x. (made x ≡ [] → ⊥) → IsTrue a.is_open) none;
    keeps = glance_seen a b q k (λ clean. none_ok q (IsTrue b.is_open) none);
    live = λ clean was. none_ok q (IsTrue b.is_open) none;
    shut = k.shut;
    named = transient;
  }

-- one after the other
module _ {X Y Z : Type 0} (P : X → Accounts → Type 0) (m : X → List UserPlan) (Q : Y → Accounts → Type 0) (n : Y → List UserPlan) (R : Z → Accounts → Type 0) (o : Z → List UserPlan)
    (a b c : State) (x : X) (early : DecidesByReads P m a b (Ok x)) (q : Result Y Refusal) (late : DecidesByReads Q n b c q) where
  clean_mid : HasCleanDisk c → HasCleanDisk b
  clean_mid = seen_before a b c (Ok x) x refl early.keeps q late.keeps

  pub decided_both : (y : Y) → q ≡ Ok y → (z : Z) → ((accounts : Accounts) → P x accounts → Q y accounts → R z accounts) → ((o z ≡ [] → ⊥) → (m x ≡ [] → ⊥) ⊎ (n y ≡ [] → ⊥)) → DecidesByReads R o a c (Ok z)
  decided_both y is z both either = record {
    found = λ clean accounts shown.
        both accounts (early.found (clean_mid clean) accounts shown)
        (subst (λ r. IfOk r (λ v. Q v accounts)) is (late.found clean accounts (accounts_stay a b (decided_glances P m a b (Ok x) early) (clean_mid clean) accounts shown)));
    sure = λ clean some. was_open clean (either some);
    keeps = seen_ok a c q y (Ok z) is (seen_then a b c (Ok x) x refl early.keeps q late.keeps);
    live = λ clean was. on_ok q y is (IsTrue c.is_open) (late.live clean (early.live (clean_mid clean) was));
    shut = λ clean is_open. early.shut (clean_mid clean) (late.shut clean is_open);
    named = tt;
  }
    where
      was_open : HasCleanDisk c → (m x ≡ [] → ⊥) ⊎ (n y ≡ [] → ⊥) → IsTrue a.is_open
      was_open clean (inl some) = early.sure (clean_mid clean) some
      was_open clean (inr some) = early.shut (clean_mid clean) (subst (λ r. IfOk r (λ v. (n v ≡ [] → ⊥) → IsTrue b.is_open)) is (late.sure clean) some)

  -- and then it couldn't be
  pub undecided_then : (end : Result Z Refusal) → OnOk end ⊥ → IfErr end IsTransient → DecidesByReads R o a c end
  undecided_then end none transient =
      let both = seen_then a b c (Ok x) x refl early.keeps q late.keeps in
      undecided R o a c end none transient (record { same = both.same; shut = λ clean is_open. early.shut (clean_mid clean) (late.shut clean is_open); crash = both.crash })

-- a read that isn't refused for lack of an account is refused without visible cause
pub other_refusal : (e : Refusal) → (e ≡ NoUser → ⊥) → (e ≡ NoUser) ⊎ IsTransient e → IsTransient e
other_refusal e there (inl absent) = absurd (there absent)
other_refusal e there (inr transient) = transient

-- ---- on one parcel

module _ (terms : Terms) (p : Parcel) where
  abbrev user : List ℕ
  user = p.user.now

  abbrev Part : Decision → Accounts → Type 0
  Part d accounts = IsDecided terms p (get accounts p.user.now) d

  abbrev made_of : Decision → List UserPlan
  made_of d = option_to_list (plan_made d)

  -- a limit stands against it
  pub one_limited : (s : State) (refusal : Refusal) → limit_refusal p.envelope p.message.now terms.when.moment ≡ Some refusal → DecidesOne terms p s s (Ok (Refused refusal))
  one_limited s refusal is = decided_unread Part made_of s (Refused refusal) (λ accounts. inl is) refl

  -- it couldn't be decided
  pub one_undecided : (a b : State) (q : Result Decision Refusal) → OnOk q ⊥ → IfErr q IsTransient → Glances a b → DecidesOne terms p a b q
  one_undecided = undecided Part made_of

  module _ (free : limit_refusal p.envelope p.message.now terms.when.moment ≡ None) where
    -- the user has no open account, and why is asked
    module _ (a b c : State) (r : Result Lookup Refusal) (was : r ≡ Err NoUser) (look : LooksUp p.user.now IsLookup a b r) (w : Result Refusal Refusal) (late : ReadsAccounts (λ refusal accounts. refusal ≡ absence (get accounts p.user.now)) b c w) where
      clean_then : HasCleanDisk c → HasCleanDisk b
      clean_then = clean_before b c _ late.glances.crash

      mid_open : HasCleanDisk b → IsTrue b.is_open
      mid_open clean = subst (λ q. IfErr q (λ e. e ≡ NoUser → IsTrue b.is_open)) was (look.reads.sure clean) refl

      pub asked : Glances a c
      asked = glances_then a b c mid_open (glanced a b r look.reads.keeps) late.glances

      none_open : HasCleanDisk c → (accounts : Accounts) → HasAccounts a accounts → open_one (get accounts p.user.now) ≡ None
      none_open clean accounts shown =
          let before = clean_then clean in
          let seen = shown (subst (λ q. IfErr q (λ e. e ≡ NoUser → IsTrue a.is_open)) was (look.sure before) refl) in
          subst (λ q. IfErr q (λ e. e ≡ NoUser → open_one (get accounts p.user.now) ≡ None)) was (look.reads.absent before accounts seen) refl

      pub one_absent : (refusal : Refusal) → w ≡ Ok refusal → DecidesOne terms p a c (Ok (Refused refusal))
      one_absent refusal told = record {
        found = λ clean accounts shown.
            let why = subst (λ o. IfOk o (λ f. f ≡ absence (get accounts p.user.now))) told (late.found clean accounts (accounts_stay a b (glanced a b r look.reads.keeps) (clean_then clean) accounts shown)) in
            inr (free, none_open clean accounts shown, why);
        sure = λ clean some. absurd (some refl);
        keeps = glance_seen a c (Ok (Refused refusal)) asked end_open;
        live = λ clean was_open. end_open clean;
        shut = asked.shut;
        named = tt;
      }
        where
          end_open : HasCleanDisk c → IsTrue c.is_open
          end_open clean = on_ok w refusal told (IsTrue c.is_open) (late.live clean (mid_open (clean_then clean)))

    -- a plan was made, by what was read of the account
    pub one_planned : {X : Type 0} (Known : X → Account → Type 0) (a c : State) (x : X) → LooksUp p.user.now Known a c (Ok x) → (plan : Plan) → ((account : Account) → Known x account → DeliversTo terms p.envelope p.message.now account plan.report (delivers plan account))
        → DecidesOne terms p a c (Ok (Planned p.user plan))
    one_planned Known a c x look plan planned = record {
      found = λ clean accounts shown.
          let own = look.reads.found clean accounts (shown (was_open clean)) in
          record { free = free; found = own.0; is_open = own.1; delivers_it = planned own.0 own.2 };
      sure = λ clean some. was_open clean;
      keeps = seen_ok a c (Ok x) x (Ok (Planned p.user plan)) refl (seen_read a c (Ok x) look.reads.keeps);
      live = λ clean was. look.reads.keeps.live clean;
      shut = look.reads.keeps.shut;
      named = tt;
    }
      where
        was_open : HasCleanDisk c → IsTrue a.is_open
        was_open clean = look.reads.keeps.shut clean (look.reads.keeps.live clean)

-- ---- on each of them

-- the plan that was made last, or none
plans_more : (all : List Decision) (d : Decision) → plans_made (all ++ d ∷ []) ≡ plans_made all ++ option_to_list (plan_made d)
plans_more all d = filter_map-append plan_made all (d ∷ []) ∙ ap (λ l. plans_made all ++ l) (one (plan_made d))
  where
    one : (o : Option UserPlan) → filter_map (λ x. x) (o ∷ []) ≡ option_to_list o
    one None = refl
    one (Some plan) = refl

made_more : (decisions : List Decision) (i : ℕ) (d : Decision) → i < length decisions → d ≡ get_or decisions i d → plans_made (take (i + 1) decisions) ≡ plans_made (take i decisions) ++ option_to_list (plan_made d)
made_more decisions i d within is = ap plans_made (take_more decisions i d within ∙ ap (λ e. take i decisions ++ e ∷ []) (sym is)) ∙ plans_more (take i decisions) d

-- the plans that are to be written, after one decision more
module _ (decisions : List Decision) (i : ℕ) (d : Decision) (within : i < length decisions) (is : d ≡ get_or decisions i d) (so_far : List PlannedDelivery) (same : plans_in so_far ≡ plans_made (take i decisions)) where
  pub planned_more : (one : PlannedDelivery) → plan_made d ≡ Some (plan_in one) → (more : List PlannedDelivery) → more ≡ so_far ++ one ∷ [] → plans_in more ≡ plans_made (take (i + 1) decisions)
  planned_more one made more joined =
      ap plans_in joined ∙ map-append plan_in so_far (one ∷ []) ∙ ap (λ l. l ++ plan_in one ∷ []) same ∙ ap (λ o. plans_made (take i decisions) ++ option_to_list o) (sym made) ∙ sym (made_more decisions i d within is)

  pub planned_none : plan_made d ≡ None → plans_in so_far ≡ plans_made (take (i + 1) decisions)
  planned_none none = same ∙ sym (append-nil (plans_made (take i decisions))) ∙ ap (λ o. plans_made (take i decisions) ++ option_to_list o) (sym none) ∙ sym (made_more decisions i d within is)

one_of : {X : Type 0} (xs ys : List X) → (xs ++ ys ≡ [] → ⊥) → (xs ≡ [] → ⊥) ⊎ (ys ≡ [] → ⊥)
one_of [] ys some = inr some
one_of (x ∷ xs) ys some = inl (λ none. let no = none in cc)

module _ (terms : Terms) (parcels : List Parcel) where
  pub each_none : (s : State) (all : Vec Decision Global) → all.items ≡ [] → DecidesEach terms [] s s (Ok all)
  each_none s all is = decided_unread (λ (all : Vec Decision Global) accounts. AreDecided terms [] all.items accounts) (λ (all : Vec Decision Global). plans_made all.items) s all (λ accounts. subst (λ l. AreDecided terms [] l accounts) (sym is) tt) (ap plans_made is)

  module _ (i : ℕ) (p : Parcel) (within : i < length parcels) (is : p ≡ get_or parcels i p) (a b c : State) (so_far : Vec Decision Global) (early : DecidesEach terms (take i parcels) a b (Ok so_far))
      (q : Result Decision Refusal) (late : DecidesOne terms p b c q) where
    abbrev Before : Vec Decision Global → Accounts → Type 0
    Before all accounts = AreDecided terms (take i parcels) all.items accounts

    abbrev made_by : Vec Decision Global → List UserPlan
    made_by all = plans_made all.items

    -- one more was decided
    pub each_more : (d : Decision) → q ≡ Ok d → (all : Vec Decision Global) → all.items ≡ so_far.items ++ d ∷ [] → DecidesEach terms (take (i + 1) parcels) a c (Ok all)
    each_more d was all joined =
        decided_both Before made_by (Part terms p) (made_of terms p) (λ (all : Vec Decision Global) accounts. AreDecided terms (take (i + 1) parcels) all.items accounts) made_by a b c so_far early q late d was all
        (λ accounts one two. subst (λ l. AreDecided terms (take (i + 1) parcels) l accounts) (sym joined) (zip_more (λ (e : Parcel) f. IsDecided terms e (get accounts e.user.now) f) parcels so_far.items i p d within is one two))
        (λ some. one_of (plans_made so_far.items) (option_to_list (plan_made d)) (λ none. some (ap plans_made joined ∙ plans_more so_far.items d ∙ none)))

    -- one couldn't be decided, or there was no memory for it
    pub each_undecided : (end : Result (Vec Decision Global) Refusal) → OnOk end ⊥ → IfErr end IsTransient → DecidesEach terms parcels a c end
    each_undecided end none transient = undecided_then Before made_by (Part terms p) (made_of terms p) (λ (all : Vec Decision Global) accounts. AreDecided terms parcels all.items accounts) made_by a b c so_far early q late end none transient

pub each_glances : (terms : Terms) (parcels : List Parcel) (a b : State) (q : Result (Vec Decision Global) Refusal) → DecidesEach terms parcels a b q → Glances a b
each_glances terms parcels a b q h = record { same = h.keeps.same; shut = h.shut; crash = h.keeps.crash }

-- ---- the plans that were made

-- what holds of all the parcels' users holds of those for whom a plan was made
planned_users : (P : List ℕ → Type 0) (parcels : List Parcel) (decisions : List Decision) → AllZip IsFor parcels decisions → All P (parcel_users parcels) → All P (users_of (plans_made decisions))
planned_users P [] [] whose all = All-nil P
planned_users P (p ∷ parcels) (Refused refusal ∷ decisions) whose all = planned_users P parcels decisions whose.1 (All-tail P p.user.now (parcel_users parcels) all)
planned_users P (p ∷ parcels) (Planned name plan ∷ decisions) whose all =
    All-cons P name.now (users_of (plans_made decisions)) (subst P (sym whose.0) (All-head P p.user.now (parcel_users parcels) all)) (planned_users P parcels decisions whose.1 (All-tail P p.user.now (parcel_users parcels) all))
planned_users P [] (d ∷ decisions) whose all = absurd whose
planned_users P (p ∷ parcels) [] whose all = absurd whose

-- no two plans are for one user
pub plans_apart : (parcels : List Parcel) (decisions : List Decision) → AllZip IsFor parcels decisions → HasNoUserTwice (parcel_users parcels) → HasNoUserTwice (users_of (plans_made decisions))
plans_apart [] [] whose apart = λ i j d before less. absurd (omega arith)
plans_apart (p ∷ parcels) (Refused refusal ∷ decisions) whose apart = plans_apart parcels decisions whose.1 (apart_rest p.user.now (parcel_users parcels) apart)
plans_apart (p ∷ parcels) (Planned name plan ∷ decisions) whose apart =
    apart_cons name.now (users_of (plans_made decisions))
    (planned_users (λ later. name.now ≢ later) parcels decisions whose.1 (subst (λ u. All (λ later. u ≢ later) (parcel_users parcels)) (sym whose.0) (apart_first p.user.now (parcel_users parcels) apart)))
    (plans_apart parcels decisions whose.1 (apart_rest p.user.now (parcel_users parcels) apart))
plans_apart [] (d ∷ decisions) whose apart = absurd whose
plans_apart (p ∷ parcels) [] whose apart = absurd whose

-- ---- what they are to the accounts

not_user : (name other : List ℕ) → name ≢ other → is_user name other ≡ false
not_user name other differ = go (is_user name other) refl
  where
    go : (b : Bool) → is_user name other ≡ b → b ≡ false
    go true is = absurd (differ (same_name name other is))
    go false is = refl

module _ (terms : Terms) where
  refused_row : (p : Parcel) (accounts : Accounts) (refusal : Refusal) → IsRefusedFor terms p (get accounts p.user.now) refusal → Delivery accounts p.user.now p.envelope p.message.now terms (IsRefused refusal) accounts
  refused_row p accounts refusal (inl limited) = subst (λ o. DeliversUnder o accounts p.user.now terms p.envelope p.message.now (IsRefused refusal) accounts) (sym limited) (record { refused = refl; stays = refl })
  refused_row p accounts refusal (inr (free, none, why)) =
      subst (λ o. DeliversUnder o accounts p.user.now terms p.envelope p.message.now (IsRefused refusal) accounts) (sym free)
      (subst (λ o. DeliversIn accounts p.user.now terms p.envelope p.message.now o (IsRefused refusal) accounts) (sym none) (record { refused = ap IsRefused why; stays = refl }))

  planned_row : (p : Parcel) (accounts : Accounts) (plan : Plan) → IsPlannedFor terms p (get accounts p.user.now) plan
      → Delivery accounts p.user.now p.envelope p.message.now terms (Delivered plan.report) (with_user accounts p.user.now (delivers plan))
  planned_row p accounts plan is =
      let later = with_user accounts p.user.now (delivers plan) in
      subst (λ o. DeliversUnder o accounts p.user.now terms p.envelope p.message.now (Delivered plan.report) later) (sym is.free)
      (subst (λ o. DeliversIn accounts p.user.now terms p.envelope p.message.now o (Delivered plan.report) later) (sym is.is_open)
      (record {
        report = plan.report;
        account = delivers plan is.found;
        delivers = is.delivers_it;
        reported = refl;
        changed = ap (in_place accounts p.user.now (delivers plan)) (open_there (get accounts p.user.now) is.found is.is_open);
      }))

  -- what was decided stands, after another user's account is changed
  still_decided : (name : List ℕ) (change : Account → Account) (accounts : Accounts) (parcels : List Parcel) (decisions : List Decision) → All (λ later. name ≢ later) (parcel_users parcels)
      → AreDecided terms parcels decisions accounts → AreDecided terms parcels decisions (with_user accounts name change)
  still_decided name change accounts [] [] apart are = tt
  still_decided name change accounts (p ∷ parcels) (d ∷ decisions) apart are =
      let differ : p.user.now ≢ name = λ same. All-head (λ later. name ≢ later) p.user.now (parcel_users parcels) apart (sym same) in (
        subst (λ o. IsDecided terms p o d) (sym (changed_other accounts p.user.now name change (not_user p.user.now name differ))) are.0,
        still_decided name change accounts parcels decisions (All-tail (λ later. name ≢ later) p.user.now (parcel_users parcels) apart) are.1,
      )
  still_decided name change accounts [] (d ∷ decisions) apart are = absurd are
  still_decided name change accounts (p ∷ parcels) [] apart are = absurd are

  -- one after the other
  deliver_in_turn : (parcels : List Parcel) (decisions : List Decision) (accounts : Accounts) → HasNoUserTwice (parcel_users parcels) → AllZip IsFor parcels decisions → AreDecided terms parcels decisions accounts
      → Deliveries terms parcels (map answer_to decisions) accounts (delivers_each (plans_made decisions) accounts)
  deliver_in_turn [] [] accounts apart whose are = refl
  deliver_in_turn (p ∷ parcels) (Refused refusal ∷ decisions) accounts apart whose are =
      (accounts, refused_row p accounts refusal are.0, deliver_in_turn parcels decisions accounts (apart_rest p.user.now (parcel_users parcels) apart) whose.1 are.1)
  deliver_in_turn (p ∷ parcels) (Planned name plan ∷ decisions) accounts apart whose are =
      let next = with_user accounts p.user.now (delivers plan) in
      let rest = deliver_in_turn parcels decisions next (apart_rest p.user.now (parcel_users parcels) apart) whose.1
      (still_decided p.user.now (delivers plan) accounts parcels decisions (apart_first p.user.now (parcel_users parcels) apart) are.1) in
      (next, planned_row p accounts plan are.0, subst (λ u. Deliveries terms parcels (map answer_to decisions) next (delivers_each (plans_made decisions) (with_user accounts u (delivers plan)))) (sym whose.0) rest)
  deliver_in_turn [] (d ∷ decisions) accounts apart whose are = absurd are
  deliver_in_turn (p ∷ parcels) [] accounts apart whose are = absurd are

  -- those for whom a plan was made have an account
  planned_have : (parcels : List Parcel) (decisions : List Decision) (accounts : Accounts) → AllZip IsFor parcels decisions → AreDecided terms parcels decisions accounts → HaveAccounts (users_of (plans_made decisions)) accounts
  planned_have [] [] accounts whose are = All-nil (λ name. HasUser name accounts)
  planned_have (p ∷ parcels) (Refused refusal ∷ decisions) accounts whose are = planned_have parcels decisions accounts whose.1 are.1
  planned_have (p ∷ parcels) (Planned name plan ∷ decisions) accounts whose are =
      All-cons (λ name. HasUser name accounts) name.now (users_of (plans_made decisions)) (subst (λ u. HasUser u accounts) (sym whose.0) (has_there accounts p.user.now (subst IsSome (sym are.0.is_open) refl)))
      (planned_have parcels decisions accounts whose.1 are.1)
  planned_have [] (d ∷ decisions) accounts whose are = absurd are
  planned_have (p ∷ parcels) [] accounts whose are = absurd are

-- a delivery was made, so a plan was
pub delivered_planned : (decisions : List Decision) → Any IsDelivered (map answer_to decisions) → plans_made decisions ≡ [] → ⊥
delivered_planned decisions (k, x, less, is, delivered) none = none_delivered decisions none k x less (subst IsDelivered (sym is) delivered)
  where
    none_delivered : (all : List Decision) → plans_made all ≡ [] → All (λ answer. IsDelivered answer → ⊥) (map answer_to all)
    none_delivered [] none = All-nil (λ answer. IsDelivered answer → ⊥)
    none_delivered (Refused refusal ∷ all) none = All-cons (λ answer. IsDelivered answer → ⊥) (IsRefused refusal) (map answer_to all) (λ is. is) (none_delivered all none)
    none_delivered (Planned name plan ∷ all) none = absurd (let no = none in cc)

-- ---- and then the write

module _ (terms : Terms) (parcels : List Parcel) where
  stays_refused : (q : Result (Vec Answer Global) Refusal) → OnOk q ⊥ → (accounts : Accounts) → TurnsDeliveries terms parcels (answers_in q) accounts accounts
  stays_refused (Ok v) none accounts = absurd none
  stays_refused (Err e) none accounts = refl

  -- nothing was decided, and nobody is answered
  pub together_unread : (a b : State) → Glances a b → (q : Result (Vec Answer Global) Refusal) → OnOk q ⊥ → ActsDeliveries terms parcels a b q
  together_unread a b k q none = acts_read a b (TurnsDeliveries terms parcels (answers_in q)) (MayTurnDeliveries terms parcels) q (λ clean was. none_ok q (IsTrue b.is_open) none) k (λ clean accounts shown. stays_refused q none accounts)

  module _ (n : ℕ) (front : IsLongestFront parcels n) (decided : Vec Decision Global) (whose : AllZip IsFor (take n parcels) decided.items) (a b : State) (early : DecidesEach terms (take n parcels) a b (Ok decided)) where
    abbrev plans : List UserPlan
    plans = plans_made decided.items

    abbrev told : List Answer
    told = map answer_to decided.items

    cut : length told ≡ n
    cut = length-map decided.items answer_to ∙ zip_length IsFor (take n parcels) decided.items whose ∙ length-take-le n parcels front.within

    looked_at : Glances a b
    looked_at = decided_glances (λ (all : Vec Decision Global) accounts. AreDecided terms (take n parcels) all.items accounts) (λ (all : Vec Decision Global). plans_made all.items) a b (Ok decided) early

    front_delivered : (accounts : Accounts) → AreDecided terms (take n parcels) decided.items accounts → DeliversFront terms parcels told accounts (delivers_each plans accounts)
    front_delivered accounts are = record {
      front = subst (IsLongestFront parcels) (sym cut) front;
      delivered = subst (λ k. Deliveries terms (take k parcels) told accounts (delivers_each plans accounts)) (sym cut) (deliver_in_turn terms (take n parcels) decided.items accounts front.once whose are);
    }

    -- nothing is to be written
    module _ (none : plans_made decided.items ≡ []) where
      pub together_idle : (v : Vec Answer Global) → v.items ≡ map answer_to decided.items → ActsDeliveries terms parcels a b (Ok v)
      together_idle v is =
          acts_read a b (TurnsDeliveries terms parcels (Ok v.items)) (MayTurnDeliveries terms parcels) (Ok v) early.live looked_at
          (λ clean accounts shown.
          subst (λ ps. DeliversFront terms parcels v.items accounts (delivers_each ps accounts)) none
          (subst (λ l. DeliversFront terms parcels l accounts (delivers_each plans accounts)) (sym is) (front_delivered accounts (early.found clean accounts shown))))

    pub together_lost : (q : Result (Vec Answer Global) Refusal) → OnOk q ⊥ → ActsDeliveries terms parcels a b q
    together_lost q none = together_unread a b looked_at q none

    -- some plans are written
    module _ (some : plans_made decided.items ≡ [] → ⊥) (c : State) (w : Result (Unit {0}) Refusal) (late : WritesDeliveries (plans_made decided.items) b c w) where
      kept : KeepsTables {E = Refusal} a b (Ok decided)
      kept = record { same = early.keeps.same; live = λ clean. early.live clean (early.sure clean some); shut = early.shut; crash = early.keeps.crash }

      fits : HasCleanDisk b → (accounts : Accounts) → Presents a.now accounts → HaveAccounts (users_of plans) accounts × DeliversFront terms parcels told accounts (delivers_each plans accounts)
      fits clean accounts p =
          let are = early.found clean accounts (λ o. p) in
          (planned_have terms (take n parcels) decided.items accounts whose are, front_delivered accounts are)

      pub together_made : (y : Unit {0}) → w ≡ Ok y → (v : Vec Answer Global) → v.items ≡ map answer_to decided.items → ActsDeliveries terms parcels a c (Ok v)
      together_made y was v is =
          acts_made a b c (Ok decided) decided refl kept (HaveAccounts (users_of plans)) (delivers_each plans) w late.made late.settled late.same late.crash
          (TurnsDeliveries terms parcels (Ok v.items)) (MayTurnDeliveries terms parcels) y v was
          (λ clean accounts p. let f = fits clean accounts p in (f.0, subst (λ l. DeliversFront terms parcels l accounts (delivers_each plans accounts)) (sym is) f.1, (told, f.1)))

      pub together_undone : (e : Refusal) → w ≡ Err e → IsTransient e → (q : Result (Vec Answer Global) Refusal) → q ≡ Err e → ActsDeliveries terms parcels a c q
      together_undone e was transient q is = subst (ActsDeliveries terms parcels a c) (sym is)
          (acts_undone a b c (Ok decided) decided refl kept (HaveAccounts (users_of plans)) (delivers_each plans) w late.made late.settled late.same late.crash
          (TurnsDeliveries terms parcels (Err e)) (MayTurnDeliveries terms parcels) e (Err e) was (λ answered. answered transient) (λ accounts. refl)
          (λ clean accounts p. let f = fits clean accounts p in (f.0, (told, f.1))))

    -- whether there is a plan or none
    module _ (c : State) (w : Result (Unit {0}) Refusal) (writes : plans_made decided.items ≢ [] → WritesDeliveries (plans_made decided.items) b c w) (idle : plans_made decided.items ≡ [] → c ≡ b) where
      by_plans : (P : Type 0) → (plans_made decided.items ≡ [] → P) → (plans_made decided.items ≢ [] → P) → P
      by_plans P none some = go plans refl
        where
          go : (l : List UserPlan) → plans_made decided.items ≡ l → P
          go [] is = none is
          go (plan ∷ more) is = some (λ no. let never = sym is ∙ no in cc)

      pub together_answered : (y : Unit {0}) → w ≡ Ok y → (v : Vec Answer Global) → v.items ≡ map answer_to decided.items → ActsDeliveries terms parcels a c (Ok v)
      together_answered y was v is = by_plans (ActsDeliveries terms parcels a c (Ok v)) (λ none. subst (λ s. ActsDeliveries terms parcels a s (Ok v)) (sym (idle none)) (together_idle none v is)) (λ some. together_made some c w (writes some) y was v is)

      pub together_refused : (e : Refusal) → w ≡ Err e → IsTransient e → (q : Result (Vec Answer Global) Refusal) → q ≡ Err e → ActsDeliveries terms parcels a c q
      together_refused e was transient q is =
          by_plans (ActsDeliveries terms parcels a c q) (λ none. subst (λ s. ActsDeliveries terms parcels a s q) (sym (idle none)) (together_lost q (subst (λ o. OnOk o ⊥) (sym is) tt))) (λ some. together_undone some c w (writes some) e was transient q is)

      pub together_settled : (y : Unit {0}) → w ≡ Ok y → (v : Vec Answer Global) → v.items ≡ map answer_to decided.items → HasCleanDisk c → Any IsDelivered v.items → IsSettled c
      together_settled y was v is clean made = on_ok w y was (IsSettled c) ((writes (delivered_planned decided.items (subst (Any IsDelivered) is made))).settled clean)

    pub together_front : (v : Vec Answer Global) → v.items ≡ map answer_to decided.items → IsLongestFront parcels (length v.items)
    together_front v is = subst (IsLongestFront parcels) (sym (ap (λ (l : List Answer). length l) is ∙ cut)) front

-- ---- as a run of the machine

pub deliveries_run : (terms : Terms) (parcels : List Parcel) (told : List Answer) (w : World) (later : Accounts) → Deliveries terms parcels told w.accounts later
    → Runs w (delivery_events terms parcels) told (record { accounts = later; sessions = w.sessions })
deliveries_run terms [] [] w later is = λ i. record { accounts = is i; sessions = w.sessions }
deliveries_run terms (p ∷ parcels) (answer ∷ more) w later is =
    let next : World = record { accounts = is.0; sessions = w.sessions } in
    (next, inl (is.0, is.1, refl), deliveries_run terms parcels more next later is.2)
deliveries_run terms [] (answer ∷ more) w later is = absurd is
deliveries_run terms (p ∷ parcels) [] w later is = absurd is

pub deliveries_spaced : (terms : Terms) (parcels : List Parcel) (a b : State) (v : Vec Answer Global) → ActsDeliveries terms parcels a b (Ok v) → AreSpacedDeliveries terms parcels v.items a b
deliveries_spaced terms parcels a b v acts clean w had =
    let turned = acts.carries clean w.accounts had in
    let events = delivery_events terms (take (length v.items) parcels) in
    let end : World = record { accounts = turned.0; sessions = w.sessions } in
    let run : Runs w events v.items end = deliveries_run terms (take (length v.items) parcels) v.items w turned.0 turned.1.delivered in
    (end, run, turned.2, spacing events v.items w end run)
