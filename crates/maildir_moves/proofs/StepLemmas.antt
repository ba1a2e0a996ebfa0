-- Steps of a batch, by what the store answered.
use Prim.Native.Nat.{zero}
use Rattle.std.proofs.Common.{◌≡◌, ℕ, suc, ◌+◌, ◌<◌, ◌≤◌, false, List, [], ◌∷◌, ◌++◌, length, take, drop, insert, remove, slice_get, Option, Some, None, Result, Ok, Err, IsOk, is_ok, if◌then◌else◌, add-one, refl, sym, ◌∙◌, ap, subst, inl, inr, arith}
use Rattle.std.specs.List.{list_any, slice_index_or}
use Rattle.std.proofs.lemmas.List.{append-nil}
use Rattle.std.proofs.lemmas.Option.{same_Some, slice_get_cases, slice_get_read}
use Rattle.sqlite.specs.State.{State}
use Rattle.store_accounts.specs.Promises.{KeepsTables}
use Rattle.store_accounts.specs.declared.refusal.Refusal.{Refusal}
use Rattle.store_accounts.specs.declared.refusal.Refusal.TheVariants.{NoUser, NoRow}
use Rattle.store_accounts.specs.declared.taking.NumberedMessage.{NumberedMessage}
use Rattle.store_engine.specs.Takings.{ActsMailTakings, TakesLongestRun, mails_in, max_together}
use Rattle.store_engine.specs.declared.answer.Answer.TheVariants.{MailTaken, Refused}
use Rattle.maildir_moves.specs.Moving.{IsStill, WasClean}
use Rattle.maildir_moves.specs.Relying.{SamePlaces}
use Rattle.maildir_moves.specs.Steps.{AreGone, BeginsWith, BatchGoesOn, HasLostAccount, HasLostFront, IsLoaded, IsNoneOrAll, IsSmall, MayBegin, PutsOrDrops, RemovesFront, Steps, StepsFrom, TakesFrom, TakesBatchOut, WereFolderFront, batch_with, cut_batch, due_at, is_batch_of, max_settled, without_front}
use Rattle.maildir_moves.specs.Turns.{IsRoundEnd, IsStayOf, PassesFolder}
use Rattle.maildir_moves.specs.declared.batch.BegunBatch.{BegunBatch}
use Rattle.maildir_moves.specs.declared.batch.MailBatch.{MailBatch}
use Rattle.maildir_moves.specs.declared.load.Load.{Load}
use Rattle.maildir_moves.specs.declared.moving.Moving.{Moving}
use Rattle.maildir_moves.specs.declared.moving.Moving.TheVariants as moving
use Rattle.maildir_moves.specs.declared.order.MoveOrder.{MoveOrder}
use Rattle.maildir_moves.specs.declared.rest.Rest.{Rest}
use Rattle.maildir_moves.specs.declared.rest.Rests.{Rests}
use Rattle.maildir_moves.specs.declared.route.Route.{Route}
use Rattle.maildir_moves.proofs.CarryLemmas.{places_then, same_load}
use Rattle.maildir_moves.proofs.EnduringLemmas.{held_behind}

-- ---- lists

take_as_many : {X : Type 0} (n : ℕ) (xs : List X) → take (length (take n xs)) xs ≡ take n xs
take_as_many zero xs = refl
take_as_many (suc n) [] = refl
take_as_many (suc n) (x ∷ xs) = ap (λ l. x ∷ l) (take_as_many n xs)

drop_as_many : {X : Type 0} (n : ℕ) (xs : List X) → drop (length (take n xs)) xs ≡ drop n xs
drop_as_many zero xs = refl
drop_as_many (suc n) [] = refl
drop_as_many (suc n) (x ∷ xs) = drop_as_many n xs

one_there : {X : Type 0} (xs : List X) (k : ℕ) → k < length xs → (x : X) × (slice_get xs k ≡ Some x)
one_there xs k within = elim ((slice_get_cases xs k).1) [ inl here ↦ (here.0, here.2) | inr past ↦ absurd (omega (arith, within, past.0)) ]

-- an item at its place again, after it was removed there
inserted : {X : Type 0} (xs : List X) (k : ℕ) (y : X) → k < length xs → insert (remove xs k) k y ≡ take k xs ++ y ∷ [] ++ drop (k + 1) xs
inserted [] k y within = absurd (omega (arith, within))
inserted (x ∷ xs) zero y within = refl
inserted (x ∷ xs) (suc k) y within =
    ap (λ l. x ∷ l) (inserted xs k y (omega (arith, within))) ∙ ap (λ n. (x ∷ take k xs) ++ y ∷ [] ++ drop n (x ∷ xs)) (let e : suc (k + 1) ≡ suc k + 1 = omega arith in e)

removed : {X : Type 0} (xs : List X) (k : ℕ) → remove xs k ≡ take k xs ++ [] ++ drop (k + 1) xs
removed xs k = ap (λ n. take k xs ++ drop n xs) (sym (add-one k)) ∙ ap (λ l. l ++ drop (k + 1) xs) (sym (append-nil (take k xs)))

put_back : {X Y E : Type 0} (r : Result Y E) (xs ys zs : List X) → IsOk r → zs ≡ (if is_ok r then xs else ys) → zs ≡ xs
put_back (Ok x) xs ys zs ok is = is
put_back (Err e) xs ys zs ok is = absurd (let no = ok in cc)

last_there : {X : Type 0} (xs : List X) (x : X) → slice_get (xs ++ x ∷ []) (length xs) ≡ Some x
last_there [] x = refl
last_there (y ∷ ys) x = last_there ys x

-- ---- those that wait

some_with : (batch : MailBatch) (mails : List NumberedMessage) → (mails ≡ [] → ⊥) → batch_with batch mails ≡ record batch { mails = mails } ∷ []
some_with batch [] some = absurd (some refl)
some_with batch (mail ∷ mails) some = refl

module _ (k n : ℕ) (before after : Load) (batch : MailBatch) (within : k < length before.settled.items) (at : batch ≡ slice_index_or before.settled.items k batch) (begun_is : after.begun ≡ before.begun) (places : SamePlaces before after) where
  at_place : slice_get before.settled.items k ≡ Some batch
  at_place = slice_get_read before.settled.items (length before.settled.items) k batch refl within at

  -- the rest of it waits at its place
  pub rest_waits : {Y E : Type 0} (r : Result Y E) (left : MailBatch) (gone : List MailBatch) → left ≡ record batch { mails = drop n batch.mails } → (left.mails ≡ [] → ⊥) → gone ≡ remove before.settled.items k → IsOk r
      → after.settled.items ≡ (if is_ok r then insert gone k left else gone) → RemovesFront k n before after
  rest_waits r left gone is some gone_is ok items = record {
    batch = batch;
    there = at_place;
    settled_is = put_back r (insert gone k left) gone after.settled.items ok items ∙ ap (λ g. insert g k left) gone_is ∙ inserted before.settled.items k left within
        ∙ ap (λ l. take k before.settled.items ++ l ++ drop (k + 1) before.settled.items) (ap (λ (b : MailBatch). b ∷ []) is ∙ sym (some_with batch (drop n batch.mails) (λ none. some (ap (λ (b : MailBatch). b.mails) is ∙ none))));
    begun_is = begun_is;
    places = places;
  }

  -- nothing is left of it
  pub none_waits : drop n batch.mails ≡ [] → after.settled.items ≡ remove before.settled.items k → RemovesFront k n before after
  none_waits none items = record {
    batch = batch;
    there = at_place;
    settled_is = items ∙ removed before.settled.items k ∙ ap (λ l. take k before.settled.items ++ batch_with batch l ++ drop (k + 1) before.settled.items) (sym none);
    begun_is = begun_is;
    places = places;
  }

-- ---- a batch that is tried to be taken out

module _ (k : ℕ) (before after : Load) (batch : MailBatch) (old new : State) (at : slice_get before.settled.items k ≡ Some batch) (idle : before.begun ≡ None) where
  -- some of its messages don't wait any more
  module _ (n : ℕ) (removes : RemovesFront k n before after) where
    its_rest : after.settled.items ≡ without_front k n batch before.settled.items
    its_rest = removes.settled_is ∙ ap (λ b. without_front k n b before.settled.items) (same_Some removes.batch batch (sym removes.there ∙ at))

    taken : (m : Moving) → TakesFrom k batch before.settled.items m after.settled.items old new → TakesBatchOut k before.settled.items before m after old new
    taken m takes = record { batch = batch; there = at; takes = takes; idle = removes.begun_is ∙ idle; places = removes.places }

    -- they left
    pub takes_left : (m : Moving) → m ≡ moving.Kept (record batch { mails = take n batch.mails }) MailTaken → TakesLongestRun batch.user batch.folder batch.mails old new (Ok n) → TakesBatchOut k before.settled.items before m after old new
    takes_left m is run =
        let left : MailBatch = record batch { mails = take n batch.mails } in
        taken m (subst (λ x. TakesFrom k batch before.settled.items x after.settled.items old new) (sym is) (
          ap (λ (l : List NumberedMessage). let b : MailBatch = record batch { mails = l } in b) (sym (take_as_many n batch.mails)),
          its_rest ∙ sym (ap (λ (l : List NumberedMessage). take k before.settled.items ++ batch_with batch l ++ drop (k + 1) before.settled.items) (drop_as_many n batch.mails)),
          λ clean tables held account shown.
              let there = mails_in batch.folder shown.copies.entries in
              let same = (run clean tables held account shown).same in
              ap (λ j. take j there) (sym (ap length same)) ∙ take_as_many n there ∙ same,
        ))

    -- they are gone
    pub takes_gone : (m : Moving) → m ≡ moving.Passed → AreGone n batch old new → TakesBatchOut k before.settled.items before m after old new
    takes_gone m is gone = taken m (subst (λ x. TakesFrom k batch before.settled.items x after.settled.items old new) (sym is) (n, gone, its_rest))

  -- nothing changed
  still_out : (m : Moving) → after ≡ before → TakesFrom k batch before.settled.items m after.settled.items old new → TakesBatchOut k before.settled.items before m after old new
  still_out m same takes = record { batch = batch; there = at; takes = takes; idle = ap (λ (l : Load). l.begun) same ∙ idle; places = same_load before after same }

  pub takes_none : (refusal : Refusal) (m : Moving) → m ≡ moving.Kept batch (Refused refusal) → after ≡ before → TakesBatchOut k before.settled.items before m after old new
  takes_none refusal m is same =
      still_out m same (subst (λ x. TakesFrom k batch before.settled.items x after.settled.items old new) (sym is) (refl, ap (λ (l : Load). l.settled.items) same))

-- there was no memory for a try
pub takes_not : (k : ℕ) (before : Load) (old new : State) (refusal : Refusal) → k < length before.settled.items → before.begun ≡ None → TakesBatchOut k before.settled.items before (moving.Failed refusal) before old new
takes_not k before old new refusal within idle =
    let one = one_there before.settled.items k within in record { batch = one.0; there = one.1; takes = refl; idle = idle; places = same_load before before refl }

-- why they are gone
pub lost_front : (batch : MailBatch) (old new : State) → TakesLongestRun batch.user batch.folder batch.mails old new (Err NoRow) → HasLostFront batch old new
lost_front batch old new run = λ clean tables held. run clean tables held refl

pub lost_account : (batch : MailBatch) (old new : State) → ActsMailTakings batch.user batch.folder batch.mails old new (Err NoUser) → HasLostAccount batch old new
lost_account batch old new acts = λ clean accounts shown. (acts.carries clean accounts shown).1.absent refl

-- ---- the batch on its way

pub puts_go_on : (begun : BegunBatch) (before : Load) (m : Moving) (after : Load) (old new : State) → PutsOrDrops begun before m after → BatchGoesOn begun before m after old new
puts_go_on begun before moving.Went after old new it = it
puts_go_on begun before (moving.Stays stay) after old new it = it
puts_go_on begun before (moving.Kept batch answer) after old new it = absurd it
puts_go_on begun before moving.Passed after old new it = absurd it
puts_go_on begun before moving.Nothing after old new it = absurd it
puts_go_on begun before (moving.Failed refusal) after old new it = absurd it

-- its folder's messages stay, and it is dropped
pub drops : (begun : BegunBatch) (before : Load) (m : Moving) (after : Load) → IsNoneOrAll begun → IsStayOf begun.batch.user begun.batch.folder m → IsLoaded None before.settled.items before after → PutsOrDrops begun before m after
drops begun before (moving.Stays stay) after which stays is = (stays.0, stays.1, which, is)
drops begun before moving.Went after which stays is = absurd stays
drops begun before (moving.Kept batch answer) after which stays is = absurd stays
drops begun before moving.Passed after which stays is = absurd stays
drops begun before moving.Nothing after which stays is = absurd stays
drops begun before (moving.Failed refusal) after which stays is = absurd stays

-- it is settled, and tried to be taken out
pub settled_out : (begun : BegunBatch) (before mid late : Load) (m : Moving) (after : Load) (old new : State) (k : ℕ) → k ≡ length before.settled.items → IsLoaded before.begun before.settled.items before mid
    → IsLoaded mid.begun (mid.settled.items ++ begun.batch ∷ []) mid late → TakesBatchOut k late.settled.items late m after old new
    → TakesBatchOut (length before.settled.items) (before.settled.items ++ begun.batch ∷ []) before m after old new
settled_out begun before mid late m after old new k at made held it =
    let waiting : late.settled.items ≡ before.settled.items ++ begun.batch ∷ [] = held.settled_is ∙ ap (λ w. w ++ begun.batch ∷ []) made.settled_is in
    subst (λ j. TakesBatchOut j (before.settled.items ++ begun.batch ∷ []) before m after old new) at (subst (λ w. TakesBatchOut k w before m after old new) waiting (record {
      batch = it.batch;
      there = it.there;
      takes = it.takes;
      idle = it.idle;
      places = places_then before late after (places_then before mid late made.places held.places) it.places;
    }))

pub taken_goes_on : (begun : BegunBatch) (before : Load) (m : Moving) (after : Load) (old new : State) → length begun.batch.mails ≤ begun.put
    → TakesBatchOut (length before.settled.items) (before.settled.items ++ begun.batch ∷ []) before m after old new → BatchGoesOn begun before m after old new
taken_goes_on begun before (moving.Kept batch answer) after old new all_put it = (all_put, it)
taken_goes_on begun before moving.Passed after old new all_put it = (all_put, it)
taken_goes_on begun before (moving.Failed refusal) after old new all_put it = (all_put, it)
taken_goes_on begun before (moving.Stays stay) after old new all_put it = absurd it.takes
taken_goes_on begun before moving.Went after old new all_put it = absurd it.takes
taken_goes_on begun before moving.Nothing after old new all_put it = absurd it.takes

-- nothing of it changed but the room in it, and nothing was on its way
pub loaded_none : (before mid after : Load) → before.begun ≡ None → IsLoaded before.begun before.settled.items before mid → after ≡ mid → IsLoaded None before.settled.items before after
loaded_none before mid after none made same =
    let is : IsLoaded None before.settled.items before mid = record { begun_is = made.begun_is ∙ none; settled_is = made.settled_is; places = made.places } in subst (IsLoaded None before.settled.items before) (sym same) is

-- nothing of it changed, and nothing was on its way
pub loaded_same : (before after : Load) → before.begun ≡ None → after ≡ before → IsLoaded None before.settled.items before after
loaded_same before after none same = record { begun_is = ap (λ (l : Load). l.begun) same ∙ none; settled_is = ap (λ (l : Load). l.settled.items) same; places = same_load before after same }

pub stay_of : (a b : MailBatch) (m : Moving) → a ≡ b → IsStayOf a.user a.folder m → IsStayOf b.user b.folder m
stay_of a b m same stays = subst (λ (x : MailBatch). IsStayOf x.user x.folder m) same stays

-- ---- a batch that begins

module _ (before after : Load) (old new : State) where
  pub stay_begins : (user folder : List ℕ) (m : Moving) → IsStayOf user folder m → after ≡ before → MayBegin before m after old new
  stay_begins user folder (moving.Stays stay) stays same = same
  stay_begins user folder (moving.Kept batch answer) stays same = absurd stays
  stay_begins user folder moving.Went stays same = absurd stays
  stay_begins user folder moving.Passed stays same = absurd stays
  stay_begins user folder moving.Nothing stays same = absurd stays
  stay_begins user folder (moving.Failed refusal) stays same = absurd stays

  pub pass_begins : (rests : List Rest) (one two : MoveOrder) (user folder : List ℕ) (m : Moving) → PassesFolder rests one user folder m two → after ≡ before → MayBegin before m after old new
  pass_begins rests one two user folder moving.Passed passes same = same
  pass_begins rests one two user folder (moving.Failed refusal) passes same = same
  pass_begins rests one two user folder (moving.Stays stay) passes same = absurd passes
  pass_begins rests one two user folder (moving.Kept batch answer) passes same = absurd passes
  pass_begins rests one two user folder moving.Went passes same = absurd passes
  pass_begins rests one two user folder moving.Nothing passes same = absurd passes

  pub round_begins : (one two : MoveOrder) (m : Moving) → IsRoundEnd one m two → after ≡ before → MayBegin before m after old new
  round_begins one two moving.Nothing ends same = same
  round_begins one two moving.Passed ends same = same
  round_begins one two (moving.Failed refusal) ends same = absurd ends
  round_begins one two (moving.Stays stay) ends same = absurd ends
  round_begins one two (moving.Kept batch answer) ends same = absurd ends
  round_begins one two moving.Went ends same = absurd ends

  pub batch_begins : (user folder : List ℕ) (mails : List NumberedMessage) (m : Moving) → BeginsWith user folder mails before m after → IsStill m → length mails ≤ max_together → IsSmall mails → WereFolderFront user folder mails old new
      → list_any (is_batch_of user folder) before.settled.items ≡ false → length before.settled.items < max_settled → MayBegin before m after old new
  batch_begins user folder mails moving.Went begins still few small front apart room = record {
    begun = record { batch = record { user = user; folder = folder; mails = mails }; put = 0 };
    after_is = begins.1;
    none_put = refl;
    some = begins.0;
    few = few;
    small = small;
    front = front;
    apart = apart;
    room = room;
  }
  batch_begins user folder mails (moving.Stays stay) begins still few small front apart room = begins
  batch_begins user folder mails moving.Passed begins still few small front apart room = begins
  batch_begins user folder mails moving.Nothing begins still few small front apart room = begins
  batch_begins user folder mails (moving.Failed refusal) begins still few small front apart room = begins
  batch_begins user folder mails (moving.Kept batch answer) begins still few small front apart room = absurd still

-- what is begun over a store is so over one that a read made of it
pub begins_behind : {X E : Type 0} (before : Load) (m : Moving) (after : Load) (a b c : State) (r : Result X E) (x : X) → r ≡ Ok x → KeepsTables a b r → WasClean b c → MayBegin before m after b c → MayBegin before m after a c
begins_behind before moving.Went after a b c r x was keeps clean it = record {
  begun = it.begun;
  after_is = it.after_is;
  none_put = it.none_put;
  some = it.some;
  few = it.few;
  small = it.small;
  front = λ sure tables held. it.front sure tables (held_behind a b r x was keeps (clean sure) tables held);
  apart = it.apart;
  room = it.room;
}
begins_behind before (moving.Stays stay) after a b c r x was keeps clean it = it
begins_behind before moving.Passed after a b c r x was keeps clean it = it
begins_behind before moving.Nothing after a b c r x was keeps clean it = it
begins_behind before (moving.Failed refusal) after a b c r x was keeps clean it = it
begins_behind before (moving.Kept batch answer) after a b c r x was keeps clean it = it

-- ---- a call, by what is on its way

-- whether it was noted already that none is
module _ (begun : BegunBatch) (a : Load) (o : Option BegunBatch) (after : Load) (old new : State) where
  loaded_from : (b : Option BegunBatch) (waiting : List MailBatch) → IsLoaded b waiting (record a { begun = o }) after → IsLoaded b waiting a after
  loaded_from b waiting it = record { begun_is = it.begun_is; settled_is = it.settled_is; places = record { homes = it.places.homes; separator = it.places.separator } }

  out_from : (k : ℕ) (waiting : List MailBatch) (m : Moving) → TakesBatchOut k waiting (record a { begun = o }) m after old new → TakesBatchOut k waiting a m after old new
  out_from k waiting m it = record { batch = it.batch; there = it.there; takes = it.takes; idle = it.idle; places = record { homes = it.places.homes; separator = it.places.separator } }

  goes_from : (m : Moving) → BatchGoesOn begun (record a { begun = o }) m after old new → BatchGoesOn begun a m after old new
  goes_from moving.Went (inl it) = inl (it.0, loaded_from (Some (record begun { put = begun.put + 1 })) a.settled.items it.1)
  goes_from moving.Went (inr it) = inr (it.0, loaded_from (Some (cut_batch begun)) a.settled.items it.1)
  goes_from (moving.Stays stay) it = (it.0, it.1, it.2, loaded_from None a.settled.items it.3)
  goes_from (moving.Kept batch answer) it = (it.0, out_from (length a.settled.items) (a.settled.items ++ begun.batch ∷ []) (moving.Kept batch answer) it.1)
  goes_from moving.Passed it = (it.0, out_from (length a.settled.items) (a.settled.items ++ begun.batch ∷ []) moving.Passed it.1)
  goes_from (moving.Failed refusal) it = (it.0, out_from (length a.settled.items) (a.settled.items ++ begun.batch ∷ []) (moving.Failed refusal) it.1)
  goes_from moving.Nothing it = absurd it

pub goes_on_from : (begun : BegunBatch) (a b : Load) (o : Option BegunBatch) (m : Moving) (after : Load) (old new : State) → b ≡ record a { begun = o } → BatchGoesOn begun b m after old new → BatchGoesOn begun a m after old new
goes_on_from begun a b o m after old new is it = goes_from begun a o after old new m (subst (λ (l : Load). BatchGoesOn begun l m after old new) is it)

module _ (now : ℕ) (before : Route) (m : Moving) (after : Route) (old new : State) where
  abbrev Due : Option ℕ → Type 0
  Due o = due_at now before.rests.entries.items before.load.settled.items ≡ o

  pub step_on : (begun : BegunBatch) → before.load.begun ≡ Some begun → BatchGoesOn begun before.load m after.load old new → Steps now before m after old new
  step_on begun is goes = subst (λ o. StepsFrom o (due_at now before.rests.entries.items before.load.settled.items) before.load m after.load old new) (sym is) goes

  pub step_out : (k : ℕ) → before.load.begun ≡ None → Due (Some k) → TakesBatchOut k before.load.settled.items before.load m after.load old new → Steps now before m after old new
  step_out k none is takes = subst (λ o. StepsFrom o (due_at now before.rests.entries.items before.load.settled.items) before.load m after.load old new) (sym none)
      (subst (λ d. StepsFrom None d before.load m after.load old new) (sym is) takes)

  pub step_begin : before.load.begun ≡ None → Due None → MayBegin before.load m after.load old new → Steps now before m after old new
  step_begin none is begins = subst (λ o. StepsFrom o (due_at now before.rests.entries.items before.load.settled.items) before.load m after.load old new) (sym none)
      (subst (λ d. StepsFrom None d before.load m after.load old new) (sym is) begins)

pub steps_from : (now : ℕ) (a b : Route) (m : Moving) (after : Route) (old new : State) → b.load ≡ a.load → b.rests ≡ a.rests → Steps now b m after old new → Steps now a m after old new
steps_from now a b m after old new load_is rests_is it =
    subst (λ (r : Rests). StepsFrom a.load.begun (due_at now r.entries.items a.load.settled.items) a.load m after.load old new) rests_is
    (subst (λ (l : Load). StepsFrom l.begun (due_at now b.rests.entries.items l.settled.items) l m after.load old new) load_is it)
