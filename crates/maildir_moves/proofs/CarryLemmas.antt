-- What the sink has, and what can be relied on, after each step.
use Rattle.std.proofs.Common.{◌≡◌, ℕ, zero, suc, ◌+◌, ◌≤◌, Bool, List, [], ◌∷◌, ◌++◌, length, map, take, drop, slice_get, Option, Some, None, option_map, IsTrue, refl, sym, ◌∙◌, ap, subst}
use Rattle.std.specs.List.{Contains}
use Rattle.std.proofs.lemmas.List.{append-nil, take_all}
use Rattle.std.proofs.lemmas.List.Elements.{All-append, All-cons, All-drop, All-map, All-nil, All-push, All-take, All-weaker}
use Rattle.std.proofs.lemmas.Option.{get_or_from_slice_get, slice_get_within}
use Rattle.sqlite.specs.State.{State}
use Rattle.store_accounts.specs.declared.taking.NumberedMessage.{NumberedMessage}
use Rattle.store_engine.specs.declared.answer.Answer.TheVariants.{MailTaken, Refused}
use Rattle.maildir_files.specs.Kept.{StaysPlaced, StaysTrue, kept_mail}
use Rattle.maildir_files.specs.declared.kept.KeptMail.{KeptMail}
use Rattle.maildir_files.specs.declared.separator.Separator.{Separator}
use Rattle.maildir_moves.specs.Moving.{IsStill, LeftAmong, kept_mails, mail_told}
use Rattle.maildir_homes.specs.Homes.{home}
use Rattle.maildir_homes.specs.declared.homes.MailHomes.{MailHomes}
use Rattle.maildir_moves.specs.Place.{folder_path}
use Rattle.maildir_moves.specs.Relying.{AreAllAt, AreSettledKept, AreThere, Grows, HasPutFront, IsBegunSo, IsOpenFor, IsUnderway, LeftThere, ReliesOn, SamePlaces, SinkFollows, place_for, settled_by}
use Rattle.maildir_moves.specs.Steps.{IsBegunOf, IsLoaded, MayBegin, TakesFrom, TakesBatchOut, batch_behind, batch_with, cut_batch, without_front}
use Rattle.maildir_moves.specs.Turns.{IsOf, IsStayOf}
use Rattle.maildir_moves.specs.declared.batch.BegunBatch.{BegunBatch}
use Rattle.maildir_moves.specs.declared.batch.MailBatch.{MailBatch}
use Rattle.maildir_moves.specs.declared.load.Load.{Load}
use Rattle.maildir_moves.specs.declared.moving.Moving.{Moving}
use Rattle.maildir_moves.specs.declared.moving.Moving.TheVariants as moving

-- ---- places

pub same_load : (before after : Load) → after ≡ before → SamePlaces before after
same_load before after is = record { homes = ap (λ (l : Load). l.homes) is; separator = ap (λ (l : Load). l.separator) is }

pub places_then : (a b c : Load) → SamePlaces a b → SamePlaces b c → SamePlaces a c
places_then a b c one two = record { homes = two.homes ∙ one.homes; separator = two.separator ∙ one.separator }

place_same : (a b : Load) → SamePlaces a b → (user folder : List ℕ) → place_for b user folder ≡ place_for a user folder
place_same a b places user folder =
    ap (λ (d : MailHomes). option_map (λ h. folder_path b.separator h folder) (home d user)) places.homes ∙ ap (λ (s : Separator). option_map (λ h. folder_path s h folder) (home a.homes user)) places.separator

there_at : (is : List ℕ → KeptMail → Type 0) (a b : Load) → SamePlaces a b → (user folder : List ℕ) (mails : List NumberedMessage) → AreThere is a user folder mails → AreThere is b user folder mails
there_at is a b places user folder mails it = (it.0, place_same a b places user folder ∙ it.1, it.2)

there_weaker : (is so : List ℕ → KeptMail → Type 0) → ((path : List ℕ) (mail : KeptMail) → is path mail → so path mail)
    → (load : Load) (user folder : List ℕ) (mails : List NumberedMessage) → AreThere is load user folder mails → AreThere so load user folder mails
there_weaker is so more load user folder mails it = (it.0, it.1, All-weaker (λ m. is it.0 (mail_told user folder m)) (λ m. so it.0 (mail_told user folder m)) (λ m. more it.0 (mail_told user folder m)) mails it.2)

there_front : (is : List ℕ → KeptMail → Type 0) (load : Load) (user folder : List ℕ) (n : ℕ) (mails : List NumberedMessage) → AreThere is load user folder mails → AreThere is load user folder (take n mails)
there_front is load user folder n mails it = (it.0, it.1, All-take (λ m. is it.0 (mail_told user folder m)) n mails it.2)

there_behind : (is : List ℕ → KeptMail → Type 0) (load : Load) (user folder : List ℕ) (n : ℕ) (mails : List NumberedMessage) → AreThere is load user folder mails → AreThere is load user folder (drop n mails)
there_behind is load user folder n mails it = (it.0, it.1, All-drop (λ m. is it.0 (mail_told user folder m)) n mails it.2)

-- what is so of a message is so of what a sink was told
pub told_so : (is : KeptMail → Type 0) (user folder u f : List ℕ) (m : NumberedMessage) (t l : List ℕ) → u ≡ user → f ≡ folder → t ≡ m.message → l ≡ m.flags → is (kept_mail u f m.number t l) → is (mail_told user folder m)
told_so is user folder u f m t l same_user same_folder same_text same_flags it =
    subst (λ x. is (kept_mail x folder m.number m.message m.flags)) same_user
    (subst (λ x. is (kept_mail u x m.number m.message m.flags)) same_folder (subst (λ x. is (kept_mail u f m.number x m.flags)) same_text (subst (λ x. is (kept_mail u f m.number t x)) same_flags it)))

-- ---- those that wait

abbrev KeptBatch : (List ℕ → KeptMail → Type 0) → Load → MailBatch → Type 0
KeptBatch is load batch = AreThere is load batch.user batch.folder batch.mails

settled_so : (is so : List ℕ → KeptMail → Type 0) → ((path : List ℕ) (mail : KeptMail) → is path mail → so path mail)
    → (a b : Load) → SamePlaces a b → (batches : List MailBatch) → AreSettledKept is a batches → AreSettledKept so b batches
settled_so is so more a b places batches all = All-weaker (KeptBatch is a) (KeptBatch so b) (λ x it. there_at so a b places x.user x.folder x.mails (there_weaker is so more a x.user x.folder x.mails it)) batches all

same_so : (is : List ℕ → KeptMail → Type 0) (path : List ℕ) (mail : KeptMail) → is path mail → is path mail
same_so is path mail it = it

module _ (is : List ℕ → KeptMail → Type 0) (load : Load) where
  waiting_there : (k : ℕ) (batch : MailBatch) (waiting : List MailBatch) → slice_get waiting k ≡ Some batch → AreSettledKept is load waiting → KeptBatch is load batch
  waiting_there k batch waiting at all = subst (KeptBatch is load) (get_or_from_slice_get waiting k batch batch at) (all k batch (slice_get_within waiting k batch at))

  with_kept : (batch : MailBatch) (mails : List NumberedMessage) → AreThere is load batch.user batch.folder mails → AreSettledKept is load (batch_with batch mails)
  with_kept batch [] it = All-nil (KeptBatch is load)
  with_kept batch (mail ∷ mails) it = All-cons (KeptBatch is load) (record batch { mails = mail ∷ mails }) [] it (All-nil (KeptBatch is load))

  without_kept : (k n : ℕ) (batch : MailBatch) (waiting : List MailBatch) → slice_get waiting k ≡ Some batch → AreSettledKept is load waiting → AreSettledKept is load (without_front k n batch waiting)
  without_kept k n batch waiting at all =
      let P = KeptBatch is load in
      let own = waiting_there k batch waiting at all in
      All-append P (take k waiting ++ batch_behind n batch) (drop (k + 1) waiting)
      (All-append P (take k waiting) (batch_behind n batch) (All-take P k waiting all) (with_kept batch (drop n batch.mails) (there_behind is load batch.user batch.folder n batch.mails own)))
      (All-drop P (k + 1) waiting all)

  -- after a try to take one out
  tried_kept : (k : ℕ) (batch : MailBatch) (waiting : List MailBatch) (m : Moving) (later : List MailBatch) (old new : State) → TakesFrom k batch waiting m later old new
      → slice_get waiting k ≡ Some batch → AreSettledKept is load waiting → AreSettledKept is load later × LeftThere is load m
  tried_kept k batch waiting (moving.Kept left MailTaken) later old new it at all =
      let own = waiting_there k batch waiting at all in (
        subst (AreSettledKept is load) (sym it.1) (without_kept k (length left.mails) batch waiting at all),
        subst (KeptBatch is load) (sym it.0) (there_front is load batch.user batch.folder (length left.mails) batch.mails own),
      )
  tried_kept k batch waiting (moving.Kept whole (Refused refusal)) later old new it at all =
      (subst (AreSettledKept is load) (sym it.1) all, subst (KeptBatch is load) (sym it.0) (waiting_there k batch waiting at all))
  tried_kept k batch waiting (moving.Kept left _) later old new it at all = absurd it
  tried_kept k batch waiting moving.Passed later old new it at all = (subst (AreSettledKept is load) (sym it.2) (without_kept k it.0 batch waiting at all), tt)
  tried_kept k batch waiting (moving.Failed refusal) later old new it at all = (subst (AreSettledKept is load) (sym it) all, tt)
  tried_kept k batch waiting (moving.Stays stay) later old new it at all = absurd it
  tried_kept k batch waiting moving.Nothing later old new it at all = absurd it
  tried_kept k batch waiting moving.Went later old new it at all = absurd it

-- ---- what left

still_left : (m : Moving) → IsStill m → (is : List ℕ → KeptMail → Type 0) (load : Load) → LeftThere is load m
still_left moving.Nothing still is load = tt
still_left moving.Passed still is load = tt
still_left (moving.Failed refusal) still is load = tt
still_left (moving.Stays stay) still is load = tt
still_left moving.Went still is load = tt
still_left (moving.Kept batch answer) still is load = absurd still

left_at : (m : Moving) (is : List ℕ → KeptMail → Type 0) (a b : Load) → SamePlaces a b → LeftThere is a m → LeftThere is b m
left_at (moving.Kept batch answer) is a b places it = there_at is a b places batch.user batch.folder batch.mails it
left_at moving.Nothing is a b places it = tt
left_at moving.Passed is a b places it = tt
left_at (moving.Failed refusal) is a b places it = tt
left_at (moving.Stays stay) is a b places it = tt
left_at moving.Went is a b places it = tt

pub left_among : (is : List ℕ → KeptMail → Type 0) (kept : List KeptMail) → ((path : List ℕ) (mail : KeptMail) → is path mail → Contains kept mail) → (load : Load) (m : Moving) → LeftThere is load m → LeftAmong m kept
left_among is kept told load (moving.Kept batch answer) it =
    All-map (Contains kept) (mail_told batch.user batch.folder) batch.mails (All-weaker (λ m. is it.0 (mail_told batch.user batch.folder m)) (λ m. Contains kept (mail_told batch.user batch.folder m)) (λ m. told it.0 (mail_told batch.user batch.folder m)) batch.mails it.2)
left_among is kept told load moving.Nothing it = tt
left_among is kept told load moving.Passed it = tt
left_among is kept told load (moving.Failed refusal) it = tt
left_among is kept told load (moving.Stays stay) it = tt
left_among is kept told load moving.Went it = tt

-- ---- calls

-- what was begun is begun again
pub with_begun : (load : Load) (begun : BegunBatch) → load.begun ≡ Some begun → record load { begun = Some begun } ≡ load
with_begun load begun is = sym (ap (λ (o : Option BegunBatch). let l : Load = record load { begun = o } in l) is)

pub same_begun : (load : Load) (o : Option BegunBatch) → o ≡ load.begun → record load { begun = o } ≡ load
same_begun load o is = ap (λ (x : Option BegunBatch). let l : Load = record load { begun = x } in l) is

grows_not : (had has : List KeptMail) → has ≡ had → Grows had has
grows_not had has same = ([], same ∙ sym (append-nil had))

-- the messages of a batch all of which is put
all_told : (one : BegunBatch) → length one.batch.mails ≤ one.put → map (mail_told one.batch.user one.batch.folder) (take one.put one.batch.mails) ≡ kept_mails one.batch
all_told one all_put = ap (map (mail_told one.batch.user one.batch.folder)) (take_all one.put one.batch.mails all_put)

-- what a call settles that tries to take a batch out
taken_settles : (begun : BegunBatch) (k : ℕ) (batch : MailBatch) (waiting : List MailBatch) (m : Moving) (later : List MailBatch) (old new : State) → TakesFrom k batch waiting m later old new → settled_by (Some begun) m ≡ kept_mails begun.batch
taken_settles begun k batch waiting (moving.Kept left answer) later old new it = refl
taken_settles begun k batch waiting moving.Passed later old new it = refl
taken_settles begun k batch waiting (moving.Failed refusal) later old new it = refl
taken_settles begun k batch waiting (moving.Stays stay) later old new it = absurd it
taken_settles begun k batch waiting moving.Nothing later old new it = absurd it
taken_settles begun k batch waiting moving.Went later old new it = absurd it

-- nor does one by which a folder's mail stays
stay_settles : (begun : BegunBatch) (user folder : List ℕ) (m : Moving) → IsStayOf user folder m → settled_by (Some begun) m ≡ []
stay_settles begun user folder (moving.Stays stay) it = refl
stay_settles begun user folder moving.Passed it = absurd it
stay_settles begun user folder moving.Nothing it = absurd it
stay_settles begun user folder moving.Went it = absurd it
stay_settles begun user folder (moving.Failed refusal) it = absurd it
stay_settles begun user folder (moving.Kept batch answer) it = absurd it

-- the first ones of the first ones
take_twice : (n : ℕ) (mails : List NumberedMessage) → take n (take n mails) ≡ take n mails
take_twice zero mails = refl
take_twice (suc n) [] = refl
take_twice (suc n) (mail ∷ mails) = ap (λ l. mail ∷ l) (take_twice n mails)

module _ {S : Type 0} (tells : Bool) (kept unsettled : S → List KeptMail) (at : S → List ℕ → Type 0) (has_put keeps_at : S → List ℕ → KeptMail → Type 0) where
  abbrev Relies : Load → S → Type 0
  Relies load sink = ReliesOn at has_put keeps_at load sink

  abbrev Does : Load → S → Moving → Load → S → Type 0
  Does before old result after new = SinkFollows tells kept unsettled at has_put keeps_at before old result after new

  no_begun : (load : Load) (o : Option BegunBatch) (sink : S) → o ≡ None → IsBegunSo at has_put load o sink
  no_begun load o sink none = subst (λ x. IsBegunSo at has_put load x sink) (sym none) tt

  none_put : (o : Option BegunBatch) (mails : List KeptMail) → o ≡ None → HasPutFront tells o mails
  none_put o mails none = subst (λ x. HasPutFront tells x mails) (sym none) tt

  pub follows_from : (a b : Load) (s : S) (m : Moving) (after : Load) (t : S) → b ≡ a → Does b s m after t → Does a s m after t
  follows_from a b s m after t is it = subst (λ l. Does l s m after t) is it

  -- what can be relied on where no batch is on its way any more
  dropped_relies : (m : Moving) → IsStill m → (before after : Load) (s t : S) → after.begun ≡ None → after.settled.items ≡ before.settled.items → SamePlaces before after → StaysPlaced keeps_at s t
      → Relies before s → Relies after t × LeftThere (keeps_at t) after m
  dropped_relies m still before after s t none settled places stay so = (
    record {
      begun = no_begun after after.begun t none;
      settled = subst (AreSettledKept (keeps_at t) after) (sym settled) (settled_so (keeps_at s) (keeps_at t) stay before after places before.settled.items so.settled);
    },
    still_left m still (keeps_at t) after,
  )

  -- nothing is on its way, and nothing of it changed
  pub not_begun : (m : Moving) → IsStill m → (load after : Load) (s t : S) → load.begun ≡ None → after ≡ load → StaysPlaced keeps_at s t → (IsTrue tells → kept t ≡ kept s) → Does load s m after t
  not_begun m still load after s t none is stay same =
      let places = same_load load after is in
      let gone : after.begun ≡ None = ap (λ (l : Load). l.begun) is ∙ none in record {
        carries = record {
          relies = dropped_relies m still load after s t gone (ap (λ (l : Load). l.settled.items) is) places stay;
          grows = λ yes. grows_not (kept s) (kept t) (same yes);
          places = places;
        };
        only = λ put. (
          none_put after.begun (unsettled t) gone,
          λ yes. same yes ∙ sym (ap (λ o. kept s ++ settled_by o m) none ∙ append-nil (kept s)),
        );
      }

  -- the sink wasn't called
  pub still_follows : (m : Moving) → IsStill m → (load after : Load) (s : S) → load.begun ≡ None → after ≡ load → Does load s m after s
  still_follows m still load after s none is = not_begun m still load after s s none is (λ path mail it. it) (λ yes. refl)

  -- one more message of the batch is put
  pub puts : (load : Load) (one two : BegunBatch) (s t : S) → two.batch ≡ one.batch → ((path : List ℕ) → IsUnderway at has_put path one s → IsUnderway at has_put path two t)
      → (HasPutFront tells (Some one) (unsettled s) → HasPutFront tells (Some two) (unsettled t)) → StaysPlaced keeps_at s t → (IsTrue tells → kept t ≡ kept s)
      → Does (record load { begun = Some one }) s moving.Went (record load { begun = Some two }) t
  puts load one two s t same_batch goes front stay same =
      let before : Load = record load { begun = Some one } in
      let later : Load = record load { begun = Some two } in
      let places : SamePlaces before later = record { homes = refl; separator = refl } in record {
        carries = record {
          relies = λ so. (
            record {
              begun = (so.begun.0, subst (λ (b : MailBatch). place_for load b.user b.folder ≡ Some so.begun.0) (sym same_batch) so.begun.1, goes so.begun.0 so.begun.2);
              settled = settled_so (keeps_at s) (keeps_at t) stay before later places load.settled.items so.settled;
            },
            tt,
          );
          grows = λ yes. grows_not (kept s) (kept t) (same yes);
          places = places;
        };
        only = λ put. (front put, λ yes. same yes ∙ sym (append-nil (kept s)));
      }

  -- a message couldn't be put: those before it are the batch from now on
  cut_all_at : (path : List ℕ) (one : BegunBatch) (s t : S) → StaysPlaced has_put s t → AreAllAt (has_put s) path one.batch.user one.batch.folder (take one.put one.batch.mails)
      → AreAllAt (has_put t) path one.batch.user one.batch.folder (take one.put (take one.put one.batch.mails))
  cut_all_at path one s t still all =
      let here : AreAllAt (has_put t) path one.batch.user one.batch.folder (take one.put one.batch.mails) =
      All-weaker (λ m. has_put s path (mail_told one.batch.user one.batch.folder m)) (λ m. has_put t path (mail_told one.batch.user one.batch.folder m)) (λ m. still path (mail_told one.batch.user one.batch.folder m)) (take one.put one.batch.mails) all in
      subst (AreAllAt (has_put t) path one.batch.user one.batch.folder) (sym (take_twice one.put one.batch.mails)) here

  pub cuts : (load : Load) (one : BegunBatch) (s t : S) → StaysTrue at s t → StaysPlaced has_put s t → (IsTrue tells → unsettled t ≡ unsettled s) → StaysPlaced keeps_at s t → (IsTrue tells → kept t ≡ kept s)
      → Does (record load { begun = Some one }) s moving.Went (record load { begun = Some (cut_batch one) }) t
  cuts load one s t there still waits stay same =
      let before : Load = record load { begun = Some one } in
      let later : Load = record load { begun = Some (cut_batch one) } in
      let places : SamePlaces before later = record { homes = refl; separator = refl } in record {
        carries = record {
          relies = λ so. (
            record {
              begun = (so.begun.0, so.begun.1, (there so.begun.0 so.begun.2.0, cut_all_at so.begun.0 one s t still so.begun.2.1));
              settled = settled_so (keeps_at s) (keeps_at t) stay before later places load.settled.items so.settled;
            },
            tt,
          );
          grows = λ yes. grows_not (kept s) (kept t) (same yes);
          places = places;
        };
        only = λ put. (
          λ yes. waits yes ∙ put yes ∙ ap (map (mail_told one.batch.user one.batch.folder)) (sym (take_twice one.put one.batch.mails)),
          λ yes. same yes ∙ sym (append-nil (kept s)),
        );
      }

  pub cuts_to : (load : Load) (one two : BegunBatch) (s t : S) → two ≡ cut_batch one → StaysTrue at s t → StaysPlaced has_put s t → (IsTrue tells → unsettled t ≡ unsettled s) → StaysPlaced keeps_at s t
      → (IsTrue tells → kept t ≡ kept s) → Does (record load { begun = Some one }) s moving.Went (record load { begun = Some two }) t
  cuts_to load one two s t is there still waits stay same =
      subst (λ (b : BegunBatch). let later : Load = record load { begun = Some b } in Does (record load { begun = Some one }) s moving.Went later t) (sym is) (cuts load one s t there still waits stay same)

  -- the batch that was on its way is dropped
  pub dropped : (user folder : List ℕ) (m : Moving) → IsStill m → IsStayOf user folder m → (load after : Load) (one : BegunBatch) (s t : S) → IsLoaded None load.settled.items load after
      → StaysPlaced keeps_at s t → (IsTrue tells → kept t ≡ kept s) → Does (record load { begun = Some one }) s m after t
  dropped user folder m still stays load after one s t is stay same =
      let before : Load = record load { begun = Some one } in
      let places : SamePlaces before after = record { homes = is.places.homes; separator = is.places.separator } in record {
        carries = record {
          relies = dropped_relies m still before after s t is.begun_is is.settled_is places stay;
          grows = λ yes. grows_not (kept s) (kept t) (same yes);
          places = places;
        };
        only = λ put. (
          none_put after.begun (unsettled t) is.begun_is,
          λ yes. same yes ∙ sym (ap (λ l. kept s ++ l) (stay_settles one user folder m stays) ∙ append-nil (kept s)),
        );
      }

  -- one that waits is tried to be taken out
  taken_relies : (load : Load) (k : ℕ) (waiting : List MailBatch) (m : Moving) (after : Load) (old new : State) (t : S) → TakesBatchOut k waiting load m after old new → AreSettledKept (keeps_at t) load waiting
      → Relies after t × LeftThere (keeps_at t) after m
  taken_relies load k waiting m after old new t takes all =
      let it = tried_kept (keeps_at t) load k takes.batch waiting m after.settled.items old new takes.takes takes.there all in (
        record {
          begun = no_begun after after.begun t takes.idle;
          settled = settled_so (keeps_at t) (keeps_at t) (same_so (keeps_at t)) load after takes.places after.settled.items it.0;
        },
        left_at m (keeps_at t) load after takes.places it.1,
      )

  pub takes : (load : Load) (k : ℕ) (m : Moving) (after : Load) (old new : State) (s : S) → load.begun ≡ None → TakesBatchOut k load.settled.items load m after old new → Does load s m after s
  takes load k m after old new s none taken = record {
    carries = record {
      relies = λ so. taken_relies load k load.settled.items m after old new s taken so.settled;
      grows = λ yes. grows_not (kept s) (kept s) refl;
      places = taken.places;
    };
    only = λ put. (none_put after.begun (unsettled s) taken.idle, λ yes. sym (ap (λ o. kept s ++ settled_by o m) none ∙ append-nil (kept s)));
  }

  -- a batch all of which was put is settled, and then tried to be taken out
  pub settles : (load : Load) (one : BegunBatch) (m : Moving) (after : Load) (old new : State) (s t : S) → length one.batch.mails ≤ one.put
      → ((path : List ℕ) (mail : KeptMail) → has_put s path mail → keeps_at t path mail) → StaysPlaced keeps_at s t → (IsTrue tells → kept t ≡ kept s ++ unsettled s)
      → TakesBatchOut (length load.settled.items) (load.settled.items ++ one.batch ∷ []) load m after old new → Does (record load { begun = Some one }) s m after t
  settles load one m after old new s t all_put kept_there stay grown taken =
      let before : Load = record load { begun = Some one } in
      let b = one.batch in
      let waiting = load.settled.items ++ b ∷ [] in
      let k = length load.settled.items in
      let same : SamePlaces before load = record { homes = refl; separator = refl } in
      record {
        carries = record {
          relies = λ so.
              let path = so.begun.0 in
              let put = subst (λ l. AreAllAt (has_put s) path b.user b.folder l) (take_all one.put b.mails all_put) so.begun.2.1 in
              let own : KeptBatch (keeps_at t) load b = (path, so.begun.1, All-weaker (λ x. has_put s path (mail_told b.user b.folder x)) (λ x. keeps_at t path (mail_told b.user b.folder x)) (λ x. kept_there path (mail_told b.user b.folder x)) b.mails put) in
              let all = All-push (KeptBatch (keeps_at t) load) load.settled.items b (settled_so (keeps_at s) (keeps_at t) stay before load same load.settled.items so.settled) own in
              taken_relies load k waiting m after old new t taken all;
          grows = λ yes. (unsettled s, grown yes);
          places = places_then before load after same taken.places;
        };
        only = λ put. (
          none_put after.begun (unsettled t) taken.idle,
          λ yes. grown yes ∙ ap (λ l. kept s ++ l) (put yes ∙ all_told one all_put ∙ sym (taken_settles one k taken.batch waiting m after.settled.items old new taken.takes)),
        );
      }

  -- a batch is begun whose place is open
  pub begins : (load : Load) (begun : BegunBatch) (s t : S) → load.begun ≡ None → IsOpenFor at load begun.batch.user begun.batch.folder t → begun.put ≡ 0
      → StaysPlaced keeps_at s t → (IsTrue tells → unsettled t ≡ []) → (IsTrue tells → kept t ≡ kept s) → Does load s moving.Went (record load { begun = Some begun }) t
  begins load begun s t none opens zero_put stay fresh same =
      let later : Load = record load { begun = Some begun } in
      let b = begun.batch in
      let places : SamePlaces load later = record { homes = refl; separator = refl } in
      let all : AreAllAt (has_put t) opens.0 b.user b.folder (take begun.put b.mails) =
      subst (λ n. AreAllAt (has_put t) opens.0 b.user b.folder (take n b.mails)) (sym zero_put) (All-nil (λ m. has_put t opens.0 (mail_told b.user b.folder m))) in
      record {
        carries = record {
          relies = λ so. (
            record {
              begun = (opens.0, opens.1, (opens.2, all));
              settled = settled_so (keeps_at s) (keeps_at t) stay load later places load.settled.items so.settled;
            },
            tt,
          );
          grows = λ yes. grows_not (kept s) (kept t) (same yes);
          places = places;
        };
        only = λ put. (
          λ yes. fresh yes ∙ sym (ap (λ n. map (mail_told b.user b.folder) (take n b.mails)) zero_put),
          λ yes. same yes ∙ sym (ap (λ o. kept s ++ settled_by o moving.Went) none ∙ append-nil (kept s)),
        );
      }

  -- one is begun whose place is open, or none
  pub may_begin : (user folder : List ℕ) (m : Moving) → IsStill m → (load after : Load) (old new : State) (s t : S) → load.begun ≡ None → IsOpenFor at load user folder t → MayBegin load m after old new → IsOf user folder m after.begun
      → StaysPlaced keeps_at s t → (IsTrue tells → unsettled t ≡ []) → (IsTrue tells → kept t ≡ kept s) → Does load s m after t
  may_begin user folder moving.Went still load after old new s t none opens it of stay fresh same =
      let its : IsBegunOf user folder (Some it.begun) = subst (IsBegunOf user folder) (ap (λ (l : Load). l.begun) it.after_is) of in
      let open_there : IsOpenFor at load it.begun.batch.user it.begun.batch.folder t = subst (λ u. IsOpenFor at load u it.begun.batch.folder t) (sym its.0) (subst (λ f. IsOpenFor at load user f t) (sym its.1) opens) in
      subst (λ l. Does load s moving.Went l t) (sym it.after_is) (begins load it.begun s t none open_there it.none_put stay fresh same)
  may_begin user folder (moving.Stays stays) still load after old new s t none opens it of stay fresh same = not_begun (moving.Stays stays) still load after s t none it stay same
  may_begin user folder moving.Passed still load after old new s t none opens it of stay fresh same = not_begun moving.Passed still load after s t none it stay same
  may_begin user folder moving.Nothing still load after old new s t none opens it of stay fresh same = not_begun moving.Nothing still load after s t none it stay same
  may_begin user folder (moving.Failed refusal) still load after old new s t none opens it of stay fresh same = not_begun (moving.Failed refusal) still load after s t none it stay same
  may_begin user folder (moving.Kept batch answer) still load after old new s t none opens it of stay fresh same = absurd still
