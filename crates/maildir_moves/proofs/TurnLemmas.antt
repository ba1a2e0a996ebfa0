-- Whose turn it is, by what the store was asked.
use Rattle.std.proofs.Common.{◌≡◌, ℕ, Bool, true, false, List, Option, Some, None, option_map, refl, sym, ◌∙◌, subst, inl, inr, true≢false, if◌then◌else◌}
use Rattle.std.specs.Cmp.Lexicographic.{bytes_decides}
use Rattle.sqlite.specs.State.{State}
use Rattle.store_tables.specs.Rows.{Tables}
use Rattle.store_accounts.specs.Next.{IsNextFiled}
use Rattle.store_accounts.specs.declared.next.CopyKey.{CopyKey}
use Rattle.maildir_moves.specs.Order.{FollowsFolder, IsNextFolder, is_same_user, turn_mark_of, start_in, start_of}
use Rattle.maildir_moves.specs.Rests.{rests_at}
use Rattle.maildir_moves.specs.Steps.{due_at}
use Rattle.maildir_moves.specs.Turns.{GoesByTurns, IsChosenByTurns, IsRoundEnd, IsOf, IsStayOf, IsTurnAt, IsTurnIn, IsTurnOf, IsUsersFirst, IsUsersTurn, PassesFolder, TurnEnds, TurnsTo, TurnsUnless, chosen}
use Rattle.maildir_moves.specs.declared.batch.BegunBatch.{BegunBatch}
use Rattle.maildir_moves.specs.declared.moving.Moving.{Moving}
use Rattle.maildir_moves.specs.declared.moving.Moving.TheVariants as moving
use Rattle.maildir_moves.specs.declared.order.MoveOrder.{MoveOrder}
use Rattle.maildir_moves.specs.declared.load.Load.{Load}
use Rattle.maildir_moves.specs.declared.rest.Rest.{Rest}
use Rattle.maildir_moves.specs.declared.rest.Rests.{Rests}
use Rattle.maildir_moves.specs.declared.route.Route.{Route}
use Rattle.maildir_moves.proofs.OrderLemmas.{first_folder, folder_behind, next_user, none_behind, other_behind, round_over}

-- ---- the folder

module _ (tables : Tables) (first : CopyKey) (mine : IsUsersFirst tables first) where
  abbrev NextAt : Option (List ℕ) → CopyKey → Type 0
  NextAt mark filed = (filed.user ≡ first.user) × IsNextFolder tables first.user mark filed.folder

  at_first : (mark : Option (List ℕ)) → FollowsFolder tables first.user mark first.folder → NextAt mark first
  at_first mark follows = (refl, record { mail = first; there = mine.0; of_user = refl; in_folder = refl; follows = follows })

  pub first_next : (mark : Option (List ℕ)) → mark ≡ None → NextAt mark first
  first_next mark none = at_first mark (subst (λ m. FollowsFolder tables first.user m first.folder) (sym none) mine.1)

  behind_next : (mark : List ℕ) (next : Option CopyKey) → IsNextFiled (start_in first.user mark) next tables → NextAt (Some mark) (chosen next first)
  behind_next mark None none = at_first (Some mark) (inr (none_behind tables first.user mark none, mine.1))
  behind_next mark (Some next) it = by (is_same_user first.user next.user) refl
    where
      by : (b : Bool) → is_same_user first.user next.user ≡ b → NextAt (Some mark) (if b then next else first)
      by true same =
          let own = (bytes_decides next.user first.user).0 same in
          (own, record { mail = next; there = it.0; of_user = own; in_folder = refl; follows = inl (folder_behind tables first.user mark next own it) })
      by false other =
          at_first (Some mark) (inr (other_behind tables first.user mark next (λ own. true≢false (sym ((bytes_decides next.user first.user).1 own) ∙ other)) it, mine.1))

  -- where the store was asked for what is behind the mark
  pub next_behind : (mark : Option (List ℕ)) (start : CopyKey) (next : Option CopyKey) → option_map (start_in first.user) mark ≡ Some start → IsNextFiled start next tables → NextAt mark (chosen next first)
  next_behind None start next is it = absurd (let no : ⊥ = cc in no)
  next_behind (Some mark) start next is it = behind_next mark next (let same : start_in first.user mark ≡ start = cc in subst (λ s. IsNextFiled s next tables) (sym same) it)

-- ---- what became of its message

module _ (now : ℕ) (rests : List Rest) (before : MoveOrder) (user folder : List ℕ) (after : MoveOrder) (begun : Option BegunBatch) where
  pub tried : (m : Moving) → rests_at now user folder rests ≡ false → IsOf user folder m begun → TurnEnds before user folder after → IsTurnAt now rests before user folder m after begun
  tried moving.Went awake of ends = (of, record { awake = awake; ends = ends })
  tried (moving.Stays stay) awake of ends = (of.0, of.1, record { awake = awake; ends = ends })
  tried moving.Passed awake of ends = inr ends
  tried (moving.Kept batch answer) awake of ends = absurd of
  tried moving.Nothing awake of ends = absurd of
  tried (moving.Failed refusal) awake of ends = absurd of

  pub passed : (m : Moving) → rests_at now user folder rests ≡ true → PassesFolder rests before user folder m after → IsTurnAt now rests before user folder m after begun
  passed moving.Passed rest it = elim it [ inl over ↦ inl (rest, over) | inr ends ↦ inr ends ]
  passed (moving.Failed refusal) rest it = inl it
  passed (moving.Kept batch answer) rest it = absurd it
  passed (moving.Stays stay) rest it = absurd it
  passed moving.Nothing rest it = absurd it
  passed moving.Went rest it = absurd it

pub stay_is : (user folder : List ℕ) (begun : Option BegunBatch) (m : Moving) → IsStayOf user folder m → IsOf user folder m begun
stay_is user folder begun (moving.Stays stay) it = it
stay_is user folder begun (moving.Kept batch answer) it = absurd it
stay_is user folder begun moving.Passed it = absurd it
stay_is user folder begun moving.Went it = absurd it
stay_is user folder begun moving.Nothing it = absurd it
stay_is user folder begun (moving.Failed refusal) it = absurd it

-- ---- a user's turn, and a call

module _ (now : ℕ) (tables : Tables) (first : CopyKey) (rests : List Rest) (before after : MoveOrder) (begun : Option BegunBatch) where
  module _ (filed : CopyKey) (next : IsUsersFirst tables first → (filed.user ≡ first.user) × IsNextFolder tables first.user (turn_mark_of first.user before.marks.items) filed.folder) where
    turn_in : (m : Moving) → IsTurnAt now rests before filed.user filed.folder m after begun → IsTurnIn now tables first rests before m after begun
    turn_in m turn = λ mine. (filed.folder, (next mine).1, subst (λ u. IsTurnAt now rests before u filed.folder m after begun) (next mine).0 turn)

    pub turn_of : (m : Moving) → IsTurnAt now rests before filed.user filed.folder m after begun → IsTurnOf now tables first rests before m after begun
    turn_of (moving.Failed refusal) turn = inr (turn_in (moving.Failed refusal) turn)
    turn_of (moving.Stays stay) turn = turn_in (moving.Stays stay) turn
    turn_of moving.Passed turn = turn_in moving.Passed turn
    turn_of moving.Went turn = turn_in moving.Went turn
    turn_of (moving.Kept batch answer) turn = absurd turn
    turn_of moving.Nothing turn = absurd turn

  module _ (next : IsNextFiled (start_of before.last) (Some first) tables) where
    mine : IsUsersFirst tables first
    mine = (next.0, first_folder tables before.last first next)

    users_turn : (m : Moving) → IsTurnIn now tables first rests before m after begun → IsUsersTurn now tables rests before m after begun
    users_turn m turn = let it = turn mine in record { user = first.user; folder = it.0; next_user = next_user tables before.last first next; next_folder = it.1; turn = it.2 }

    pub turn_is : (m : Moving) → IsTurnOf now tables first rests before m after begun → TurnsTo now tables rests before m after begun
    turn_is (moving.Failed refusal) turn = elim turn [ inl stays ↦ inl stays | inr at ↦ inr (users_turn (moving.Failed refusal) at) ]
    turn_is (moving.Stays stay) turn = inl (users_turn (moving.Stays stay) turn)
    turn_is moving.Passed turn = inl (users_turn moving.Passed turn)
    turn_is moving.Went turn = inl (users_turn moving.Went turn)
    turn_is (moving.Kept batch answer) turn = absurd (turn mine).2
    turn_is moving.Nothing turn = absurd (turn mine).2

pub round_ends : (now : ℕ) (tables : Tables) (rests : List Rest) (before : MoveOrder) (m : Moving) (after : MoveOrder) (begun : Option BegunBatch) → IsNextFiled (start_of before.last) None tables → IsRoundEnd before m after → TurnsTo now tables rests before m after begun
round_ends now tables rests before moving.Nothing after begun none end = inr (round_over tables before.last none, end)
round_ends now tables rests before moving.Passed after begun none end = inr (round_over tables before.last none, end)
round_ends now tables rests before (moving.Failed refusal) after begun none end = absurd end
round_ends now tables rests before (moving.Kept batch answer) after begun none end = absurd end
round_ends now tables rests before (moving.Stays stay) after begun none end = absurd end
round_ends now tables rests before moving.Went after begun none end = absurd end

-- no place, no mark
pub no_mark : (user : List ℕ) (mark : Option (List ℕ)) → option_map (start_in user) mark ≡ None → mark ≡ None
no_mark user None none = refl
no_mark user (Some mark) none = absurd (let no : ⊥ = cc in no)

-- ---- a call, by what is on its way

module _ (now : ℕ) (before : Route) (m : Moving) (after : Route) (old new : State) where
  -- a batch is on its way
  pub going_on : (begun : BegunBatch) → before.load.begun ≡ Some begun → after.order ≡ before.order → GoesByTurns now before m after old new
  going_on begun is same = subst (λ o. TurnsUnless o (due_at now before.rests.entries.items before.load.settled.items) now before m after old new) (sym is) same

  -- one waits that may be taken out
  pub trying : (k : ℕ) → before.load.begun ≡ None → due_at now before.rests.entries.items before.load.settled.items ≡ Some k → after.order ≡ before.order → GoesByTurns now before m after old new
  trying k none is same = subst (λ o. TurnsUnless o (due_at now before.rests.entries.items before.load.settled.items) now before m after old new) (sym none)
      (subst (λ d. TurnsUnless None d now before m after old new) (sym is) same)

  -- neither
  pub chosen_anew : before.load.begun ≡ None → due_at now before.rests.entries.items before.load.settled.items ≡ None → IsChosenByTurns now before m after old new → GoesByTurns now before m after old new
  chosen_anew none is turns = subst (λ o. TurnsUnless o (due_at now before.rests.entries.items before.load.settled.items) now before m after old new) (sym none)
      (subst (λ d. TurnsUnless None d now before m after old new) (sym is) turns)

-- of a route that was told that mail may have come
module _ (now : ℕ) (a b : Route) (m : Moving) (after : Route) (old new : State) (load_is : b.load ≡ a.load) (rests_is : b.rests ≡ a.rests) (order_is : b.order ≡ a.order) where
  unless_from : (o : Option BegunBatch) (d : Option ℕ) → TurnsUnless o d now b m after old new → TurnsUnless o d now a m after old new
  unless_from None None it = λ clean tables held.
      subst (λ (r : Rests). TurnsTo now tables r.entries.items a.order m after.order after.load.begun) rests_is
      (subst (λ (r : MoveOrder). TurnsTo now tables b.rests.entries.items r m after.order after.load.begun) order_is (it clean tables held))
  unless_from None (Some k) it = it ∙ order_is
  unless_from (Some begun) d it = it ∙ order_is

  pub turns_from : GoesByTurns now b m after old new → GoesByTurns now a m after old new
  turns_from it = subst (λ (r : Rests). TurnsUnless a.load.begun (due_at now r.entries.items a.load.settled.items) now a m after old new) rests_is
      (subst (λ (l : Load). TurnsUnless l.begun (due_at now b.rests.entries.items l.settled.items) now a m after old new) load_is
      (unless_from b.load.begun (due_at now b.rests.entries.items b.load.settled.items) it))
