-- What a store still shows, call by call.
use Rattle.maildir_moves.specs.Enduring.{none_tried}
use Rattle.maildir_moves.proofs.EnduringLemmas.{left_alone, left_then}
use Rattle.daemon_core.specs.StoreAccess.{View, ViewStillShows}

pub still_here : {R : Type 0} (view : View R) (r : R) → ViewStillShows view r r
still_here view r accounts shown = (shown, left_alone (view.leaves r) accounts none_tried)

pub still_then : {R : Type 0} (view : View R) (r m q : R) → ViewStillShows view r m → ViewStillShows view m q → ViewStillShows view r q
still_then view r m q one two accounts shown =
    let first = one accounts shown in
    let second = two accounts first.0 in
    (second.0, left_then (view.leaves r) (view.leaves m) (view.leaves q) accounts accounts accounts none_tried first.1 second.1)
