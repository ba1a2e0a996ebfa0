-- Right cases of the definitions, and near misses.
use Rattle.std.proofs.Common.{◌≡◌, List, [], ◌∷◌, false, refl}
use Rattle.smtp_send.specs.Rows.{RowHasOctets}
use Rattle.smtp_send.specs.declared.queue.DueMessage.{DueMessage}

abbrev sent : DueMessage
sent = record { user = 5 ∷ []; id = 1; sender = []; target = 3 ∷ []; message = 1 ∷ [] }

-- its own octets, though it isn't due
own_octets : RowHasOctets sent (record { sender = []; target = 3 ∷ []; message = 1 ∷ []; is_due = false })
own_octets = record { sender = refl; target = refl; message = refl }

-- not another message, nor another target
not_message : RowHasOctets sent (record { sender = []; target = 3 ∷ []; message = 2 ∷ []; is_due = false }) → ⊥
not_message has = let never = has.message in cc

not_target : RowHasOctets sent (record { sender = []; target = 4 ∷ []; message = 1 ∷ []; is_due = false }) → ⊥
not_target has = let never = has.target in cc
