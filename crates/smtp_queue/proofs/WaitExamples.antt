-- Right cases of the definitions, and near misses.
use Rattle.std.proofs.Common.{◌≡◌, ◌++◌, ◌∷◌, [], true, false, codes, refl, ap, arith, Some, None}
use Rattle.std.proofs.lemmas.Fmt.{decimal_digit}
use Rattle.smtp_dialogue.specs.declared.dialogue.Ending.TheVariants.{Sent, Refused, Delayed}
use Rattle.std.specs.declared.cmp.Ordering.TheVariants.{Less, Greater}
use Rattle.smtp_queue.specs.Lines.{row_line}
use Rattle.smtp_queue.specs.Waits.{row_key, row_key_cmp, allows, pause_after, wait_after, is_wait_kept}

-- a later number of the same user, a later user; no earlier user with a higher number
later_number : row_key_cmp (row_key (codes "ann") 7) (row_key (codes "ann") 8) ≡ Less
later_number = refl

later_user : row_key_cmp (row_key (codes "ann") 7) (row_key (codes "bob") 1) ≡ Less
later_user = refl

not_earlier : row_key_cmp (row_key (codes "ann") 7) (row_key (codes "abe") 9) ≡ Greater
not_earlier = refl

-- a row that waits until 100 is due at 100 and not at 99; one of which nothing is known is
due_then : allows 100 (Some (record { due = 100; tries = 1 })) ≡ true
due_then = refl

not_before : allows 99 (Some (record { due = 100; tries = 1 })) ≡ false
not_before = refl

always : allows 0 None ≡ true
always = refl

-- nor is one that waits for a day; one that waits for a second more is due, and is so later
not_a_day : allows 100 (Some (record { due = 86500; tries = 1 })) ≡ false
not_a_day = refl

more_than_a_day : allows 100 (Some (record { due = 86501; tries = 1 })) ≡ true
more_than_a_day = refl

as_it_comes : allows 101 (Some (record { due = 86501; tries = 1 })) ≡ false
as_it_comes = refl

-- the pauses
pauses_first : pause_after 0 ≡ 60
pauses_first = refl

pauses_sixth : pause_after 5 ≡ 1920
pauses_sixth = refl

pauses_then : pause_after 6 ≡ 3600
pauses_then = refl

-- a row that was delayed twice waits longer; one that was refused for good a day; one that was sent not at all
delayed_again : wait_after 1 (Delayed 451) 200 ≡ Some (record { due = 320; tries = 2 })
delayed_again = refl

refused_then : wait_after 1 (Refused 550) 200 ≡ Some (record { due = 86600; tries = 2 })
refused_then = refl

sent_then : wait_after 1 Sent 200 ≡ None
sent_then = refl

-- a wait is kept for two days
kept_then : is_wait_kept 172899 (record { due = 100; tries = 1 }) ≡ true
kept_then = refl

not_after : is_wait_kept 172900 (record { due = 100; tries = 1 }) ≡ false
not_after = refl

-- nor one that lies farther ahead
kept_before : is_wait_kept 100 (record { due = 172900; tries = 1 }) ≡ true
kept_before = refl

not_ahead : is_wait_kept 100 (record { due = 172901; tries = 1 }) ≡ false
not_ahead = refl

-- what is printed
sent_line : row_line (row_key (codes "ann") 7) Sent ≡ codes "sent ann 7" ++ 10 ∷ []
sent_line = ap (λ digits. (codes "sent " ++ (codes "ann" ++ 32 ∷ digits)) ++ 10 ∷ []) (decimal_digit 7 (omega arith))
