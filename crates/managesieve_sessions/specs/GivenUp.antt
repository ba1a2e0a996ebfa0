-- Giving up on the first item, if it can't be answered now.
use Rattle.std.specs.Prelude.{ℕ, cond, List, []}
use Rattle.managesieve_protocol.specs.declared.items.ItemExtent.{ItemExtent}
use Rattle.managesieve_protocol.specs.declared.items.ItemExtent.TheVariants as reach
use Rattle.managesieve_protocol.specs.Replies.{reply_octets}
use Rattle.managesieve_sessions.specs.declared.progress.Progress.{Progress}
use Rattle.managesieve_sessions.specs.declared.progress.Progress.TheVariants.{Need, Done, Close}
use Rattle.managesieve_sessions.specs.Clients.{Client, reach_in, without_octets, shut}
use Rattle.managesieve_sessions.specs.Replies.{try_later, too_big}

abbrev pub text_by : ItemExtent → List ℕ
text_by reach.Need = []
text_by (reach.Command used) = reply_octets try_later
text_by (reach.Bad used) = reply_octets try_later
text_by reach.TooBig = reply_octets too_big

abbrev pub client_by : ItemExtent → Client → Client
client_by reach.Need c = c
client_by (reach.Command used) c = without_octets used c
client_by (reach.Bad used) c = without_octets used c
client_by reach.TooBig c = shut c

abbrev pub progress_by : ItemExtent → Progress
progress_by reach.Need = Need
progress_by (reach.Command used) = Done
progress_by (reach.Bad used) = Done
progress_by reach.TooBig = Close

-- the answer to giving up: empty if no item is whole, or the session is closed
abbrev pub text_given_up : Client → List ℕ
text_given_up c = cond c.closed [] (text_by (reach_in c))

-- the session after it: the item is dropped, and a pending challenge is over
abbrev pub client_given_up : Client → Client
client_given_up c = cond c.closed c (client_by (reach_in c) c)

-- how the session goes on
abbrev pub progress_given_up : Client → Progress
progress_given_up c = cond c.closed Close (progress_by (reach_in c))
