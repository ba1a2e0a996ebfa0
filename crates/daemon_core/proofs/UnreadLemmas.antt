-- What events make of the octets of sessions that are unread: none but those that come add any.
use Rattle.std.proofs.Common.{◌≡◌, ◌∙◌, inl, inr, ℕ, ◌+◌, ◌≤◌, nat_lt, not, Bool, true, false, cond, List, [], ◌++◌, length, Option, Some, None, is_some, MatchBool, refl, ap, subst, arith, length-append}
use Rattle.std.proofs.lemmas.List.{length-drop}
use Rattle.std.specs.Cmp.{nat_cmp_total}
use Rattle.std.specs.FinMap.{get, insert, remove, get-insert, get-remove}
use Rattle.managesieve_protocol.specs.declared.commands.ClientCommand.{ClientCommand}
use Rattle.managesieve_protocol.specs.declared.commands.ClientCommand.TheVariants as command
use Rattle.managesieve_protocol.specs.declared.items.ClientItem.{ClientItem}
use Rattle.managesieve_protocol.specs.declared.items.ClientItem.TheVariants as item
use Rattle.managesieve_protocol.specs.declared.items.ItemExtent.{ItemExtent}
use Rattle.managesieve_protocol.specs.declared.items.ItemExtent.TheVariants as reach
use Rattle.store_accounts.specs.Account.{Account, Accounts}
use Rattle.managesieve_sessions.specs.Clients.{Client, new_client, client_given, without_octets, reach_in, item_in}
use Rattle.managesieve_sessions.specs.GivenUp.{client_by, client_given_up, progress_given_up, text_given_up}
use Rattle.managesieve_sessions.specs.Logins.{login_client, opening_client, admitted, is_plain_mechanism, is_star}
use Rattle.managesieve_sessions.specs.Steps.{IsStep, StepsAt, StepAnswers, progress_of}
use Rattle.managesieve_sessions.specs.Table.{is_early, asked_client, account_of, taken_client, client_in}
use Rattle.managesieve_sessions.specs.declared.progress.Progress.{Progress}
use Rattle.managesieve_sessions.specs.declared.progress.Progress.TheVariants as p
use Rattle.store_engine.specs.World.{World, Clients, Next, OpensSession, InSession, WorldBecomes, StepsSession, with_session}
use Rattle.store_engine.specs.declared.answer.Answer.{Answer}
use Rattle.store_engine.specs.declared.answer.Answer.TheVariants.{Out}
use Rattle.store_engine.specs.declared.event.Event.{Event}
use Rattle.store_engine.specs.declared.event.Event.TheVariants.{Open, Give, Step, GiveUp, Close, Deliver, AddUser, Import, TakeOut, TakeMail, DoUpkeep}
use Rattle.net_loop.specs.Talk.{is_same_id}
use Rattle.net_loop.proofs.TalkLemmas.{one_number}
use Rattle.daemon_core.specs.Bounds.{unread_of}
use Rattle.daemon_core.proofs.SumLemmas.{same_turned}

-- ---- one step of a session

kept_by : (b : Bool) (c d e : Client) → c.unread ≡ e.unread → d.unread ≡ e.unread → (cond b c d).unread ≡ e.unread
kept_by true c d e one two = one
kept_by false c d e one two = two

login_kept : (o : Option (List ℕ)) (c : Client) → (login_client o c).unread ≡ c.unread
login_kept (Some user) c = refl
login_kept None c = by (nat_lt c.failures 2)
  where
    by : (b : Bool) → (cond b (record c { failures = c.failures + 1 }) (record c { closed = true })).unread ≡ c.unread
    by true = refl
    by false = refl

opening_kept : (accounts : Accounts) (response : Option (List ℕ)) (c : Client) → (opening_client accounts response c).unread ≡ c.unread
opening_kept accounts None c = refl
opening_kept accounts (Some text) c = login_kept (admitted accounts text) c

asked_kept : (o : Option Account) (c : Client) → (asked_client o c).unread ≡ c.unread
asked_kept None c = refl
asked_kept (Some a) c = refl

taken_kept : (accounts : Accounts) (asked : ClientCommand) (c : Client) → (taken_client accounts asked c).unread ≡ c.unread
taken_kept accounts command.Capability c = refl
taken_kept accounts (command.Noop tag) c = refl
taken_kept accounts command.Logout c = refl
taken_kept accounts (command.Authenticate mechanism response) c =
    let opening = opening_client accounts response c in
    kept_by (is_some c.user) c (cond (not (is_plain_mechanism mechanism)) c opening) c refl (kept_by (not (is_plain_mechanism mechanism)) c opening c refl (opening_kept accounts response c))
taken_kept accounts (command.Response text) c = kept_by (is_star text) c (login_client (admitted accounts text) c) c refl (login_kept (admitted accounts text) c)
taken_kept accounts command.Unauthenticate c = refl
taken_kept accounts (command.CheckScript text) c = refl
taken_kept accounts (command.HaveSpace name size) c = asked_kept (account_of accounts c.user) c
taken_kept accounts (command.PutScript name script) c = asked_kept (account_of accounts c.user) c
taken_kept accounts command.ListScripts c = asked_kept (account_of accounts c.user) c
taken_kept accounts (command.SetActive name) c = asked_kept (account_of accounts c.user) c
taken_kept accounts (command.GetScript name) c = asked_kept (account_of accounts c.user) c
taken_kept accounts (command.DeleteScript name) c = asked_kept (account_of accounts c.user) c
taken_kept accounts (command.RenameScript old new) c = asked_kept (account_of accounts c.user) c

past_less : (used : ℕ) (c : Client) → length (without_octets used c).unread ≤ length c.unread
past_less used c = omega (arith, length-drop used c.unread)

less_by : (c d e : Client) → d.unread ≡ c.unread → length c.unread ≤ length e.unread → length d.unread ≤ length e.unread
less_by c d e is less = omega (arith, ap (λ (l : List ℕ). length l) is, less)

same_less : (c d : Client) → d ≡ c → length d.unread ≤ length c.unread
same_less c d is = omega (arith, ap (λ (x : Client). length x.unread) is)

at_less : (accounts : Accounts) (c : Client) (it : ClientItem) (progress : Progress) (octets : List ℕ) (d : Client) (later : Accounts) → StepsAt accounts c it progress octets d later → length d.unread ≤ length c.unread
at_less accounts c item.Need progress octets d later is = same_less c d is.2
at_less accounts c (item.Command asked used) progress octets d later is =
    let mid = without_octets used c in
    let kept : (client_in accounts asked mid).unread ≡ mid.unread = kept_by (is_early mid asked) mid (taken_client accounts asked mid) mid refl (taken_kept accounts asked mid) in
    omega (arith, ap (λ (x : Client). length x.unread) is.session, ap (λ (l : List ℕ). length l) kept, past_less used c)
at_less accounts c (item.Bad used) progress octets d later is = omega (arith, ap (λ (x : Client). length x.unread) is.2, past_less used c)
at_less accounts c item.TooBig progress octets d later is = omega (arith, ap (λ (x : Client). length x.unread) is.2)

step_less : (accounts : Accounts) (c : Client) (progress : Progress) (octets : List ℕ) (d : Client) (later : Accounts) → IsStep accounts c progress octets d later → length d.unread ≤ length c.unread
step_less accounts c progress octets d later is = by c.closed is
  where
    by : (b : Bool) → MatchBool b (StepAnswers accounts p.Close [] c progress octets d later) (StepsAt accounts c (item_in c) progress octets d later) → length d.unread ≤ length c.unread
    by true is = same_less c d is.2
    by false is = at_less accounts c (item_in c) progress octets d later is

by_less : (r : ItemExtent) (c : Client) → length (client_by r c).unread ≤ length c.unread
by_less reach.Need c = omega arith
by_less (reach.Command used) c = past_less used c
by_less (reach.Bad used) c = past_less used c
by_less reach.TooBig c = omega arith

given_up_less : (c : Client) → length (client_given_up c).unread ≤ length c.unread
given_up_less c = by c.closed
  where
    by : (b : Bool) → length (cond b c (client_by (reach_in c) c)).unread ≤ length c.unread
    by true = omega arith
    by false = by_less (reach_in c) c

given_more : (piece : List ℕ) (c : Client) → length (client_given piece c).unread ≤ length c.unread + length piece
given_more piece c = by c.closed
  where
    by : (b : Bool) → length (cond b c (record c { unread = c.unread ++ piece })).unread ≤ length c.unread + length piece
    by true = omega arith
    by false = omega (arith, length-append c.unread piece)

-- ---- one event

-- so many octets of a session come with it
abbrev pub gained : Event → ℕ → ℕ
gained (Give n piece) k = cond (is_same_id n k) (length piece) 0
gained event k = 0

abbrev pub Grows : Clients → Clients → (ℕ → ℕ) → Type 0
Grows before after more = (k : ℕ) → unread_of (get after k) ≤ unread_of (get before k) + more k

pub none_grows : (before after : Clients) (more : ℕ → ℕ) → after ≡ before → Grows before after more
none_grows before after more is k = omega (arith, ap (λ (m : Clients). unread_of (get m k)) is)

put_grows : (before : Clients) (n more : ℕ) (c : Client) → length c.unread ≤ unread_of (get before n) + more → Grows before (insert before n c) (λ k. cond (is_same_id n k) more 0)
put_grows before n more c its k = by (is_same_id n k) refl
  where
    there : (b : Bool) → is_same_id n k ≡ b → get (insert before n c) k ≡ cond b (Some c) (get before k)
    there b is = get-insert nat_cmp_total before n c k ∙ ap (λ t. cond t (Some c) (get before k)) (same_turned k n ∙ is)

    by : (b : Bool) → is_same_id n k ≡ b → unread_of (get (insert before n c) k) ≤ unread_of (get before k) + cond b more 0
    by true is = omega (arith, ap unread_of (there true is), subst (λ j. length c.unread ≤ unread_of (get before j) + more) (one_number n k is) its)
    by false is = omega (arith, ap unread_of (there false is))

cut_grows : (before : Clients) (n : ℕ) → Grows before (remove before n) (λ k. 0)
cut_grows before n k = by (is_same_id k n) (get-remove nat_cmp_total before n k)
  where
    by : (b : Bool) → get (remove before n) k ≡ cond b None (get before k) → unread_of (get (remove before n) k) ≤ unread_of (get before k) + 0
    by true is = omega (arith, ap unread_of is)
    by false is = omega (arith, ap unread_of is)

after_is : (before mid after : Clients) (more : ℕ → ℕ) → after ≡ mid → Grows before mid more → Grows before after more
after_is before mid after more is grows k = omega (arith, ap (λ (m : Clients). unread_of (get m k)) is, grows k)

no_more : (b : Bool) → ◌≡◌ {A = ℕ} (cond b 0 0) 0
no_more true = refl
no_more false = refl

put_less : (before : Clients) (n : ℕ) (c : Client) → length c.unread ≤ unread_of (get before n) → Grows before (insert before n c) (λ k. 0)
put_less before n c its k = omega (arith, put_grows before n 0 c (omega (arith, its)) k, no_more (is_same_id n k))

open_grows : (w v : World) (n : ℕ) (answer : Answer) (o : Option Client) → OpensSession w n o answer v → Grows w.sessions v.sessions (λ k. 0)
open_grows w v n answer None is = after_is w.sessions (insert w.sessions n new_client) v.sessions (λ k. 0) (ap (λ (x : World). x.sessions) is.changed) (put_less w.sessions n new_client (omega arith))
open_grows w v n answer (Some c) is = none_grows w.sessions v.sessions (λ k. 0) (ap (λ (x : World). x.sessions) is.stays)

module _ (w v : World) (n : ℕ) (answer : Answer) where
  give_grows : (piece : List ℕ) (o : Option Client) → get w.sessions n ≡ o → InSession w o (λ c. WorldBecomes (Out (progress_of c) []) (with_session n (client_given piece c) w)) answer v → Grows w.sessions v.sessions (λ k. cond (is_same_id n k) (length piece) 0)
  give_grows piece None was is = none_grows w.sessions v.sessions _ (ap (λ (x : World). x.sessions) is.stays)
  give_grows piece (Some c) was is =
      after_is w.sessions (insert w.sessions n (client_given piece c)) v.sessions _ (ap (λ (x : World). x.sessions) is.changed)
      (put_grows w.sessions n (length piece) (client_given piece c) (omega (arith, given_more piece c, ap unread_of was)))

  step_grows : (o : Option Client) → get w.sessions n ≡ o → InSession w o (StepsSession w n) answer v → Grows w.sessions v.sessions (λ k. 0)
  step_grows None was is = none_grows w.sessions v.sessions _ (ap (λ (x : World). x.sessions) is.stays)
  step_grows (Some c) was is =
      after_is w.sessions (insert w.sessions n is.client) v.sessions _ (ap (λ (x : World). x.sessions) is.changed)
      (put_less w.sessions n is.client (omega (arith, step_less w.accounts c is.goes_on is.octets is.client is.accounts is.step, ap unread_of was)))

  give_up_grows : (o : Option Client) → get w.sessions n ≡ o → InSession w o (λ c. WorldBecomes (Out (progress_given_up c) (text_given_up c)) (with_session n (client_given_up c) w)) answer v → Grows w.sessions v.sessions (λ k. 0)
  give_up_grows None was is = none_grows w.sessions v.sessions _ (ap (λ (x : World). x.sessions) is.stays)
  give_up_grows (Some c) was is =
      after_is w.sessions (insert w.sessions n (client_given_up c)) v.sessions _ (ap (λ (x : World). x.sessions) is.changed)
      (put_less w.sessions n (client_given_up c) (omega (arith, given_up_less c, ap unread_of was)))

  close_grows : (o : Option Client) → InSession w o (λ c. WorldBecomes (Out p.Close []) (record { accounts = w.accounts; sessions = remove w.sessions n })) answer v → Grows w.sessions v.sessions (λ k. 0)
  close_grows None is = none_grows w.sessions v.sessions _ (ap (λ (x : World). x.sessions) is.stays)
  close_grows (Some c) is = after_is w.sessions (remove w.sessions n) v.sessions _ (ap (λ (x : World). x.sessions) is.changed) (cut_grows w.sessions n)

pub event_grows : (w v : World) (event : Event) (answer : Answer) → Next w event answer v → Grows w.sessions v.sessions (gained event)
event_grows w v event answer (inr refused) = none_grows w.sessions v.sessions (gained event) (ap (λ (x : World). x.sessions) refused.stays)
event_grows w v (Open n) answer (inl made) = open_grows w v n answer (get w.sessions n) made
event_grows w v (Give n piece) answer (inl made) = give_grows w v n answer piece (get w.sessions n) refl made
event_grows w v (Step n) answer (inl made) = step_grows w v n answer (get w.sessions n) refl made
event_grows w v (GiveUp n) answer (inl made) = give_up_grows w v n answer (get w.sessions n) refl made
event_grows w v (Close n) answer (inl made) = close_grows w v n answer (get w.sessions n) made
event_grows w v (Deliver user envelope message terms) answer (inl made) = none_grows w.sessions v.sessions _ (ap (λ (x : World). x.sessions) made.2)
event_grows w v (AddUser name address salt password) answer (inl made) = none_grows w.sessions v.sessions _ (ap (λ (x : World). x.sessions) made.2)
event_grows w v (Import file) answer (inl made) = none_grows w.sessions v.sessions _ (ap (λ (x : World). x.sessions) made.2)
event_grows w v (TakeOut user id) answer (inl made) = none_grows w.sessions v.sessions _ (ap (λ (x : World). x.sessions) made.2)
event_grows w v (TakeMail user folder) answer (inl made) = none_grows w.sessions v.sessions _ (ap (λ (x : World). x.sessions) made.2)
event_grows w v (DoUpkeep user upkeep) answer (inl made) = none_grows w.sessions v.sessions _ (ap (λ (x : World). x.sessions) made.2)
