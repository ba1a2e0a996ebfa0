-- The definitions of own acts and of spacing on small cases: one that is right, and one that nearly is.
use Rattle.std.proofs.Common.{◌≡◌, ℕ, Bool, true, false, cond, List, [], ◌∷◌, codes, Some, None, refl, sym, ap, ◌∙◌, arith}
use Rattle.std.proofs.lemmas.Cmp.{nat_list_cmp_total}
use Rattle.std.specs.FinMap.{empty, get, get-remove}
use Rattle.sieve_vacation.specs.Handles.{Named}
use Rattle.store_accounts.specs.Account.{Account, deletes_script}
use Rattle.store_accounts.specs.declared.refusal.Refusal.TheVariants.{Memory, NoUser}
use Rattle.managesieve_protocol.specs.declared.commands.ClientCommand.TheVariants.{ListScripts, Noop, PutScript}
use Rattle.managesieve_sessions.specs.Clients.{Client, new_client}
use Rattle.managesieve_sessions.specs.Replies.{is_ok}
use Rattle.managesieve_sessions.specs.Scripts.{carried_out}
use Rattle.store_engine.specs.declared.event.Event.TheVariants.{TakeOut}
use Rattle.store_engine.specs.declared.answer.Answer.TheVariants.{Refused}
use Rattle.store_engine.specs.OwnActs as own
use Rattle.store_engine.specs.OwnActs.{UserAct, ActsAlone, ActsInTurn, acts_in, command_acts}
use Rattle.store_engine.specs.Spacing.{SentReply, Thread, AreSpaced, kept_in}
use Rattle.store_engine.specs.World.{World}
use Rattle.store_engine.proofs.ActLaws.{alone_ends}

-- ---- spacing

to_bob : Thread
to_bob = record { user = codes "alice"; handle = Named (codes "h"); sender = codes "bob@example.net" }

entry_at : ℕ → SentReply
unfolding to_bob
entry_at moment = record { thread = to_bob; moment = moment; period = 604800 }

-- a week apart
a_week : AreSpaced (entry_at 1700000000 ∷ (entry_at 1700604800 ∷ []))
unfolding entry_at
a_week = (((λ same. omega arith), tt), (tt, tt))

-- a second less
a_second_less : AreSpaced (entry_at 1700000000 ∷ (entry_at 1700604799 ∷ [])) → ⊥
unfolding entry_at
a_second_less is = let late = is.0.0 refl in absurd (omega arith)

-- ---- acts

-- a login where there is no account fails, and doesn't succeed
unknown_fails : ActsAlone (codes "carol") None (own.LogsIn (codes "secret") false) None
unknown_fails = record { says = refl; stays = refl }

unknown_succeeds : ActsAlone (codes "carol") None (own.LogsIn (codes "secret") true) None → ⊥
unknown_succeeds is = let never : true ≡ false = is.says in cc

-- a row is taken out of no queue: that is an act; refused for memory it isn't one
none_there : World
none_there = record { accounts = empty; sessions = empty }

taken_from_none : acts_in (codes "carol") none_there (TakeOut (codes "carol") 1) (Refused NoUser) ≡ own.TakesOut 1 (Refused NoUser) ∷ []
taken_from_none = refl

taken_by_another : acts_in (codes "carol") none_there (TakeOut (codes "alice") 1) (Refused NoUser) ≡ []
taken_by_another = refl

taken_without_memory : acts_in (codes "carol") none_there (TakeOut (codes "carol") 1) (Refused Memory) ≡ []
taken_without_memory = refl

-- a command is an act of the user who is logged in, and of no other; one that needs no login is nobody's
alices : Client
alices = record new_client { user = Some (codes "alice") }

listed_by_alice : command_acts (codes "alice") alices ListScripts [] ≡ own.Commands ListScripts [] ∷ []
unfolding alices
listed_by_alice = refl

listed_by_bob : command_acts (codes "bob") alices ListScripts [] ≡ []
unfolding alices
listed_by_bob = refl

noop_by_alice : command_acts (codes "alice") alices (Noop None) [] ≡ []
unfolding alices
noop_by_alice = refl

-- ---- what a user alone can't see, whatever the table of events says

-- a script goes by another user's command: the user did nothing
deleted_by_another : (a : Account) (text : List ℕ) → get a.scripts (codes "away") ≡ Some text → ActsInTurn (codes "carol") (Some a) [] (Some (deletes_script (codes "away") a)) → ⊥
deleted_by_another a text has is =
    let same : deletes_script (codes "away") a ≡ a = cc in
    let no : None ≡ Some text = sym (get-remove nat_list_cmp_total a.scripts (codes "away") (codes "away")) ∙ (ap (λ b. get b.scripts (codes "away")) same ∙ has) in
    cc

-- a row of the queue gets one number, whatever numbers other users' rows have
one_number : (act : UserAct) (a one two : Account) → ActsAlone (codes "carol") (Some a) act (Some one) → ActsAlone (codes "carol") (Some a) act (Some two) → one.next_out ≡ two.next_out
one_number act a one two is was =
    let ends : Some one ≡ Some two = alone_ends (codes "carol") (act ∷ []) (Some a) (Some one) (Some two) (Some one, is, refl) (Some two, was, refl) in
    let same : one ≡ two = cc in
    ap (λ b. b.next_out) same

-- a script that is stored makes the account forget the moment of an answer
answer_forgotten : (a later : Account) (name text octets : List ℕ) (last : ℕ) → kept_in (Some a) to_bob ≡ Some last → kept_in (Some later) to_bob ≡ None
    → ActsAlone (codes "alice") (Some a) (own.Commands (PutScript name text) octets) (Some later) → ⊥
answer_forgotten a later name text octets last has none is =
    let no : None ≡ Some last = sym none ∙ (ap (λ o. kept_in o to_bob) is.changed ∙ (put (is_ok is.reply.word) ∙ has)) in
    cc
  where
    put : (ok : Bool) → kept_in (Some (cond ok (carried_out (PutScript name text) a) a)) to_bob ≡ kept_in (Some a) to_bob
    put true = refl
    put false = refl
