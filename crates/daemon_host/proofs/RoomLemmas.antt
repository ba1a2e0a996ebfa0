-- A delivery that the store refused may be one that memory lacked for: neither has a visible cause, and nothing changes.
use Rattle.std.proofs.Common.{◌≡◌, ℕ, List, [], Bool, true, false, cond, Option, Some, None, refl, sym, ◌∙◌, ap, subst, inl, inr}
use Rattle.std.specs.FinMap.{get}
use Rattle.store_accounts.specs.Account.{Account, Accounts, open_account_of, is_removed}
use Rattle.store_accounts.specs.declared.refusal.Refusal.{Refusal}
use Rattle.store_accounts.specs.declared.refusal.Refusal.TheVariants.{Memory, Store, NoUser, AccountClosed, TooLarge, BadEnvelope, BadMoment}
use Rattle.sieve_exec.specs.declared.envelope.Envelope.{Envelope}
use Rattle.sqlite.specs.declared.error.ErrorCode.{ErrorCode}
use Rattle.store_engine.specs.AccountEvents.{absence, DeliversIn, DeliversUnder}
use Rattle.store_engine.specs.Hosts.{SessionMap}
use Rattle.store_engine.specs.Limits.{limit_refusal}
use Rattle.store_engine.specs.World.{World, Next, MayRefuseEvent}
use Rattle.store_engine.specs.declared.answer.Answer.{Answer}
use Rattle.store_engine.specs.declared.answer.Answer.TheVariants.{Refused}
use Rattle.store_engine.specs.declared.event.Event.TheVariants.{Deliver}
use Rattle.lmtp_connections.specs.declared.demand.DeliveryRequest.{DeliveryRequest}
use Rattle.daemon_core.specs.StoreAccess.{View, IsEventDone, delivery_of}
use Rattle.daemon_host.specs.Events.{is_full}
use Rattle.daemon_host.specs.Held.{lacking, answer_told, IsToldAs}
use Rattle.store_engine.specs.declared.terms.Terms.{Terms}

-- no cause that is seen is the store's
abbrev is_seen : Refusal → Bool
is_seen Store = false
is_seen other = true

of_store : {C : Type 0} (refusal : Refusal) → is_seen refusal ≡ true → Refused Store ≡ Refused refusal → C
of_store refusal seen is = let same : Store ≡ refusal = cc in let never : false ≡ true = ap is_seen same ∙ seen in let no : ⊥ = cc in absurd no

seen_by : (b : Bool) (o : Option Refusal) (r : Refusal) → is_seen r ≡ true → ((e : Refusal) → o ≡ Some e → is_seen e ≡ true) → (e : Refusal) → cond b (Some r) o ≡ Some e → is_seen e ≡ true
seen_by true o r seen more e is = let same : r ≡ e = cc in subst (λ x. is_seen x ≡ true) same seen
seen_by false o r seen more e is = more e is

limit_seen : (envelope : Envelope) (message : List ℕ) (moment : ℕ) (e : Refusal) → limit_refusal envelope message moment ≡ Some e → is_seen e ≡ true
limit_seen envelope message moment =
    seen_by _ _ TooLarge refl (seen_by _ _ BadEnvelope refl (seen_by _ None BadMoment refl (λ e is. let never : ⊥ = cc in absurd never)))

absence_seen : (o : Option Account) → is_seen (absence o) ≡ true
absence_seen None = refl
absence_seen (Some a) = by_removed (is_removed a)
  where
    by_removed : (b : Bool) → is_seen (cond b NoUser AccountClosed) ≡ true
    by_removed true = refl
    by_removed false = refl

module _ (accounts later : Accounts) (user : List ℕ) (terms : Terms) (envelope : Envelope) (message : List ℕ) {C : Type 0} where
  never_in : (o : Option Account) → DeliversIn accounts user terms envelope message o (Refused Store) later → C
  never_in None it = of_store (absence (get accounts user)) (absence_seen (get accounts user)) it.refused
  never_in (Some a) it = let is = it.reported in let no : ⊥ = cc in absurd no

  never_under : (o : Option Refusal) → ((e : Refusal) → o ≡ Some e → is_seen e ≡ true) → DeliversUnder o accounts user terms envelope message (Refused Store) later → C
  never_under None seen it = never_in (open_account_of accounts user) it
  never_under (Some e) seen it = of_store e (seen e refl) it.refused

lacks_next : (w next : World) (user : List ℕ) (terms : Terms) (envelope : Envelope) (message : List ℕ) → Next w (Deliver user envelope message terms) (Refused Store) next → Next w (Deliver user envelope message terms) (Refused Memory) next
lacks_next w next user terms envelope message (inl made) = never_under w.accounts made.0 user terms envelope message (limit_refusal envelope message terms.when.moment) (limit_seen envelope message terms.when.moment) made.1
lacks_next w next user terms envelope message (inr refused) =
    let same : refused.refusal ≡ Store = let is = refused.refused in cc in
    inr (record { refusal = Memory; may = subst (λ r. MayRefuseEvent w (Deliver user envelope message terms) r) same refused.may; refused = refl; stays = refused.stays })

-- so what is told of it is an answer to the same event
lacking_done : {R : Type 0} (view : View R) (request : DeliveryRequest) (terms : Terms) (r q : R) (kept : SessionMap) → IsEventDone view [] (delivery_of request terms) (Refused Store) r kept q kept → IsEventDone view [] (delivery_of request terms) (Refused Memory) r kept q kept
lacking_done view request terms r q kept done = λ w at.
    let it = done w at in
    let own : Envelope = record { from = request.sender; to = request.recipient } in (
      it.0,
      record {
        strangers = it.1.strangers;
        told = it.1.told;
        between = it.1.between;
        theirs = it.1.theirs;
        apart = it.1.apart;
        ours = lacks_next it.1.between it.0 request.user terms own request.message it.1.ours;
      },
      record { is = it.2.is; left = it.2.left },
    )

refused_done : {R : Type 0} (view : View R) (request : DeliveryRequest) (terms : Terms) (refusal : Refusal) (r q : R) (kept : SessionMap) → IsEventDone view [] (delivery_of request terms) (Refused refusal) r kept q kept
    → IsEventDone view [] (delivery_of request terms) (lacking (Refused refusal)) r kept q kept
refused_done view request terms Store r q kept done = lacking_done view request terms r q kept done
refused_done view request terms _ r q kept done = done

lacking_by : {R : Type 0} (view : View R) (request : DeliveryRequest) (terms : Terms) (answer : Answer) (r q : R) (kept : SessionMap) → IsEventDone view [] (delivery_of request terms) answer r kept q kept → IsEventDone view [] (delivery_of request terms) (lacking answer) r kept q kept
lacking_by view request terms (Refused refusal) r q kept done = refused_done view request terms refusal r q kept done
lacking_by view request terms _ r q kept done = done

told_so : {R : Type 0} (view : View R) (request : DeliveryRequest) (terms : Terms) (full : Bool) (answer : Answer) (r q : R) (kept : SessionMap) → IsEventDone view [] (delivery_of request terms) answer r kept q kept
    → IsEventDone view [] (delivery_of request terms) (answer_told full answer) r kept q kept
told_so view request terms true answer r q kept done = lacking_by view request terms answer r q kept done
told_so view request terms false answer r q kept done = done

pub told_done : {R : Type 0} (view : View R) (request : DeliveryRequest) (terms : Terms) (answer told : Answer) (code : Option ErrorCode) (r q : R) (kept : SessionMap) → IsToldAs answer code told
    → IsEventDone view [] (delivery_of request terms) answer r kept q kept → IsEventDone view [] (delivery_of request terms) told r kept q kept
told_done view request terms answer told code r q kept is done =
    subst (λ a. IsEventDone view [] (delivery_of request terms) a r kept q kept) (sym is) (told_so view request terms (is_full code) answer r q kept done)
