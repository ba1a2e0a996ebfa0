-- One step of a client of LMTP, put together from what is told and known.
use Rattle.std.proofs.Common.{◌≡◌, ◌≤◌, ℕ, Bool, true, false, List, [], Some, None, IsTrue, inl, inr, refl, sym, ◌∙◌, ap, subst, arith}
use Rattle.lmtp_dialogue.specs.Receivers.{held_by}
use Rattle.lmtp_dialogue.specs.declared.receiver.Lookup.{Lookup}
use Rattle.store_engine.specs.declared.answer.Answer.{Answer}
use Rattle.store_engine.specs.declared.clients.Clients.{Clients}
use Rattle.lmtp_connections.specs.Connections.{LmtpStep, Answered, Declined, Asked, Away, Gathered, Brought}
use Rattle.lmtp_connections.specs.Stands.{ConnectionKeeps, ConnectionDoes, Demands, AsksIt, IsRequested, ConnectionHoldsNoMore}
use Rattle.lmtp_dialogue.specs.declared.recipient_reply.RecipientReply.{RecipientReply}
use Rattle.lmtp_connections.specs.declared.demand.Demand.TheVariants as demand
use Rattle.lmtp_connections.specs.declared.demand.DeliveryRequest.{DeliveryRequest}
use Rattle.lmtp_connections.specs.declared.demand.Question.{Question}
use Rattle.lmtp_connections.specs.declared.connection.LmtpConnection.{LmtpConnection}
use Rattle.net_loop.specs.declared.act.Act.TheVariants.{Noted}
use Rattle.net_loop.specs.Told.{Telling, TellsIf}
use Rattle.net_loop.specs.Rules.{step_at}
use Rattle.daemon_core.specs.Holds.{asked_at}
use Rattle.daemon_core.specs.LmtpSteps.{IsDeliveryReply, DoesOneIf, lmtp_moment}
use Rattle.daemon_core.specs.StoreAccess.{View, StoreFacts, access_state, FindsAccount, DeliversMessage, StillShowsIf, delivery_of}
use Rattle.daemon_core.specs.declared.daemon.Daemon.{Daemon}
use Rattle.daemon_core.specs.declared.daemon.Holding.{Holding}
use Rattle.daemon_core.specs.declared.note.Note.{Note}
use Rattle.store_engine.specs.Terms.{terms}
use Rattle.daemon_core.specs.declared.note.Note.TheVariants as note

-- a step behind what keeps the connection as it is
pub behind : (now : ℕ) (lmtp_step : LmtpStep) (said : List ℕ) (before mid after : LmtpConnection) → ConnectionKeeps before mid → ConnectionDoes now lmtp_step said mid after → ConnectionDoes now lmtp_step said before after
behind now lmtp_step said before mid after keeps does = λ p stands. does p (keeps p stands)

pub keeps_then : (before mid after : LmtpConnection) → ConnectionKeeps before mid → ConnectionKeeps mid after → ConnectionKeeps before after
keeps_then before mid after one two = λ p stands. two p (one p stands)

-- no more is held behind it
pub less_behind : (before mid after : LmtpConnection) → mid.receiver ≡ before.receiver → ConnectionHoldsNoMore mid after → ConnectionHoldsNoMore before after
less_behind before mid after same less = subst (λ r. held_by after.receiver ≤ held_by r) same less

pub less_then : (before mid after : LmtpConnection) → ConnectionHoldsNoMore before mid → ConnectionHoldsNoMore mid after → ConnectionHoldsNoMore before after
less_then before mid after one two = omega (arith, one, two)

-- the store is asked for an account, or for a delivery
pub asks_account : (now : ℕ) (c : LmtpConnection) (question : Question) → Demands now c (demand.Account question) → AsksIt now c
asks_account now c question asked = λ p stands. let a = asked p stands in (a.0, inl (question.address, question.user, a.1.0, a.1.1))

pub asks_delivery : (now : ℕ) (c : LmtpConnection) (request : DeliveryRequest) → IsRequested now c request → AsksIt now c
asks_delivery now c request asked = λ p stands.
    let a = asked p stands in (a.0, inr (a.1.0, a.1.1, a.1.2, request.sender, a.1.3, record { is = a.1.4.is; new = a.1.4.new }))

-- its message is gathered, and it stays as it is
pub gathers : (now : ℕ) (c : LmtpConnection) → Demands now c demand.Delivery → ConnectionDoes now Gathered [] c c
gathers now c asked = λ p stands. let a = asked p stands in (p, (a.0, a.1, refl, refl), stands)

-- only a MAIL that is refused is so for lack of room
abbrev is_declined : LmtpStep → Bool
is_declined (Declined size) = true
is_declined lmtp_step = false

other_step : (room size : ℕ) (lmtp_step : LmtpStep) → is_declined lmtp_step ≡ false → lmtp_step ≡ Declined size → size ≡ room
other_step room size lmtp_step other is = absurd (let never : true ≡ false = sym (ap is_declined is) ∙ other in cc)

abbrev size_of : LmtpStep → ℕ
size_of (Declined size) = size
size_of lmtp_step = 0

module _ {O R : Type 0} (told : Telling O Note R) (store : StoreFacts O R) (sure : (o : O) → IsTrue (told.tells o) → store.clean (told.rest o))
    (o p : O) (d : Daemon) (c : Clients) (now id : ℕ) (said : List ℕ) (before after : LmtpConnection) (room : ℕ) (less : ConnectionHoldsNoMore before after) where
  abbrev One : Daemon → Type 0
  One e = DoesOneIf told store.view room (lmtp_moment o d before) (step_at now id said) (lmtp_moment p e after)

  pub answered : ConnectionDoes now Answered said before after → TellsIf told o (Noted id note.Answered) p → StillShowsIf told store.view o p → One d
  answered does noted still = λ tell. (
    note.Answered,
    noted tell,
    record { lmtp_step = Answered; is = inl refl; does = does; spare = λ size. other_step room size Answered refl; held = less; stores = record { shown = still tell; kept = λ clients has. has }; states = refl; holding = refl },
  )

  -- a MAIL was refused that announces more than there is room for
  pub declined : ConnectionDoes now (Declined room) said before after → TellsIf told o (Noted id note.Answered) p → StillShowsIf told store.view o p → One d
  declined does noted still = λ tell. (
    note.Answered,
    noted tell,
    record {
      lmtp_step = Declined room;
      is = inr (room, refl);
      does = does;
      spare = λ size is. sym (ap size_of is);
      held = less;
      stores = record { shown = still tell; kept = λ clients has. has };
      states = refl;
      holding = refl;
    },
  )

  pub gathered : ConnectionDoes now Gathered said before after → TellsIf told o (Noted id note.Gathered) p → StillShowsIf told store.view o p → One d
  gathered does noted still = λ tell. (
    note.Gathered,
    noted tell,
    record { lmtp_step = Gathered; is = refl; does = does; spare = λ size. other_step room size Gathered refl; held = less; stores = record { shown = still tell; kept = λ clients has. has }; states = refl; holding = refl },
  )

  pub asked : (user : List ℕ) (lookup : Lookup) → FindsAccount told store id user (access_state o d.clients.sessions) (Some lookup) (access_state p c.sessions) → ConnectionDoes now (Asked user lookup) said before after
      → (h : Holding) → h ≡ asked_at now d.holding → One (record d { clients = c; holding = h })
  asked user lookup looks does h had = λ tell. (
    note.Asked looks.0 user lookup,
    looks.2 tell,
    record { lmtp_step = Asked user lookup; is = refl; does = does; spare = λ size. other_step room size (Asked user lookup) refl; held = less; stores = looks.1 (sure p tell); states = refl; holding = had },
  )

  pub unasked : (user : List ℕ) → FindsAccount told store id user (access_state o d.clients.sessions) None (access_state p c.sessions) → ConnectionDoes now Away said before after → One (record d { clients = c })
  unasked user looks does = λ tell. (
    note.Away,
    looks.1 tell,
    record { lmtp_step = Away; is = refl; does = does; spare = λ size. other_step room size Away refl; held = less; stores = looks.0 (sure p tell); states = refl; holding = refl },
  )

  pub answer_delivery : (request : DeliveryRequest) (answer : Answer) (became : RecipientReply) → DeliversMessage told store id request (access_state o d.clients.sessions) (Some answer) (access_state p c.sessions) → IsDeliveryReply request.sender answer became
      → ConnectionDoes now (Brought request became) said before after → (h : Holding) → h ≡ asked_at now d.holding → One (record d { clients = c; holding = h })
  answer_delivery request answer became delivers is does h had = λ tell. (
    note.Did delivers.2.0 (delivery_of request (terms delivers.0 (store.host o))) answer,
    delivers.2.2 tell,
    record { lmtp_step = Brought request became; is = (request, terms delivers.0 (store.host o), became, refl, is, refl); does = does; spare = λ size. other_step room size (Brought request became) refl; held = less; stores = delivers.2.1 (sure p tell); states = refl; holding = had },
  )

  pub unbrought : (request : DeliveryRequest) → DeliversMessage told store id request (access_state o d.clients.sessions) None (access_state p c.sessions) → ConnectionDoes now Away said before after → One (record d { clients = c })
  unbrought request delivers does = λ tell. (
    note.Away,
    delivers.2.1 tell,
    record { lmtp_step = Away; is = refl; does = does; spare = λ size. other_step room size Away refl; held = less; stores = delivers.2.0 (sure p tell); states = refl; holding = refl },
  )

-- one step of a connection that is as it was
pub one_behind : {O R : Type 0} (told : Telling O Note R) (view : View R) (o p : O) (d e : Daemon) (before mid after : LmtpConnection) (now id : ℕ) (said : List ℕ) (room : ℕ)
    → ConnectionKeeps before mid → mid.receiver ≡ before.receiver → DoesOneIf told view room (lmtp_moment o d mid) (step_at now id said) (lmtp_moment p e after) → DoesOneIf told view room (lmtp_moment o d before) (step_at now id said) (lmtp_moment p e after)
one_behind told view o p d e before mid after now id said room keeps same one = λ tell.
    let s = one tell in (
      s.0,
      s.1,
      record {
        lmtp_step = s.2.lmtp_step;
        is = s.2.is;
        does = behind now s.2.lmtp_step said before mid after keeps s.2.does;
        spare = s.2.spare;
        held = less_behind before mid after same s.2.held;
        stores = s.2.stores;
        states = s.2.states;
        holding = s.2.holding;
      },
    )
