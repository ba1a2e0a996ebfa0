-- What becomes of the connections whose messages one act delivers.
use Rattle.std.specs.Prelude.{◌≡◌, ℕ, List, [], map, Option}
use Rattle.lmtp_connections.specs.declared.connection.LmtpConnection.{LmtpConnection}
use Rattle.store_engine.specs.declared.answer.Answer.{Answer}
use Rattle.store_engine.specs.declared.terms.Terms.{Terms}
use Rattle.daemon_core.specs.LmtpSteps.{StepsOne, StepsEach, note_of}
use Rattle.daemon_core.specs.MailRules.{ChangesLmtpConnection, lmtp_connection_at, SameHost}
use Rattle.daemon_core.specs.StoreAccess.{delivery_of}
use Rattle.daemon_core.specs.Together.{deliveries_told, ids_of}
use Rattle.daemon_core.specs.declared.gathered.GatheredRequest.{GatheredRequest}
use Rattle.daemon_core.specs.declared.mail.MailDaemon.{MailDaemon}
use Rattle.daemon_core.specs.declared.note.Note.TheVariants.{Did, Away}

-- of clients of LMTP something changes, and of the daemon beside them nothing
pub record ChangesClients (d e : MailDaemon) : Type 0 where
  pub daemon : e.daemon ≡ d.daemon
  pub host : SameHost d e

-- of the clients of LMTP it changes one alone
abbrev pub ChangesOne : ℕ → MailDaemon → MailDaemon → Type 0
ChangesOne id d e = (later : Option LmtpConnection) × ChangesLmtpConnection d id later e

-- what became of the message is noted at its connection, whatever the terms were
abbrev pub NotesOne : ℕ → GatheredRequest → Answer → MailDaemon → MailDaemon → Type 0
NotesOne now it answer d e = (terms : Terms) → StepsOne now it.id (Did [] (delivery_of it.request terms) answer) (lmtp_connection_at d) (lmtp_connection_at e)

-- the same of the first of these, by these answers
abbrev pub NotesEach : ℕ → List GatheredRequest → List Answer → MailDaemon → MailDaemon → Type 0
NotesEach now requests answers d e = (terms : Terms) → StepsEach now (map note_of (deliveries_told terms requests answers)) (lmtp_connection_at d) (lmtp_connection_at e)

-- the store is awaited for its message
abbrev pub AwaitsOne : ℕ → GatheredRequest → MailDaemon → MailDaemon → Type 0
AwaitsOne now it d e = StepsOne now it.id Away (lmtp_connection_at d) (lmtp_connection_at e)

-- the same of each
abbrev pub AwaitsEach : ℕ → List GatheredRequest → MailDaemon → MailDaemon → Type 0
AwaitsEach now requests d e = StepsEach now (map (λ id. (id, Away)) (ids_of requests)) (lmtp_connection_at d) (lmtp_connection_at e)
