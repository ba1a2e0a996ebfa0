-- What the daemon writes of what happened, a line each.
use Rattle.std.specs.Prelude.{◌≡◌, ℕ, Bool, true, false, if◌then◌else◌, List, [], ◌∷◌, ◌++◌, length, map, Option, Some, None, codes, decimal}
use Rattle.std.specs.List.{flat_map}
use Rattle.daemon_log.specs.Lines.{Pair, pair, log_line_of}
use Rattle.store_engine.specs.declared.answer.Answer.{Answer}
use Rattle.store_engine.specs.declared.answer.Answer.TheVariants.{Delivered, MailTaken, Refused}
use Rattle.maildir_moves.specs.declared.moving.Moving.{Moving}
use Rattle.maildir_moves.specs.declared.moving.Moving.TheVariants.{Stays, Kept, Failed}
use Rattle.maildir_moves.specs.declared.moving.Stay.{Stay}
use Rattle.maildir_moves.specs.declared.moving.StayReason.{StayReason}
use Rattle.maildir_moves.specs.declared.moving.StayReason.TheVariants.{Name, Gone, Store as InStore, Sink as InSink}
use Rattle.lmtp_connections.specs.declared.demand.DeliveryRequest.{DeliveryRequest}
use Rattle.maildir_moves.specs.declared.batch.MailBatch.{MailBatch}
use Rattle.store_accounts.specs.declared.taking.NumberedMessage.{NumberedMessage}
use Rattle.maildir_files.specs.declared.sink.SinkError.TheVariants.{Memory as NoMemory}
use Rattle.daemon_host.specs.MessageIds.{logged_id}
use Rattle.store_accounts.specs.declared.report.Report.{Report}
use Rattle.store_accounts.specs.declared.report.VacationReport.{VacationReport}
use Rattle.store_accounts.specs.declared.report.VacationReport.TheVariants.{None as NoVacation, Sent, Quiet}
use Rattle.store_accounts.specs.declared.refusal.Refusal.{Refusal}
use Rattle.store_accounts.specs.declared.refusal.Refusal.TheVariants.{Memory, Store, NoUser, TooLarge, BadEnvelope}

-- ---- a message that was to be delivered

abbrev pub delivery_word : Answer → List ℕ
delivery_word (Delivered report) = codes "delivered"
delivery_word _ = codes "refused"

abbrev pub why_by : Refusal → List ℕ
why_by NoUser = codes "user"
why_by TooLarge = codes "size"
why_by BadEnvelope = codes "address"
why_by Memory = codes "memory"
why_by _ = codes "store"

-- the name that a message gives itself, if it does
abbrev pub id_pairs : Option (List ℕ) → List Pair
id_pairs (Some id) = pair (codes "id") id ∷ []
id_pairs None = []

-- what was done about a reply: that one was sent, or the rule that forbade it
abbrev pub vacation_pairs : VacationReport → List Pair
vacation_pairs NoVacation = []
vacation_pairs Sent = pair (codes "vacation") (codes "sent") ∷ []
vacation_pairs (Quiet reason) = pair (codes "quiet") (decimal reason) ∷ []

abbrev pub notice_pairs : Option (List ℕ) → List Pair
notice_pairs (Some notice) = pair (codes "notice") notice ∷ []
notice_pairs None = []

-- where a message went: its folders, the addresses that it goes on to, the reply and the notice, in this order
abbrev pub report_pairs : Report → List Pair
report_pairs report =
    map (pair (codes "folder")) report.filed ++ (map (pair (codes "redirect")) report.sent ++ (vacation_pairs report.vacation ++ notice_pairs report.notice))

-- what became of it: where it went, or why it was refused
abbrev pub fate_pairs : Answer → List Pair
fate_pairs (Delivered report) = report_pairs report
fate_pairs (Refused refusal) = pair (codes "why") (why_by refusal) ∷ []
fate_pairs _ = []

abbrev pub delivery_line : DeliveryRequest → Answer → List ℕ
delivery_line request answer =
    log_line_of (delivery_word answer)
    (pair (codes "user") request.user ∷ pair (codes "from") request.sender ∷ pair (codes "to") request.recipient ∷ (id_pairs (logged_id request.message) ++ fate_pairs answer))

-- ---- a login

abbrev pub login_line : List ℕ → List ℕ
login_line user = log_line_of (codes "login") (pair (codes "user") user ∷ [])

-- ---- what took long

abbrev pub user_pairs : Option (List ℕ) → List Pair
user_pairs (Some user) = pair (codes "user") user ∷ []
user_pairs None = []

abbrev pub slow_line : List ℕ → Option (List ℕ) → ℕ → List ℕ
slow_line what user millis = log_line_of (codes "slow") (pair (codes "what") what ∷ (user_pairs user ++ pair (codes "ms") (decimal millis) ∷ []))

-- whether it was filed
abbrev pub is_delivered_answer : Answer → Bool
is_delivered_answer (Delivered report) = true
is_delivered_answer _ = false

-- ---- messages that move on

abbrev pub moved_line : List ℕ → List ℕ → NumberedMessage → List ℕ
moved_line user folder mail =
    log_line_of (codes "moved")
    (pair (codes "user") user ∷ pair (codes "folder") folder ∷ pair (codes "number") (decimal mail.number) ∷ id_pairs (logged_id mail.message))

-- a line for each
abbrev pub moved_lines : MailBatch → List ℕ
moved_lines batch = flat_map (moved_line batch.user batch.folder) batch.mails

abbrev pub stay_line : List ℕ → List ℕ → List ℕ → List ℕ
stay_line user folder why = log_line_of (codes "stays") (pair (codes "user") user ∷ pair (codes "folder") folder ∷ pair (codes "why") why ∷ [])

-- why it stays; of a fault of the sink that isn't memory any text
abbrev pub IsWhy : StayReason → List ℕ → Type 0
IsWhy Name why = why ≡ codes "name"
IsWhy Gone why = why ≡ codes "gone"
IsWhy (InStore Memory) why = why ≡ codes "memory"
IsWhy (InStore refusal) why = why ≡ codes "store"
IsWhy (InSink NoMemory) why = why ≡ codes "memory"
IsWhy (InSink error) why = Unit {0}

-- that one stays, and why
abbrev pub IsStayLine : Stay → List ℕ → Type 0
IsStayLine stay line = (why : List ℕ) × IsWhy stay.why why × (line ≡ stay_line stay.user stay.folder why)

-- how many moved
abbrev pub moved_count : Moving → ℕ
moved_count (Kept batch MailTaken) = length batch.mails
moved_count _ = 0

-- whether the store failed
abbrev pub is_store_fault : Refusal → Bool
is_store_fault Store = true
is_store_fault _ = false

abbrev pub is_fault_of_store : StayReason → Bool
is_fault_of_store (InStore refusal) = is_store_fault refusal
is_fault_of_store why = false

abbrev pub moving_failed_store : Moving → Bool
moving_failed_store (Failed refusal) = is_store_fault refusal
moving_failed_store (Kept batch (Refused refusal)) = is_store_fault refusal
moving_failed_store (Stays stay) = is_fault_of_store stay.why
moving_failed_store _ = false

-- that is told once, if its folder hadn't failed before
abbrev pub IsStayBy : Bool → Stay → List ℕ → Type 0
IsStayBy true stay line = IsStayLine stay line
IsStayBy false stay line = line ≡ []

-- those that moved are told of unless it is quiet, those that were kept and not taken out always, one that stays at its folder's first
-- failure, any other not
abbrev pub IsMovingLine : Moving → Bool → List ℕ → Type 0
IsMovingLine (Kept batch MailTaken) quiet line = line ≡ (if quiet then [] else moved_lines batch)
IsMovingLine (Kept batch _) quiet line = line ≡ stay_line batch.user batch.folder (codes "store")
IsMovingLine (Stays stay) quiet line = IsStayBy stay.is_first stay line
IsMovingLine _ quiet line = line ≡ []

-- ---- the first line

abbrev pub log_first_line : List ℕ → ℕ → List ℕ
log_first_line version pid = log_line_of (codes "begins") (pair (codes "version") version ∷ pair (codes "pid") (decimal pid) ∷ [])
