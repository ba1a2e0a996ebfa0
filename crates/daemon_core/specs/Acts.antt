-- What acts make of accounts and sessions, and what they say of one client of ManageSieve.
use Rattle.std.specs.Prelude.{◌≡◌, ◌⊎◌, ℕ, ◌==◌, Bool, true, false, cond, nat_lt, List, [], ◌∷◌, ◌++◌, if◌then◌else◌, Option, None, Some, option_map, IfSome}
use Rattle.std.specs.FinMap.{get}
use Rattle.store_accounts.specs.Account.{Accounts}
use Rattle.store_engine.specs.World.{World, Next}
use Rattle.store_engine.specs.declared.answer.Answer.{Answer}
use Rattle.store_engine.specs.declared.answer.Answer.TheVariants.{Ignored}
use Rattle.store_engine.specs.declared.event.Event.{Event}
use Rattle.store_engine.specs.declared.event.Event.TheVariants.{Open, Give, Close}
use Rattle.net_loop.specs.Talk.{is_same_id}
use Rattle.net_loop.specs.declared.act.Act.{Act}
use Rattle.net_loop.specs.declared.act.Act.TheVariants.{Timed, Late, Displaced, Worked, Came, Heard, Sent, Noted, Full, Ended}
use Rattle.daemon_core.specs.DaemonRules.{lmtp}
use Rattle.daemon_core.specs.StoreAccess.{DoneAt, AllDoneAt, FindsAt}
use Rattle.daemon_core.specs.Moves.{LetAt, MovedAt, takes_of, answers_of}
use Rattle.daemon_core.specs.Together.{events_told, answers_told}
use Rattle.daemon_core.specs.ClientStates.{is_out}
use Rattle.daemon_core.specs.Waiting.{Allows, waits_behind, said_with, session_greeting, idle}
use Rattle.daemon_core.specs.declared.note.Note.{Note}
use Rattle.daemon_core.specs.declared.note.Note.TheVariants.{Did, Freed, Asked, Moved, Delivered, Parted}
use Rattle.daemon_core.specs.declared.client_state.SessionWait.{SessionWait}
use Rattle.daemon_core.specs.declared.client_state.SessionWait.TheVariants as waits

-- ---- accounts and sessions: the machine of store_engine

-- what the daemon notes of a connection. What asks no store is the same whatever accounts there are, and changes none
abbrev pub LeadsBy : World → Note → World → Type 0
LeadsBy w (Did others event answer) v = DoneAt others event answer w v
LeadsBy w (Freed event answer) v =
    (v.accounts ≡ w.accounts) × ((accounts : Accounts) → Next (record w { accounts = accounts }) event answer (record v { accounts = accounts }))
LeadsBy w (Asked others user lookup) v = FindsAt others user lookup w v
LeadsBy w (Moved others moving) v = MovedAt others moving w v
LeadsBy w (Delivered others told) v = AllDoneAt others (events_told told) (answers_told told) w v
LeadsBy w (Parted others events) v = LetAt others w v
LeadsBy w _ v = v ≡ w

-- nobody is logged in there
abbrev pub IsUnauthenticated : World → ℕ → Type 0
IsUnauthenticated w id = IfSome (get w.sessions id) (λ c. c.user ≡ None)

-- memory was lacking for a connection: what follows says so at once, if something follows
abbrev pub LacksThen : ℕ → List (Act Note) → Type 0
LacksThen id [] = Unit {0}
LacksThen id (Full n ∷ more) = n ≡ id
LacksThen id (act ∷ more) = ⊥

-- an event of a connection was made, or memory was lacking for it
abbrev pub IsMadeOr : Answer → ℕ → List (Act Note) → Type 0
IsMadeOr answer id more = (is_out answer ≡ true) ⊎ LacksThen id more

-- the same of octets; or there is no such session: a client of LMTP has none
abbrev pub IsHeardOr : Answer → ℕ → List (Act Note) → Type 0
IsHeardOr answer id more = IsMadeOr answer id more ⊎ (answer ≡ Ignored)

-- who comes opens a session, a client of LMTP none
abbrev pub LeadsIn : Bool → World → ℕ → List (Act Note) → World → Type 0
LeadsIn true w id more v = v ≡ w
LeadsIn false w id more v = (answer : Answer) × IsMadeOr answer id more × Next w (Open id) answer v

-- who comes opens a session, what is heard is given to it, who goes closes it: each is an event, and none is passed over, except when
-- memory was lacking, and then that connection ends. Only who isn't logged in makes room. `more` follows
abbrev pub ActLeads : World → Act Note → List (Act Note) → World → Type 0
ActLeads w (Came id kind) more v = LeadsIn (kind == lmtp) w id more v
ActLeads w (Heard id piece) more v = (answer : Answer) × IsHeardOr answer id more × Next w (Give id piece) answer v
ActLeads w (Ended id) more v = (answer : Answer) × Next w (Close id) answer v
ActLeads w (Noted id note) more v = LeadsBy w note v
ActLeads w (Worked note) more v = LeadsBy w note v
ActLeads w (Displaced id) more v = (v ≡ w) × IsUnauthenticated w id
ActLeads w _ more v = v ≡ w

abbrev pub LeadsOn : World → List (Act Note) → World → Type 0
LeadsOn w [] v = v ≡ w
LeadsOn w (act ∷ acts) v = (mid : World) × ActLeads w act acts mid × LeadsOn mid acts v

-- the same, and no act changes an account
abbrev pub RestsOn : World → List (Act Note) → World → Type 0
RestsOn w [] v = v ≡ w
RestsOn w (act ∷ acts) v = (mid : World) × ActLeads w act acts mid × (mid.accounts ≡ w.accounts) × RestsOn mid acts v

-- the same as a list of events
abbrev pub events_by : Note → List Event
events_by (Did others event answer) = others ++ event ∷ []
events_by (Freed event answer) = event ∷ []
events_by (Asked others user lookup) = others
events_by (Moved others moving) = others ++ takes_of moving
events_by (Delivered others told) = others ++ events_told told
events_by (Parted others events) = others
events_by _ = []

abbrev pub opened_by : Bool → ℕ → List Event
opened_by true id = []
opened_by false id = Open id ∷ []

abbrev pub events_at : Act Note → List Event
events_at (Came id kind) = opened_by (kind == lmtp) id
events_at (Heard id piece) = Give id piece ∷ []
events_at (Ended id) = Close id ∷ []
events_at (Noted id note) = events_by note
events_at (Worked note) = events_by note
events_at _ = []

abbrev pub events_in : List (Act Note) → List Event
events_in [] = []
events_in (act ∷ acts) = events_at act ++ events_in acts

-- answers to them: those that are noted, and any to the others
abbrev pub AnswersBy : Note → List Answer → Type 0
AnswersBy (Did others event answer) told = (before : List Answer) × (told ≡ before ++ answer ∷ [])
AnswersBy (Freed event answer) told = told ≡ answer ∷ []
AnswersBy (Asked others user lookup) told = Unit {0}
AnswersBy (Moved others moving) told = (before : List Answer) × (told ≡ before ++ answers_of moving)
AnswersBy (Delivered others its) told = (before : List Answer) × (told ≡ before ++ answers_told its)
AnswersBy (Parted others events) told = Unit {0}
AnswersBy _ told = told ≡ []

abbrev pub AnswersAt : Act Note → List Answer → Type 0
AnswersAt (Noted id note) told = AnswersBy note told
AnswersAt (Worked note) told = AnswersBy note told
AnswersAt act told = Unit {0}

abbrev pub AnswersIn : List (Act Note) → List Answer → Type 0
AnswersIn [] told = told ≡ []
AnswersIn (act ∷ acts) told = (here : List Answer) × (later : List Answer) × (told ≡ here ++ later) × AnswersAt act here × AnswersIn acts later

-- ---- one client of ManageSieve, since it came

-- what it waits for, what its acts spell, and what was sent on it
pub record SessionLine : Type 0 where
  pub waits : SessionWait
  pub spelled : List ℕ
  pub sent : List ℕ

-- before it came
abbrev pub no_line : SessionLine
no_line = record { waits = waits.Nothing; spelled = []; sent = [] }

abbrev pub new_line : SessionLine
new_line = record { waits = waits.Nothing; spelled = session_greeting; sent = [] }

-- one that came; a client of LMTP has no such line
abbrev pub line_came : Bool → Option SessionLine
line_came true = None
line_came false = Some new_line

-- the latest moment that the clock showed
abbrev pub moment_after : ℕ → Act Note → ℕ
moment_after now (Timed moment) = if nat_lt now moment then moment else now
moment_after now _ = now

abbrev pub line_noted : ℕ → SessionLine → Note → SessionLine
line_noted now l note = record l { waits = waits_behind now l.waits note; spelled = l.spelled ++ said_with l.waits note }

-- it was late, or made room for another
abbrev pub idled : SessionLine → SessionLine
idled l = record l { spelled = l.spelled ++ idle }

-- what an act tells of it, at a moment; others' acts nothing
abbrev pub line_after_act : ℕ → ℕ → SessionLine → Act Note → SessionLine
line_after_act id now l (Noted n note) = cond (is_same_id n id) (line_noted now l note) l
line_after_act id now l (Late n) = cond (is_same_id n id) (idled l) l
line_after_act id now l (Displaced n) = cond (is_same_id n id) (idled l) l
line_after_act id now l (Sent n octets) = cond (is_same_id n id) (record l { sent = l.sent ++ octets }) l
line_after_act id now l _ = l

-- the same, once it came
abbrev pub tell_line : ℕ → ℕ → Option SessionLine → Act Note → Option SessionLine
tell_line id now o (Came n kind) = cond (is_same_id n id) (line_came (kind == lmtp)) o
tell_line id now o act = option_map (λ l. line_after_act id now l act) o

abbrev pub line_after_acts : ℕ → ℕ → Option SessionLine → List (Act Note) → Option SessionLine
line_after_acts id now o [] = o
line_after_acts id now o (act ∷ acts) = line_after_acts id (moment_after now act) (tell_line id now o act) acts

-- each note of it is one that it allows: its own items are stepped, each once, and given up only for a cause
abbrev pub IsRight : ℕ → ℕ → SessionLine → Act Note → Type 0
IsRight id now l (Noted n note) = cond (is_same_id n id) (Allows now l.waits id note) (Unit {0})
IsRight id now l act = Unit {0}

abbrev pub AreRight : ℕ → ℕ → Option SessionLine → List (Act Note) → Type 0
AreRight id now o [] = Unit {0}
AreRight id now o (act ∷ acts) = IfSome o (λ l. IsRight id now l act) × AreRight id (moment_after now act) (tell_line id now o act) acts
