-- From the moves of a life to its headline.
use Rattle.std.proofs.Common.{◌≡◌, ℕ, ◌==◌, Bool, true, false, List, [], ◌∷◌, ◌++◌, Option, Some, None, IfSome, refl, sym, ◌∙◌, ap, subst, arith}
use Rattle.std.specs.Ordering.{nat_cmp}
use Rattle.std.specs.BTreeMap as tree
use Rattle.std.specs.Map.{lookup}
use Rattle.sqlite_trees.specs.Tree.{Trees}
use Rattle.lmtp_dialogue.specs.declared.name.Names.{Names}
use Rattle.store_accounts.specs.Account.{Accounts}
use Rattle.store_accounts.specs.Shows.{ShowsIn}
use Rattle.std.proofs.lemmas.List.{append-nil}
use Rattle.store_engine.specs.World.{World, Next, Runs}
use Rattle.maildir_moves.specs.declared.moving.Moving.{Moving}
use Rattle.maildir_moves.specs.declared.moving.Moving.TheVariants as moving
use Rattle.store_engine.specs.declared.answer.Answer.{Answer}
use Rattle.store_engine.specs.declared.event.Event.{Event}
use Rattle.store_engine.specs.declared.event.Event.TheVariants.{Open, Give, Close, TakeMail}
use Rattle.store_engine.proofs.AloneLemmas.{projection}
use Rattle.store_engine.proofs.SoundLemmas.{runs_sound}
use Rattle.store_engine.proofs.SpacingLemmas.{spacing}
use Rattle.net_loop.specs.declared.act.Act.{Act}
use Rattle.net_loop.specs.declared.act.Act.TheVariants.{Displaced, Came, Heard, Noted, Worked, Full, Ended}
use Rattle.net_loop.specs.declared.turn.Turn.TheVariants.{OutOfMemory}
use Rattle.net_loop.specs.Life.{Move, acts_of, PassesMoves, Fresh, IsPrefixOf}
use Rattle.net_loop.specs.Moves.{Moment, LoopMoves}
use Rattle.net_loop.specs.Talk.{client_of}
use Rattle.daemon_core.specs.Acts.{SessionLine, no_line, LeadsBy, LacksThen, LeadsIn, ActLeads, LeadsOn, opened_by, events_by, events_at, events_in, AnswersBy, AnswersAt, AnswersIn, moment_after, tell_line, line_after_acts, IsRight, AreRight}
use Rattle.daemon_core.specs.DaemonRules.{lmtp, client_state_at}
use Rattle.daemon_core.specs.StoreAccess.{View, IsWorld}
use Rattle.daemon_core.specs.Together.{events_told, answers_told}
use Rattle.daemon_core.specs.Headline.{world_of, HoldsAfter, Headline, IsNewDaemon}
use Rattle.daemon_core.specs.Holding.{firm_client, firm_connection, firm_at, IsBounded}
use Rattle.daemon_core.specs.MailActs.{MailLine, LmtpTells, TellsOn}
use Rattle.daemon_core.specs.MailRules.{mail_rules, lmtp_connection_at}
use Rattle.daemon_core.specs.ClientStates.{client_at}
use Rattle.daemon_core.specs.Moves.{LetAt, MovedAt, takes_by, answers_by, takes_of, answers_of}
use Rattle.daemon_core.specs.declared.mail.MailDaemon.{MailDaemon}
use Rattle.daemon_core.specs.declared.note.Note.{Note}
use Rattle.daemon_core.specs.declared.note.Note.TheVariants.{Did, Away, Freed, Spoke, Answered, Asked, Looked, Moved, Gathered, Delivered, Parted, PutOff}
use Rattle.daemon_core.proofs.EventLemmas.{runs_then, runs_one, none_open}
use Rattle.daemon_core.proofs.HoldingLemmas.{grown, bounded_then}
use Rattle.daemon_core.proofs.LeadLemmas.{Led, leads}
use Rattle.daemon_core.proofs.TriedLemmas.{LeavesOn, left_on, left_here, is_left}
use Rattle.daemon_core.proofs.LineLemmas.{TiedBy, moment_is, tied_after, right_at}
use Rattle.daemon_core.proofs.MailLemmas.{IsSetUp, stays_set_up, BoundBy, FitsBy as MailFits, words_of as mail_words, mail_after}
use Rattle.daemon_core.proofs.SentLemmas.{front}
use Rattle.daemon_core.proofs.SumLemmas.{sums_nothing}
use Rattle.daemon_core.proofs.TurnLemmas.{IsFull, fulls}
use Rattle.daemon_core.proofs.WordLemmas.{FitsBy, words_of, none_sent, line_after}

-- ---- acts as events

-- messages that moved, or none
runs_let : (w v : World) (others : List Event) → LetAt others w v → (told : List Answer) × Runs w (others ++ []) told v × ((before : List Answer) × (told ≡ before ++ []))
runs_let w v others led = (led.told, subst (λ events. Runs w events led.told v) (sym (append-nil others)) led.theirs, (led.told, sym (append-nil led.told)))

runs_moved : (w v : World) (others : List Event) (m : Moving) → MovedAt others m w v → (told : List Answer) × Runs w (others ++ takes_of m) told v × ((before : List Answer) × (told ≡ before ++ answers_of m))
runs_moved w v others (moving.Kept batch answer) led = (
  led.done.told ++ answers_by batch answer,
  runs_then others (takes_by batch) led.done.told (answers_by batch answer) w led.done.between v led.done.theirs led.done.ours,
  (led.done.told, refl),
)
runs_moved w v others moving.Went led = runs_let w v others led
runs_moved w v others moving.Nothing led = runs_let w v others led
runs_moved w v others moving.Passed led = runs_let w v others led
runs_moved w v others (moving.Failed refusal) led = runs_let w v others led
runs_moved w v others (moving.Stays stay) led = runs_let w v others led

runs_by : (w v : World) (note : Note) → LeadsBy w note v → (told : List Answer) × Runs w (events_by note) told v × AnswersBy note told
runs_by w v (Did others event answer) led =
    (led.told ++ answer ∷ [], runs_then others (event ∷ []) led.told (answer ∷ []) w led.between v led.theirs (runs_one led.between v event answer led.ours), (led.told, refl))
runs_by w v (Freed event answer) led =
    let at : Next w event answer (record v { accounts = w.accounts }) = led.1 w.accounts in
    (answer ∷ [], runs_one w v event answer (subst (λ a. Next w event answer (record v { accounts = a })) (sym led.0) at), refl)
runs_by w v Away led = ([], led, refl)
runs_by w v Spoke led = ([], led, refl)
runs_by w v Answered led = ([], led, refl)
runs_by w v (Asked others user lookup) led = (led.told, led.theirs, tt)
runs_by w v (Looked wanted) led = ([], led, refl)
runs_by w v (Moved others moving) led = runs_moved w v others moving led
runs_by w v Gathered led = ([], led, refl)
runs_by w v (Delivered others told) led =
    (led.told ++ answers_told told, runs_then others (events_told told) led.told (answers_told told) w led.between v led.theirs led.ours, (led.told, refl))
runs_by w v (Parted others events) led = (led.told, led.theirs, tt)
runs_by w v (PutOff ids) led = ([], led, refl)

runs_opened : (b : Bool) (w v : World) (id : ℕ) (more : List (Act Note)) → LeadsIn b w id more v → (told : List Answer) × Runs w (opened_by b id) told v
runs_opened true w v id more led = ([], led)
runs_opened false w v id more led = (led.0 ∷ [], runs_one w v (Open id) led.0 led.2)

runs_at : (w v : World) (act : Act Note) (more : List (Act Note)) → ActLeads w act more v → (told : List Answer) × Runs w (events_at act) told v × AnswersAt act told
runs_at w v (Came id kind) more led = let run = runs_opened (kind == lmtp) w v id more led in (run.0, run.1, tt)
runs_at w v (Heard id piece) more led = (led.0 ∷ [], runs_one w v (Give id piece) led.0 led.2, tt)
runs_at w v (Ended id) more led = (led.0 ∷ [], runs_one w v (Close id) led.0 led.1, tt)
runs_at w v (Noted id note) more led = runs_by w v note led
runs_at w v (Worked note) more led = runs_by w v note led
runs_at w v (Displaced id) more led = ([], led.0, tt)
runs_at w v _ more led = ([], led, tt)

runs_in : (w v : World) (acts : List (Act Note)) → LeadsOn w acts v → (told : List Answer) × Runs w (events_in acts) told v × AnswersIn acts told
runs_in w v [] led = ([], led, refl)
runs_in w v (act ∷ acts) led =
    let here = runs_at w led.0 act acts led.1 in
    let later = runs_in led.0 v acts led.2 in
    (here.0 ++ later.0, runs_then (events_at act) (events_in acts) here.0 later.0 w led.0 v here.1 later.1, (here.0, later.0, refl, here.2, later.2))

-- ---- moves in turn

module _ {R : Type 0} (view : View R) where
  -- the store and the sessions are those of a world
  abbrev Stands : Moment MailDaemon Note R → World → Type 0
  Stands m w = IsWorld view m.rest m.machine.daemon.clients.sessions w

  -- of one for which memory was lacking that is what follows says
  full_then : (id : ℕ) (act : Act Note) (more : List (Act Note)) → IsFull id act → LacksThen id (act ∷ more)
  full_then id (Full n) more is = is
  full_then id _ more is = absurd is

  lacks_then : (m : Moment MailDaemon Note R) (moves : List (Move Note)) (n : Moment MailDaemon Note R) → PassesMoves (mail_rules view) m moves n → (id kind : ℕ) → m.service.turn ≡ OutOfMemory id kind → LacksThen id (acts_of moves)
  lacks_then m [] n passes id kind stuffed = tt
  lacks_then m (move ∷ moves) n passes id kind stuffed =
      let mid = passes.0 in
      let one = passes.1 in
      let is : IsFull id one.act = fulls (mail_rules view) m.machine mid.machine m.rest mid.rest m.service mid.service id kind stuffed one.act one.said one.turns in
      full_then id move.act (acts_of moves) (subst (λ a. IsFull id a) passes.2 is)

  -- acts lead to a world, and a crash leaves its accounts, or what was tried in them, or what it left before, where no account changed
  leads_on : (m : Moment MailDaemon Note R) (moves : List (Move Note)) (n : Moment MailDaemon Note R) (w : World) → PassesMoves (mail_rules view) m moves n → Stands m w
      → (v : World) × LeadsOn w (acts_of moves) v × Stands n v × LeavesOn (view.leaves m.rest) w (acts_of moves) (view.leaves n.rest) v
  leads_on m [] n w passes stands = (
    w,
    refl,
    subst (λ (k : Moment MailDaemon Note R). Stands k w) (sym passes) stands,
    subst (λ (k : Moment MailDaemon Note R). LeavesOn (view.leaves m.rest) w [] (view.leaves k.rest) w) (sym passes) (left_here (view.leaves m.rest) w),
  )
  leads_on m (move ∷ moves) n w passes stands =
      let mid = passes.0 in
      let one = passes.1 in
      let led : Led view m.machine mid.machine m.rest mid.rest w move.act (acts_of moves) =
      subst (λ a. Led view m.machine mid.machine m.rest mid.rest w a (acts_of moves)) passes.2
      (leads view m.machine mid.machine m.rest mid.rest m.service mid.service (acts_of moves) (lacks_then mid moves n passes.4) one.act one.said w one.turns one.leaves stands) in
      let more = leads_on mid moves n led.0 passes.4 led.2.is in
      (more.0, (led.0, led.1, more.1), more.2, left_on (view.leaves m.rest) (view.leaves mid.rest) (view.leaves n.rest) w led.0 more.0 move.act (acts_of moves) led.1 led.2.left more.3)

  -- what all hold
  bounded_on : (m : Moment MailDaemon Note R) (moves : List (Move Note)) (n : Moment MailDaemon Note R) (w : World) → PassesMoves (mail_rules view) m moves n → Stands m w → IsBounded m.machine → IsBounded n.machine
  bounded_on m [] n w passes stands was = subst (λ (k : Moment MailDaemon Note R). IsBounded k.machine) (sym passes) was
  bounded_on m (move ∷ moves) n w passes stands was =
      let mid = passes.0 in
      let one = passes.1 in
      let led : Led view m.machine mid.machine m.rest mid.rest w one.act (acts_of moves) =
      leads view m.machine mid.machine m.rest mid.rest m.service mid.service (acts_of moves) (lacks_then mid moves n passes.4) one.act one.said w one.turns one.leaves stands in
      let more = grown m.machine mid.machine w led.0 one.act (acts_of moves) stands.sessions led.2.is.sessions led.1 in
      bounded_on mid moves n led.0 passes.4 led.2.is (bounded_then view m.machine mid.machine m.rest mid.rest m.service mid.service one.act one.said one.turns more w stands was)

  -- the moment behind one move
  moment_then : (m mid : Moment MailDaemon Note R) (one : LoopMoves (mail_rules view) m mid) (act : Act Note) → one.act ≡ act → mid.service.moment ≡ moment_after m.service.moment act
  moment_then m mid one act is = moment_is m.service.moment one.act mid.service.moment one.ticks ∙ ap (λ a. moment_after m.service.moment a) is

  -- ---- a client of ManageSieve

  abbrev Line_at : ℕ → Moment MailDaemon Note R → Option SessionLine → Type 0
  Line_at id m o = TiedBy m.machine id o × FitsBy id o (client_of m.service id) m.service.turn

  line_one : (m mid : Moment MailDaemon Note R) (one : LoopMoves (mail_rules view) m mid) (id : ℕ) (o : Option SessionLine) → Line_at id m o → Line_at id mid (tell_line id m.service.moment o one.act)
  line_one m mid one id o at = (
    tied_after view m.machine mid.machine m.rest mid.rest m.service mid.service id o at.0 one.act one.said one.turns,
    line_after view m.machine mid.machine m.rest mid.rest m.service mid.service id o at.0 at.1 one.act one.said one.turns (one.talks id),
  )

  line_then : (m mid : Moment MailDaemon Note R) (one : LoopMoves (mail_rules view) m mid) (id : ℕ) (o : Option SessionLine) (act : Act Note) → one.act ≡ act → Line_at id m o → Line_at id mid (tell_line id m.service.moment o act)
  line_then m mid one id o act is at = subst (λ a. Line_at id mid (tell_line id m.service.moment o a)) is (line_one m mid one id o at)

  right_one : (m mid : Moment MailDaemon Note R) (one : LoopMoves (mail_rules view) m mid) (id : ℕ) (o : Option SessionLine) (act : Act Note) → one.act ≡ act → Line_at id m o → IfSome o (λ l. IsRight id m.service.moment l act)
  right_one m mid one id o act is at =
      subst (λ a. IfSome o (λ l. IsRight id m.service.moment l a)) is (right_at view m.machine mid.machine m.rest mid.rest m.service mid.service id o at.0 one.act one.said one.turns)

  right_on : (m : Moment MailDaemon Note R) (moves : List (Move Note)) (n : Moment MailDaemon Note R) (id : ℕ) (o : Option SessionLine) → PassesMoves (mail_rules view) m moves n → Line_at id m o → AreRight id m.service.moment o (acts_of moves)
  right_on m [] n id o passes at = tt
  right_on m (move ∷ moves) n id o passes at =
      let mid = passes.0 in
      let moment = moment_then m mid passes.1 move.act passes.2 in
      let later = line_then m mid passes.1 id o move.act passes.2 at in (
        right_one m mid passes.1 id o move.act passes.2 at,
        subst (λ t. AreRight id t (tell_line id m.service.moment o move.act) (acts_of moves)) moment (right_on mid moves n id (tell_line id m.service.moment o move.act) passes.4 later),
      )

  line_front : (id : ℕ) (m : Moment MailDaemon Note R) (o : Option SessionLine) → Line_at id m o → IfSome o (λ l. IsPrefixOf l.sent l.spelled)
  line_front id m None at = tt
  line_front id m (Some l) at = front id (words_of l) (client_of m.service id) m.service.turn at.1

  sent_on : (m : Moment MailDaemon Note R) (moves : List (Move Note)) (n : Moment MailDaemon Note R) (id : ℕ) (o : Option SessionLine) → PassesMoves (mail_rules view) m moves n → Line_at id m o
      → IfSome (line_after_acts id m.service.moment o (acts_of moves)) (λ l. IsPrefixOf l.sent l.spelled)
  sent_on m [] n id o passes at = line_front id m o at
  sent_on m (move ∷ moves) n id o passes at =
      let mid = passes.0 in
      let moment = moment_then m mid passes.1 move.act passes.2 in
      let later = line_then m mid passes.1 id o move.act passes.2 at in
      subst (λ t. IfSome (line_after_acts id t (tell_line id m.service.moment o move.act) (acts_of moves)) (λ l. IsPrefixOf l.sent l.spelled)) moment (sent_on mid moves n id (tell_line id m.service.moment o move.act) passes.4 later)

  -- ---- a client of LMTP

  module _ (names : Names) (host : List ℕ) where
    pub record MailAt (id : ℕ) (m : Moment MailDaemon Note R) (o : Option MailLine) : Type 0 where
      pub set_up : IsSetUp names host m.machine
      pub bound : BoundBy m.machine id o
      pub fits : MailFits id o (client_of m.service id) m.service.turn

    mail_one : (m mid : Moment MailDaemon Note R) (one : LoopMoves (mail_rules view) m mid) (id : ℕ) (o : Option MailLine) → MailAt id m o
        → (p : Option MailLine) × LmtpTells names host id m.service.moment o one.act p × MailAt id mid p
    mail_one m mid one id o at =
        let it = mail_after view names host m.machine mid.machine m.rest mid.rest m.service mid.service id at.set_up o at.bound at.fits one.act one.said one.turns (one.talks id) in (
          it.0,
          it.1,
          record {
            set_up = stays_set_up view names host m.machine mid.machine m.rest mid.rest m.service mid.service at.set_up one.act one.said one.turns;
            bound = it.2;
            fits = it.3;
          },
        )

    mail_on : (m : Moment MailDaemon Note R) (moves : List (Move Note)) (n : Moment MailDaemon Note R) (id : ℕ) (o : Option MailLine) → PassesMoves (mail_rules view) m moves n → MailAt id m o
        → (p : Option MailLine) × TellsOn names host id m.service.moment o (acts_of moves) p × MailAt id n p
    mail_on m [] n id o passes at = (o, refl, subst (λ (k : Moment MailDaemon Note R). MailAt id k o) (sym passes) at)
    mail_on m (move ∷ moves) n id o passes at =
        let mid = passes.0 in
        let moment = moment_then m mid passes.1 move.act passes.2 in
        let it = mail_one m mid passes.1 id o at in
        let told : LmtpTells names host id m.service.moment o move.act it.0 = subst (λ a. LmtpTells names host id m.service.moment o a it.0) passes.2 it.1 in
        let more = mail_on mid moves n id it.0 passes.4 it.2 in
        (more.0, (it.0, told, subst (λ t. TellsOn names host id t it.0 (acts_of moves) more.0) moment more.1), more.2)

    mail_front : (id : ℕ) (m : Moment MailDaemon Note R) (o : Option MailLine) → MailAt id m o → IfSome o (λ l. IsPrefixOf l.sent l.spelled)
    mail_front id m None at = tt
    mail_front id m (Some l) at = front id (mail_words l) (client_of m.service id) m.service.turn at.fits

  -- some first acts are those of some first moves
  some_first : (m : Moment MailDaemon Note R) (moves : List (Move Note)) (n : Moment MailDaemon Note R) (some rest : List (Act Note)) → some ++ rest ≡ acts_of moves → PassesMoves (mail_rules view) m moves n
      → (first : List (Move Note)) × (mid : Moment MailDaemon Note R) × (acts_of first ≡ some) × PassesMoves (mail_rules view) m first mid
  some_first m moves n [] rest is passes = ([], m, refl, refl)
  some_first m [] n (act ∷ some) rest is passes = let never : ⊥ = cc in absurd never
  some_first m (move ∷ moves) n (act ∷ some) rest is passes =
      let head : act ≡ move.act = cc in
      let tail : some ++ rest ≡ acts_of moves = cc in
      let more = some_first passes.0 moves n some rest tail passes.4 in
      (move ∷ more.0, more.1, ap (λ a. a ∷ acts_of more.0) (sym head) ∙ ap (λ l. act ∷ l) more.2, (passes.0, passes.1, passes.2, passes.3, more.3))

  -- ---- the headline

  module _ (m : Moment MailDaemon Note R) (fresh : Fresh m.service) (new : IsNewDaemon m.machine) (start : Accounts) (shown : view.shows m.rest start) (settled : (trees : Trees) → view.leaves m.rest trees → ShowsIn trees start) where
    no_client : (id : ℕ) → client_of m.service id ≡ None
    no_client id = ap (λ es. lookup (tree.is_at (nat_cmp id)) es) fresh.none

    no_state : (id : ℕ) → client_state_at m.machine.daemon id ≡ None
    no_state id = ap (λ es. lookup (tree.is_at (nat_cmp id)) es) new.states

    no_connection : (id : ℕ) → lmtp_connection_at m.machine id ≡ None
    no_connection id = ap (λ es. lookup (tree.is_at (nat_cmp id)) es) new.lmtp_connections

    stands : Stands m (world_of start)
    stands = record { shown = shown; sessions = none_open m.machine.daemon.clients.sessions new.sessions }

    line_begins : (id : ℕ) → Line_at id m (Some no_line)
    line_begins id = (
      record { none = no_connection id; waits = λ state at. let never : ⊥ = let is : None ≡ Some state = sym (no_state id) ∙ at in cc in absurd never },
      none_sent id (client_of m.service id) m.service.turn (no_client id),
    )

    mail_begins : (id : ℕ) → MailAt m.machine.names m.machine.host id m None
    mail_begins id = record { set_up = record { named = refl; hosted = refl }; bound = tt; fits = tt }

    nothing_firm : (id : ℕ) → firm_at m.machine id ≡ 0
    nothing_firm id = omega (arith, ap (λ o. firm_client o (client_at m.machine.daemon.clients.sessions id)) (no_state id), ap firm_connection (no_connection id))

    bounded_begins : IsBounded m.machine
    bounded_begins count = omega (arith, sums_nothing count (firm_at m.machine) nothing_firm)

    holds : (moves : List (Move Note)) (n : Moment MailDaemon Note R) → PassesMoves (mail_rules view) m moves n
        → (v : World) × HoldsAfter m.machine.names m.machine.host (world_of start) m.service.moment (acts_of moves) v × Stands n v × LeavesOn (view.leaves m.rest) (world_of start) (acts_of moves) (view.leaves n.rest) v
    holds moves n passes =
        let led = leads_on m moves n (world_of start) passes stands in
        let ran = runs_in (world_of start) led.0 (acts_of moves) led.1 in (
          led.0,
          record {
            leads = led.1;
            told = ran.0;
            runs = ran.1;
            agree = ran.2;
            alone = projection (events_in (acts_of moves)) ran.0 (world_of start) led.0 ran.1;
            spaced = spacing (events_in (acts_of moves)) ran.0 (world_of start) led.0 ran.1;
            sound = λ are_sound. runs_sound (events_in (acts_of moves)) ran.0 (world_of start) led.0 are_sound ran.1;
            right = λ id. right_on m moves n id (Some no_line) passes (line_begins id);
            sent = λ id. sent_on m moves n id (Some no_line) passes (line_begins id);
            mail = λ id.
                let it = mail_on m.machine.names m.machine.host m moves n id None passes (mail_begins id) in
                (it.0, it.1, mail_front m.machine.names m.machine.host id n it.0 it.2);
          },
          led.2,
          led.3,
        )

    pub headline : (moves : List (Move Note)) (n : Moment MailDaemon Note R) → PassesMoves (mail_rules view) m moves n → Headline view m.machine.names m.machine.host start m.service.moment (acts_of moves) n.rest n.machine
    headline moves n passes =
        let all = holds moves n passes in
        record {
          each_moment = λ some rest is.
              let first = some_first m moves n some rest is passes in
              let at = holds first.0 first.1 first.3 in
              (at.0, subst (λ (acts : List (Act Note)). HoldsAfter m.machine.names m.machine.host (world_of start) m.service.moment acts at.0) first.2 at.1);
          end = all.0;
          holds = all.1;
          shown = all.2;
          left = is_left (view.leaves m.rest) (view.leaves n.rest) (world_of start) all.0 (acts_of moves) settled all.3;
          bounded = bounded_on m moves n (world_of start) passes stands bounded_begins;
        }
