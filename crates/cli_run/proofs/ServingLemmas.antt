-- Rounds of a session, one after the other.
use Rattle.std.proofs.Common.{◌≡◌, ◌≢◌, ◌⊎◌, ℕ, ◌≤◌, Bool, true, false, List, [], ◌∷◌, ◌++◌, length, Option, Some, None, Result, Ok, Err, IfErr, OnErr, OnOk, IfSome, IsTrue, is_some, refl, sym, ap, ◌∙◌, subst, inl, inr, append_assoc, append-nil}
use Rattle.std.proofs.Math.Seq.{take-append_seam}
use Rattle.std.proofs.lemmas.Grind.{flat_map-append}
use Rattle.std.specs.Option.{option_copied}
use Rattle.std.specs.Io.KnownBytes.{Appends, Consumes}
use Rattle.sqlite.specs.Effect.{Database}
use Rattle.sqlite.specs.State.{State, HasCleanDisk}
use Rattle.store_accounts.specs.Account.{Accounts}
use Rattle.store_accounts.specs.Shows.{Presents, OffersAccounts}
use Rattle.store_accounts.specs.declared.refusal.Refusal.{Refusal}
use Rattle.managesieve_sessions.specs.declared.progress.Progress.{Progress}
use Rattle.managesieve_sessions.specs.Acts.{TurnsAccounts}
use Rattle.managesieve_sessions.specs.Clients.{Client, client_given, is_ready, new_client}
use Rattle.managesieve_sessions.specs.GivenUp.{text_given_up, client_given_up}
use Rattle.managesieve_sessions.specs.Orders.{SessionStepsTo}
use Rattle.managesieve_sessions.specs.Steps.{StepsOver}
use Rattle.managesieve_sessions.specs.Replies.{capability_reply}
use Rattle.managesieve_protocol.specs.Machine.{rows}
use Rattle.managesieve_protocol.specs.Replies.{reply_octets}
use Rattle.cli_subcommands.specs.declared.location.StoreLocation.{StoreLocation}
use Rattle.cli_run.specs.declared.fault.RunFault.{RunFault}
use Rattle.store_lock.specs.declared.keeper.StoreUnavailable.{StoreUnavailable}
use Rattle.store_lock.specs.declared.keeper.StoreUnavailable.TheVariants.{Busy, Refused}
use Rattle.cli_run.specs.declared.fault_with_cause.FaultWithCause.{FaultWithCause}
use Rattle.cli_run.specs.declared.fault_with_cause.FirstFault.{FirstFault}
use Rattle.cli_run.specs.Serving.{Round, IsDenied, IsDeniedBy, IsDenialNoted, KeepsFirst, IsRound, RoundsLead, came_in, said_in, max_client_piece, LeftBeginsWith, RoundsPass, RoundsAnswer, RoundsWrite, Interrupted, WritesFirst, StepsOrStays, Served, BreaksOff, Converses, ServesTables, StopsServing, Unstopped, HasClosed, HasNoted, WasOut, IsTold, TellsOne, AreSeen, PresentsSeen, database_seen}
use Rattle.cli_run.specs.Faults.{IsPrinted, cause_line, run_fault_line}
use Rattle.cli_run.specs.Streams.{AppendsFront, IsWritten}
use Rattle.cli_run.proofs.StreamLemmas.{front_on, nothing_read, nothing_written, read_on, written_on}
use Rattle.cli_run.specs.Transitions.{from_to}

-- ---- a step over a store that presents what was seen, open and over a disk that keeps what is written

module _ (Given : Type 0) (Seen : Accounts → Type 0) (taken given : State) (opens : PresentsSeen Given Seen taken.now) (clean : HasCleanDisk given) (live : IsTrue given.is_open) (c d : Client) (before after : List ℕ) where
  pub step_made : (progress : Progress) (r : Result Progress Refusal) → r ≡ Ok progress → TurnsAccounts (SessionStepsTo c d r before after) taken given → (accounts : Accounts) → Seen accounts → StepsOrStays Given accounts (from_to c d) (from_to before after) (λ a. Given × Presents given.now a) true
  step_made progress r is carries accounts shown =
      let carried = carries clean accounts (λ _. (opens accounts shown).1) in
      let turn = subst (λ x. SessionStepsTo c d x before after accounts carried.0) is carried.1 in
      let got = (opens accounts shown).0 in
      (progress, turn.0, carried.0, turn.1, turn.2, (got, carried.2 live), inr got)

  pub step_refused : (refusal : Refusal) (r : Result Progress Refusal) → r ≡ Err refusal → TurnsAccounts (SessionStepsTo c d r before after) taken given → d ≡ c → after ≡ before → (accounts : Accounts) → Seen accounts → StepsOrStays Given accounts (from_to c d) (from_to before after) (λ a. Given × Presents given.now a) false
  step_refused refusal r is carries same silent accounts shown =
      let carried = carries clean accounts (λ _. (opens accounts shown).1) in
      let turn : carried.0 ≡ accounts = subst (λ x. SessionStepsTo c d x before after accounts carried.0) is carried.1 in
      (same, silent, ((opens accounts shown).0, subst (λ a. Presents given.now a) turn (carried.2 live)))

pub steps_as : (Before Given : Type 0) (accounts : Accounts) (c : Client) (waited waits : List ℕ) (d : Client) (Shown : Accounts → Type 0) → (Before → Given) → StepsOrStays Before accounts (from_to c d) (from_to waited waits) Shown true → StepsOrStays Given accounts (from_to c d) (from_to waited waits) Shown true
steps_as Before Given accounts c waited waits d Shown gives (progress, octets, later, joins, step, shown, reach) = (progress, octets, later, joins, step, shown, elim reach [ inl asks ↦ inl asks | inr given ↦ inr (gives given) ])

-- ---- what came of closing a store

-- of one that was out; where it couldn't be closed that is noted
pub closed_so : {K S : Type 0} (closes : K → S → Option Refusal → Type 0) (keeper : K) (store : Option S) (came : Option Refusal) (Told : Type 0) → IfSome store (λ given. closes keeper given came) → IfSome came (λ refusal. Told) → IsTrue (is_some store) → HasClosed closes Told
closed_so closes keeper None came Told closed noted out = absurd (let h = out in cc)
closed_so closes keeper (Some store) came Told closed noted out = (keeper, store, came, closed, some_so came noted)
  where
    some_so : (o : Option Refusal) → IfSome o (λ refusal. Told) → IsTrue (is_some o) → Told
    some_so None noted some = absurd (let h = some in cc)
    some_so (Some refusal) noted some = noted

pub closed_as : {K S : Type 0} (gives : K → List ℕ → Type 0) (waits : K → Bool) (closes : K → S → Option Refusal → Type 0) (location : StoreLocation) (Told Now : Type 0) → (Told → Now) → WasOut gives waits closes location Told → WasOut gives waits closes location Now
closed_as gives waits closes location Told Now so (given, (keeper, store, came, closed, told)) = (given, (keeper, store, came, closed, λ some. so (told some)))

-- ---- what is seen

-- once it is given back it is offered
pub offers_seen : {X : Type 0} (Given : Type 0) (sees : X → Database) (held new : Database) (store : Option X) → new ≡ database_seen sees held store → (accounts : Accounts) → AreSeen Given sees held store accounts → OffersAccounts new accounts
offers_seen Given sees held new None is accounts shown = subst (λ db. OffersAccounts db accounts) (sym is) shown
offers_seen Given sees held new (Some store) is accounts (got, shown) = subst (λ db. OffersAccounts db accounts) (sym is) (inl shown)

-- ---- why what comes first can't be answered

-- the keeper denied its store
pub denied_by : {X K : Type 0} (refuses : K → List ℕ → StoreUnavailable → Type 0) (waits : K → Bool) (keeper : K) (location : StoreLocation) (r : Result X StoreUnavailable) → IfErr r (refuses keeper location.path.now) → waits keeper ≡ location.waits → OnErr r (IsDenied refuses waits location)
denied_by refuses waits keeper location (Ok x) denied asked = tt
denied_by refuses waits keeper location (Err held) denied asked = (keeper, held, denied, asked)

-- the same, with what it denied
pub busy_by : {X K : Type 0} (refuses : K → List ℕ → StoreUnavailable → Type 0) (waits : K → Bool) (keeper : K) (location : StoreLocation) (r : Result X StoreUnavailable) → IfErr r (refuses keeper location.path.now) → waits keeper ≡ location.waits → r ≡ Err Busy → IsDeniedBy refuses waits location Busy
busy_by refuses waits keeper location r denied asked is = (keeper, subst (λ q. IfErr q (refuses keeper location.path.now)) is denied, asked)

-- it was noted, or another process had the store
pub noted_or_busy : (Denied : StoreUnavailable → Type 0) (noted : FirstFault) (denial : StoreUnavailable) → (denial ≢ Busy → IsTrue (is_some noted.fault)) → (denial ≡ Busy → Denied Busy) → IsDenialNoted Denied noted
noted_or_busy Denied noted Busy told was = inr (was refl)
noted_or_busy Denied noted (Refused refusal) told was = inl (told (λ e. cc))

-- ---- the first fault

pub kept_same : (a : FirstFault) → KeepsFirst a a
kept_same a = (refl, some_same a.fault)
  where
    some_same : (o : Option FaultWithCause) → IfSome o (λ first. o ≡ Some first)
    some_same None = tt
    some_same (Some first) = refl

pub kept_then : (a b c : FirstFault) → KeepsFirst a b → KeepsFirst b c → KeepsFirst a c
kept_then a b c one two = (two.0 ∙ one.0, some_then a.fault one.1)
  where
    some_then : (o : Option FaultWithCause) → IfSome o (λ first. b.fault ≡ Some first) → IfSome o (λ first. c.fault ≡ Some first)
    some_then None one = tt
    some_then (Some first) one = subst (λ o. IfSome o (λ first. c.fault ≡ Some first)) one two.1

-- what was noted stays so
pub noted_then : (Denied : StoreUnavailable → Type 0) (a b : FirstFault) → IfSome a.fault (λ first. b.fault ≡ Some first) → IsDenialNoted Denied a → IsDenialNoted Denied b
noted_then Denied a b later noted = elim noted [ inl some ↦ inl (some_then a.fault later some) | inr busy ↦ inr busy ]
  where
    some_then : (o : Option FaultWithCause) → IfSome o (λ first. b.fault ≡ Some first) → IsTrue (is_some o) → HasNoted b
    some_then None is some = absurd (let h = some in cc)
    some_then (Some first) is some = subst (λ o. IsTrue (is_some o)) (sym is) some

-- ---- reads

-- of a session that ended
pub reads_out : {X E : Type 0} (r : Result X E) (ToEnd Closed On : Type 0) → OnOk r (ToEnd ⊎ (Closed × On)) → OnOk r (ToEnd ⊎ On)
reads_out (Ok x) ToEnd Closed On read = elim read [ inl all ↦ inl all | inr on ↦ inr on.1 ]
reads_out (Err e) ToEnd Closed On read = tt

-- ---- what is told of a fault

-- so far: nothing, where none was noted; or it was told
abbrev pub ToldSoFar : Option (List ℕ) → Option (List ℕ) → FirstFault → Type 0
ToldSoFar old new first = ((first.is_told ≡ false) × (first.fault ≡ None) × (new ≡ old)) ⊎ (IsTrue first.is_told × IsTrue (is_some first.fault) × IsTold old new)

pub told_one : (old new : Option (List ℕ)) (first : FirstFault) → ToldSoFar old new first → TellsOne old new
told_one old new first so = elim so [ inl none ↦ inl none.2 | inr told ↦ inr told.2 ]

-- one that was noted stays so
pub noted_still : (a b : FirstFault) → KeepsFirst a b → HasNoted a → HasNoted b
noted_still a b kept = some_still a.fault kept.1
  where
    some_still : (o : Option FaultWithCause) → IfSome o (λ first. b.fault ≡ Some first) → IsTrue (is_some o) → IsTrue (is_some b.fault)
    some_still None is some = absurd (let h = some in cc)
    some_still (Some first) is some = subst (λ o. IsTrue (is_some o)) (sym is) some

-- one was noted or not, and then told where it wasn't yet
module _ (old before after : Option (List ℕ)) (a b c : FirstFault) (kept : KeepsFirst a b) (once : IsTrue b.is_told → after ≡ before) (none : b.fault ≡ None → after ≡ before)
    (tells : b.is_told ≡ false → IfSome b.fault (λ fault. IsWritten before after (run_fault_line fault.fault ++ cause_line (option_copied fault.cause))))
    (same : c.fault ≡ b.fault) (told : IfSome b.fault (λ fault. IsTrue c.is_told)) (untold : b.fault ≡ None → c.is_told ≡ b.is_told) where
  told_first : a.is_told ≡ false → before ≡ old → (o : Option FaultWithCause) → b.fault ≡ o → ToldSoFar old after c
  told_first not is None none_there = inl (untold none_there ∙ kept.0 ∙ not, same ∙ none_there, none none_there ∙ is)
  told_first not is (Some fault) there =
      let written : IsWritten before after (run_fault_line fault.fault ++ cause_line (option_copied fault.cause)) =
      subst (λ (o : Option FaultWithCause). IfSome o (λ t. IsWritten before after (run_fault_line t.fault ++ cause_line (option_copied t.cause)))) there (tells (kept.0 ∙ not)) in
      inr (
        subst (λ (o : Option FaultWithCause). IfSome o (λ t. IsTrue c.is_told)) there told,
        subst (λ (o : Option FaultWithCause). IsTrue (is_some o)) (sym (same ∙ there)) refl,
        (fault, subst (λ o. IsWritten o after (run_fault_line fault.fault ++ cause_line (option_copied fault.cause))) is written),
      )

  some_told : (o : Option FaultWithCause) → b.fault ≡ o → IsTrue (is_some o) → IsTrue c.is_told
  some_told None there some = absurd (let h = some in cc)
  some_told (Some fault) there some = subst (λ (o : Option FaultWithCause). IfSome o (λ t. IsTrue c.is_told)) there told

  pub told_on : ToldSoFar old before a → ToldSoFar old after c
  told_on so = elim so [
    | inl first ↦ told_first first.0 first.2 b.fault refl
    | inr was ↦
        let some = noted_still a b kept was.1 in
        inr (some_told b.fault refl some, subst (λ (o : Option FaultWithCause). IsTrue (is_some o)) (sym same) some, subst (λ o. IsTold old o) (sym (once (kept.0 ∙ was.0))) was.2)
  ]

  pub told_now : ToldSoFar old before a → IsTrue (is_some b.fault) → IsTold old after
  told_now so some = elim (told_on so) [
    | inl none ↦ absurd (let h : is_some c.fault ≡ false = ap is_some none.1 in let k : is_some c.fault ≡ true = ap is_some same ∙ some in cc)
    | inr now ↦ now.2
  ]

  pub told_still : ToldSoFar old before a → IsTold old before → IsTold old after
  told_still so was = elim so [
    | inl first ↦ elim (told_first first.0 first.2 b.fault refl) [
      | inl none ↦ subst (λ o. IsTold old o) (sym (none.2 ∙ sym first.2)) was
      | inr now ↦ now.2
    ]
    | inr then ↦ subst (λ o. IsTold old o) (sym (once (kept.0 ∙ then.0))) was
  ]

-- ---- what keeps a command from its answer

pub stops_as : {K : Type 0} (refuses : K → List ℕ → StoreUnavailable → Type 0) (waits : K → Bool) (location : StoreLocation) (Told Now : Type 0) → (Told → Now) → (c : Client) → StopsServing refuses waits location Told c → StopsServing refuses waits location Now c
stops_as refuses waits location Told Now so c stops = (stops.0, elim stops.1 [ inl told ↦ inl (so told) | inr busy ↦ inr busy ])

pub never_stops : (Stopped : Client → Type 0) (c : Client) → Unstopped c → Stopped c
never_stops Stopped c never = absurd never

-- where one such cause is another, and a store that was given so was given otherwise
module _ (First Stopped : Client → Type 0) (Before Given : Type 0) (so : (c : Client) → First c → Stopped c) (gives : Before → Given) where
  round_as : (accounts : Accounts) (c : Client) (r : Round) → IsRound First Before accounts c r → IsRound Stopped Given accounts c r
  round_as accounts c r round = elim round [
    | inl heard ↦ inl heard
    | inr other ↦ elim other [
      | inl stepped ↦ inr (inl (record {
        ready = stepped.ready;
        none = stepped.none;
        progress = stepped.progress;
        step = stepped.step;
        reach = elim stepped.reach [ inl asks ↦ inl asks | inr given ↦ inr (gives given) ];
      }))
      | inr gives ↦ inr (inr (record { ready = gives.ready; none = gives.none; cause = so c gives.cause; told = gives.told; drops = gives.drops; same = gives.same }))
    ]
  ]

  leads_as : (accounts : Accounts) (c : Client) (rounds : List Round) (later : Accounts) (d : Client) → RoundsLead First Before accounts c rounds later d → RoundsLead Stopped Given accounts c rounds later d
  leads_as accounts c [] later d leads = leads
  leads_as accounts c (r ∷ rounds) later d leads = (round_as accounts c r leads.0, leads_as r.accounts r.client rounds later d leads.1)

  passes_as : (accounts : Accounts) (c : Client) (rounds : List Round) (d : Client) (Shown : Accounts → Type 0) → RoundsPass First Before accounts c rounds d Shown → RoundsPass Stopped Given accounts c rounds d Shown
  passes_as accounts c rounds d Shown p = record { later = p.later; leads = leads_as accounts c rounds p.later d p.leads; shown = p.shown }

  pub answered_as : (accounts : Accounts) (c : Client) (waited waits : List ℕ) (d : Client) (Shown : Accounts → Type 0) → RoundsAnswer First Before accounts (from_to c d) (from_to waited waits) Shown → RoundsAnswer Stopped Given accounts (from_to c d) (from_to waited waits) Shown
  answered_as accounts c waited waits d Shown a = record { rounds = a.rounds; passes = passes_as accounts c a.rounds d Shown a.passes; none = a.none; joins = a.joins }

  pub writes_as : (accounts : Accounts) (c : Client) (out out2 : Option (List ℕ)) (d : Client) (new : Database) → RoundsWrite First Before accounts (from_to c d) (from_to out out2) new → RoundsWrite Stopped Given accounts (from_to c d) (from_to out out2) new
  writes_as accounts c out out2 d new a = record { rounds = a.rounds; passes = passes_as accounts c a.rounds d (OffersAccounts new) a.passes; none = a.none; written = a.written }

  pub interrupted_as : (accounts : Accounts) (c : Client) (out out2 : Option (List ℕ)) (new : Database) → Interrupted First Before accounts c (from_to out out2) new → Interrupted Stopped Given accounts c (from_to out out2) new
  interrupted_as accounts c out out2 new a = record { rounds = a.rounds; client = a.client; passes = passes_as accounts c a.rounds a.client (OffersAccounts new) a.passes; none = a.none; written = a.written }

  pub served_as : (accounts : Accounts) (in_old in_new out out2 : Option (List ℕ)) (c : Client) (new : Database) → Served First Before accounts (from_to in_old in_new) (from_to out out2) c new → Served Stopped Given accounts (from_to in_old in_new) (from_to out out2) c new
  served_as accounts in_old in_new out out2 c new s = record { rounds = s.rounds; passes = passes_as accounts new_client s.rounds c (OffersAccounts new) s.passes; read = s.read; written = s.written; answered = s.answered }

  converses_as : (accounts : Accounts) (in_old in_new out out2 : Option (List ℕ)) (new : Database) (r : Result (Unit {0}) RunFault) → Converses First Before accounts (from_to in_old in_new) (from_to out out2) new r → Converses Stopped Given accounts (from_to in_old in_new) (from_to out out2) new r
  converses_as accounts in_old in_new out out2 new (Ok done) e = record { client = e.client; served = served_as accounts in_old in_new out out2 e.client new e.served; over = e.over }
  converses_as accounts in_old in_new out out2 new (Err fault) b = record { rounds = b.rounds; client = b.client; passes = passes_as accounts new_client b.rounds b.client (OffersAccounts new) b.passes; read = b.read; written = b.written }

  pub serves_as : (in_old in_new out out2 : Option (List ℕ)) (old new : Database) (r : Result (Unit {0}) RunFault) → ServesTables First Before (from_to in_old in_new) (from_to out out2) (from_to old new) r → ServesTables Stopped Given (from_to in_old in_new) (from_to out out2) (from_to old new) r
  serves_as in_old in_new out out2 old new r s = record { talks = λ accounts shown. converses_as accounts in_old in_new out out2 new r (s.talks accounts shown); none = s.none }

-- where what is given up has such a cause, and a store was given so
module _ (Stopped : Client → Type 0) (Given : Type 0) where
  -- ---- rounds

  pub leads_on : (accounts : Accounts) (c : Client) (rounds more : List Round) (mid : Accounts) (m : Client) (later : Accounts) (d : Client) → RoundsLead Stopped Given accounts c rounds mid m → RoundsLead Stopped Given mid m more later d → RoundsLead Stopped Given accounts c (rounds ++ more) later d
  leads_on accounts c [] more mid m later d here next = subst (λ a. RoundsLead Stopped Given a c more later d) here.0 (subst (λ x. RoundsLead Stopped Given mid x more later d) here.1 next)
  leads_on accounts c (r ∷ rounds) more mid m later d here next = (here.0, leads_on r.accounts r.client rounds more mid m later d here.1 next)

  pub passes_on : (accounts : Accounts) (c m d : Client) (rounds more : List Round) (Mid Shown : Accounts → Type 0) (p : RoundsPass Stopped Given accounts c rounds m Mid) → RoundsPass Stopped Given p.later m more d Shown → RoundsPass Stopped Given accounts c (rounds ++ more) d Shown
  passes_on accounts c m d rounds more Mid Shown p q = record { later = q.later; leads = leads_on accounts c rounds more p.later m q.later d p.leads q.leads; shown = q.shown }

  pub passes_none : (accounts : Accounts) (c : Client) (Shown : Accounts → Type 0) → Shown accounts → RoundsPass Stopped Given accounts c [] c Shown
  passes_none accounts c Shown shown = record { later = accounts; leads = (refl, refl); shown = shown }

  pub passes_one : (accounts : Accounts) (c : Client) (r : Round) (Shown : Accounts → Type 0) → IsRound Stopped Given accounts c r → Shown r.accounts → RoundsPass Stopped Given accounts c (r ∷ []) r.client Shown
  passes_one accounts c r Shown round shown = record { later = r.accounts; leads = (round, (refl, refl)); shown = shown }

  -- ---- what is written

  -- all of a text is a front of it
  pub front_all : (a b : Option (List ℕ)) (first text : List ℕ) → Appends a b first → AppendsFront a b (first ++ text)
  front_all a b first text before = (length first, subst (Appends a b) (sym (take-append_seam first text)) before)

  -- rounds in turn: all that came, and all that was said
  came_on : (rounds more : List Round) → came_in rounds ≡ [] → came_in more ≡ [] → came_in (rounds ++ more) ≡ []
  came_on rounds more first second = flat_map-append (λ (r : Round). r.came) rounds more ∙ ap (λ l. l ++ came_in more) first ∙ second

  said_on : (rounds more : List Round) → said_in (rounds ++ more) ≡ said_in rounds ++ said_in more
  said_on rounds more = flat_map-append (λ (r : Round). r.said) rounds more

  -- ---- what was answered, and waits

  pub answered_none : (accounts : Accounts) (c : Client) (waits : List ℕ) (Shown : Accounts → Type 0) → Shown accounts → RoundsAnswer Stopped Given accounts (from_to c c) (from_to waits waits) Shown
  answered_none accounts c waits Shown shown = record { rounds = []; passes = passes_none accounts c Shown shown; none = refl; joins = sym (append-nil waits) }

  pub answered_on : (accounts : Accounts) (c m d : Client) (waits waits2 waits3 : List ℕ) (Mid Shown : Accounts → Type 0) → RoundsAnswer Stopped Given accounts (from_to c m) (from_to waits waits2) Mid
      → ((a : Accounts) → Mid a → RoundsAnswer Stopped Given a (from_to m d) (from_to waits2 waits3) Shown) → RoundsAnswer Stopped Given accounts (from_to c d) (from_to waits waits3) Shown
  answered_on accounts c m d waits waits2 waits3 Mid Shown first then =
      let second = then first.passes.later first.passes.shown in
      record {
        rounds = first.rounds ++ second.rounds;
        passes = passes_on accounts c m d first.rounds second.rounds Mid Shown first.passes second.passes;
        none = came_on first.rounds second.rounds first.none second.none;
        joins = second.joins ∙ ap (λ l. l ++ said_in second.rounds) first.joins ∙ append_assoc waits (said_in first.rounds) (said_in second.rounds) ∙ ap (λ l. waits ++ l) (sym (said_on first.rounds second.rounds));
      }

  -- a step answers what comes first
  pub first_stepped : (accounts : Accounts) (c d : Client) (waits waits2 : List ℕ) (Shown : Accounts → Type 0) → is_ready c ≡ true → StepsOrStays Given accounts (from_to c d) (from_to waits waits2) Shown true → RoundsAnswer Stopped Given accounts (from_to c d) (from_to waits waits2) Shown
  first_stepped accounts c d waits waits2 Shown ready step =
      let r : Round = record { came = []; said = step.1; accounts = step.2; client = d } in
      record {
        rounds = r ∷ [];
        passes = passes_one accounts c r Shown (inr (inl (record { ready = ready; none = refl; progress = step.0; step = step.4; reach = step.6 }))) step.5;
        none = refl;
        joins = step.3 ∙ ap (λ l. waits ++ l) (sym (append-nil step.1));
      }

  -- or nothing changed
  pub step_answers : (accounts : Accounts) (c d : Client) (waits waits2 : List ℕ) (Shown : Accounts → Type 0) (made : Bool) → is_ready c ≡ true → StepsOrStays Given accounts (from_to c d) (from_to waits waits2) Shown made → RoundsAnswer Stopped Given accounts (from_to c d) (from_to waits waits2) Shown
  step_answers accounts c d waits waits2 Shown true ready step = first_stepped accounts c d waits waits2 Shown ready step
  step_answers accounts c d waits waits2 Shown false ready (same, silent, shown) =
      subst (λ x. RoundsAnswer Stopped Given accounts (from_to c x) (from_to waits waits2) Shown) (sym same) (subst (λ w. RoundsAnswer Stopped Given accounts (from_to c c) (from_to waits w) Shown) (sym silent) (answered_none accounts c waits Shown shown))

  -- what was seen is given back
  pub answered_back : {X : Type 0} (Gave : Type 0) (sees : X → Database) (held new : Database) (store : Option X) → new ≡ database_seen sees held store → (accounts : Accounts) (c d : Client) (waits waits2 : List ℕ)
      → RoundsAnswer Stopped Given accounts (from_to c d) (from_to waits waits2) (AreSeen Gave sees held store) → RoundsAnswer Stopped Given accounts (from_to c d) (from_to waits waits2) (OffersAccounts new)
  answered_back Gave sees held new store is accounts c d waits waits2 a = record {
    rounds = a.rounds;
    passes = record { later = a.passes.later; leads = a.passes.leads; shown = offers_seen Gave sees held new store is a.passes.later a.passes.shown };
    none = a.none;
    joins = a.joins;
  }

  -- ---- what was answered and written

  pub writes_none : (accounts : Accounts) (c : Client) (out : Option (List ℕ)) (new : Database) → OffersAccounts new accounts → RoundsWrite Stopped Given accounts (from_to c c) (from_to out out) new
  writes_none accounts c out new shown = record { rounds = []; passes = passes_none accounts c (OffersAccounts new) shown; none = refl; written = nothing_written out }

  pub writes_on : (accounts : Accounts) (c m d : Client) (out out2 out3 : Option (List ℕ)) (mid new : Database) → RoundsWrite Stopped Given accounts (from_to c m) (from_to out out2) mid
      → ((a : Accounts) → OffersAccounts mid a → RoundsWrite Stopped Given a (from_to m d) (from_to out2 out3) new) → RoundsWrite Stopped Given accounts (from_to c d) (from_to out out3) new
  writes_on accounts c m d out out2 out3 mid new first then =
      let second = then first.passes.later first.passes.shown in
      record {
        rounds = first.rounds ++ second.rounds;
        passes = passes_on accounts c m d first.rounds second.rounds (OffersAccounts mid) (OffersAccounts new) first.passes second.passes;
        none = came_on first.rounds second.rounds first.none second.none;
        written = subst (Appends out out3) (sym (said_on first.rounds second.rounds)) (written_on out out2 out3 (said_in first.rounds) (said_in second.rounds) first.written second.written);
      }

  pub interrupted_on : (accounts : Accounts) (c m : Client) (out out2 out3 : Option (List ℕ)) (mid new : Database) → RoundsWrite Stopped Given accounts (from_to c m) (from_to out out2) mid
      → ((a : Accounts) → OffersAccounts mid a → Interrupted Stopped Given a m (from_to out2 out3) new) → Interrupted Stopped Given accounts c (from_to out out3) new
  interrupted_on accounts c m out out2 out3 mid new first then =
      let second = then first.passes.later first.passes.shown in
      record {
        rounds = first.rounds ++ second.rounds;
        client = second.client;
        passes = passes_on accounts c m second.client first.rounds second.rounds (OffersAccounts mid) (OffersAccounts new) first.passes second.passes;
        none = came_on first.rounds second.rounds first.none second.none;
        written = subst (AppendsFront out out3) (sym (said_on first.rounds second.rounds)) (front_on out out2 out3 (said_in first.rounds) (said_in second.rounds) first.written second.written);
      }

  -- what was written counts as interrupted, where no more is
  pub interrupted_so : (accounts : Accounts) (c d : Client) (out out2 : Option (List ℕ)) (new : Database) → RoundsWrite Stopped Given accounts (from_to c d) (from_to out out2) new → Interrupted Stopped Given accounts c (from_to out out2) new
  interrupted_so accounts c d out out2 new a = record {
    rounds = a.rounds;
    client = d;
    passes = a.passes;
    none = a.none;
    written = subst (AppendsFront out out2) (append-nil (said_in a.rounds)) (front_all out out2 (said_in a.rounds) [] a.written);
  }

  -- ---- what comes first

  -- the answers are written, or that fails
  pub first_written : (accounts : Accounts) (c d : Client) (out out2 : Option (List ℕ)) (waits : List ℕ) (new : Database) → RoundsAnswer Stopped Given accounts (from_to c d) (from_to [] waits) (OffersAccounts new)
      → (r : Result (Unit {0}) RunFault) → IsPrinted r out out2 waits → WritesFirst Stopped Given accounts (from_to c d) (from_to out out2) new r
  first_written accounts c d out out2 waits new a (Ok done) printed = record { rounds = a.rounds; passes = a.passes; none = a.none; written = subst (Appends out out2) a.joins printed.0 }
  first_written accounts c d out out2 waits new a (Err fault) printed = record { rounds = a.rounds; client = d; passes = a.passes; none = a.none; written = subst (AppendsFront out out2) a.joins printed.1.0 }

  -- it is given up, or that can't be written
  pub first_given_up : (accounts : Accounts) (c d : Client) (out out2 : Option (List ℕ)) (text : List ℕ) (new : Database) → is_ready c ≡ true → Stopped c → OffersAccounts new accounts → text ≡ text_given_up c → d ≡ client_given_up c
      → (r : Result (Unit {0}) RunFault) → IsPrinted r out out2 text → WritesFirst Stopped Given accounts (from_to c d) (from_to out out2) new r
  first_given_up accounts c d out out2 text new ready cause shown told drops (Ok done) printed =
      let r : Round = record { came = []; said = text; accounts = accounts; client = d } in
      record {
        rounds = r ∷ [];
        passes = passes_one accounts c r (OffersAccounts new) (inr (inr (record { ready = ready; none = refl; cause = cause; told = told; drops = drops; same = refl }))) shown;
        none = refl;
        written = subst (Appends out out2) (sym (append-nil text)) printed.0;
      }
  first_given_up accounts c d out out2 text new ready cause shown told drops (Err fault) printed =
      let r : Round = record { came = []; said = text; accounts = accounts; client = d } in
      record {
        rounds = r ∷ [];
        client = d;
        passes = passes_one accounts c r (OffersAccounts new) (inr (inr (record { ready = ready; none = refl; cause = cause; told = told; drops = drops; same = refl }))) shown;
        none = refl;
        written = subst (AppendsFront out out2) (sym (append-nil text)) printed.1.0;
      }

  -- what comes first is answered, or breaks off, after what was answered
  pub first_on : (accounts : Accounts) (c m d : Client) (out out2 out3 : Option (List ℕ)) (mid new : Database) → RoundsWrite Stopped Given accounts (from_to c m) (from_to out out2) mid
      → (r : Result (Unit {0}) RunFault) → ((a : Accounts) → OffersAccounts mid a → WritesFirst Stopped Given a (from_to m d) (from_to out2 out3) new r) → WritesFirst Stopped Given accounts (from_to c d) (from_to out out3) new r
  first_on accounts c m d out out2 out3 mid new first (Ok done) then = writes_on accounts c m d out out2 out3 mid new first then
  first_on accounts c m d out out2 out3 mid new first (Err fault) then = interrupted_on accounts c m out out2 out3 mid new first then

  -- a step that asks no store answers it
  pub free_stepped : (c d : Client) (progress : Progress) (waits waits2 : List ℕ) (Shown : Accounts → Type 0) → StepsOver c d progress waits waits2 → (accounts : Accounts) → Shown accounts → StepsOrStays Given accounts (from_to c d) (from_to waits waits2) Shown true
  free_stepped c d progress waits waits2 Shown over accounts shown = (progress, over.octets, accounts, over.written, over.step accounts, shown, inl (progress, over.step))

  -- what was taken off a reader stood first
  pub begins_with : (old new : Option (List ℕ)) (text : List ℕ) → Consumes old new text → LeftBeginsWith old text
  begins_with None new text took = tt
  begins_with (Some left) None text took = absurd took
  begins_with (Some left) (Some rest) text took = (rest, took)

  -- ---- a whole session

  -- the greeting is written
  pub served_first : (accounts : Accounts) (input out out2 : Option (List ℕ)) (c : Client) (greeting : List ℕ) (new : Database) → OffersAccounts new accounts → c ≡ new_client → greeting ≡ reply_octets (capability_reply None) → Appends out out2 greeting
      → Served Stopped Given accounts (from_to input input) (from_to out out2) c new
  unfolding rows
  served_first accounts input out out2 c greeting new shown is told written = record {
    rounds = [];
    passes = subst (λ x. RoundsPass Stopped Given accounts new_client [] x (OffersAccounts new)) (sym is) (passes_none accounts new_client (OffersAccounts new) shown);
    read = nothing_read input;
    written = subst (Appends out out2) (told ∙ sym (append-nil (reply_octets (capability_reply None)))) written;
    answered = subst (λ x. is_ready x ≡ false) (sym is) refl;
  }

  -- a front of it is written, or none
  pub broken_first : (accounts : Accounts) (input out out2 : Option (List ℕ)) (greeting : List ℕ) (new : Database) → OffersAccounts new accounts → greeting ≡ reply_octets (capability_reply None) → AppendsFront out out2 greeting → BreaksOff Stopped Given accounts input (from_to out out2) new
  broken_first accounts input out out2 greeting new shown told front = record {
    rounds = [];
    client = new_client;
    passes = passes_none accounts new_client (OffersAccounts new) shown;
    read = begins_with input input [] (nothing_read input);
    written = subst (AppendsFront out out2) (told ∙ sym (append-nil (reply_octets (capability_reply None)))) front;
  }

  -- nothing more comes of a session that was served so far
  pub broken_served : (accounts : Accounts) (in_old in_new out out2 : Option (List ℕ)) (c : Client) (new : Database) → Served Stopped Given accounts (from_to in_old in_new) (from_to out out2) c new → BreaksOff Stopped Given accounts in_old (from_to out out2) new
  broken_served accounts in_old in_new out out2 c new s = record {
    rounds = s.rounds;
    client = c;
    passes = s.passes;
    read = begins_with in_old in_new (came_in s.rounds) s.read;
    written = subst (AppendsFront out out2) (append-nil (reply_octets (capability_reply None) ++ said_in s.rounds)) (front_all out out2 (reply_octets (capability_reply None) ++ said_in s.rounds) [] s.written);
  }

  -- the end of the input was read
  pub served_at_end : (accounts : Accounts) (in_old in_mid in_new out out2 : Option (List ℕ)) (c : Client) (new : Database) → Served Stopped Given accounts (from_to in_old in_mid) (from_to out out2) c new → Consumes in_mid in_new [] → Served Stopped Given accounts (from_to in_old in_new) (from_to out out2) c new
  served_at_end accounts in_old in_mid in_new out out2 c new s nothing = record {
    rounds = s.rounds;
    passes = s.passes;
    read = subst (Consumes in_old in_new) (append-nil (came_in s.rounds)) (read_on in_old in_mid in_new (came_in s.rounds) [] s.read nothing);
    written = s.written;
    answered = s.answered;
  }

  -- a piece came, and all that is whole was answered
  module _ (accounts : Accounts) (in_old in_mid in_new out out2 out3 : Option (List ℕ)) (piece : List ℕ) (c m d : Client) (mid new : Database) (s : Served Stopped Given accounts (from_to in_old in_mid) (from_to out out2) c mid)
      (took : Consumes in_mid in_new piece) (live : c.closed ≡ false) (short : length piece ≤ max_client_piece) (joins : m ≡ client_given piece c) where
    abbrev heard : Round
    heard = record { came = piece; said = []; accounts = s.passes.later; client = m }

    came : RoundsPass Stopped Given accounts new_client (s.rounds ++ heard ∷ []) m (OffersAccounts mid)
    came = passes_on accounts new_client c m s.rounds (heard ∷ []) (OffersAccounts mid) (OffersAccounts mid) s.passes (passes_one s.passes.later c heard (OffersAccounts mid) (inl (record { live = live; waits = s.answered; short = short; silent = refl; joins = joins; same = refl })) s.passes.shown)

    came_with : (more : List Round) → came_in more ≡ [] → came_in s.rounds ++ piece ≡ came_in ((s.rounds ++ heard ∷ []) ++ more)
    came_with more none =
        let outer = flat_map-append (λ (r : Round). r.came) (s.rounds ++ heard ∷ []) more in
        let inner = flat_map-append (λ (r : Round). r.came) s.rounds (heard ∷ []) in
        sym (outer ∙ ap (λ l. came_in (s.rounds ++ heard ∷ []) ++ l) none ∙ append-nil (came_in (s.rounds ++ heard ∷ [])) ∙ inner ∙ ap (λ l. came_in s.rounds ++ l) (append-nil piece))

    said_with : (more : List Round) → (reply_octets (capability_reply None) ++ said_in s.rounds) ++ said_in more ≡ reply_octets (capability_reply None) ++ said_in ((s.rounds ++ heard ∷ []) ++ more)
    said_with more =
        let outer = flat_map-append (λ (r : Round). r.said) (s.rounds ++ heard ∷ []) more in
        let inner = flat_map-append (λ (r : Round). r.said) s.rounds (heard ∷ []) in
        append_assoc (reply_octets (capability_reply None)) (said_in s.rounds) (said_in more) ∙ ap (λ l. reply_octets (capability_reply None) ++ l) (sym (outer ∙ ap (λ l. l ++ said_in more) (inner ∙ append-nil (said_in s.rounds))))

    pub served_on : ((a : Accounts) → OffersAccounts mid a → RoundsWrite Stopped Given a (from_to m d) (from_to out2 out3) new × (is_ready d ≡ false)) → Served Stopped Given accounts (from_to in_old in_new) (from_to out out3) d new
    served_on then =
        let (more, idle) = then came.later came.shown in
        record {
          rounds = (s.rounds ++ heard ∷ []) ++ more.rounds;
          passes = passes_on accounts new_client m d (s.rounds ++ heard ∷ []) more.rounds (OffersAccounts mid) (OffersAccounts new) came more.passes;
          read = subst (Consumes in_old in_new) (came_with more.rounds more.none) (read_on in_old in_mid in_new (came_in s.rounds) piece s.read took);
          written = subst (Appends out out3) (said_with more.rounds) (written_on out out2 out3 (reply_octets (capability_reply None) ++ said_in s.rounds) (said_in more.rounds) s.written more.written);
          answered = idle;
        }

    pub broken_on : ((a : Accounts) → OffersAccounts mid a → Interrupted Stopped Given a m (from_to out2 out3) new) → BreaksOff Stopped Given accounts in_old (from_to out out3) new
    broken_on then =
        let more = then came.later came.shown in
        record {
          rounds = (s.rounds ++ heard ∷ []) ++ more.rounds;
          client = more.client;
          passes = passes_on accounts new_client m more.client (s.rounds ++ heard ∷ []) more.rounds (OffersAccounts mid) (OffersAccounts new) came more.passes;
          read = begins_with in_old in_new (came_in ((s.rounds ++ heard ∷ []) ++ more.rounds)) (subst (Consumes in_old in_new) (came_with more.rounds more.none) (read_on in_old in_mid in_new (came_in s.rounds) piece s.read took));
          written = subst (AppendsFront out out3) (said_with more.rounds) (front_on out out2 out3 (reply_octets (capability_reply None) ++ said_in s.rounds) (said_in more.rounds) s.written more.written);
        }
