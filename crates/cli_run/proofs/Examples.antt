-- Framing and rounds of a session by example: right ones, and what is near them.
use Prim.Native.Nat.{zero}
use Rattle.std.proofs.Common.{Bool, true, false, inl, inr, lit≤, suc, ◌<◌, get_or, refl, sym, ap, ◌∙◌, ◌≡◌, ℕ, List, [], ◌∷◌, ◌++◌, Option, Some, None, IsTrue, is_some, arith}
use Rattle.std.specs.Prelude.{codes}
use Rattle.std.specs.Option.{option_copied}
use Rattle.octets.specs.Ascii.{is_digit}
use Rattle.octets.specs.Decimal.{Writes, number_of}
use Rattle.managesieve_protocol.specs.Machine.{rows as machine_rows}
use Rattle.store_accounts.specs.Account.{no_accounts}
use Rattle.store_accounts.specs.declared.refusal.Refusal.{Refusal}
use Rattle.managesieve_sessions.specs.declared.progress.Progress.TheVariants.{Done}
use Rattle.managesieve_sessions.specs.Clients.{Client, new_client, shut}
use Rattle.managesieve_sessions.specs.Replies.{done_reply}
use Rattle.store_lock.specs.declared.keeper.StoreUnavailable.{StoreUnavailable}
use Rattle.store_lock.specs.declared.keeper.StoreUnavailable.TheVariants.{Busy}
use Rattle.managesieve_sessions.specs.Refusing.{WasRefused}
use Rattle.cli_subcommands.specs.declared.location.StoreLocation.{StoreLocation}
use Rattle.cli_run.specs.Faults.{cause_line, run_fault_line, store_failed}
use Rattle.cli_run.specs.Framing.{IsFramed}
use Rattle.cli_run.specs.Serving.{Round, HasClosed, HasGiven, Hinders, IsDenied, IsDeniedBy, IsTold, StopsServing, RoundHears, RoundSteps, GivesUp, RoundsLead, Unstopped, came_in, said_in}
use Rattle.cli_run.specs.Streams.{WriteFailed}

five-digits : (k d : ℕ) → k < 1 → is_digit (get_or (codes "5") k d) ≡ true
five-digits zero d k<1 = refl
five-digits (suc k) d k<1 = absurd (omega arith)

five : Writes (codes "5") 5
five = record { present = λ e. cc; digits = five-digits; value = refl }

-- "5", LF, `keep;`, and the message `a`
framed : IsFramed (codes "5\nkeep;a") (codes "keep;") (codes "a")
framed = record { digits = codes "5"; written = five; short = omega arith; spelled = refl }

not_six : (d : ℕ) → d ≡ 54 → number_of (d ∷ []) ≡ 5 → ⊥
not_six d six five = let is_six : number_of (54 ∷ []) ≡ 6 = refl in cc

not_feed : (x : ℕ) → x ≡ 10 → is_digit x ≡ true → ⊥
not_feed x feed digit = let none : is_digit 10 ≡ false = refl in cc

-- one octet of script more than there is: the count has to be the script's length
longer : (digits : List ℕ) → Writes digits 5 → codes "6\nkeep;" ≡ digits ++ 10 ∷ codes "keep;" → ⊥
longer [] w e = w.present refl
longer (d ∷ []) w e = let six : d ≡ 54 = cc in not_six d six w.value
longer (d ∷ x ∷ more) w e = let feed : x ≡ 10 = cc in not_feed x feed (w.digits 1 0 (omega arith))

framed-longer : IsFramed (codes "6\nkeep;") (codes "keep;") [] → ⊥
framed-longer h = longer h.digits h.written h.spelled

-- ---- rounds of a session

abbrev crlf : List ℕ
crlf = 13 ∷ 10 ∷ []

-- a new session to which these octets came
abbrev after : List ℕ → Client
after octets = record new_client { unread = octets }

abbrev hears : List ℕ → Client → Round
hears octets c = record { came = octets; said = []; accounts = no_accounts; client = c }

-- `NOOP` in two pieces: both are heard, and then it is answered
abbrev noop_rounds : List Round
noop_rounds =
    hears (codes "NO") (after (codes "NO")) ∷ hears (codes "OP" ++ crlf) (after (codes "NOOP" ++ crlf)) ∷ record { came = []; said = codes "OK \"Done.\"" ++ crlf; accounts = no_accounts; client = new_client } ∷ []

noop : RoundsLead Unstopped ⊥ no_accounts new_client noop_rounds no_accounts new_client
unfolding machine_rows
noop = (
  inl (record { live = refl; waits = refl; short = lit≤ tt; silent = refl; joins = refl; same = refl }),
  (
    inl (record { live = refl; waits = refl; short = lit≤ tt; silent = refl; joins = refl; same = refl }),
    (
      inr (inl (record {
        ready = refl;
        none = refl;
        progress = Done;
        step = record { reply = done_reply; replies = refl; spelled = refl; session = refl; goes_on = refl; changed = refl };
        reach = inl (Done, λ accounts. record { reply = done_reply; replies = refl; spelled = refl; session = refl; goes_on = refl; changed = refl });
      })),
      (refl, refl),
    ),
  ),
)

noop_came : came_in noop_rounds ≡ codes "NOOP" ++ crlf
noop_came = refl

noop_said : said_in noop_rounds ≡ codes "OK \"Done.\"" ++ crlf
noop_said = refl

-- where a keeper denied its store it may be given up; where none did, only after its step was refused; but nothing more is heard while it waits, and nothing is answered that isn't whole
noop_given_up : GivesUp (Hinders (Unit {0})) no_accounts (after (codes "NOOP" ++ crlf)) (record { came = []; said = codes "NO (TRYLATER) \"Try later.\"" ++ crlf; accounts = no_accounts; client = new_client })
unfolding machine_rows
noop_given_up = record { ready = refl; none = refl; cause = inl tt; told = refl; drops = refl; same = refl }

noop_without_cause : (r : Round) → GivesUp (Hinders ⊥) no_accounts (after (codes "NOOP" ++ crlf)) r → WasRefused (after (codes "NOOP" ++ crlf))
noop_without_cause r g = elim g.cause [
  | inl none ↦ absurd none
  | inr was ↦ was
]

noop_late : (r : Round) → RoundHears no_accounts (after (codes "NOOP" ++ crlf)) r → ⊥
unfolding machine_rows
noop_late r h = let waits : true ≡ false = h.waits in cc

half_answered : (r : Round) → RoundSteps (Unit {0}) no_accounts (after (codes "NOOP")) r → ⊥
unfolding machine_rows
half_answered r s = let ready : false ≡ true = s.ready in cc

-- a session that is closed hears nothing, though nothing waits to be answered
closed_hears : (r : Round) → RoundHears no_accounts (shut new_client) r → ⊥
closed_hears r h = let live : true ≡ false = h.live in cc

-- a denial at a path is none at another one, nor one of a keeper that waits otherwise; so with a store that was given
abbrev RefusesA : ℕ → List ℕ → StoreUnavailable → Type 0
RefusesA keeper path denial = path ≡ codes "a.db"

abbrev GivesA : ℕ → List ℕ → Type 0
GivesA keeper path = path ≡ codes "a.db"

abbrev waits_never : ℕ → Bool
waits_never keeper = false

module _ (here there : StoreLocation) (a : here.path.now ≡ codes "a.db") (b : there.path.now ≡ codes "b.db") where
  other_path : there.path.now ≡ codes "a.db" → ⊥
  other_path is = let first : 98 ≡ 97 = ap (λ l. get_or l 0 0) (sym b ∙ is) in absurd (omega (arith, first))

  denied_there : here.waits ≡ false → IsDenied RefusesA waits_never here
  denied_there at_once = (0, Busy, a, sym at_once)

  denied_elsewhere : IsDenied RefusesA waits_never there → ⊥
  denied_elsewhere h = other_path h.2

  denied_at_once : here.waits ≡ true → IsDenied RefusesA waits_never here → ⊥
  denied_at_once waits h = let no : false ≡ true = h.3 ∙ waits in cc

  given_there : here.waits ≡ false → HasGiven GivesA waits_never here
  given_there at_once = (0, a, sym at_once)

  given_elsewhere : HasGiven GivesA waits_never there → ⊥
  given_elsewhere h = other_path h.1

  given_at_once : here.waits ≡ true → HasGiven GivesA waits_never here → ⊥
  given_at_once waits h = let no : false ≡ true = h.2 ∙ waits in cc

-- a fault is told by its line, and by the one on its cause; nothing tells of one, where no write failed
told_so : IsTold (Some []) (Some (run_fault_line store_failed))
told_so = (record { fault = store_failed; cause = None }, inl refl)

told_silently : IsTold (Some []) (Some []) → WriteFailed (Some [])
told_silently (fault, written) = elim written [
  | inl all ↦ absurd (let is : [] ≡ run_fault_line fault.fault ++ cause_line (option_copied fault.cause) = all in let never : ⊥ = cc in never)
  | inr cut ↦ cut.1
]

-- what is given up untold was so since another process had the store; a store whose closing is untold could be closed
untold_busy : {K : Type 0} (refuses : K → List ℕ → StoreUnavailable → Type 0) (waits : K → Bool) (location : StoreLocation) (c : Client) → StopsServing refuses waits location ⊥ c → IsDeniedBy refuses waits location Busy
untold_busy refuses waits location c stops = elim stops.1 [
  | inl told ↦ absurd told
  | inr busy ↦ busy
]

untold_closed : {K S : Type 0} (closes : K → S → Option Refusal → Type 0) (h : HasClosed closes ⊥) → h.2 ≡ None
untold_closed closes h = none_of h.2 h.4
  where
    none_of : (came : Option Refusal) → (IsTrue (is_some came) → ⊥) → came ≡ None
    none_of None told = refl
    none_of (Some refusal) told = absurd (told refl)
