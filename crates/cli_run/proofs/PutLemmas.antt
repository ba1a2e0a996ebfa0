-- What a script that is put comes to: it was stored; or its text is none, or it is refused, and no account changed.
use Rattle.std.proofs.Common.{◌≡◌, ◌⊎◌, ◌++◌, ℕ, List, Bool, codes, Option, Some, None, Result, Ok, Err, refl, sym, subst, inl, inr}
use Rattle.std.specs.FinMap.{get}
use Rattle.sqlite.specs.Effect.{Database}
use Rattle.store_accounts.specs.Account.{Account, Accounts, open_one}
use Rattle.store_accounts.specs.declared.refusal.Refusal.{Refusal}
use Rattle.store_accounts.specs.declared.refusal.Refusal.TheVariants.{NoUser, BadScriptName, ScriptTooLarge, TooManyScripts}
use Rattle.sieve_lex.specs.declared.fault.ScriptFault.{ScriptFault}
use Rattle.managesieve_sessions.specs.Scripts.{IfElse, IsValidScript}
use Rattle.store_engine.specs.declared.answer.Answer.{Answer}
use Rattle.store_engine.specs.declared.answer.Answer.TheVariants as answer
use Rattle.store_engine.specs.declared.event.Event.{Event}
use Rattle.store_engine.specs.declared.event.Event.TheVariants.{DoUpkeep}
use Rattle.store_engine.specs.declared.upkeep.Upkeep.{Upkeep}
use Rattle.store_engine.specs.declared.upkeep.Upkeep.TheVariants as upkeep
use Rattle.store_engine.specs.Hosts.{TurnsBy, MayRefuseKeeping}
use Rattle.store_engine.specs.Upkeep.{Alters, InAccount, DoesUpkeep, Keeping, Stores, AnswersFault, put_instead, stores}
use Rattle.store_engine.specs.World.{Next}
use Rattle.store_engine.proofs.HostLemmas.{keeping_may}
use Rattle.cli_reports.specs.Reports.{ended_line}
use Rattle.cli_run.specs.declared.fault.RunFault.{RunFault}
use Rattle.cli_run.specs.declared.fault.RunFault.TheVariants.{Refused}
use Rattle.cli_run.specs.Draining.{TurnsTables}
use Rattle.cli_run.specs.Promise.{world_of_accounts}
use Rattle.cli_run.specs.Streams.{InputFailed}
use Rattle.cli_run.specs.Subcommands.{DoesEvent, DoesPut, FinishesPrinted, IsStoredBy, MakesEvent, Puts, PutsScript, RefusesScript, TellsVerdict, script_of}
use Rattle.cli_run.proofs.WordLemmas.{event_made, next_by, refused_by, turned_wider, put_denied, stays_turned, denied}
use Rattle.cli_run.specs.Transitions.{from_to}

-- it was stored; or the answer is a fault of the text, or a refusal, with which nothing changes
abbrev Comes : Answer → Option Account → Type 0
Comes said change =
    (said ≡ answer.Stored) ⊎ ((fault : ScriptFault) × (said ≡ answer.Invalid fault) × (change ≡ None)) ⊎ ((refusal : Refusal) × (said ≡ answer.Refused refusal) × (change ≡ None))

module _ (name text : List ℕ) (activate : Bool) where
  comes_in : (o : Option Account) (said : Answer) (change : Option Account) → InAccount o (Stores name text activate) said change → Comes said change
  comes_in None said change h = inr (inr (NoUser, h.says, h.stays))
  comes_in (Some a) said change (inl h) = go h.1
    where
      go : IfElse (IsValidScript text) (Alters answer.Stored (stores name text activate a) said change) (AnswersFault text said change) → Comes said change
      go (inl valid) = inl valid.1.says
      go (inr told) = inr (inl (told.1.0, told.1.2.says, told.1.2.stays))
  comes_in (Some a) said change (inr h) = inr (inr (TooManyScripts, h.1.says, h.1.stays))

  comes : (o : Option Account) (said : Answer) (change : Option Account) → DoesUpkeep (upkeep.StoreScript name text activate) o said change → Comes said change
  comes o said change (inl (named, inl h)) = comes_in (open_one o) said change h.1
  comes o said change (inl (named, inr h)) = inr (inr (ScriptTooLarge, h.1.says, h.1.stays))
  comes o said change (inr h) = inr (inr (BadScriptName, h.1.says, h.1.stays))

module _ (Denied : RunFault → Type 0) (user name text : List ℕ) (activate : Bool) where
  abbrev act : Upkeep
  act = upkeep.StoreScript name text activate

  abbrev StoreRow : Accounts → Answer → Accounts → Type 0
  StoreRow accounts = Keeping accounts user act

  abbrev StoreMay : Refusal → Type 0
  StoreMay = MayRefuseKeeping act

  kept_same : (accounts later : Accounts) (refusal : Refusal) → StoreRow accounts (answer.Refused refusal) later → later ≡ accounts
  kept_same accounts later refusal h =
      elim (comes name text activate (get accounts user) (answer.Refused refusal) h.0 h.1) [
        | inl is ↦ absurd (let no = is in cc)
        | inr more ↦ elim more [
          | inl told ↦ absurd (let no = told.1 in cc)
          | inr is ↦ subst (λ change. later ≡ put_instead change user accounts) is.2 h.2
        ]
      ]

  fault_same : (accounts later : Accounts) (fault : ScriptFault) → TurnsBy StoreRow StoreMay (answer.Invalid fault) accounts later → later ≡ accounts
  fault_same accounts later fault (inl h) =
      elim (comes name text activate (get accounts user) (answer.Invalid fault) h.0 h.1) [
        | inl is ↦ absurd (let no = is in cc)
        | inr more ↦ elim more [
          | inl told ↦ subst (λ change. later ≡ put_instead change user accounts) told.2 h.2
          | inr is ↦ absurd (let no = is.1 in cc)
        ]
      ]
  fault_same accounts later fault (inr h) = h.3

  stored_so : (accounts later : Accounts) (said : Answer) → ((refusal : Refusal) → said ≡ answer.Refused refusal → ⊥) → ((fault : ScriptFault) → said ≡ answer.Invalid fault → ⊥) → TurnsBy StoreRow StoreMay said accounts later → said ≡ answer.Stored
  stored_so accounts later said unrefused valid (inl row) =
      elim (comes name text activate (get accounts user) said row.0 row.1) [ inl is ↦ is | inr more ↦ elim more [ inl told ↦ absurd (valid told.0 told.1) | inr is ↦ absurd (unrefused is.0 is.1) ] ]
  stored_so accounts later said unrefused valid (inr h) = absurd (unrefused h.0 h.2)

  next : (said : Answer) (accounts later : Accounts) → TurnsBy StoreRow StoreMay said accounts later → Next (world_of_accounts accounts) (DoUpkeep user act) said (world_of_accounts later)
  next said accounts later turned = next_by (DoUpkeep user act) StoreRow StoreMay (λ all then answered row. (then, row, refl)) (λ all. keeping_may user act (world_of_accounts all)) kept_same said accounts later turned

  -- the script, put to the machine
  pub stored_put : (said : Answer) (r : Result (Option ScriptFault) RunFault) → IsStoredBy said r → (accounts later : Accounts) → TurnsBy StoreRow StoreMay said accounts later → PutsScript Denied user act r accounts later
  stored_put (answer.Refused refusal) r is accounts later turned =
      subst (λ o. PutsScript Denied user act o accounts later) (sym is)
      (refused_by (DoUpkeep user act) StoreRow StoreMay (λ all then said row. (then, row, refl)) (λ all. keeping_may user act (world_of_accounts all)) kept_same {X = Unit {0}} Denied (λ done. answer.Stored) refusal accounts later turned)
  stored_put (answer.Invalid fault) r is accounts later turned =
      let same = fault_same accounts later fault turned in
      subst (λ o. PutsScript Denied user act o accounts later) (sym is) (same, subst (λ all. Next (world_of_accounts accounts) (DoUpkeep user act) (answer.Invalid fault) (world_of_accounts all)) same (next (answer.Invalid fault) accounts later turned))
  stored_put said r is accounts later turned =
      subst (λ o. PutsScript Denied user act o accounts later) (sym is)
      (subst (λ a. Next (world_of_accounts accounts) (DoUpkeep user act) a (world_of_accounts later)) (stored_so accounts later said (λ refusal e. let no = e in cc) (λ fault e. let no = e in cc) turned) (next said accounts later turned))

-- no store was given out
pub script_denied : (Denied : RunFault → Type 0) (user : List ℕ) (act : Upkeep) (fault : RunFault) (r : Result (Option ScriptFault) RunFault) → r ≡ Err fault → Denied fault → (held new : Database) → new ≡ held → TurnsTables (PutsScript Denied user act r) held new
script_denied Denied user act fault r is why held new same =
    stays_turned (PutsScript Denied user act r) held new same (λ accounts. subst (λ o. PutsScript Denied user act o accounts accounts) (sym is) (refl, inl (denied ⊥ ⊥ Denied fault why (λ no. no))))

module _ (Denied : RunFault → Type 0) (Own : Event → Type 0) (old out : Option (List ℕ)) (held new : Database) where
  -- the word ended as one that is an event does
  pub put_as_event : (r : Result (Unit {0}) RunFault) → DoesEvent InputFailed ⊥ Denied Own (from_to old out) r (from_to held new) → DoesPut Denied Own (from_to old out) r (from_to held new)
  put_as_event r does = turned_wider _ _ held new (λ accounts later h. inl h) does

  -- it was put, and what came of that is told
  pub put_told : (Kept : RunFault → Type 0) (user name text : List ℕ) (activate : Bool) → Own (DoUpkeep user (upkeep.StoreScript name text activate)) → (verdict : Option ScriptFault) → TurnsTables (PutsScript Kept user (upkeep.StoreScript name text activate) (Ok verdict)) held new
      → (r : Result (Unit {0}) RunFault) → TellsVerdict name verdict old out r → DoesPut Denied Own (from_to old out) r (from_to held new)
  put_told Kept user name text activate own None put r told =
      put_as_event r (event_made InputFailed ⊥ Denied Own {X = Unit {0}} (DoUpkeep user (upkeep.StoreScript name text activate)) own (λ done. answer.Stored) held new tt (ended_line (codes "stored " ++ name)) refl put old out r told)
  put_told Kept user name text activate own (Some fault) put r told =
      turned_wider (PutsScript Kept user (upkeep.StoreScript name text activate) (Ok (Some fault))) _ held new
      (λ accounts later h. inr (record { event = DoUpkeep user (upkeep.StoreScript name text activate); own = own; fault = fault; next = h.1; stays = h.0; told = told })) put
