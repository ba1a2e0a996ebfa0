-- The moment of a delivery.
use Rattle.std.specs.Prelude.{ℕ}
use Rattle.mail_dates.specs.HostZones.{IsOffsetAt}
use Rattle.sieve_exec.specs.declared.when.When.{When}
use Rattle.store_engine.specs.declared.terms.HostSettings.{HostSettings}

-- the clock gives that moment the next time that it is read
abbrev pub GivesNext : {C : Type 0} → (C → C → ℕ → Type 0) → C → ℕ → Type 0
GivesNext {C} showed clock moment = (later : C) × showed clock later moment

-- it is such a moment, in the zone of the settings
abbrev pub IsReadNext : {C : Type 0} → (C → C → ℕ → Type 0) → C → HostSettings → When → Type 0
IsReadNext showed clock settings when = GivesNext showed clock when.moment × IsOffsetAt settings.zone when.moment when.zone
