-- What the scripts, the flags and the password of a text have to be, so that its account may be kept.
use Rattle.std.specs.Prelude.{◌≤◌, ◌==◌, ◌&&◌, ◌||◌, ℕ, Bool, true, false, not, nat_le, List, length}
use Rattle.std.specs.List.{AllByRecursion, count_by, list_all}
use Rattle.store_text.specs.declared.part.Part.{Part}
use Rattle.store_text.specs.declared.part.Part.TheVariants.{Script, Mail, Copy}
use Rattle.managesieve_sessions.specs.Limits.{scripts_limit}
use Rattle.store_accounts.specs.Account.{Password}
use Rattle.store_engine.specs.Sound.{IsSoundScript}
use Rattle.store_engine.specs.Upkeep.{rounds}

-- a script that may be kept, or no script
abbrev pub IsSoundPart : Part → Type 0
IsSoundPart (Script name text) = IsSoundScript name text
IsSoundPart part = Unit {0}

abbrev pub is_a_script : Part → Bool
is_a_script (Script name text) = true
is_a_script part = false

-- each script may be kept, and there are no more of them than the limit
pub record HasSoundScripts (parts : List Part) : Type 0 where
  pub each : AllByRecursion IsSoundPart parts
  pub few : count_by is_a_script parts ≤ scripts_limit

-- the largest text of a copy's flags, in octets: a hundred names of 128 octets, with a blank between two
abbrev pub flags_limit : ℕ
flags_limit = 12899

-- a copy with no longer flags, or no copy
abbrev pub has_short_flags : Part → Bool
has_short_flags (Mail number folder message flags) = nat_le (length flags) flags_limit
has_short_flags (Copy number folder first flags) = nat_le (length flags) flags_limit
has_short_flags part = true

-- no copy has longer flags
abbrev pub have_short_flags : List Part → Bool
have_short_flags parts = list_all has_short_flags parts

-- the largest salt of such a password, in octets
abbrev pub salt_limit : ℕ
salt_limit = 64

-- a password that may be kept: each login hashes its salt as often as it says, so it has the rounds of every account, or none if the account
-- is closed; and it has a digest, without which the account would be a removed one
abbrev pub may_guard : Password → Bool
may_guard password =
    (password.rounds == 0 || password.rounds == rounds) && (nat_le (length password.salt) salt_limit && not (length password.digest == 0))
