-- Examples of a message taken out of a folder, and near misses.
use Rattle.std.proofs.Common.{◌≡◌, ℕ, List, [], ◌∷◌, Option, Some, None, refl, codes}
use Rattle.std.specs.FinMap.{empty}
use Rattle.store_accounts.specs.Account.{Account, takes_mail}
use Rattle.store_accounts.specs.declared.refusal.Refusal.TheVariants.{NoUser, NoRow, Memory}
use Rattle.store_engine.specs.declared.answer.Answer.TheVariants.{MailTaken, Refused}
use Rattle.store_engine.specs.declared.event.Event.TheVariants.{TakeMail}
use Rattle.store_engine.specs.OwnActs as own
use Rattle.store_engine.specs.OwnActs.{TakesFirstAlone, TakesMailAloneIn, acts_in}
use Rattle.store_engine.specs.World.{World}

abbrev inbox : List ℕ
inbox = codes "INBOX"

-- of two messages the first is taken
first_taken : (a : Account) → TakesFirstAlone a inbox (codes "M1" ∷ codes "M2" ∷ []) MailTaken (Some (takes_mail inbox 1 a))
first_taken a = record { says = refl; changed = refl }

-- near miss: none is taken of a folder that has none
none_taken : (a : Account) (later : Option Account) → TakesFirstAlone a inbox [] MailTaken later → ⊥
none_taken a later is = let no = is.refused in cc

-- near miss: no folder is asked for where the user has no account
no_user_first : (later : Option Account) → TakesMailAloneIn None inbox (Refused NoRow) later → ⊥
no_user_first later is = let no = is.refused in cc

abbrev nobody : World
nobody = record { accounts = empty; sessions = empty }

-- it is an act of the user whose folder it is, and of no other
taken_by_carol : acts_in (codes "carol") nobody (TakeMail (codes "carol") inbox) (Refused NoUser) ≡ own.TakesMail inbox (Refused NoUser) ∷ []
taken_by_carol = refl

taken_by_another : acts_in (codes "carol") nobody (TakeMail (codes "alice") inbox) (Refused NoUser) ≡ []
taken_by_another = refl

-- near miss: without memory it is no act
taken_without_memory : acts_in (codes "carol") nobody (TakeMail (codes "carol") inbox) (Refused Memory) ≡ []
taken_without_memory = refl
