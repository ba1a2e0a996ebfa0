-- What a delivery has to know of the account, beside the text of its active script.
use Rattle.std.specs.Prelude.{◌≡◌, ℕ, true, Bool, false, List, [], ◌∷◌, Option, None, Some}
use Rattle.std.specs.FinMap.{get}
use Rattle.octets.specs.Ascii.{lowered}
use Rattle.mail_address.specs.Outbound.{IsBareAddress}
use Rattle.mail_address.specs.declared.address.Addr.{Addr}
use Rattle.sieve_syntax.specs.Meaning.{Actions}
use Rattle.sieve_syntax.specs.declared.extension.vacation.VacationArgs.{VacationArgs}
use Rattle.sieve_exec.specs.Mails.{MailSpec}
use Rattle.sieve_vacation.specs.Handles.{handle_of, handle_key_of}
use Rattle.store_accounts.specs.Account.{Account, room_in}
use Rattle.sieve_plan.specs.Sent.{over_keys, known_targets}
use Rattle.sieve_plan.specs.declared.view.AccountView.{AccountView}

-- the moment that an account keeps of a response to a sender, if one is kept; ignoring the sender's case
abbrev pub last_reply : Account → List ℕ → List ℕ → Option ℕ
last_reply a sender key = get a.replies (key, lowered sender)

-- the moment that it keeps of the response that a `vacation` asks for, if one was executed
abbrev pub last_of : Account → List ℕ → Option VacationArgs → Option ℕ
last_of a sender None = None
last_of a sender (Some args) = last_reply a sender (handle_key_of (handle_of args))

abbrev pub asks_for : {X Y : Type 0} → List X → Option Y → Bool
asks_for [] None = false
asks_for sent reply = true

-- the deeds bring rows into the queue
abbrev pub asks_room : Actions → Bool
asks_room deeds = asks_for deeds.sent deeds.reply

-- the addresses to which the message was sent before, if the deeds send it to some
abbrev pub known_of : Account → MailSpec → List Addr → List (List ℕ)
known_of a mail [] = []
known_of a mail (target ∷ more) = known_targets a mail

-- the view has the account's address, and what it keeps of what the deeds ask for
pub record IsViewOf (view : AccountView) (mail : MailSpec) (deeds : Actions) (a : Account) : Type 0 where
  pub address : IsBareAddress a.address view.address
  pub last : view.last ≡ last_of a mail.from deeds.reply
  pub known : view.known ≡ known_of a mail deeds.sent
  pub room : asks_room deeds ≡ true → view.room ≡ room_in a
  pub over : view.over ≡ over_keys a mail.moment
