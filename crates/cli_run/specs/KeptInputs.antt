-- What is kept of an input that is a script and a message.
use Rattle.std.specs.Prelude.{◌≡◌, ℕ, ◌*◌, ◌≤◌, List, Option, Some, None, IfSome}
use Rattle.mail_head.specs.Prefixes.{IsHeaderPrefix}
use Rattle.mail_head.specs.SizeCounts.{CountsSize}
use Rattle.mail_head.specs.declared.size_count.SizeCount.{SizeCount}
use Rattle.cli_run.specs.Framing.{IsFramed}

-- what came is a script and a message: of these the script is kept, and a prefix of the message that has its header; and the
-- message's size is counted
pub record KeepsHeader (came kept : List ℕ) (count : SizeCount) : Type 0 where
  pub script : List ℕ
  pub front : List ℕ
  pub message : List ℕ
  pub framed : IsFramed kept script front
  pub whole : IsFramed came script message
  pub headed : IsHeaderPrefix front message
  pub counted : CountsSize message count

-- all that came is kept; or this much of it, if a size is counted
abbrev pub KeepsInput : List ℕ → List ℕ → Option SizeCount → Type 0
KeepsInput came kept None = kept ≡ came
KeepsInput came kept (Some count) = KeepsHeader came kept count

-- the prefix decides for the message: it is all of it; or it has the header, if the message's size is counted
abbrev pub IsMessagePrefix : List ℕ → Option SizeCount → List ℕ → Type 0
IsMessagePrefix front None message = front ≡ message
IsMessagePrefix front (Some count) message = IsHeaderPrefix front message × CountsSize message count

-- twice the octets that are kept are at most this many, and so is the size
abbrev pub IsKeptWithin : ℕ → ℕ → Option SizeCount → Type 0
IsKeptWithin most kept count = (2 * kept ≤ most) × IfSome count (λ c. c.size ≤ most)
