-- What is kept of an input stands for it.
use Rattle.std.proofs.Common.{◌≡◌, ℕ, ◌+◌, ◌*◌, ◌≤◌, List, [], ◌∷◌, ◌++◌, Option, Some, None, Result, Ok, Err, IfSome, inl, inr, refl, sym, ap, ◌∙◌, subst, length, append_assoc, append-nil, take, drop, arith}
use Rattle.mail_head.specs.SizeCounts.{CountsSize}
use Rattle.mail_head.specs.Prefixes.{IsHeaderPrefix}
use Rattle.mail_head.specs.declared.size_count.SizeCount.{SizeCount}
use Rattle.std.specs.Io.KnownBytes.{Consumes, IsAtEnd, Keeps}
use Rattle.cli_run.specs.Framing.{HasCountLine, IsFramed}
use Rattle.cli_run.specs.KeptInputs.{IsKeptWithin, KeepsInput, KeepsHeader, IsMessagePrefix}
use Rattle.cli_run.specs.Faults.{IsFailure, IsUnanswered}
use Rattle.cli_run.specs.Streams.{InputFailed}
use Rattle.cli_run.specs.TryScript.{HasNoAnswer, IsNoInput, LeavesOutput, OfInput}
use Rattle.cli_run.specs.declared.answer.TryAnswer.{TryAnswer}
use Rattle.cli_run.specs.declared.fault.RunFault.{RunFault}
use Rattle.cli_run.specs.declared.fault.RunFault.TheVariants.{Refused, Busy, Stream, NoMessage, NoMaildir, NoScript, ScriptActive, ScriptExists, Invalid, BadInput, BadArgument}
use Rattle.store_accounts.specs.declared.refusal.Refusal.TheVariants as refusal
use Rattle.sieve_exec.specs.declared.envelope.Envelope.{Envelope}
use Rattle.store_engine.specs.declared.terms.Terms.{Terms}

-- a message that grows behind its script
framed_more : (came script message piece : List ℕ) → IsFramed came script message → IsFramed (came ++ piece) script (message ++ piece)
framed_more came script message piece framed = record {
  digits = framed.digits;
  written = framed.written;
  short = framed.short;
  spelled =
      ap (λ t. t ++ piece) framed.spelled ∙ append_assoc framed.digits (10 ∷ (script ++ message)) piece
      ∙ ap (λ t. framed.digits ++ 10 ∷ t) (append_assoc script message piece);
}

-- so much of a message that has its header has it of a longer one
headed_more : (front message piece : List ℕ) → IsHeaderPrefix front message → IsHeaderPrefix front (message ++ piece)
headed_more front message piece has = record {
  rest = has.rest ++ piece;
  spelled = ap (λ t. t ++ piece) has.spelled ∙ append_assoc front has.rest piece;
  ended = has.ended;
}

-- a piece was passed over
pub passed_over : (came kept piece : List ℕ) (count next : SizeCount) → KeepsHeader came kept count
    → ((text : List ℕ) → CountsSize text count → CountsSize (text ++ piece) next) → KeepsHeader (came ++ piece) kept next
passed_over came kept piece count next keeps counts = record {
  script = keeps.script;
  front = keeps.front;
  message = keeps.message ++ piece;
  framed = keeps.framed;
  whole = framed_more came keeps.script keeps.message piece keeps.whole;
  headed = headed_more keeps.front keeps.message piece keeps.headed;
  counted = counts keeps.message keeps.counted;
}

-- all is kept so far, and the header is there
pub begun : (input script message : List ℕ) (count : SizeCount) → IsFramed input script message → IsHeaderPrefix message message → CountsSize message count
    → KeepsHeader input input count
begun input script message count framed headed counts = record {
  script = script;
  front = message;
  message = message;
  framed = framed;
  whole = framed;
  headed = headed;
  counted = counts;
}

-- of all that came, from what is so of it
pub of_input : (given : Option (List ℕ)) (P Q : List ℕ → Type 0) → ((came : List ℕ) → P came → Q came) → OfInput given P → OfInput given Q
of_input None P Q so (came, here) = (came, so came here)
of_input (Some came) P Q so here = so came here

-- what was read, up to the end
pub all_read : (given left : Option (List ℕ)) (came : List ℕ) (P : List ℕ → Type 0) → Consumes given left came → IsAtEnd left → P came → OfInput given P
all_read None left came P read end here = (came, here)
all_read (Some input) None came P read end here = absurd read
all_read (Some input) (Some left) came P read end here = subst P (sym (read ∙ ap (λ t. came ++ t) end ∙ append-nil came)) here

-- no more than before
pub within_more : (most more kept : ℕ) (count : Option SizeCount) → most ≤ more → IsKeptWithin most kept count → IsKeptWithin more kept count
within_more most more kept None le within = (omega (arith, within.0, le), tt)
within_more most more kept (Some count) le within = (omega (arith, within.0, le), omega (arith, within.1, le))

-- ---- answers

-- what is kept has the script, and a front that stands for the message
pub stands_for : (came kept script front : List ℕ) (count : Option SizeCount) → IsFramed kept script front
    → ((s m : List ℕ) → IsFramed kept s m → (s ≡ script) × (m ≡ front)) → KeepsInput came kept count
    → (message : List ℕ) × IsFramed came script message × IsMessagePrefix front count message
stands_for came kept script front None framed only keeps = (front, subst (λ t. IsFramed t script front) keeps framed, refl)
stands_for came kept script front (Some count) framed only keeps =
    let same = only keeps.script keeps.front keeps.framed in
    (keeps.message, subst (λ s. IsFramed came s keeps.message) same.0 keeps.whole, (subst (λ f. IsHeaderPrefix f keeps.message) same.1 keeps.headed, keeps.counted))

nothing_of : (given : Option (List ℕ)) → OfInput given (λ came. ⊥) → ⊥
nothing_of None none = none.1
nothing_of (Some came) none = none

-- a fault that nothing is answered with
module _ (given : Option (List ℕ)) (kept : List ℕ) (count : Option SizeCount) (here : OfInput given (λ came. KeepsInput came kept count)) where
  pub unanswered : (fault : RunFault) → ((came : List ℕ) → KeepsInput came kept count → IsUnanswered (IsNoInput came) fault) → HasNoAnswer given fault
  unanswered (Refused refusal.Memory) so = inr (inl refl)
  unanswered BadInput so = inl (refl, of_input given (λ came. KeepsInput came kept count) IsNoInput so here)
  unanswered (Refused refusal.Store) so = absurd (nothing_of given (of_input given (λ came. KeepsInput came kept count) (λ came. ⊥) so here))
  unanswered (Refused refusal.NotOurs) so = absurd (nothing_of given (of_input given (λ came. KeepsInput came kept count) (λ came. ⊥) so here))
  unanswered (Refused refusal.NoUser) so = absurd (nothing_of given (of_input given (λ came. KeepsInput came kept count) (λ came. ⊥) so here))
  unanswered (Refused refusal.TooLarge) so = absurd (nothing_of given (of_input given (λ came. KeepsInput came kept count) (λ came. ⊥) so here))
  unanswered (Refused refusal.BadEnvelope) so = absurd (nothing_of given (of_input given (λ came. KeepsInput came kept count) (λ came. ⊥) so here))
  unanswered (Refused refusal.BadMoment) so = absurd (nothing_of given (of_input given (λ came. KeepsInput came kept count) (λ came. ⊥) so here))
  unanswered (Refused refusal.UserExists) so = absurd (nothing_of given (of_input given (λ came. KeepsInput came kept count) (λ came. ⊥) so here))
  unanswered (Refused refusal.BadUser) so = absurd (nothing_of given (of_input given (λ came. KeepsInput came kept count) (λ came. ⊥) so here))
  unanswered (Refused refusal.NoRow) so = absurd (nothing_of given (of_input given (λ came. KeepsInput came kept count) (λ came. ⊥) so here))
  unanswered (Refused refusal.AccountClosed) so = absurd (nothing_of given (of_input given (λ came. KeepsInput came kept count) (λ came. ⊥) so here))
  unanswered (Refused refusal.UserIsOpen) so = absurd (nothing_of given (of_input given (λ came. KeepsInput came kept count) (λ came. ⊥) so here))
  unanswered (Refused refusal.UserHasMail) so = absurd (nothing_of given (of_input given (λ came. KeepsInput came kept count) (λ came. ⊥) so here))
  unanswered (Refused refusal.BadScriptName) so = absurd (nothing_of given (of_input given (λ came. KeepsInput came kept count) (λ came. ⊥) so here))
  unanswered (Refused refusal.ScriptTooLarge) so = absurd (nothing_of given (of_input given (λ came. KeepsInput came kept count) (λ came. ⊥) so here))
  unanswered (Refused refusal.TooManyScripts) so = absurd (nothing_of given (of_input given (λ came. KeepsInput came kept count) (λ came. ⊥) so here))
  unanswered (Refused refusal.BadAccount) so = absurd (nothing_of given (of_input given (λ came. KeepsInput came kept count) (λ came. ⊥) so here))
  unanswered Busy so = absurd (nothing_of given (of_input given (λ came. KeepsInput came kept count) (λ came. ⊥) so here))
  unanswered Stream so = absurd (nothing_of given (of_input given (λ came. KeepsInput came kept count) (λ came. ⊥) so here))
  unanswered NoMessage so = absurd (nothing_of given (of_input given (λ came. KeepsInput came kept count) (λ came. ⊥) so here))
  unanswered NoMaildir so = absurd (nothing_of given (of_input given (λ came. KeepsInput came kept count) (λ came. ⊥) so here))
  unanswered NoScript so = absurd (nothing_of given (of_input given (λ came. KeepsInput came kept count) (λ came. ⊥) so here))
  unanswered ScriptActive so = absurd (nothing_of given (of_input given (λ came. KeepsInput came kept count) (λ came. ⊥) so here))
  unanswered ScriptExists so = absurd (nothing_of given (of_input given (λ came. KeepsInput came kept count) (λ came. ⊥) so here))
  unanswered Invalid so = absurd (nothing_of given (of_input given (λ came. KeepsInput came kept count) (λ came. ⊥) so here))
  unanswered BadArgument so = absurd (nothing_of given (of_input given (λ came. KeepsInput came kept count) (λ came. ⊥) so here))

-- a read that failed
pub not_read : (given : Option (List ℕ)) (fault : RunFault) → IsFailure fault → (fault ≡ Stream → InputFailed) → HasNoAnswer given fault
not_read given fault (inl is) failed = inr (inl is)
not_read given fault (inr is) failed = inr (inr (is, failed is))

keeps_same : (held : Option (List ℕ)) → Keeps held held
keeps_same None = tt
keeps_same (Some text) = refl

-- nothing is on the output then
pub leaves_nothing : (envelope : Envelope) (terms : Terms) (given held : Option (List ℕ)) (fault : RunFault) (r : Result TryAnswer RunFault) → r ≡ Err fault → HasNoAnswer given fault
    → LeavesOutput envelope terms given held held r
leaves_nothing envelope terms given held fault r is (inl (bad, none)) = subst (LeavesOutput envelope terms given held held) (sym (is ∙ ap Err bad)) (none, keeps_same held)
leaves_nothing envelope terms given held fault r is (inr (inl lack)) = subst (LeavesOutput envelope terms given held held) (sym (is ∙ ap Err lack)) (keeps_same held)
leaves_nothing envelope terms given held fault r is (inr (inr (stream, failed))) = subst (LeavesOutput envelope terms given held held) (sym (is ∙ ap Err stream)) (inl (keeps_same held, failed))
