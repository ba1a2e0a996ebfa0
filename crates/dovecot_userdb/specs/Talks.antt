-- What the lines of the server make of a connection.
use Rattle.std.specs.Prelude.{◌≡◌, ◌⊎◌, ℕ, ◌+◌, ◌<◌, ◌≤◌, nat_le, take, drop, Bool, true, false, if◌then◌else◌, List, [], ◌∷◌, ◌++◌, length, Option, Some, None}
use Rattle.std.specs.Option.{option_to_list}
use Rattle.dovecot_userdb.specs.Lines.{HasNone, CutsAt, CutsLines}
use Rattle.dovecot_userdb.specs.Answers.{SaysMajor, LineSays}
use Rattle.dovecot_userdb.specs.declared.answer.UserdbReply.{UserdbReply}
use Rattle.dovecot_userdb.specs.declared.end.UserdbEnd.{UserdbEnd}
use Rattle.dovecot_userdb.specs.declared.end.UserdbEnd.TheVariants as ends
use Rattle.dovecot_userdb.specs.declared.line.UserdbLine.{UserdbLine}
use Rattle.dovecot_userdb.specs.declared.line.UserdbLine.TheVariants.{Answer, Passed, Broken}
use Rattle.dovecot_userdb.specs.declared.talk.UserdbPhase.{UserdbPhase}
use Rattle.dovecot_userdb.specs.declared.talk.UserdbPhase.TheVariants.{Greeting, Open, Over}
use Rattle.dovecot_userdb.specs.declared.talk.UserdbTalk.{UserdbTalk}

-- the most octets of a line, with its LF
abbrev pub max_userdb_line : ℕ
max_userdb_line = 8192

-- ---- it ends

abbrev pub phase_ended : UserdbEnd → UserdbPhase → UserdbPhase
phase_ended end (Over before) = Over before
phase_ended end Greeting = Over end
phase_ended end Open = Over end

-- one that is at its end stays so; which requests wait stays as it is
abbrev pub talk_ended : UserdbEnd → UserdbTalk → UserdbTalk
talk_ended end t = record t { phase = phase_ended end t.phase }

-- ---- an answer

-- a number stands first at this place
pub record StandsFirstAt (number : ℕ) (numbers : List ℕ) (at : ℕ) : Type 0 where
  pub within : at < length numbers
  pub cut : CutsAt number numbers (take at numbers) (Some (drop (at + 1) numbers))

-- a request is taken out of those that wait, if it is among them
abbrev pub ForgetsRequest : ℕ → UserdbTalk → Bool → UserdbTalk → Type 0
ForgetsRequest id t true u = (front : List ℕ) × ((back : List ℕ) × (CutsAt id t.waiting front (Some back) × (u ≡ record t { waiting = front ++ back })))
ForgetsRequest id t false u = HasNone id t.waiting × (u ≡ t)

-- an answer is told if its request waits, which it then no longer does; else the server answers what wasn't asked
abbrev pub TakesUserdbReply : UserdbReply → UserdbTalk → Option UserdbReply → UserdbTalk → Type 0
TakesUserdbReply reply t (Some told) u = (told ≡ reply) × ForgetsRequest reply.id t true u
TakesUserdbReply reply t None u = HasNone reply.id t.waiting × (u ≡ talk_ended ends.Unasked t)

-- what follows from what a line says
abbrev pub FollowsSaid : UserdbLine → UserdbTalk → Option UserdbReply → UserdbTalk → Type 0
FollowsSaid (Answer reply) t told u = TakesUserdbReply reply t told u
FollowsSaid Passed t told u = (told ≡ None) × (u ≡ t)
FollowsSaid Broken t told u = (told ≡ None) × (u ≡ talk_ended ends.NoAnswer t)

-- ---- a line

-- the first line is to say version 1
abbrev pub GreetsBy : List ℕ → UserdbTalk → UserdbTalk → Type 0
GreetsBy line t u = (SaysMajor line 1 × (u ≡ record t { phase = Open })) ⊎ ((SaysMajor line 1 → ⊥) × (u ≡ talk_ended ends.Version t))

-- a later one is an answer, or passed over
pub record AnswersUserdbLine (line : List ℕ) (t : UserdbTalk) (told : Option UserdbReply) (u : UserdbTalk) : Type 0 where
  pub said : UserdbLine
  pub says : LineSays line said
  pub follows : FollowsSaid said t told u

abbrev pub HearsShortLine : UserdbPhase → List ℕ → UserdbTalk → Option UserdbReply → UserdbTalk → Type 0
HearsShortLine Greeting line t told u = (told ≡ None) × GreetsBy line t u
HearsShortLine Open line t told u = AnswersUserdbLine line t told u
HearsShortLine (Over end) line t told u = (told ≡ None) × (u ≡ t)

-- what a line makes of it, and the answer that is told: one that is too long ends it; at its end nothing is looked at
abbrev pub HearsUserdbLine : List ℕ → UserdbTalk → Option UserdbReply → UserdbTalk → Type 0
HearsUserdbLine line t told u =
    ((length line < max_userdb_line) × HearsShortLine t.phase line t told u)
    ⊎ ((max_userdb_line ≤ length line) × (told ≡ None) × (u ≡ talk_ended ends.LongLine t))

-- ---- lines

-- one line after the other, and all answers that are told
abbrev pub HearsEach : List (List ℕ) → UserdbTalk → List UserdbReply → UserdbTalk → Type 0
HearsEach [] t told u = (told ≡ []) × (u ≡ t)
HearsEach (line ∷ lines) t told u =
    (first : Option UserdbReply) × ((next : UserdbTalk) × ((more : List UserdbReply) × (HearsUserdbLine line t first next × HearsEach lines next more u × (told ≡ option_to_list first ++ more))))

-- all lines that are whole, and the beginning of one that isn't
pub record HearsUserdbLines (octets : List ℕ) (t : UserdbTalk) (told : List UserdbReply) (rest : List ℕ) (u : UserdbTalk) : Type 0 where
  pub lines : List (List ℕ)
  pub cut : CutsLines octets lines rest
  pub hears : HearsEach lines t told u

-- the beginning of a line with as many octets as a line may have, and no LF among them, ends it
abbrev pub talk_with_part : List ℕ → UserdbTalk → UserdbTalk
talk_with_part part t = if nat_le max_userdb_line (length part) then talk_ended ends.LongLine t else t
