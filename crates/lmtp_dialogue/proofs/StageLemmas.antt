-- What goes on, by what is held.
use Rattle.std.proofs.Common.{◌≡◌, ℕ, suc, zero, ◌+◌, ◌<◌, Bool, true, false, List, [], ◌∷◌, length, drop, get_or, refl, sym, ap, ◌∙◌, add-one, arith}
use Rattle.lmtp_dialogue.specs.Dialogues.{DialoguePhase, Greeted, Ready, Opened, Asking, Sending, Over, Item, IsLineItem, SpellsItem}
use Rattle.lmtp_dialogue.specs.Receivers.{IsLineGone, IsItemGone, IsLineTaken, IsItemTaken, reads_lines, takes_lines, is_heard}
use Rattle.lmtp_dialogue.specs.Talks.{phase_by, IsSoundAt}
use Rattle.lmtp_dialogue.specs.Texts.{TextStandsFor}
use Rattle.lmtp_dialogue.specs.declared.receiver.LmtpStage.{LmtpStage}
use Rattle.lmtp_dialogue.specs.declared.receiver.LmtpStage.TheVariants as stage
use Rattle.lmtp_dialogue.specs.declared.message_text.Text.{Text}

-- ---- lines

pub reads_taken : (at : LmtpStage) → reads_lines at ≡ true → takes_lines at ≡ true
reads_taken stage.Greeted reads = refl
reads_taken stage.Ready reads = refl
reads_taken stage.Opened reads = refl
reads_taken stage.Asking reads = refl
reads_taken stage.Sending reads = reads
reads_taken stage.Over reads = reads

pub line_gone : (at : LmtpStage) (long : Bool) (text : Text) (unread gone : List ℕ) → takes_lines at ≡ true → IsItemGone at long text unread gone → IsLineGone long unread gone
line_gone stage.Greeted long text unread gone takes is = is
line_gone stage.Ready long text unread gone takes is = is
line_gone stage.Opened long text unread gone takes is = is
line_gone stage.Asking long text unread gone takes is = is
line_gone stage.Sending long text unread gone takes is = absurd (cc takes)
line_gone stage.Over long text unread gone takes is = absurd (cc takes)

pub gone_line : (at : LmtpStage) (long : Bool) (text : Text) (unread gone : List ℕ) → takes_lines at ≡ true → IsLineGone long unread gone → IsItemGone at long text unread gone
gone_line stage.Greeted long text unread gone takes is = is
gone_line stage.Ready long text unread gone takes is = is
gone_line stage.Opened long text unread gone takes is = is
gone_line stage.Asking long text unread gone takes is = is
gone_line stage.Sending long text unread gone takes is = absurd (cc takes)
gone_line stage.Over long text unread gone takes is = tt

pub line_taken : (at : LmtpStage) (long : Bool) (text : Text) (unread : List ℕ) → takes_lines at ≡ true → IsItemTaken at long text unread → IsLineTaken long unread
line_taken stage.Greeted long text unread takes is = is
line_taken stage.Ready long text unread takes is = is
line_taken stage.Opened long text unread takes is = is
line_taken stage.Asking long text unread takes is = is
line_taken stage.Sending long text unread takes is = absurd (cc takes)
line_taken stage.Over long text unread takes is = absurd (cc takes)

pub taken_line : (at : LmtpStage) (long : Bool) (text : Text) (unread : List ℕ) → takes_lines at ≡ true → IsLineTaken long unread → IsItemTaken at long text unread
taken_line stage.Greeted long text unread takes is = is
taken_line stage.Ready long text unread takes is = is
taken_line stage.Opened long text unread takes is = is
taken_line stage.Asking long text unread takes is = is
taken_line stage.Sending long text unread takes is = absurd (cc takes)
taken_line stage.Over long text unread takes is = absurd (cc takes)

pub spells_line : (at : LmtpStage) (sender : List ℕ) (recipients : List (List ℕ)) (told : ℕ) (item : Item) (octets : List ℕ)
    → reads_lines at ≡ true → IsLineItem item octets → SpellsItem (phase_by at sender recipients told) item octets
spells_line stage.Greeted sender recipients told item octets reads is = is
spells_line stage.Ready sender recipients told item octets reads is = is
spells_line stage.Opened sender recipients told item octets reads is = is
spells_line stage.Asking sender recipients told item octets reads is = absurd (cc reads)
spells_line stage.Sending sender recipients told item octets reads is = absurd (cc reads)
spells_line stage.Over sender recipients told item octets reads is = absurd (cc reads)

pub line_spelled : (at : LmtpStage) (sender : List ℕ) (recipients : List (List ℕ)) (told : ℕ) (item : Item) (octets : List ℕ)
    → reads_lines at ≡ true → SpellsItem (phase_by at sender recipients told) item octets → IsLineItem item octets
line_spelled stage.Greeted sender recipients told item octets reads is = is
line_spelled stage.Ready sender recipients told item octets reads is = is
line_spelled stage.Opened sender recipients told item octets reads is = is
line_spelled stage.Asking sender recipients told item octets reads is = absurd (cc reads)
line_spelled stage.Sending sender recipients told item octets reads is = absurd (cc reads)
line_spelled stage.Over sender recipients told item octets reads is = absurd (cc reads)

pub heard_line : (at : LmtpStage) (sender : List ℕ) (recipients : List (List ℕ)) (told : ℕ) → reads_lines at ≡ true → is_heard (phase_by at sender recipients told) ≡ true
heard_line stage.Greeted sender recipients told reads = refl
heard_line stage.Ready sender recipients told reads = refl
heard_line stage.Opened sender recipients told reads = refl
heard_line stage.Asking sender recipients told reads = reads
heard_line stage.Sending sender recipients told reads = refl
heard_line stage.Over sender recipients told reads = reads

-- before a text nothing of one was begun
pub fresh_text : (at : LmtpStage) (text : Text) → takes_lines at ≡ true → IsSoundAt at text → TextStandsFor text []
fresh_text stage.Greeted text takes sound = sound
fresh_text stage.Ready text takes sound = sound
fresh_text stage.Opened text takes sound = sound
fresh_text stage.Asking text takes sound = sound
fresh_text stage.Sending text takes sound = absurd (cc takes)
fresh_text stage.Over text takes sound = absurd (cc takes)

pub sound_fresh : (at : LmtpStage) (text : Text) → TextStandsFor text [] → IsSoundAt at text
sound_fresh stage.Greeted text fresh = fresh
sound_fresh stage.Ready text fresh = fresh
sound_fresh stage.Opened text fresh = fresh
sound_fresh stage.Asking text fresh = fresh
sound_fresh stage.Sending text fresh = tt
sound_fresh stage.Over text fresh = fresh

-- nothing is gone behind an item
pub gone_none : (at : LmtpStage) (text : Text) (unread : List ℕ) → TextStandsFor text [] → IsItemGone at false text unread []
gone_none stage.Greeted text unread fresh = refl
gone_none stage.Ready text unread fresh = refl
gone_none stage.Opened text unread fresh = refl
gone_none stage.Asking text unread fresh = refl
gone_none stage.Sending text unread fresh = (refl, fresh)
gone_none stage.Over text unread fresh = tt

-- ---- which stage a phase has

abbrev pub stage_of : DialoguePhase → LmtpStage
stage_of Greeted = stage.Greeted
stage_of Ready = stage.Ready
stage_of (Opened sender taken) = stage.Opened
stage_of (Asking sender taken address) = stage.Asking
stage_of (Sending sender left) = stage.Sending
stage_of Over = stage.Over

pub stage_by : (at : LmtpStage) (sender : List ℕ) (recipients : List (List ℕ)) (told : ℕ) → stage_of (phase_by at sender recipients told) ≡ at
stage_by stage.Greeted sender recipients told = refl
stage_by stage.Ready sender recipients told = refl
stage_by stage.Opened sender recipients told = refl
stage_by stage.Asking sender recipients told = refl
stage_by stage.Sending sender recipients told = refl
stage_by stage.Over sender recipients told = refl

-- ---- the next recipient for whom a reply is owed

drop_by : (recipients : List (List ℕ)) (told : ℕ) → told < length recipients → drop told recipients ≡ get_or recipients told [] ∷ drop (suc told) recipients
drop_by [] told less = absurd (omega arith)
drop_by (here ∷ others) zero less = refl
drop_by (here ∷ others) (suc told) less = drop_by others told (omega arith)

pub owed_first : (recipients : List (List ℕ)) (told : ℕ) → told < length recipients → drop told recipients ≡ get_or recipients told [] ∷ drop (told + 1) recipients
owed_first recipients told less = drop_by recipients told less ∙ ap (λ n. get_or recipients told [] ∷ drop n recipients) (sym (add-one told))
