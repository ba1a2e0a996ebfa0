-- What is read from an input and written to an output, if their octets are known.
use Rattle.std.specs.Prelude.{◌≡◌, ◌≢◌, ◌⊎◌, ℕ, suc, List, [], Option, Some, None, take}
use Rattle.std.specs.Io.KnownBytes.{Appends, Consumes, IsAtEnd}
use Rattle.std.specs.IoError.{error_kind}
use Rattle.std_io.specs.declared.io.error.Error.{Error}
use Rattle.std_io.specs.declared.io.kind.ErrorKind.TheVariants.{Interrupted}

-- the octets that a reader had left are these
abbrev pub ReadsAll : Option (List ℕ) → List ℕ → Type 0
ReadsAll None octets = Unit {0}
ReadsAll (Some left) octets = octets ≡ left

-- known octets grow by some prefix of a text
abbrev pub AppendsFront : Option (List ℕ) → Option (List ℕ) → List ℕ → Type 0
AppendsFront old new text = (k : ℕ) × Appends old new (take k text)

-- known octets grow
abbrev pub AppendsSome : Option (List ℕ) → Option (List ℕ) → Type 0
AppendsSome old new = (more : List ℕ) × Appends old new more

-- ---- calls of a reader or writer, one after the other. A function tells which octets a state of it has left or holds, if known

-- a signal came before a call that led from one state of a reader or writer to the other. The definition is opaque, and only
-- `read_at` and `write_some` say it: so whoever can say it made such a call
pub WasInterrupted : {X : Type 0} → X → X → Type 0
WasInterrupted old new = Unit {0}

-- a read that led from one state of the reader to the other returned that nothing is left. This too is opaque, and only `read_at`
-- says it
pub TellsEnd : {R : Type 0} → R → R → Type 0
TellsEnd old new = Unit {0}

-- for the proofs of those functions alone
pub was_interrupted : {X : Type 0} (old new : X) (error : Error) → error_kind error ≡ Interrupted → WasInterrupted old new
unfolding WasInterrupted
was_interrupted old new error signal = tt

pub tells_end : {R : Type 0} (remaining : R → Option (List ℕ)) (old new : R) → Consumes (remaining old) (remaining new) []
    → IsAtEnd (remaining new) → TellsEnd old new
unfolding TellsEnd
tells_end remaining old new nothing none = tt

-- a read gave octets, at least one; or a signal came before it
abbrev pub ReadGoesOn : {R : Type 0} → (R → Option (List ℕ)) → R → R → Type 0
ReadGoesOn remaining old new =
    ((octets : List ℕ) × (octets ≢ []) × Consumes (remaining old) (remaining new) octets) ⊎ WasInterrupted old new

-- a write took octets, at least one; or a signal came before it
abbrev pub WriteTakes : {W : Type 0} → (W → Option (List ℕ)) → W → W → Type 0
WriteTakes contents old new =
    ((octets : List ℕ) × (octets ≢ []) × Appends (contents old) (contents new) octets) ⊎ WasInterrupted old new

-- that many steps in order led here
pub data InTurn {X : Type 0} (Step : X → X → Type 0) (old : X) : ℕ → X → Type 0 where
  none_yet : InTurn Step old 0 old
  one_more : (count : ℕ) (mid new : X) → InTurn Step old count mid → Step mid new → InTurn Step old (suc count) new

-- reads in order, each of which went on
abbrev pub ReadsOn : {R : Type 0} → (R → Option (List ℕ)) → R → R → Type 0
ReadsOn remaining old new = (count : ℕ) × InTurn (ReadGoesOn remaining) old count new

-- reads in order went on, and the one after them, the last, returned that nothing is left
pub record ReadsToEnd {R : Type 0} (remaining : R → Option (List ℕ)) (old new : R) : Type 0 where
  pub mid : R
  pub reads : ReadsOn remaining old mid
  pub ends : TellsEnd mid new

-- no read was made, or the input was read to its end
abbrev pub ReadsAllOrNone : {R : Type 0} → (R → Option (List ℕ)) → R → R → Type 0
ReadsAllOrNone remaining old new = (new ≡ old) ⊎ ReadsToEnd remaining old new

-- ---- failures

-- a read of a reader that has these octets left failed, and not since a signal came before it; or the largest number of reads
-- went on, and none reached the end. The definition is opaque, and only the functions of `stream`, and `converse` after its last
-- read, say it: so whoever can say it made such reads
pub ReadFailed : Option (List ℕ) → Type 0
ReadFailed left = Unit {0}

-- for the proofs of those functions alone: of a read, and after the last one
pub read_failed : (left : Option (List ℕ)) (error : Error) → error_kind error ≢ Interrupted → ReadFailed left
unfolding ReadFailed
read_failed left error other = tt

pub reads_end : {R : Type 0} (remaining : R → Option (List ℕ)) (old new : R) → InTurn (ReadGoesOn remaining) old 40000000 new
    → ReadFailed (remaining new)
unfolding ReadFailed
reads_end remaining old new all = tt

-- a write to a writer that has these octets failed, or took nothing, or its flush failed; or the largest number of turns went on,
-- and none was the last
pub WriteFailed : Option (List ℕ) → Type 0
WriteFailed held = Unit {0}

-- of a write; of one that took nothing of a text, or of a flush; and after the last turn
pub write_failed : (held : Option (List ℕ)) (error : Error) → error_kind error ≢ Interrupted → WriteFailed held
unfolding WriteFailed
write_failed held error other = tt

pub took_nothing : (held : Option (List ℕ)) (text : List ℕ) → text ≢ [] → WriteFailed held
unfolding WriteFailed
took_nothing held text some = tt

pub flush_failed : (held : Option (List ℕ)) (error : Error) → WriteFailed held
unfolding WriteFailed
flush_failed held error = tt

pub turns_end : {X : Type 0} (held : Option (List ℕ)) (Step : X → X → Type 0) (old new : X)
    → InTurn Step old 18446744073709551615 new → WriteFailed held
unfolding WriteFailed
turns_end held Step old new all = tt

-- a writer that has these octets was flushed. This too is opaque, and only `flush` says it
pub WasFlushed : Option (List ℕ) → Type 0
WasFlushed held = Unit {0}

pub was_flushed : (held : Option (List ℕ)) → WasFlushed held
unfolding WasFlushed
was_flushed held = tt

-- some read failed
abbrev pub InputFailed : Type 0
InputFailed = (left : Option (List ℕ)) × ReadFailed left

-- some write failed
abbrev pub OutputFailed : Type 0
OutputFailed = (held : Option (List ℕ)) × WriteFailed held

-- known octets grow by some prefix of a text, after which a write failed
abbrev pub IsWriteCut : Option (List ℕ) → Option (List ℕ) → List ℕ → Type 0
IsWriteCut old new text = AppendsFront old new text × WriteFailed new

-- known octets grow by a text, or writing broke off in it
abbrev pub IsWritten : Option (List ℕ) → Option (List ℕ) → List ℕ → Type 0
IsWritten old new text = Appends old new text ⊎ IsWriteCut old new text
