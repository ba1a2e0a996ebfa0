-- Lemmas on what a run of reads takes from an input and a run of writes gives to an output.
use Rattle.std.proofs.Common.{◌≡◌, ℕ, ◌+◌, List, Result, Ok, Err, OnErr, OnOk, inl, [], ◌++◌, Option, Some, None, refl, sym, ap, ◌∙◌, subst, append_assoc, append-nil, add-one, take, drop, length, inr, is_ok, true, false}
use Rattle.std.proofs.Math.Seq.{take-add, take-append_seam, take-append-add}
use Rattle.std.proofs.lemmas.List.{take-append-drop}
use Rattle.std.specs.Io.KnownBytes.{Appends, Consumes, Keeps}
use Rattle.cli_run.specs.Streams.{AppendsFront, InTurn, IsWritten, ReadsAllOrNone, ReadsToEnd}
use Rattle.cli_run.specs.Streams.InTurn.{one_more}
use Rattle.cli_run.specs.Faults.{IsTextPut, IsPrinted}
use Rattle.cli_run.specs.declared.fault.RunFault.{RunFault}

-- ---- turns

-- one turn more
pub one_turn : {X : Type 0} (Step : X → X → Type 0) (old : X) (count : ℕ) (mid new : X) → InTurn Step old count mid → Step mid new → InTurn Step old (count + 1) new
one_turn Step old count mid new here step = rw add-one (one_more count mid new here step)

-- so many are that many
pub turns_as : {X : Type 0} (Step : X → X → Type 0) (old new : X) (count most : ℕ) → count ≡ most → InTurn Step old count new → InTurn Step old most new
turns_as Step old new count most is turns = subst (λ n. InTurn Step old n new) is turns

-- ---- reads

-- an input that was read to its end was read to its end or not at all
pub all_or_none : {R X E : Type 0} (remaining : R → Option (List ℕ)) (old new : R) (r : Result X E) → OnOk r (ReadsToEnd remaining old new) → OnOk r (ReadsAllOrNone remaining old new)
all_or_none remaining old new (Ok x) read = inr read
all_or_none remaining old new (Err e) read = tt

-- before the first read nothing is taken
pub nothing_read : (a : Option (List ℕ)) → Consumes a a []
nothing_read None = tt
nothing_read (Some left) = refl

-- one read more
pub read_on : (a b c : Option (List ℕ)) (read more : List ℕ) → Consumes a b read → Consumes b c more → Consumes a c (read ++ more)
read_on None b c read more first second = tt
read_on (Some x) None c read more first second = absurd first
read_on (Some x) (Some y) None read more first second = absurd second
read_on (Some x) (Some y) (Some z) read more first second = first ∙ ap (λ l. read ++ l) second ∙ sym (append_assoc read more z)

-- the filled front of the room, and what one read put after it
pub filled_on : (a b c : Option (List ℕ)) (old new : List ℕ) (filled n : ℕ) → take filled new ≡ take filled old → Consumes a b (take filled old) → Consumes b c (take n (drop filled new)) → Consumes a c (take (filled + n) new)
filled_on a b c old new filled n front before more =
    subst (Consumes a c) (sym (take-add filled n new ∙ ap (λ l. l ++ take n (drop filled new)) front)) (read_on a b c _ _ before more)

-- before the first write nothing is given
pub nothing_written : (a : Option (List ℕ)) → Appends a a []
nothing_written None = tt
nothing_written (Some held) = sym (append-nil held)

-- one write more
pub written_on : (a b c : Option (List ℕ)) (written more : List ℕ) → Appends a b written → Appends b c more → Appends a c (written ++ more)
written_on None b c written more first second = tt
written_on (Some x) None c written more first second = absurd first
written_on (Some x) (Some y) None written more first second = absurd second
written_on (Some x) (Some y) (Some z) written more first second = second ∙ ap (λ l. l ++ more) first ∙ append_assoc x written more

-- a write that failed gives nothing
pub written_none : (a b c : Option (List ℕ)) (written : List ℕ) → Appends a b written → Keeps b c → Appends a c written
written_none None b c written first kept = tt
written_none (Some x) None c written first kept = absurd first
written_none (Some x) (Some y) None written first kept = absurd kept
written_none (Some x) (Some y) (Some z) written first kept = kept ∙ first

-- the written front of the text, and what one write gave after it
pub text_on : (a b c : Option (List ℕ)) (text rest : List ℕ) (at n : ℕ) → rest ≡ drop at text → Appends a b (take at text) → Appends b c (take n rest) → Appends a c (take (at + n) text)
text_on a b c text rest at n split before more =
    subst (Appends a c) (sym (take-add at n text ∙ ap (λ l. take at text ++ take n l) (sym split))) (written_on a b c _ _ before more)

-- what is kept grows by nothing
pub kept_appends : (a b : Option (List ℕ)) → Keeps a b → Appends a b []
kept_appends a b kept = written_none a a b [] (nothing_written a) kept

-- ---- texts in turn

-- a front of a text after all of another
pub front_on : (a b c : Option (List ℕ)) (first text : List ℕ) → Appends a b first → AppendsFront b c text → AppendsFront a c (first ++ text)
front_on a b c first text before more = (length first + more.0, subst (Appends a c) (sym (take-append-add first text more.0)) (written_on a b c first (take more.0 text) before more.1))

-- a front of a text is one of it and more
pub front_of : (a b : Option (List ℕ)) (text more : List ℕ) → AppendsFront a b text → AppendsFront a b (text ++ more)
front_of a b text more front =
    let n = length (take front.0 text) in
    (n, subst (Appends a b) (sym (ap (take n) (sym (ap (λ l. l ++ more) (take-append-drop front.0 text)) ∙ append_assoc (take front.0 text) (drop front.0 text) more) ∙ take-append_seam (take front.0 text) (drop front.0 text ++ more))) front.1)

pub put_then : (a b c : Option (List ℕ)) (first text : List ℕ) (r : Result (Unit {0}) RunFault) → IsTextPut (Ok tt) a b first → IsTextPut r b c text → IsTextPut r a c (first ++ text)
put_then a b c first text (Ok done) one two = written_on a b c first text one two
put_then a b c first text (Err fault) one two = (two.0, (front_on a b c first text one two.1.0, two.1.1))

pub printed_then : (a b c : Option (List ℕ)) (first text : List ℕ) (r : Result (Unit {0}) RunFault) → IsTextPut (Ok tt) a b first → IsPrinted r b c text → IsPrinted r a c (first ++ text)
printed_then a b c first text (Ok done) one two = (written_on a b c first text one two.0, two.1)
printed_then a b c first text (Err fault) one two = (two.0, (front_on a b c first text one two.1.0, two.1.1))

-- all was flushed
pub flushed_then : (a b c : Option (List ℕ)) (text : List ℕ) (r : Result (Unit {0}) RunFault) → IsTextPut (Ok tt) a b text → IsPrinted r b c [] → IsPrinted r a c text
flushed_then a b c text r one two = subst (IsPrinted r a c) (append-nil text) (printed_then a b c text [] r one two)

-- it broke off before what follows
pub put_cut : (a b : Option (List ℕ)) (text more : List ℕ) (fault : RunFault) (r : Result (Unit {0}) RunFault) → r ≡ Err fault → IsTextPut (Err fault) a b text → IsTextPut r a b (text ++ more)
put_cut a b text more fault r is cut = subst (λ q. IsTextPut q a b (text ++ more)) (sym is) (cut.0, (front_of a b text more cut.1.0, cut.1.1))

pub printed_cut_whole : (a b : Option (List ℕ)) (text : List ℕ) (fault : RunFault) (r : Result (Unit {0}) RunFault) → r ≡ Err fault → IsTextPut (Err fault) a b text → IsPrinted r a b text
printed_cut_whole a b text fault r is cut = subst (λ q. IsPrinted q a b text) (sym is) cut

-- whether or not that is asked
pub written : (a b : Option (List ℕ)) (text : List ℕ) (r : Result (Unit {0}) RunFault) → IsPrinted r a b text → IsWritten a b text
written a b text (Ok done) printed = inl printed.0
written a b text (Err fault) printed = inr printed.1

-- a text, and what follows where it was written
pub written_then : (a b c : Option (List ℕ)) (text more : List ℕ) (r : Result (Unit {0}) RunFault) → is_ok r ≡ true → IsPrinted r a b text → IsWritten b c more → IsWritten a c (text ++ more)
written_then a b c text more (Ok done) ok one (inl two) = inl (written_on a b c text more one.0 two)
written_then a b c text more (Ok done) ok one (inr two) = inr (front_on a b c text more one.0 two.0, two.1)
written_then a b c text more (Err fault) ok one two = absurd (let no = ok in cc)

pub written_cut : (a b : Option (List ℕ)) (text more : List ℕ) (r : Result (Unit {0}) RunFault) → is_ok r ≡ false → IsPrinted r a b text → IsWritten a b (text ++ more)
written_cut a b text more (Ok done) failed one = absurd (let no = failed in cc)
written_cut a b text more (Err fault) failed one = inr (front_of a b text more one.1.0, one.1.1)

-- what is so of a call that failed is so of whatever it answers
pub failed_so : {X E : Type 0} (r : Result X E) (P : Type 0) → P → OnErr r P
failed_so (Ok x) P p = tt
failed_so (Err e) P p = p
