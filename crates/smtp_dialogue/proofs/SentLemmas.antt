-- What is sent of a message, by its lines, and octet by octet.
use Rattle.std.proofs.Common.{◌≡◌, ℕ, ◌==◌, ◌&&◌, Bool, true, false, if◌then◌else◌, List, [], ◌∷◌, ◌++◌, refl, sym, ap, ◌∙◌, append_assoc, append-nil, subst, arith}
use Rattle.std.proofs.lemmas.List.Elements.{All-cons, All-head, All-nil, All-tail}
use Rattle.std.specs.List.{All, flat_map}
use Rattle.lmtp_dialogue.specs.Lines.{line_end, IsCrlfLine}
use Rattle.lmtp_dialogue.specs.Texts.{line_with_crlf, undotted, IsSentLine, IsSentText}
use Rattle.smtp_dialogue.specs.Sent.{IsNoFeed, IsCutInLines, is_none, chomped, cr_as_space, mended, mended_lines, dotted, IsSent, begins_feed, sent_from, text_from, is_folded, SentStands}
use Rattle.smtp_dialogue.specs.declared.sent.SentState.{SentState}
use Rattle.smtp_dialogue.specs.declared.sent.SentState.TheVariants.{Start, Inside, Over}

-- ---- one octet

-- an octet leads from one place to another, and these are sent and read for it
record Turns (from to : SentState) (octet : ℕ) (tail said read : List ℕ) : Type 0 where
  sent : sent_from from (octet ∷ tail) ≡ said ++ sent_from to tail
  text : text_from from (octet ∷ tail) ≡ read ++ text_from to tail

plain_in : (octet : ℕ) (tail : List ℕ) → IsNoFeed octet → (octet == 13) ≡ false → Turns Inside Inside octet tail (octet ∷ []) (octet ∷ [])
plain_in octet tail plain other = record { sent = rw plain (rw other refl); text = rw plain (rw other refl) }

lone_in : (octet : ℕ) (tail : List ℕ) → IsNoFeed octet → (octet == 13) ≡ true → begins_feed tail ≡ false → Turns Inside Inside octet tail (32 ∷ []) (32 ∷ [])
lone_in octet tail plain is none = record { sent = rw plain (rw is (rw none refl)); text = rw plain (rw is (rw none refl)) }

dropped_in : (octet : ℕ) (tail : List ℕ) → IsNoFeed octet → (octet == 13) ≡ true → begins_feed tail ≡ true → Turns Inside Inside octet tail [] []
dropped_in octet tail plain is feed = record { sent = rw plain (rw is (rw feed refl)); text = rw plain (rw is (rw feed refl)) }

plain_at : (octet : ℕ) (tail : List ℕ) → IsNoFeed octet → (octet == 13) ≡ false → (octet == 46) ≡ false → Turns Start Inside octet tail (octet ∷ []) (octet ∷ [])
plain_at octet tail plain other apart = record { sent = rw plain (rw other (rw apart refl)); text = rw plain (rw other refl) }

dot_at : (octet : ℕ) (tail : List ℕ) → IsNoFeed octet → (octet == 13) ≡ false → (octet == 46) ≡ true → Turns Start Inside octet tail (46 ∷ octet ∷ []) (octet ∷ [])
dot_at octet tail plain other is = record { sent = rw plain (rw other (rw is refl)); text = rw plain (rw other refl) }

lone_at : (octet : ℕ) (tail : List ℕ) → IsNoFeed octet → (octet == 13) ≡ true → begins_feed tail ≡ false → Turns Start Inside octet tail (63 ∷ []) (63 ∷ [])
lone_at octet tail plain is none = record { sent = rw plain (rw is (rw none refl)); text = rw plain (rw is (rw none refl)) }

dropped_at : (octet : ℕ) (tail : List ℕ) → IsNoFeed octet → (octet == 13) ≡ true → begins_feed tail ≡ true → Turns Start Start octet tail [] []
dropped_at octet tail plain is feed = record { sent = rw plain (rw is (rw feed refl)); text = rw plain (rw is (rw feed refl)) }

-- ---- a line, and what follows

record Sends (from : SentState) (octets said read back left : List ℕ) : Type 0 where
  sent : sent_from from octets ≡ said ++ back
  text : text_from from octets ≡ read ++ left

grow : (from to : SentState) (octet : ℕ) (tail said read more others whole all back left : List ℕ)
    → Turns from to octet tail said read → Sends to tail more others back left → whole ≡ said ++ more → all ≡ read ++ others
    → Sends from (octet ∷ tail) whole all back left
grow from to octet tail said read more others whole all back left turns later one two = record {
  sent = turns.sent ∙ (ap (λ t. said ++ t) later.sent ∙ (sym (append_assoc said more back) ∙ ap (λ t. t ++ back) (sym one)));
  text = turns.text ∙ (ap (λ t. read ++ t) later.text ∙ (sym (append_assoc read others left) ∙ ap (λ t. t ++ left) (sym two)));
}

-- what is sent of the octets of a line behind its first
abbrev inner : List ℕ → List ℕ
inner line = cr_as_space (chomped line)

-- a line as the other side has it
abbrev whole : List ℕ → List ℕ
whole line = mended (chomped line)

inner_plain : (octet : ℕ) (line : List ℕ) → (octet == 13) ≡ false → inner (octet ∷ line) ≡ octet ∷ inner line
inner_plain octet line other = rw other (rw other refl)

inner_lone : (octet next : ℕ) (line : List ℕ) → (octet == 13) ≡ true → inner (octet ∷ next ∷ line) ≡ 32 ∷ inner (next ∷ line)
inner_lone octet next line is = rw is (rw is refl)

inner_last : (octet : ℕ) → (octet == 13) ≡ true → inner (octet ∷ []) ≡ []
inner_last octet is = rw is refl

whole_plain : (octet : ℕ) (line : List ℕ) → (octet == 13) ≡ false → whole (octet ∷ line) ≡ octet ∷ inner line
whole_plain octet line other = rw other (rw other refl)

whole_lone : (octet next : ℕ) (line : List ℕ) → (octet == 13) ≡ true → whole (octet ∷ next ∷ line) ≡ 63 ∷ inner (next ∷ line)
whole_lone octet next line is = rw is (rw is refl)

whole_last : (octet : ℕ) → (octet == 13) ≡ true → whole (octet ∷ []) ≡ []
whole_last octet is = rw is refl

-- up to its LF
abbrev Ends : SentState → List ℕ → List ℕ → List ℕ → List ℕ → Type 0
Ends from line said read rest = Sends from (line ++ (10 ∷ rest)) said read (line_end ++ sent_from Start rest) (line_end ++ text_from Start rest)

feed_ends : (from : SentState) (rest : List ℕ) → (from ≡ Over → ⊥) → Ends from [] [] [] rest
feed_ends Start rest apart = record { sent = refl; text = refl }
feed_ends Inside rest apart = record { sent = refl; text = refl }
feed_ends Over rest apart = absurd (apart refl)

abbrev is_over : SentState → Bool
is_over Over = true
is_over place = false

start_open : Start ≡ Over → ⊥
start_open same = absurd (cc (sym (ap is_over same)))

inside_open : Inside ≡ Over → ⊥
inside_open same = absurd (cc (sym (ap is_over same)))

inside_by : (octet : ℕ) (line rest : List ℕ) (returned : Bool) → (octet == 13) ≡ returned → IsNoFeed octet → All IsNoFeed line
    → Ends Inside line (inner line) (inner line) rest → Ends Inside (octet ∷ line) (inner (octet ∷ line)) (inner (octet ∷ line)) rest
inside_by octet [] rest true test plain each later =
    grow Inside Inside octet (10 ∷ rest) [] [] [] [] (inner (octet ∷ [])) (inner (octet ∷ [])) (line_end ++ sent_from Start rest) (line_end ++ text_from Start rest)
    (dropped_in octet (10 ∷ rest) plain test refl) (feed_ends Inside rest inside_open) (inner_last octet test) (inner_last octet test)
inside_by octet (next ∷ line) rest true test plain each later =
    let tail = next ∷ (line ++ (10 ∷ rest)) in
    let is = inner_lone octet next line test in
    grow Inside Inside octet tail (32 ∷ []) (32 ∷ []) (inner (next ∷ line)) (inner (next ∷ line)) (inner (octet ∷ next ∷ line)) (inner (octet ∷ next ∷ line))
    (line_end ++ sent_from Start rest) (line_end ++ text_from Start rest)
    (lone_in octet tail plain test (All-head IsNoFeed next line each)) later is is
inside_by octet line rest false test plain each later =
    let tail = line ++ (10 ∷ rest) in
    let is = inner_plain octet line test in
    grow Inside Inside octet tail (octet ∷ []) (octet ∷ []) (inner line) (inner line) (inner (octet ∷ line)) (inner (octet ∷ line))
    (line_end ++ sent_from Start rest) (line_end ++ text_from Start rest) (plain_in octet tail plain test) later is is

inside : (line rest : List ℕ) → All IsNoFeed line → Ends Inside line (inner line) (inner line) rest
inside [] rest each = feed_ends Inside rest inside_open
inside (octet ∷ line) rest each =
    let more = All-tail IsNoFeed octet line each in
    inside_by octet line rest (octet == 13) refl (All-head IsNoFeed octet line each) more (inside line rest more)

dotted_plain_first : (octet : ℕ) (rest : List ℕ) → (octet == 46) ≡ false → dotted (octet ∷ rest) ≡ octet ∷ rest
dotted_plain_first octet rest apart = rw apart refl

dotted_dot : (octet : ℕ) (rest : List ℕ) → (octet == 46) ≡ true → dotted (octet ∷ rest) ≡ 46 ∷ octet ∷ rest
dotted_dot octet rest is = rw is refl

-- from a line's front, where the other octets are sent as in a line
front_by : (octet : ℕ) (tail more line back left : List ℕ) (dot : Bool) → (octet == 46) ≡ dot → (octet == 13) ≡ false → IsNoFeed octet → line ≡ octet ∷ more
    → Sends Inside tail more more back left → Sends Start (octet ∷ tail) (dotted line) line back left
front_by octet tail more line back left true is test plain same later =
    grow Start Inside octet tail (46 ∷ octet ∷ []) (octet ∷ []) more more (dotted line) line back left
    (dot_at octet tail plain test is) later (ap dotted same ∙ dotted_dot octet more is) same
front_by octet tail more line back left false is test plain same later =
    grow Start Inside octet tail (octet ∷ []) (octet ∷ []) more more (dotted line) line back left
    (plain_at octet tail plain test is) later (ap dotted same ∙ dotted_plain_first octet more is) same

begin : (octet : ℕ) (line rest : List ℕ) (returned : Bool) → (octet == 13) ≡ returned → IsNoFeed octet → All IsNoFeed line
    → Ends Start (octet ∷ line) (dotted (whole (octet ∷ line))) (whole (octet ∷ line)) rest
begin octet [] rest true test plain each =
    let is = whole_last octet test in
    grow Start Start octet (10 ∷ rest) [] [] [] [] (dotted (whole (octet ∷ []))) (whole (octet ∷ [])) (line_end ++ sent_from Start rest) (line_end ++ text_from Start rest)
    (dropped_at octet (10 ∷ rest) plain test refl) (feed_ends Start rest start_open) (ap dotted is) is
begin octet (next ∷ line) rest true test plain each =
    let tail = next ∷ (line ++ (10 ∷ rest)) in
    let is = whole_lone octet next line test in
    grow Start Inside octet tail (63 ∷ []) (63 ∷ []) (inner (next ∷ line)) (inner (next ∷ line)) (dotted (whole (octet ∷ next ∷ line))) (whole (octet ∷ next ∷ line))
    (line_end ++ sent_from Start rest) (line_end ++ text_from Start rest)
    (lone_at octet tail plain test (All-head IsNoFeed next line each)) (inside (next ∷ line) rest each) (ap dotted is) is
begin octet line rest false test plain each =
    front_by octet (line ++ (10 ∷ rest)) (inner line) (whole (octet ∷ line)) (line_end ++ sent_from Start rest) (line_end ++ text_from Start rest)
    (octet == 46) refl test plain (whole_plain octet line test) (inside line rest each)

front : (line rest : List ℕ) → All IsNoFeed line → Ends Start line (dotted (whole line)) (whole line) rest
front [] rest each = feed_ends Start rest start_open
front (octet ∷ line) rest each = begin octet line rest (octet == 13) refl (All-head IsNoFeed octet line each) (All-tail IsNoFeed octet line each)

-- ---- what stands behind the last LF

abbrev ending : List ℕ
ending = line_with_crlf (46 ∷ [])

abbrev Closes : SentState → List ℕ → List ℕ → List ℕ → Type 0
Closes from line said read = Sends from line said read (line_end ++ ending) line_end

no_feed_first : (line : List ℕ) → All IsNoFeed line → begins_feed line ≡ false
no_feed_first [] each = refl
no_feed_first (octet ∷ line) each = All-head IsNoFeed octet line each

spaced_lone : (octet : ℕ) (line : List ℕ) → (octet == 13) ≡ true → cr_as_space (octet ∷ line) ≡ 32 ∷ cr_as_space line
spaced_lone octet line is = rw is refl

spaced_plain_first : (octet : ℕ) (line : List ℕ) → (octet == 13) ≡ false → cr_as_space (octet ∷ line) ≡ octet ∷ cr_as_space line
spaced_plain_first octet line other = rw other refl

close_by : (octet : ℕ) (line : List ℕ) (returned : Bool) → (octet == 13) ≡ returned → IsNoFeed octet → All IsNoFeed line
    → Closes Inside line (cr_as_space line) (cr_as_space line) → Closes Inside (octet ∷ line) (cr_as_space (octet ∷ line)) (cr_as_space (octet ∷ line))
close_by octet line true test plain each later =
    let is = spaced_lone octet line test in
    grow Inside Inside octet line (32 ∷ []) (32 ∷ []) (cr_as_space line) (cr_as_space line) (cr_as_space (octet ∷ line)) (cr_as_space (octet ∷ line)) (line_end ++ ending) line_end
    (lone_in octet line plain test (no_feed_first line each)) later is is
close_by octet line false test plain each later =
    let is = spaced_plain_first octet line test in
    grow Inside Inside octet line (octet ∷ []) (octet ∷ []) (cr_as_space line) (cr_as_space line) (cr_as_space (octet ∷ line)) (cr_as_space (octet ∷ line)) (line_end ++ ending) line_end
    (plain_in octet line plain test) later is is

closes : (line : List ℕ) → All IsNoFeed line → Closes Inside line (cr_as_space line) (cr_as_space line)
closes [] each = record { sent = refl; text = refl }
closes (octet ∷ line) each =
    let more = All-tail IsNoFeed octet line each in
    close_by octet line (octet == 13) refl (All-head IsNoFeed octet line each) more (closes line more)

mended_lone : (octet : ℕ) (line : List ℕ) → (octet == 13) ≡ true → mended (octet ∷ line) ≡ 63 ∷ cr_as_space line
mended_lone octet line is = rw is refl

mended_plain_first : (octet : ℕ) (line : List ℕ) → (octet == 13) ≡ false → mended (octet ∷ line) ≡ octet ∷ cr_as_space line
mended_plain_first octet line other = rw other refl

last_by : (octet : ℕ) (line : List ℕ) (returned : Bool) → (octet == 13) ≡ returned → IsNoFeed octet → All IsNoFeed line
    → Closes Start (octet ∷ line) (dotted (mended (octet ∷ line))) (mended (octet ∷ line))
last_by octet line true test plain each =
    let is = mended_lone octet line test in
    grow Start Inside octet line (63 ∷ []) (63 ∷ []) (cr_as_space line) (cr_as_space line) (dotted (mended (octet ∷ line))) (mended (octet ∷ line)) (line_end ++ ending) line_end
    (lone_at octet line plain test (no_feed_first line each)) (closes line each) (ap dotted is) is
last_by octet line false test plain each =
    front_by octet line (cr_as_space line) (mended (octet ∷ line)) (line_end ++ ending) line_end (octet == 46) refl test plain (mended_plain_first octet line test) (closes line each)

-- ---- all lines

abbrev fed : List ℕ → List ℕ
fed line = line ++ 10 ∷ []

abbrev sends : List (List ℕ) → List ℕ
sends lines = flat_map (λ line. line_with_crlf (dotted line)) lines

record Are (lines : List (List ℕ)) (last : List ℕ) : Type 0 where
  sent : sent_from Start (flat_map fed lines ++ last) ≡ sends (mended_lines lines last) ++ ending
  text : text_from Start (flat_map fed lines ++ last) ≡ flat_map line_with_crlf (mended_lines lines last)

joined : (line more last : List ℕ) → (fed line ++ more) ++ last ≡ line ++ (10 ∷ (more ++ last))
joined line more last = append_assoc (fed line) more last ∙ append_assoc line (10 ∷ []) (more ++ last)

sent_joined : (line more rest : List ℕ) → (line_with_crlf line ++ more) ++ rest ≡ line ++ (line_end ++ (more ++ rest))
sent_joined line more rest = append_assoc (line_with_crlf line) more rest ∙ append_assoc line line_end (more ++ rest)

are : (lines : List (List ℕ)) (last : List ℕ) → All (All IsNoFeed) lines → All IsNoFeed last → Are lines last
are [] [] each tail = record { sent = refl; text = refl }
are [] (octet ∷ rest) each tail =
    let here = last_by octet rest (octet == 13) refl (All-head IsNoFeed octet rest tail) (All-tail IsNoFeed octet rest tail) in
    let line = mended (octet ∷ rest) in
    record {
      sent = here.sent ∙ sym (sent_joined (dotted line) [] ending);
      text = here.text ∙ sym (append-nil (line_with_crlf line));
    }
are (line ∷ lines) last each tail =
    let later = are lines last (All-tail (All IsNoFeed) line lines each) tail in
    let here = front line (flat_map fed lines ++ last) (All-head (All IsNoFeed) line lines each) in
    let same = joined line (flat_map fed lines) last in
    let more = mended_lines lines last in
    record {
      sent =
          ap (sent_from Start) same
          ∙ (here.sent ∙ (ap (λ t. dotted (whole line) ++ (line_end ++ t)) later.sent ∙ sym (sent_joined (dotted (whole line)) (sends more) ending)));
      text =
          ap (text_from Start) same
          ∙ (here.text ∙ (ap (λ t. whole line ++ (line_end ++ t)) later.text ∙ sym (append_assoc (whole line) line_end (flat_map line_with_crlf more))));
    }

one : (message sent text : List ℕ) → IsSent message sent text → (sent ≡ sent_from Start message) × (text ≡ text_from Start message)
one message sent text is =
    let same = are is.lines is.last is.cut.each is.cut.tail in
    let there = sym is.cut.written in (
      is.written ∙ (sym same.sent ∙ ap (sent_from Start) there),
      is.means ∙ (sym same.text ∙ ap (text_from Start) there),
    )

-- ---- each message has lines

record Lines (message : List ℕ) : Type 0 where
  lines : List (List ℕ)
  last : List ℕ
  is : IsCutInLines message lines last

grown_by : (octet : ℕ) (message : List ℕ) (lines : List (List ℕ)) (last : List ℕ) (feeds : Bool) → (octet == 10) ≡ feeds → IsCutInLines message lines last → Lines (octet ∷ message)
grown_by octet message lines last true test is =
    let same : octet ≡ 10 = grind (arith) in
    record {
      lines = [] ∷ lines;
      last = last;
      is = record { each = All-cons (All IsNoFeed) [] lines (All-nil IsNoFeed) is.each; tail = is.tail; written = ap (λ o. o ∷ message) same ∙ ap (λ t. 10 ∷ t) is.written };
    }
grown_by octet message [] last false test is =
    record { lines = []; last = octet ∷ last; is = record { each = is.each; tail = All-cons IsNoFeed octet last test is.tail; written = ap (λ t. octet ∷ t) is.written } }
grown_by octet message (line ∷ lines) last false test is =
    record {
      lines = (octet ∷ line) ∷ lines;
      last = last;
      is = record {
        each =
            All-cons (All IsNoFeed) (octet ∷ line) lines (All-cons IsNoFeed octet line test (All-head (All IsNoFeed) line lines is.each))
            (All-tail (All IsNoFeed) line lines is.each);
        tail = is.tail;
        written = ap (λ t. octet ∷ t) is.written;
      };
    }

cut : (message : List ℕ) → Lines message
cut [] = record { lines = []; last = []; is = record { each = All-nil (All IsNoFeed); tail = All-nil IsNoFeed; written = refl } }
cut (octet ∷ message) = let rest = cut message in grown_by octet message rest.lines rest.last (octet == 10) refl rest.is

is : (message : List ℕ) → IsSent message (sent_from Start message) (text_from Start message)
is message =
    let found = cut message in
    let same = are found.lines found.last found.is.each found.is.tail in
    record {
      lines = found.lines;
      last = found.last;
      cut = found.is;
      written = ap (sent_from Start) found.is.written ∙ same.sent;
      means = ap (text_from Start) found.is.written ∙ same.text;
    }

-- ---- what the other side reads

abbrev dots : List (List ℕ) → List (List ℕ)
dots [] = []
dots (line ∷ lines) = dotted line ∷ dots lines

dots_sent : (lines : List (List ℕ)) → flat_map line_with_crlf (dots lines) ≡ sends lines
dots_sent [] = refl
dots_sent (line ∷ lines) = ap (λ t. line_with_crlf (dotted line) ++ t) (dots_sent lines)

undot_by : (octet : ℕ) (rest : List ℕ) (dot : Bool) → (octet == 46) ≡ dot → undotted (dotted (octet ∷ rest)) ≡ octet ∷ rest
undot_by octet rest true test = rw test refl
undot_by octet rest false test = rw test (rw test refl)

undot : (line : List ℕ) → undotted (dotted line) ≡ line
undot [] = refl
undot (octet ∷ rest) = undot_by octet rest (octet == 46) refl

dots_text : (lines : List (List ℕ)) → flat_map (λ line. line_with_crlf (undotted line)) (dots lines) ≡ flat_map line_with_crlf lines
dots_text [] = refl
dots_text (line ∷ lines) =
    ap (λ l. line_with_crlf l ++ flat_map (λ line. line_with_crlf (undotted line)) (dots lines)) (undot line) ∙ ap (λ t. line_with_crlf line ++ t) (dots_text lines)

-- octets without an LF are a line
behind : (front back : List ℕ) → All IsNoFeed (front ++ (13 ∷ 10 ∷ back)) → ⊥
behind [] back each = let no : (10 == 10) ≡ false = All-head IsNoFeed 10 back (All-tail IsNoFeed 13 (10 ∷ back) each) in absurd (cc no)
behind (octet ∷ front) back each = behind front back (All-tail IsNoFeed octet (front ++ (13 ∷ 10 ∷ back)) each)

with_return : (line : List ℕ) → All IsNoFeed line → All IsNoFeed (line ++ 13 ∷ [])
with_return [] each = All-cons IsNoFeed 13 [] refl (All-nil IsNoFeed)
with_return (octet ∷ line) each =
    All-cons IsNoFeed octet (line ++ 13 ∷ []) (All-head IsNoFeed octet line each) (with_return line (All-tail IsNoFeed octet line each))

is_line : (line : List ℕ) → All IsNoFeed line → IsCrlfLine line
is_line line each = λ front back same. behind front back (subst (All IsNoFeed) same (with_return line each))

dotted_plain : (octet : ℕ) (rest : List ℕ) (dot : Bool) → (octet == 46) ≡ dot → All IsNoFeed (octet ∷ rest) → All IsNoFeed (dotted (octet ∷ rest))
dotted_plain octet rest true test each = rw test (All-cons IsNoFeed 46 (octet ∷ rest) refl each)
dotted_plain octet rest false test each = rw test each

plain_dotted : (line : List ℕ) → All IsNoFeed line → All IsNoFeed (dotted line)
plain_dotted [] each = each
plain_dotted (octet ∷ rest) each = dotted_plain octet rest (octet == 46) refl each

no_octets : (octet next : ℕ) (rest : List ℕ) → octet ∷ next ∷ rest ≡ 46 ∷ [] → ⊥
no_octets octet next rest same = grind (arith, same)

not_dot_by : (octet : ℕ) (rest : List ℕ) (dot : Bool) → (octet == 46) ≡ dot → dotted (octet ∷ rest) ≡ 46 ∷ [] → ⊥
not_dot_by octet rest true test same = no_octets 46 octet rest (subst (λ b. (if b then 46 ∷ octet ∷ rest else octet ∷ rest) ≡ 46 ∷ []) test same)
not_dot_by octet rest false test same =
    let is : octet ∷ rest ≡ 46 ∷ [] = subst (λ b. (if b then 46 ∷ octet ∷ rest else octet ∷ rest) ≡ 46 ∷ []) test same in
    let first : octet ≡ 46 = grind (arith, is) in
    absurd (cc (sym (ap (λ o. o == 46) first) ∙ test))

not_dot : (line : List ℕ) → dotted line ≡ 46 ∷ [] → ⊥
not_dot [] same = grind (arith, same)
not_dot (octet ∷ rest) same = not_dot_by octet rest (octet == 46) refl same

-- no mended line has an LF
spaced_by : (octet : ℕ) (returned : Bool) (mark : ℕ) → IsNoFeed mark → (octet == 13) ≡ returned → IsNoFeed octet → IsNoFeed (if octet == 13 then mark else octet)
spaced_by octet true mark other test plain = rw test other
spaced_by octet false mark other test plain = rw test plain

spaced_plain : (line : List ℕ) → All IsNoFeed line → All IsNoFeed (cr_as_space line)
spaced_plain [] each = each
spaced_plain (octet ∷ line) each =
    All-cons IsNoFeed (if octet == 13 then 32 else octet) (cr_as_space line) (spaced_by octet (octet == 13) 32 refl refl (All-head IsNoFeed octet line each))
    (spaced_plain line (All-tail IsNoFeed octet line each))

mended_plain : (line : List ℕ) → All IsNoFeed line → All IsNoFeed (mended line)
mended_plain [] each = each
mended_plain (octet ∷ line) each =
    All-cons IsNoFeed (if octet == 13 then 63 else octet) (cr_as_space line) (spaced_by octet (octet == 13) 63 refl refl (All-head IsNoFeed octet line each))
    (spaced_plain line (All-tail IsNoFeed octet line each))

chomped_by : (octet : ℕ) (line : List ℕ) (ends : Bool) → (octet == 13 && is_none line) ≡ ends → IsNoFeed octet → All IsNoFeed (chomped line) → All IsNoFeed (chomped (octet ∷ line))
chomped_by octet line true test plain later = rw test (All-nil IsNoFeed)
chomped_by octet line false test plain later = rw test (All-cons IsNoFeed octet (chomped line) plain later)

chomped_plain : (line : List ℕ) → All IsNoFeed line → All IsNoFeed (chomped line)
chomped_plain [] each = each
chomped_plain (octet ∷ line) each =
    chomped_by octet line (octet == 13 && is_none line) refl (All-head IsNoFeed octet line each) (chomped_plain line (All-tail IsNoFeed octet line each))

sent_line : (line : List ℕ) → All IsNoFeed line → IsSentLine (dotted line)
sent_line line each = record { whole = is_line (dotted line) (plain_dotted line each); other = not_dot line }

sent_lines : (lines : List (List ℕ)) (last : List ℕ) → All (All IsNoFeed) lines → All IsNoFeed last → All IsSentLine (dots (mended_lines lines last))
sent_lines [] [] each tail = All-nil IsSentLine
sent_lines [] (octet ∷ rest) each tail =
    All-cons IsSentLine (dotted (mended (octet ∷ rest))) [] (sent_line (mended (octet ∷ rest)) (mended_plain (octet ∷ rest) tail)) (All-nil IsSentLine)
sent_lines (line ∷ lines) last each tail =
    All-cons IsSentLine (dotted (whole line)) (dots (mended_lines lines last))
    (sent_line (whole line) (mended_plain (chomped line) (chomped_plain line (All-head (All IsNoFeed) line lines each))))
    (sent_lines lines last (All-tail (All IsNoFeed) line lines each) tail)

read : (message sent text : List ℕ) → IsSent message sent text → IsSentText sent text
read message sent text is =
    let lines = mended_lines is.lines is.last in
    record {
      lines = dots lines;
      each = sent_lines is.lines is.last is.cut.each is.cut.tail;
      written = is.written ∙ ap (λ t. t ++ ending) (sym (dots_sent lines));
      means = is.means ∙ sym (dots_text lines);
    }

-- ---- a line goes on with a field

folds_by : (octet : ℕ) (rest : List ℕ) (returned : Bool) → (octet == 13) ≡ returned → is_folded (mended (octet ∷ rest)) ≡ is_folded (octet ∷ rest)
folds_by octet rest true test =
    let same : octet ≡ 13 = grind (arith) in
    rw test (ap (λ o. is_folded (o ∷ rest)) (sym same))
folds_by octet rest false test = rw test refl

folds : (line : List ℕ) → is_folded (mended line) ≡ is_folded line
folds [] = refl
folds (octet ∷ rest) = folds_by octet rest (octet == 13) refl

pub sent_stands : SentStands
sent_stands = record { is = is; one = one; read = read; folds = folds }
