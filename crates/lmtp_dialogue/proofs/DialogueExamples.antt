-- What the definitions say of a dialogue in the shape of the example in RFC 2033, section 4.2, and of what is near it.
use Rattle.std.proofs.Common.{◌≡◌, ℕ, ◌==◌, ◌&&◌, not, ◌≤◌, Bool, true, false, List, [], ◌∷◌, ◌++◌, length, Some, None, inl, inr, refl, sym, ap, ◌∙◌, subst, append_assoc, codes, lit≤}
use Rattle.std.proofs.lemmas.List.Elements.{All-cons, All-nil}
use Rattle.std.specs.Borrow.{Bor}
use Rattle.lmtp_dialogue.specs.Arguments.{max_size}
use Rattle.lmtp_dialogue.specs.Copies.{is_path_line, added_fields}
use Rattle.lmtp_dialogue.specs.Dialogues.{DialoguePhase, Greeted, Ready, Opened, Asking, Sending, Over, Dialogue, new_dialogue, Item, Command, LongLine, Message, IsLineItem, SpellsItem, IsNextItem, DialogueWaits}
use Rattle.lmtp_dialogue.specs.Lines.{line_end, HasNoLineEnd, IsCrlfLine}
use Rattle.octets.specs.Ascii.{trimmed}
use Rattle.lmtp_dialogue.specs.Names.{forms_by}
use Rattle.lmtp_dialogue.specs.ReadCommands.{ReadsLmtpCommand}
use Rattle.lmtp_dialogue.specs.Paths.{IsPath, is_unquoted_octet}
use Rattle.lmtp_dialogue.specs.Replies.{lmtp_line_of}
use Rattle.lmtp_dialogue.specs.RecipientReplies.{recipient_lines}
use Rattle.lmtp_dialogue.specs.Texts.{line_with_crlf, IsSentText, IsSentLine, RunsFrom, text_state_after}
use Rattle.lmtp_dialogue.specs.Turns.{LmtpTurn, says, is_too_large, mail_turn, rcpt_turn, command_turn, IsLineTurn, DialogueAnswers, lacks_room, Declines, lookup_reply, taken_by, DialogueReplies, replied, DialogueAct, Hears, Says, Tells, Reports, DialogueTalks}
use Rattle.lmtp_dialogue.specs.declared.name.Names.TheVariants.{Local, Whole}
use Rattle.lmtp_dialogue.specs.declared.command.LmtpCommand.{LmtpCommand}
use Rattle.lmtp_dialogue.specs.declared.command.LmtpCommand.TheVariants as command
use Rattle.lmtp_dialogue.specs.declared.receiver.Lookup.{Lookup}
use Rattle.lmtp_dialogue.specs.declared.receiver.Lookup.TheVariants.{Known, Unknown}
use Rattle.lmtp_dialogue.specs.declared.recipient_reply.RecipientReply.{RecipientReply}
use Rattle.lmtp_dialogue.specs.declared.recipient_reply.RecipientReply.TheVariants.{Refused}
use Rattle.lmtp_dialogue.specs.declared.reply.LmtpReply.TheVariants as reply
use Rattle.lmtp_dialogue.specs.declared.message_text.TextState.TheVariants.{Start, Inside, Return}
use Rattle.lmtp_dialogue.proofs.NextLemmas.{runs_out}
use Rattle.lmtp_dialogue.proofs.TextLemmas.{apart, open_apart, not_none, same_first, text_ends}

-- ---- lines that are written out

-- no CR stands before an LF
abbrev ends_nowhere : List ℕ → Bool
ends_nowhere [] = true
ends_nowhere (octet ∷ []) = true
ends_nowhere (octet ∷ next ∷ rest) = not (octet == 13 && next == 10) && ends_nowhere (next ∷ rest)

no_end : (text : List ℕ) → ends_nowhere text ≡ true → HasNoLineEnd text
no_end [] test [] back same = absurd (cc same)
no_end [] test (f ∷ front) back same = absurd (cc same)
no_end (octet ∷ []) test [] back same = absurd (cc same)
no_end (octet ∷ []) test (f ∷ []) back same = absurd (cc same)
no_end (octet ∷ []) test (f ∷ g ∷ front) back same = absurd (cc same)
no_end (octet ∷ next ∷ rest) test [] back same =
    let first : octet ≡ 13 = cc in
    let second : next ≡ 10 = cc in
    absurd (cc (rw (first, second) at test))
no_end (octet ∷ next ∷ rest) test (f ∷ front) back same = no_end (next ∷ rest) (rest_test octet next rest test) front back (cc)
  where
    and_right : (a b : Bool) → (a && b) ≡ true → b ≡ true
    and_right true b is = is
    and_right false b is = absurd (cc is)

    rest_test : (octet next : ℕ) (rest : List ℕ) → ends_nowhere (octet ∷ next ∷ rest) ≡ true → ends_nowhere (next ∷ rest) ≡ true
    rest_test octet next rest is = and_right (not (octet == 13 && next == 10)) (ends_nowhere (next ∷ rest)) is

line_is : (line : List ℕ) → ends_nowhere (line ++ 13 ∷ []) ≡ true → IsCrlfLine line
line_is line test = no_end (line ++ 13 ∷ []) test

-- ---- commands

abbrev lent : List ℕ → Bor (List ℕ)
lent text = record { ref_ptr = (0, 0); now = text }

hello_command : ReadsLmtpCommand (codes "LHLO a") (command.Lhlo (lent (codes "a")))
hello_command = (
  record {
    word = codes "LHLO";
    is = refl;
    splits = record { tail = codes " a"; written = refl; unspaced = refl; argues = inr (codes "a", refl, refl) };
  },
  λ none. not_none 97 [] none,
)

-- `<x>`, of one octet that may stand outside quotation marks and is no `@`
short_path : (octet : ℕ) → is_unquoted_octet octet ≡ true → (octet == 64) ≡ false → IsPath (60 ∷ octet ∷ 62 ∷ []) (octet ∷ []) []
short_path octet plain other = record {
  inner = octet ∷ 62 ∷ [];
  bare = octet ∷ 62 ∷ [];
  opened = refl;
  follows = record {
    route = [];
    routed = inl refl;
    written = refl;
    is = λ rest same. apart octet 64 other (same_first octet 64 (62 ∷ []) rest same);
  };
  ends = record { is = inr (plain, tt); written = refl };
}

mail_command : ReadsLmtpCommand (codes "MAIL FROM:<c>") (command.Mail (record { from = lent (codes "c"); size = None }))
mail_command = (
  codes "FROM:<c>",
  record {
    word = codes "MAIL";
    is = refl;
    splits = record { tail = codes " FROM:<c>"; written = refl; unspaced = refl; argues = inr (codes "FROM:<c>", refl, refl) };
  },
  (
    [],
    record {
      path = codes "<c>";
      after = record { front = codes "FROM:"; is = refl; written = refl };
      is = short_path 99 refl refl;
      takes = lit≤ tt;
    },
    ([], (refl, refl)),
  ),
)

rcpt_order : (octet : ℕ) → is_unquoted_octet octet ≡ true → (octet == 64) ≡ false → codes "TO:<" ++ octet ∷ 62 ∷ [] ≡ trimmed (codes "TO:<" ++ octet ∷ 62 ∷ [])
    → ReadsLmtpCommand (codes "RCPT TO:<" ++ octet ∷ 62 ∷ []) (command.Rcpt (lent (octet ∷ [])))
rcpt_order octet plain other trims = (
  codes "TO:<" ++ octet ∷ 62 ∷ [],
  record {
    word = codes "RCPT";
    is = refl;
    splits = record { tail = codes " TO:<" ++ octet ∷ 62 ∷ []; written = refl; unspaced = refl; argues = inr (codes "TO:<" ++ octet ∷ 62 ∷ [], refl, trims) };
  },
  record {
    path = 60 ∷ octet ∷ 62 ∷ [];
    after = record { front = codes "TO:"; is = refl; written = refl };
    is = short_path octet plain other;
    takes = (lit≤ tt, not_none octet []);
  },
)

data_command : ReadsLmtpCommand (codes "DATA") command.Data
data_command = (
  [],
  record {
    word = codes "DATA";
    is = refl;
    splits = record { tail = []; written = refl; unspaced = refl; argues = inl (refl, refl) };
  },
  refl,
)

quit_command : ReadsLmtpCommand (codes "QUIT") command.Quit
quit_command = (
  [],
  record {
    word = codes "QUIT";
    is = refl;
    splits = record { tail = []; written = refl; unspaced = refl; argues = inl (refl, refl) };
  },
  refl,
)

-- ---- a line's turn

abbrev stands : DialoguePhase → List ℕ → Dialogue
stands phase unread = record { phase = phase; unread = unread }

answered : (hello : List ℕ) (phase : DialoguePhase) (line rest : List ℕ) (asked : LmtpCommand) → SpellsItem phase (Command line) (line_with_crlf line) → ReadsLmtpCommand line asked
    → DialogueAnswers hello (stands phase (line_with_crlf line ++ rest)) (let t : LmtpTurn = command_turn hello phase asked in t.said) (stands (let t : LmtpTurn = command_turn hello phase asked in t.phase) rest)
answered hello phase line rest asked spelled reads = record {
  item = Command line;
  rest = rest;
  turn = command_turn hello phase asked;
  first = record { octets = line_with_crlf line; spelled = spelled; written = refl };
  takes = (asked, reads, refl);
  told = refl;
  leaves = refl;
}

short_line : (line : List ℕ) → ends_nowhere (line ++ 13 ∷ []) ≡ true → length (line_with_crlf line) ≤ 2048 → IsLineItem (Command line) (line_with_crlf line)
short_line line test short = (line_is line test, refl, short)

-- ---- a right dialogue: of three recipients the second is unknown; of the two replies behind the text one is a refusal

abbrev one_text : List ℕ
one_text = line_with_crlf (codes "Hi") ++ line_with_crlf (codes ".")

text_is : IsSentText one_text (line_with_crlf (codes "Hi"))
text_is = record {
  lines = codes "Hi" ∷ [];
  each = All-cons IsSentLine (codes "Hi") [] (record {
    whole = line_is (codes "Hi") refl;
    other = λ same. absurd (apart 72 46 refl (same_first 72 46 (105 ∷ []) [] same));
  }) (All-nil IsSentLine);
  written = refl;
  means = refl;
}

-- behind DATA
abbrev rest_of : List ℕ
rest_of = one_text ++ line_with_crlf (codes "QUIT")

message_first : (sender : List ℕ) (left : List (List ℕ)) → IsNextItem (stands (Sending sender left) rest_of) (Message (line_with_crlf (codes "Hi"))) (line_with_crlf (codes "QUIT"))
message_first sender left = record { octets = one_text; spelled = text_is; written = refl }

-- the envelope and the text are there: two replies, in the order of the recipients, and then QUIT is read
replies_follow : (hello sender a b : List ℕ) (outcome : RecipientReply)
    → DialogueTalks hello (stands (Sending sender (a ∷ b ∷ [])) rest_of)
    (Reports outcome (recipient_lines outcome) ∷ Reports (Refused reply.NoRoom) (lmtp_line_of reply.NoRoom) ∷ Says (lmtp_line_of reply.Goodbye) ∷ []) (stands Over [])
replies_follow hello sender a b outcome = (
  stands (Sending sender (b ∷ [])) rest_of,
  record {
    sender = sender;
    recipient = a;
    left = b ∷ [];
    text = line_with_crlf (codes "Hi");
    rest = line_with_crlf (codes "QUIT");
    owed = refl;
    first = message_first sender (a ∷ b ∷ []);
    told = refl;
    leaves = refl;
  },
  (
    stands Ready (line_with_crlf (codes "QUIT")),
    record {
      sender = sender;
      recipient = b;
      left = [];
      text = line_with_crlf (codes "Hi");
      rest = line_with_crlf (codes "QUIT");
      owed = refl;
      first = message_first sender (b ∷ []);
      told = refl;
      leaves = refl;
    },
    (stands Over [], answered hello Ready (codes "QUIT") [] command.Quit (short_line (codes "QUIT") refl (lit≤ tt)) quit_command, refl),
  ),
)

-- what the client sends, all of it at once
abbrev sent : List ℕ
sent =
    line_with_crlf (codes "LHLO a") ++ (line_with_crlf (codes "MAIL FROM:<c>") ++ (line_with_crlf (codes "RCPT TO:<p>") ++ (line_with_crlf (codes "RCPT TO:<j>")
    ++ (line_with_crlf (codes "RCPT TO:<g>") ++ (line_with_crlf (codes "DATA") ++ rest_of)))))

-- a recipient is asked for, and it is told whether there is an account
asks : (hello sender : List ℕ) (taken : List (List ℕ)) (octet : ℕ) (lookup : Lookup) (rest : List ℕ) (acts : List DialogueAct) (e : Dialogue)
    → rcpt_turn (Opened sender taken) (octet ∷ []) ≡ record { said = []; phase = Asking sender taken (octet ∷ []) }
    → SpellsItem (Opened sender taken) (Command (codes "RCPT TO:<" ++ octet ∷ 62 ∷ [])) (line_with_crlf (codes "RCPT TO:<" ++ octet ∷ 62 ∷ []))
    → ReadsLmtpCommand (codes "RCPT TO:<" ++ octet ∷ 62 ∷ []) (command.Rcpt (lent (octet ∷ [])))
    → DialogueTalks hello (stands (Opened sender (taken_by lookup taken (octet ∷ []))) rest) acts e
    → DialogueTalks hello (stands (Opened sender taken) (line_with_crlf (codes "RCPT TO:<" ++ octet ∷ 62 ∷ []) ++ rest)) (Says [] ∷ Tells lookup (lmtp_line_of (lookup_reply lookup)) ∷ acts) e
asks hello sender taken octet lookup rest acts e turn spelled reads more = (
  stands (Asking sender taken (octet ∷ [])) rest,
  record {
    item = Command (codes "RCPT TO:<" ++ octet ∷ 62 ∷ []);
    rest = rest;
    turn = record { said = []; phase = Asking sender taken (octet ∷ []) };
    first = record { octets = line_with_crlf (codes "RCPT TO:<" ++ octet ∷ 62 ∷ []); spelled = spelled; written = refl };
    takes = (command.Rcpt (lent (octet ∷ [])), reads, sym turn);
    told = refl;
    leaves = refl;
  },
  (
    stands (Opened sender (taken_by lookup taken (octet ∷ []))) rest,
    record { sender = sender; taken = taken; address = octet ∷ []; asked = refl; told = refl; leaves = refl },
    more,
  ),
)

-- what is answered up to the text
abbrev data_on : List ℕ
data_on = line_with_crlf (codes "DATA") ++ rest_of

abbrev third_on : List ℕ
third_on = line_with_crlf (codes "RCPT TO:<g>") ++ data_on

abbrev second_on : List ℕ
second_on = line_with_crlf (codes "RCPT TO:<j>") ++ third_on

abbrev first_on : List ℕ
first_on = line_with_crlf (codes "RCPT TO:<p>") ++ second_on

data_taken : (hello : List ℕ)
    → DialogueTalks hello (stands (Opened (codes "c") (codes "p" ∷ codes "g" ∷ [])) data_on) (Says (lmtp_line_of reply.GoAhead) ∷ []) (stands (Sending (codes "c") (codes "p" ∷ codes "g" ∷ [])) rest_of)
data_taken hello = (
  stands (Sending (codes "c") (codes "p" ∷ codes "g" ∷ [])) rest_of,
  answered hello (Opened (codes "c") (codes "p" ∷ codes "g" ∷ [])) (codes "DATA") rest_of command.Data (short_line (codes "DATA") refl (lit≤ tt)) data_command,
  refl,
)

abbrev in_text : Dialogue
in_text = stands (Sending (codes "c") (codes "p" ∷ codes "g" ∷ [])) rest_of

abbrev data_acts : List DialogueAct
data_acts = Says (lmtp_line_of reply.GoAhead) ∷ []

abbrev third_acts : List DialogueAct
third_acts = Says [] ∷ Tells Known (lmtp_line_of reply.RecipientTaken) ∷ data_acts

abbrev second_acts : List DialogueAct
second_acts = Says [] ∷ Tells Unknown (lmtp_line_of reply.NoSuchUser) ∷ third_acts

recipients_taken : (hello : List ℕ)
    → DialogueTalks hello (stands (Opened (codes "c") []) first_on)
    (Says [] ∷ Tells Known (lmtp_line_of reply.RecipientTaken) ∷ Says [] ∷ Tells Unknown (lmtp_line_of reply.NoSuchUser) ∷ Says [] ∷ Tells Known (lmtp_line_of reply.RecipientTaken)
    ∷ Says (lmtp_line_of reply.GoAhead) ∷ [])
    (stands (Sending (codes "c") (codes "p" ∷ codes "g" ∷ [])) rest_of)
recipients_taken hello =
    asks hello (codes "c") [] 112 Known second_on second_acts in_text refl (short_line (codes "RCPT TO:<p>") refl (lit≤ tt)) (rcpt_order 112 refl refl refl)
    (asks hello (codes "c") (codes "p" ∷ []) 106 Unknown third_on third_acts in_text refl (short_line (codes "RCPT TO:<j>") refl (lit≤ tt)) (rcpt_order 106 refl refl refl)
    (asks hello (codes "c") (codes "p" ∷ []) 103 Known data_on data_acts in_text refl (short_line (codes "RCPT TO:<g>") refl (lit≤ tt)) (rcpt_order 103 refl refl refl)
    (data_taken hello)))

envelope : (hello : List ℕ)
    → DialogueTalks hello new_dialogue
    (Hears sent ∷ Says hello ∷ Says (lmtp_line_of reply.SenderTaken) ∷ Says [] ∷ Tells Known (lmtp_line_of reply.RecipientTaken) ∷ Says [] ∷ Tells Unknown (lmtp_line_of reply.NoSuchUser)
    ∷ Says [] ∷ Tells Known (lmtp_line_of reply.RecipientTaken) ∷ Says (lmtp_line_of reply.GoAhead) ∷ [])
    (stands (Sending (codes "c") (codes "p" ∷ codes "g" ∷ [])) rest_of)
envelope hello = (
  stands Greeted sent,
  refl,
  (
    stands Ready (line_with_crlf (codes "MAIL FROM:<c>") ++ first_on),
    answered hello Greeted (codes "LHLO a") (line_with_crlf (codes "MAIL FROM:<c>") ++ first_on) (command.Lhlo (lent (codes "a"))) (short_line (codes "LHLO a") refl (lit≤ tt)) hello_command,
    (
      stands (Opened (codes "c") []) first_on,
      answered hello Ready (codes "MAIL FROM:<c>") first_on (command.Mail (record { from = lent (codes "c"); size = None }))
          (short_line (codes "MAIL FROM:<c>") refl (lit≤ tt)) mail_command,
      recipients_taken hello,
    ),
  ),
)

-- ---- near misses

-- a reply is missing: behind the first of two one is owed to the second, and no line is read
owed_still : (d e : Dialogue) (sender a b : List ℕ) (outcome : RecipientReply) (said : List ℕ) → d.phase ≡ Sending sender (a ∷ b ∷ []) → DialogueReplies d outcome said e
    → e.phase ≡ Sending sender (b ∷ [])
owed_still d e sender a b outcome said is done =
    let same : Sending sender (a ∷ b ∷ []) ≡ Sending done.sender (done.recipient ∷ done.left) = sym is ∙ done.owed in
    let from : done.sender ≡ sender = sym (ap sender_of same) in
    let left : done.left ≡ b ∷ [] = sym (ap left_of same) in
    ap (λ x. (let t : Dialogue = x in t.phase)) done.leaves
    ∙ (ap (λ l. (let t : Dialogue = replied done.sender l d done.rest in t.phase)) left ∙ ap (λ s. Sending s (b ∷ [])) from)
  where
    sender_of : DialoguePhase → List ℕ
    sender_of (Sending s l) = s
    sender_of phase = []

    left_of : DialoguePhase → List (List ℕ)
    left_of (Sending s (r ∷ l)) = l
    left_of phase = []

not_read : (hello : List ℕ) (d e : Dialogue) (sender : List ℕ) (left : List (List ℕ)) (said : List ℕ) → d.phase ≡ Sending sender left → DialogueAnswers hello d said e → ⊥
not_read hello d e sender left said is done =
    message_only hello d.phase done.item done.first.octets done.turn (subst (λ p. SpellsItem p done.item done.first.octets) is done.first.spelled) done.takes
  where
    message_only : (hello : List ℕ) (phase : DialoguePhase) (item : Item) (octets : List ℕ) (turn : LmtpTurn) → SpellsItem (Sending sender left) item octets → IsLineTurn hello phase item turn → ⊥
    message_only hello phase (Command line) octets turn spelled takes = spelled
    message_only hello phase LongLine octets turn spelled takes = spelled
    message_only hello phase (Message text) octets turn spelled takes = takes

-- DATA in a pipeline, behind recipients that were all refused
no_recipient : (hello sender rest : List ℕ)
    → DialogueAnswers hello (stands (Opened sender []) (line_with_crlf (codes "DATA") ++ rest)) (lmtp_line_of reply.NoRecipient) (stands (Opened sender []) rest)
no_recipient hello sender rest = answered hello (Opened sender []) (codes "DATA") rest command.Data (short_line (codes "DATA") refl (lit≤ tt)) data_command

-- a dot between a bare LF and CRLF: no text is whole
no_dot : (sender : List ℕ) (left : List (List ℕ)) → DialogueWaits (stands (Sending sender left) (72 ∷ 10 ∷ 46 ∷ 13 ∷ 10 ∷ []))
no_dot sender left (Message text) rest first =
    let runs : RunsFrom Start (72 ∷ 10 ∷ 46 ∷ 13 ∷ 10 ∷ []) =
    (open_apart Start refl, (open_apart Inside refl, (open_apart Inside refl, (open_apart Inside refl, (open_apart Return refl, tt))))) in
    open_apart Start refl
    (ap (text_state_after Start) first.written
    ∙ runs_out Start first.octets rest (subst (RunsFrom Start) first.written runs) (text_ends first.octets text first.spelled))
no_dot sender left (Command line) rest first = first.spelled
no_dot sender left LongLine rest first = first.spelled

-- nor of a line that ends at a bare LF
no_feed_line : DialogueWaits (stands Ready (codes "NOOP" ++ 10 ∷ []))
no_feed_line (Command line) rest first =
    no_end (codes "NOOP" ++ 10 ∷ []) refl line rest (first.written ∙ (ap (λ o. o ++ rest) first.spelled.1 ∙ append_assoc line line_end rest))
no_feed_line LongLine rest first =
    no_end (codes "NOOP" ++ 10 ∷ []) refl first.spelled.0 rest (first.written ∙ (ap (λ o. o ++ rest) first.spelled.2 ∙ append_assoc first.spelled.0 line_end rest))
no_feed_line (Message text) rest first = first.spelled

-- MAIL before LHLO, and a second one, are out of order
early : mail_turn Greeted (codes "c") None ≡ says reply.OutOfOrder Greeted
early = refl

second : mail_turn (Opened (codes "c") []) (codes "d") None ≡ says reply.OutOfOrder (Opened (codes "c") [])
second = refl

-- a size at the limit, and one past it
at_limit : is_too_large (Some 33552232) ≡ false
at_limit = refl

past_limit : is_too_large (Some 33552233) ≡ true
past_limit = refl

-- one of 2^64 and more is a size, and too large
beyond_limit : is_too_large (Some max_size) ≡ true
beyond_limit = refl

-- ---- room for a message

more_than_there_is_room : lacks_room 100 (Some 101) ≡ true
more_than_there_is_room = refl

-- near misses: what fits, what no message may have at all, and what isn't announced
just_room : lacks_room 100 (Some 100) ≡ false
just_room = refl

left_to_the_limit : lacks_room 100 (Some 33552233) ≡ false
left_to_the_limit = refl

not_announced : lacks_room 0 None ≡ false
not_announced = refl

not_in_a_transaction : (room : ℕ) (sender said rest : List ℕ) (e : Dialogue) → Declines room (stands (Opened sender []) rest) said e → ⊥
not_in_a_transaction room sender said rest e is = let ready = is.ready in cc

-- ---- names

forms : forms_by Local (codes "Ann+x") (codes "@h") ≡ codes "Ann+x" ∷ codes "ann+x" ∷ codes "Ann" ∷ codes "ann" ∷ []
forms = refl

-- near misses: none twice, and nothing is left of a name that begins with `+`
forms_once : forms_by Local (codes "ann") (codes "@h") ≡ codes "ann" ∷ []
forms_once = refl

forms_plus : forms_by Local (codes "+x") (codes "@h") ≡ codes "+x" ∷ []
forms_plus = refl

forms_whole : forms_by Whole (codes "Ann+x") (codes "@H") ≡ codes "Ann+x@H" ∷ codes "ann+x@h" ∷ codes "Ann@H" ∷ codes "ann@h" ∷ []
forms_whole = refl

forms_quoted : forms_by Local (codes "\"a b\"") (codes "@h") ≡ codes "a b" ∷ []
forms_quoted = refl

postmaster : forms_by Local (codes "Postmaster") [] ≡ codes "Postmaster" ∷ codes "postmaster" ∷ []
postmaster = refl

-- ---- copies

-- a text that begins with a field `Return-Path`, folded, and one that begins with another
path_line : is_path_line (codes "RETURN-path : <a>" ++ (line_end ++ (codes " b" ++ line_end))) ≡ true
path_line = refl

other_line : is_path_line (codes "Return-Paths: <a>" ++ line_end) ≡ false
other_line = refl

-- near misses: none without a colon, and none in an empty line
no_colon : is_path_line (codes "Return-Path" ++ line_end) ≡ false
no_colon = refl

no_header : is_path_line line_end ≡ false
no_header = refl

added : added_fields (codes "a@b") (codes "c")
    ≡ codes "Return-Path: <a@b>" ++ (line_end ++ (codes "Delivered-To: c" ++ line_end))
added = refl
