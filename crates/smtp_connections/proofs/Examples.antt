-- Right cases of the definitions, and near misses.
use Rattle.std.proofs.Common.{◌≡◌, ◌≢◌, ℕ, ◌+◌, ◌==◌, ◌&&◌, not, Bool, true, false, List, [], ◌∷◌, ◌++◌, length, Some, None, codes, inl, inr, refl, sym, ap, ◌∙◌, subst, arith}
use Rattle.std.proofs.lemmas.List.{length-append}
use Rattle.lmtp_dialogue.specs.Lines.{line_end, HasNoLineEnd}
use Rattle.smtp_dialogue.specs.Messages.{SmtpMail, IsOffered}
use Rattle.smtp_dialogue.specs.Extensions.{no_extensions}
use Rattle.smtp_dialogue.specs.declared.extension.Extensions.{Extensions}
use Rattle.smtp_dialogue.specs.declared.dialogue.SmtpStage.TheVariants.{Sender, Recipient, Data, Text}
use Rattle.smtp_dialogue.specs.declared.dialogue.Ending.TheVariants as endings
use Rattle.smtp_dialogue.specs.Dialogues.{Speaks}
use Rattle.smtp_send.specs.Talks.{SendTalk, talk, Treats}
use Rattle.smtp_connections.specs.Answers.{Answers}
use Rattle.smtp_connections.specs.Exchanges.{lost_at, phase_after, ending_by}
use Rattle.smtp_connections.specs.Connections.{left_at, left_to_write, Begins, Hears, WritesIn, WritesSome}
use Rattle.smtp_connections.specs.declared.answer.SmtpAnswer.TheVariants.{Part, Whole}
use Rattle.smtp_connections.specs.declared.end.SmtpEnd.TheVariants as ends
use Rattle.smtp_connections.specs.declared.exchange.SmtpExchange.TheVariants.{Ehlo, Helo, Message, Reset}
use Rattle.smtp_connections.specs.declared.exchange.SmtpPhase.TheVariants.{Writing, Awaiting, Over}
use Rattle.smtp_connections.specs.declared.connection.SmtpConnection.{SmtpConnection as Code}
use Rattle.smtp_connections.proofs.AnswerLemmas.{smtp_answers_stand}
use Rattle.smtp_connections.proofs.TurnLemmas.{turns_stand}

-- ---- what comes first

-- no CR stands before an LF
abbrev ends_nowhere : List ℕ → Bool
ends_nowhere [] = true
ends_nowhere (octet ∷ []) = true
ends_nowhere (octet ∷ next ∷ rest) = not (octet == 13 && next == 10) && ends_nowhere (next ∷ rest)

and_right : (a b : Bool) → (a && b) ≡ true → b ≡ true
and_right true b is = is
and_right false b is = absurd (cc is)

no_end : (text : List ℕ) → ends_nowhere text ≡ true → HasNoLineEnd text
no_end [] test [] back same = absurd (cc same)
no_end [] test (f ∷ front) back same = absurd (cc same)
no_end (octet ∷ []) test [] back same = absurd (cc same)
no_end (octet ∷ []) test (f ∷ []) back same = absurd (cc same)
no_end (octet ∷ []) test (f ∷ g ∷ front) back same = absurd (cc same)
no_end (octet ∷ next ∷ rest) test [] back same =
    let first : octet ≡ 13 = cc in
    let second : next ≡ 10 = cc in
    absurd (cc (rw (first, second) at test))
no_end (octet ∷ next ∷ rest) test (f ∷ front) back same = no_end (next ∷ rest) (and_right (not (octet == 13 && next == 10)) (ends_nowhere (next ∷ rest)) test) front back (cc)

-- `250 ok`, with its CRLF
abbrev ok : List ℕ
ok = codes "250 ok" ++ line_end

ok_is_whole : Answers ok (Whole 250 8)
ok_is_whole = (
  [],
  (
    6,
    record {
      finds = (record { whole = no_end (codes "250 ok" ++ 13 ∷ []) refl; written = refl }, omega arith, omega arith);
      line = record {
        text = codes "ok";
        reads = record {
          first = 50;
          second = 53;
          third = 48;
          rest = 32 ∷ codes "ok";
          written = refl;
          digits = record { class = (omega arith, omega arith); other = (omega arith, omega arith); last = (omega arith, omega arith); means = refl };
          mark = inr refl;
        };
        agrees = tt;
      };
    },
    refl,
  ),
)

-- near misses: without its LF it is a part, and no other reply is there
cut_is_part : Answers (codes "250 ok" ++ 13 ∷ []) Part
cut_is_part = ([], (no_end (codes "250 ok" ++ 13 ∷ []) refl, omega arith))

cut_is_none : (code count : ℕ) → Answers (codes "250 ok" ++ 13 ∷ []) (Whole code count) → ⊥
cut_is_none code count is =
    let never : Part ≡ Whole code count = smtp_answers_stand.one (codes "250 ok" ++ 13 ∷ []) Part (Whole code count) cut_is_part is in
    cc

not_251 : (count : ℕ) → Answers ok (Whole 251 count) → ⊥
not_251 count is =
    let same : Whole 250 8 ≡ Whole 251 count = smtp_answers_stand.one ok (Whole 250 8) (Whole 251 count) ok_is_whole is in
    let never : ◌≡◌ {A = ℕ} 250 251 = cc in
    absurd (omega (arith, never))

-- ---- what follows a reply

taken_recipient : phase_after (Message Recipient) 251 ≡ Writing (Message Data) 0
taken_recipient = refl

-- near misses: a recipient that is refused, or asked for more, is never followed by DATA
refused_recipient : phase_after (Message Recipient) 550 ≡ Writing Reset 0
refused_recipient = refl

odd_recipient : phase_after (Message Recipient) 354 ≡ Over (ends.Unexpected 354)
odd_recipient = refl

sent_text : ending_by (Message Text) 250 ≡ Some endings.Sent
sent_text = refl

-- near misses: by 251, or by a 250 to DATA, nothing is sent
not_by_251 : ending_by (Message Text) 251 ≡ Some (endings.OutOfPlace 251)
not_by_251 = refl

not_by_data : ending_by (Message Data) 250 ≡ Some (endings.OutOfPlace 250)
not_by_data = refl

-- EHLO that is refused for good is followed by HELO, and one that is put off by nothing
refused_ehlo : phase_after Ehlo 502 ≡ Writing Helo 0
refused_ehlo = refl

busy_ehlo : phase_after Ehlo 421 ≡ Over (ends.Unexpected 421)
busy_ehlo = refl

-- ---- too early

-- a 250 doesn't count that comes while an octet of the text isn't written yet
early_250 : (count : ℕ) (c e : Code) → c.phase ≡ Writing (Message Text) count → left_to_write c ≢ [] → Hears ok c (Some endings.Sent) e → ⊥
early_250 count c e at left hears =
    let it = turns_stand.early ok c e (Some endings.Sent) left (λ same. cc) hears in
    let phase : Some endings.Sent ≡ Some endings.Lost = it.1 ∙ ap lost_at at in
    cc

-- ---- a message

abbrev eight_bit : SmtpMail
eight_bit = record { sender = codes "a@b"; target = codes "c@d"; text = 228 ∷ [] }

abbrev wide : SmtpMail
wide = record { sender = 228 ∷ codes "@b"; target = codes "c@d"; text = [] }

-- octets over 127 go without 8BITMIME if they may; near misses: they may not; and an address may never go without SMTPUTF8
may_go : IsOffered no_extensions true eight_bit
may_go = record { addresses = λ off. absurd (cc off); text = λ holds. refl }

may_not : IsOffered no_extensions false eight_bit → ⊥
may_not is = let never : false ≡ true = is.text refl in cc

never_wide : IsOffered no_extensions true wide → ⊥
never_wide is = let never : false ≡ true = is.addresses refl in cc

not_begun : (c e : Code) → c.offered ≡ no_extensions → Begins wide c None e → ⊥
not_begun c e none begins = let never : no_extensions.smtputf8 ≡ true = ap (λ (x : Extensions). x.smtputf8) (sym none) ∙ begins.needs.addresses refl in cc

-- ---- octets are written

-- it is the server's turn only once all is written: near miss with an octet that is left
one_left : (c : Code) → length (left_to_write c) ≡ 6 → WritesIn 5 (Writing Reset 0) c (record c { phase = Awaiting Reset; heard = [] }) → ⊥
one_left c size (inl it) = let never : Awaiting Reset ≡ Writing Reset (0 + 5) = ap (λ (m : Code). m.phase) it.1 in cc
one_left c size (inr it) = omega (arith, it.0, size)

not_yet : (c : Code) → c.phase ≡ Writing Reset 0 → WritesSome 5 c (record c { phase = Awaiting Reset; heard = [] }) → ⊥
not_yet c at writes =
    let size : length (left_to_write c) ≡ 6 = ap (λ q. length (left_at c q)) at in
    one_left c size (subst (λ q. WritesIn 5 q c (record c { phase = Awaiting Reset; heard = [] })) at writes)

-- ---- a row isn't sent by another's 250

no_more : (answered more : List ℕ) → answered ≡ answered ++ more → more ≡ []
no_more answered [] same = refl
no_more answered (code ∷ more) same =
    let size = ap length same in
    let one = length-append answered (code ∷ more) in
    absurd (omega (arith, size, one))

no_reply : (offered : Extensions) (mail : SmtpMail) (replies lines : List ℕ) → replies ≡ [] → Speaks offered mail replies Sender lines endings.Sent → ⊥
no_reply offered mail [] lines none speaks = let never : endings.Sent ≡ endings.Lost = speaks.1 in cc
no_reply offered mail (code ∷ more) lines none speaks = absurd (cc none)

-- without a reply of its own no message is sent, whatever was written
not_by_another : (offered : Extensions) (may : Bool) (mail : SmtpMail) (before : SendTalk) (written : List ℕ) → Treats offered may mail before (talk written before.answered) endings.Sent → ⊥
not_by_another offered may mail before written treats =
    no_reply offered mail treats.says.codes treats.says.lines (no_more before.answered treats.says.codes treats.says.answered) treats.says.speaks
