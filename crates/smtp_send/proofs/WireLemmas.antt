-- What passes over a connection.
use Rattle.std.proofs.Common.{◌≡◌, ℕ, List, [], ◌++◌, Option, Some, take, drop, refl, sym, ap, ◌∙◌, subst, append-nil, append_assoc}
use Rattle.std.specs.Prelude.{IfSome}
use Rattle.std.proofs.lemmas.List.{take-append-drop}
use Rattle.smtp_dialogue.specs.Replies.{IsSmtpReply}
use Rattle.smtp_send.specs.Talks.{SendTalk, talk_written, talk_heard, WritesPrefix}
use Rattle.smtp_send.specs.Wires.{sent_message, sent_other, came_reply, came_other, WirePasses}

-- the same passed
pub same : (P Q : List ℕ → List ℕ → Type 0) (unread : List ℕ) (t : SendTalk) → ((sent came : List ℕ) → P sent came → Q sent came) → WirePasses P unread t → WirePasses Q unread t
same P Q unread t keeps passes = record {
  sent = passes.sent;
  came = passes.came;
  passed = keeps passes.sent (passes.came ++ unread) passes.passed;
  carries = passes.carries;
  answers = passes.answers;
}

-- octets were sent
pub sent_more : (P Q : List ℕ → List ℕ → Type 0) (unread octets : List ℕ) (t : SendTalk) → ((sent came : List ℕ) → P sent came → Q (sent ++ octets) came) → WirePasses P unread t → WirePasses Q unread t
sent_more P Q unread octets t sends passes = record {
  sent = passes.sent ++ octets;
  came = passes.came;
  passed = sends passes.sent (passes.came ++ unread) passes.passed;
  carries = sent_other passes.sent t.written octets passes.carries;
  answers = passes.answers;
}

-- those of a message
pub message_more : (P Q : List ℕ → List ℕ → Type 0) (unread octets : List ℕ) (t : SendTalk) → ((sent came : List ℕ) → P sent came → Q (sent ++ octets) came) → WirePasses P unread t → WirePasses Q unread (talk_written t octets)
message_more P Q unread octets t sends passes = record {
  sent = passes.sent ++ octets;
  came = passes.came;
  passed = sends passes.sent (passes.came ++ unread) passes.passed;
  carries = sent_message passes.sent t.written octets passes.carries;
  answers = passes.answers;
}

-- a front of these
abbrev SendsFront : (P Q : List ℕ → List ℕ → Type 0) → List ℕ → Type 0
SendsFront P Q octets = (sent came : List ℕ) → P sent came → (front rest : List ℕ) × (octets ≡ front ++ rest) × Q (sent ++ front) came

pub other_front : (P Q : List ℕ → List ℕ → Type 0) (unread octets : List ℕ) (t : SendTalk) → SendsFront P Q octets → WirePasses P unread t → WirePasses Q unread t
other_front P Q unread octets t sends passes =
    let it = sends passes.sent (passes.came ++ unread) passes.passed in
    record { sent = passes.sent ++ it.0; came = passes.came; passed = it.3; carries = sent_other passes.sent t.written it.0 passes.carries; answers = passes.answers }

pub message_front : (P Q : List ℕ → List ℕ → Type 0) (unread octets : List ℕ) (t : SendTalk) → SendsFront P Q octets → WirePasses P unread t → (u : SendTalk) × WirePasses Q unread u × WritesPrefix octets t u
message_front P Q unread octets t sends passes =
    let it = sends passes.sent (passes.came ++ unread) passes.passed in (
      talk_written t it.0,
      record { sent = passes.sent ++ it.0; came = passes.came; passed = it.3; carries = sent_message passes.sent t.written it.0 passes.carries; answers = passes.answers },
      record { front = it.0; rest = it.1; cut = it.2; written = refl; answered = refl },
    )

-- octets came
pub came_more : (P Q : List ℕ → List ℕ → Type 0) (unread now octets : List ℕ) (t : SendTalk) → ((sent came : List ℕ) → P sent came → Q sent (came ++ octets)) → now ≡ unread ++ octets → WirePasses P unread t
    → WirePasses Q now t
came_more P Q unread now octets t comes joined passes = record {
  sent = passes.sent;
  came = passes.came;
  passed = subst (Q passes.sent) (append_assoc passes.came unread octets ∙ ap (λ u. passes.came ++ u) (sym joined)) (comes passes.sent (passes.came ++ unread) passes.passed);
  carries = passes.carries;
  answers = passes.answers;
}

pub count_at : (P : ℕ → Type 0) (found : Option ℕ) (count : ℕ) → found ≡ Some count → IfSome found P → P count
count_at P found count is some = let Q : Option ℕ → Type 0 = λ o. IfSome o P in subst Q is some

-- what isn't read is forgotten
pub forgets : (P : List ℕ → List ℕ → Type 0) (unread : List ℕ) (t : SendTalk) → WirePasses P unread t → WirePasses P [] t
forgets P unread t passes = record {
  sent = passes.sent;
  came = passes.came ++ unread;
  passed = subst (P passes.sent) (sym (append-nil (passes.came ++ unread))) passes.passed;
  carries = passes.carries;
  answers = came_other passes.came t.answered unread passes.answers;
}

-- a reply is read
taken : (P : List ℕ → List ℕ → Type 0) (sent came unread : List ℕ) (count : ℕ) → P sent (came ++ unread) → P sent ((came ++ take count unread) ++ drop count unread)
taken P sent came unread count passed =
    subst (P sent) (ap (λ u. came ++ u) (sym (take-append-drop count unread)) ∙ sym (append_assoc came (take count unread) (drop count unread))) passed

pub reads_reply : (P : List ℕ → List ℕ → Type 0) (unread now : List ℕ) (count code : ℕ) (t : SendTalk) → IsSmtpReply unread code (drop count unread) → now ≡ drop count unread → WirePasses P unread t
    → WirePasses P now (talk_heard t code)
reads_reply P unread now count code t reply same passes =
    subst (λ n. WirePasses P n (talk_heard t code)) (sym same)
    (record {
      sent = passes.sent;
      came = passes.came ++ take count unread;
      passed = taken P passes.sent passes.came unread count passes.passed;
      carries = passes.carries;
      answers =
          came_reply passes.came t.answered (take count unread) (drop count unread) code passes.answers
          (subst (λ o. IsSmtpReply o code (drop count unread)) (sym (take-append-drop count unread)) reply);
    })

pub reads_other : (P : List ℕ → List ℕ → Type 0) (unread now : List ℕ) (count : ℕ) (t : SendTalk) → now ≡ drop count unread → WirePasses P unread t → WirePasses P now t
reads_other P unread now count t same passes =
    subst (λ n. WirePasses P n t) (sym same)
    (record {
      sent = passes.sent;
      came = passes.came ++ take count unread;
      passed = taken P passes.sent passes.came unread count passes.passed;
      carries = passes.carries;
      answers = came_other passes.came t.answered (take count unread) passes.answers;
    })
