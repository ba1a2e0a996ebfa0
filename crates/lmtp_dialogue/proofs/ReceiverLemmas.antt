-- For which dialogue a receiver stands after a call.
use Rattle.std.proofs.Common.{◌≡◌, ℕ, suc, ◌+◌, ◌-◌, ◌<◌, ◌≤◌, Bool, true, false, List, [], ◌∷◌, ◌++◌, length, take, drop, inl, inr, refl, sym, ap, ◌∙◌, subst, append_assoc, append-nil, length-append, arith}
use Rattle.std.proofs.Math.Seq.{drop-length}
use Rattle.std.proofs.lemmas.Bool.{cases_order}
use Rattle.std.proofs.lemmas.List.{take-append-drop, length-take-le, append_cancel_left}
use Rattle.std.specs.Prelude.{◌⊎◌}
use Rattle.lmtp_dialogue.specs.Dialogues.{Dialogue, dialogue_given}
use Rattle.lmtp_dialogue.specs.Lines.{line_end, HasNoLineEnd, IsFirstLine, LineFinds, Skips}
use Rattle.lmtp_dialogue.specs.Receivers.{JoinsNone, IsLineGone, IsItemGone, HoldsDialogue, IsLineTaken, IsItemTaken, StandsIn, ReceiverTakesIn, takes_lines}
use Rattle.lmtp_dialogue.specs.Talks.{phase_of}
use Rattle.lmtp_dialogue.specs.Texts.{Feeds}
use Rattle.lmtp_dialogue.specs.declared.command_line.Found.TheVariants.{TooLong}
use Rattle.lmtp_dialogue.specs.declared.receiver.Receiver.{Receiver}
use Rattle.lmtp_dialogue.specs.declared.receiver.LmtpStage.{LmtpStage}
use Rattle.lmtp_dialogue.specs.declared.receiver.LmtpStage.TheVariants as stage
use Rattle.lmtp_dialogue.specs.declared.message_text.TextState.TheVariants.{Ended}
use Rattle.lmtp_dialogue.specs.declared.message_text.Text.{Text}
use Rattle.lmtp_dialogue.proofs.LineLemmas.{too_long}
use Rattle.lmtp_dialogue.proofs.SkipLemmas.{joins_more, joins_both, joins_last, joins_line}
use Rattle.lmtp_dialogue.proofs.StageLemmas.{line_gone, gone_line, taken_line}
use Rattle.lmtp_dialogue.proofs.TextLemmas.{not_none}

-- ---- octets come

unread_more : (gone unread piece octets : List ℕ) → octets ≡ gone ++ unread → octets ++ piece ≡ gone ++ (unread ++ piece)
unread_more gone unread piece octets same = ap (λ t. t ++ piece) same ∙ append_assoc gone unread piece

some_more : (unread piece : List ℕ) → (unread ≡ [] → ⊥) → unread ++ piece ≡ [] → ⊥
some_more [] piece some same = some refl
some_more (octet ∷ unread) piece some same = not_none octet (unread ++ piece) same

line_gone_more : (long : Bool) (unread piece gone : List ℕ) → IsLineGone long unread gone → IsLineGone long (unread ++ piece) gone
line_gone_more false unread piece gone is = is
line_gone_more true unread piece gone is = (joins_more gone unread piece is.0, some_more unread piece is.1, is.2)

gone_more : (at : LmtpStage) (long : Bool) (text : Text) (unread piece gone : List ℕ) → IsItemGone at long text unread gone → IsItemGone at long text (unread ++ piece) gone
gone_more stage.Greeted long text unread piece gone is = line_gone_more long unread piece gone is
gone_more stage.Ready long text unread piece gone is = line_gone_more long unread piece gone is
gone_more stage.Opened long text unread piece gone is = line_gone_more long unread piece gone is
gone_more stage.Asking long text unread piece gone is = line_gone_more long unread piece gone is
gone_more stage.Sending long text unread piece gone is = is
gone_more stage.Over long text unread piece gone is = tt

pub holds_more : (r s : Receiver) (piece : List ℕ) (d : Dialogue) → s.talk ≡ r.talk → s.long ≡ r.long → s.unread ≡ r.unread ++ piece
    → StandsIn r d → HoldsDialogue s (dialogue_given piece d)
holds_more r s piece d talk long unread stands = record {
  phase = rw talk stands.holds.phase;
  heard = record {
    gone = stands.holds.heard.gone;
    is = rw (talk, long, unread) (gone_more r.talk.stage r.long r.talk.text r.unread piece stands.holds.heard.gone stands.holds.heard.is);
    written = rw unread (unread_more stands.holds.heard.gone r.unread piece d.unread stands.holds.heard.written);
  };
  sound = rw talk stands.holds.sound;
  limit = rw talk stands.holds.limit;
}

-- ---- what is held is taken in

-- behind QUIT
pub takes_over : (r s : Receiver) → r.talk.stage ≡ stage.Over → s.talk ≡ r.talk → s.unread ≡ [] → ReceiverTakesIn r s
takes_over r s over talk none = λ d holds. record {
  holds = record {
    phase = rw talk holds.phase;
    heard = record {
      gone = d.unread;
      is = rw (talk, over) tt;
      written = rw none (sym (append-nil d.unread));
    };
    sound = rw talk holds.sound;
    limit = rw talk holds.limit;
  };
  taken = rw (talk, over) none;
}

-- of a text
nothing_left : (unread : List ℕ) (count : ℕ) → count ≡ length unread → drop count unread ≡ []
nothing_left unread count all = rw all (drop-length unread)

pub takes_text : (r s : Receiver) (count : ℕ) → r.talk.stage ≡ stage.Sending → s.talk.stage ≡ stage.Sending → phase_of s.talk ≡ phase_of r.talk
    → s.long ≡ r.long → s.unread ≡ drop count r.unread → Feeds r.talk.text (take count r.unread) s.talk.text
    → ((s.talk.text.place ≡ Ended → ⊥) → count ≡ length r.unread) → s.talk.text.limit ≡ r.talk.text.limit → ReceiverTakesIn r s
takes_text r s count sends after_that phase long unread feeds whole limit = λ d holds.
    let is = subst (λ a. IsItemGone a r.long r.talk.text r.unread holds.heard.gone) sends holds.heard.is in
    let gone = holds.heard.gone in
    record {
      holds = record {
        phase = holds.phase ∙ sym phase;
        heard = record {
          gone = gone ++ take count r.unread;
          is = rw after_that (long ∙ is.0, feeds gone is.1);
          written =
              rw unread (holds.heard.written ∙ (ap (λ t. gone ++ t) (sym (take-append-drop count r.unread)) ∙ sym (append_assoc gone (take count r.unread) (drop count r.unread))));
        };
        sound = rw after_that tt;
        limit = limit ∙ holds.limit;
      };
      taken = rw (after_that, unread) (λ goes. nothing_left r.unread count (whole goes));
    }

-- where a text keeps less than before nothing is taken in
pub keeps_less : (r s : Receiver) → r.talk.stage ≡ stage.Sending → s.talk.stage ≡ stage.Sending → phase_of s.talk ≡ phase_of r.talk → s.long ≡ r.long
    → s.unread ≡ r.unread → Feeds r.talk.text [] s.talk.text → s.talk.text.place ≡ r.talk.text.place → s.talk.text.limit ≡ r.talk.text.limit
    → (d : Dialogue) → StandsIn r d → StandsIn s d
keeps_less r s sends after_that phase long unread feeds place limit = λ d stands.
    let taken : IsItemTaken stage.Sending r.long r.talk.text r.unread = subst (λ a. IsItemTaken a r.long r.talk.text r.unread) sends stands.taken in
    takes_text r s 0 sends after_that phase long unread feeds (λ goes. sym (ap (λ (u : List ℕ). length u) (taken (λ ended. goes (place ∙ ended))))) limit d stands.holds

-- of a line that has as many octets as one may have, nothing
pub takes_line : (r : Receiver) → takes_lines r.talk.stage ≡ true → r.long ≡ false → (LineFinds TooLong r.unread → ⊥) → ReceiverTakesIn r r
takes_line r takes short found = λ d holds. record {
  holds = holds;
  taken = taken_line r.talk.stage r.long r.talk.text r.unread takes (rw short found);
}

-- the end of one that has more
record Cuts (count : ℕ) (unread : List ℕ) : Type 0 where
  joins : JoinsNone (take count unread) (drop count unread)
  some : drop count unread ≡ [] → ⊥
  taken : IsLineTaken true (drop count unread)

last_one : (unread : List ℕ) → (unread ≡ [] → ⊥) → (octet : ℕ) × (drop (length unread - 1) unread ≡ octet ∷ [])
last_one [] some = absurd (some refl)
last_one (octet ∷ []) some = (octet, refl)
last_one (octet ∷ next ∷ unread) some =
    let rest = last_one (next ∷ unread) (not_none next unread) in
    let count : length (octet ∷ next ∷ unread) - 1 ≡ suc (length (next ∷ unread) - 1) = omega arith in
    (rest.0, ap (λ n. drop n (octet ∷ next ∷ unread)) count ∙ rest.1)

cuts_end : (count : ℕ) (unread : List ℕ) → IsFirstLine unread (take count unread) (drop (count + 2) unread) → Cuts count unread
cuts_end count unread is =
    let rest = drop (count + 2) unread in
    let behind : drop count unread ≡ line_end ++ rest =
    append_cancel_left (take count unread) (drop count unread) (line_end ++ rest) (take-append-drop count unread ∙ is.written) in
    record {
      joins = rw behind (joins_line (take count unread) rest is.whole);
      some = rw behind (not_none 13 (10 ∷ rest));
      taken = inr (rest, behind);
    }

cuts_last : (count : ℕ) (unread : List ℕ) → HasNoLineEnd unread → count ≡ length unread - 1 → (unread ≡ [] → ⊥) → Cuts count unread
cuts_last count unread none same some =
    let last = last_one unread some in
    let behind : drop count unread ≡ last.0 ∷ [] = ap (λ n. drop n unread) same ∙ last.1 in
    let all : unread ≡ take count unread ++ last.0 ∷ [] = sym (take-append-drop count unread) ∙ ap (λ t. take count unread ++ t) behind in
    record {
      joins = rw behind (joins_last (take count unread) last.0 (subst HasNoLineEnd all none));
      some = rw behind (not_none last.0 []);
      taken = inl (last.0, behind);
    }

cuts : (count : ℕ) (unread : List ℕ) → Skips count unread → (unread ≡ [] → ⊥) → Cuts count unread
cuts count unread is some = elim is [
  | inl line ↦ cuts_end count unread line.0
  | inr none ↦ cuts_last count unread none.0 none.1 some
]

-- enough octets are gone where there are too many
enough : (count : ℕ) (unread : List ℕ) → LineFinds TooLong unread → Skips count unread → 2048 < count + 2
enough count unread found is = elim is [
  | inl line ↦ elim (cases_order (count + 2) 2048) [
    | inl same ↦ absurd (too_long unread count (line.0, omega arith, line.1) found)
    | inr (inl less) ↦ absurd (too_long unread count (line.0, omega arith, line.1) found)
    | inr (inr more) ↦ more
  ]
  | inr none ↦ omega (arith, none.1, found.1)
]

some_long : (unread : List ℕ) → LineFinds TooLong unread → unread ≡ [] → ⊥
some_long unread found none = absurd (omega (arith, found.1, ap length none))

-- what is gone with them
gone_with : (long : Bool) (count : ℕ) (unread gone : List ℕ) → (long ≡ true) ⊎ LineFinds TooLong unread → IsLineGone long unread gone → count ≤ length unread
    → Skips count unread → IsLineGone true (drop count unread) (gone ++ take count unread) × IsLineTaken true (drop count unread)
gone_with false count unread gone (inl same) is within skips = absurd (cc same)
gone_with false count unread gone (inr found) is within skips =
    let cut = cuts count unread skips (some_long unread found) in
    let none : gone ++ take count unread ≡ take count unread = ap (λ t. t ++ take count unread) is in
    ((rw none cut.joins, cut.some, rw none (omega (arith, enough count unread found skips, length-take-le count unread within))), cut.taken)
gone_with true count unread gone why is within skips =
    let cut = cuts count unread skips is.1 in
    let joins = joins_both gone (take count unread) (drop count unread) (subst (JoinsNone gone) (sym (take-append-drop count unread)) is.0) cut.joins in
    ((joins, cut.some, omega (arith, is.2, length-append gone (take count unread))), cut.taken)

pub takes_long : (r s : Receiver) (count : ℕ) → takes_lines r.talk.stage ≡ true → (r.long ≡ true) ⊎ LineFinds TooLong r.unread
    → s.talk ≡ r.talk → s.long ≡ true → s.unread ≡ drop count r.unread → count ≤ length r.unread → Skips count r.unread → ReceiverTakesIn r s
takes_long r s count takes why talk long unread within skips = λ d holds.
    let gone = holds.heard.gone in
    let is = line_gone r.talk.stage r.long r.talk.text r.unread gone takes holds.heard.is in
    let both = gone_with r.long count r.unread gone why is within skips in
    record {
      holds = record {
        phase = rw talk holds.phase;
        heard = record {
          gone = gone ++ take count r.unread;
          is = rw (talk, long, unread) (gone_line r.talk.stage true r.talk.text (drop count r.unread) (gone ++ take count r.unread) takes both.0);
          written =
              rw unread (holds.heard.written ∙ (ap (λ t. gone ++ t) (sym (take-append-drop count r.unread)) ∙ sym (append_assoc gone (take count r.unread) (drop count r.unread))));
        };
        sound = rw talk holds.sound;
        limit = rw talk holds.limit;
      };
      taken = rw (talk, long, unread) (taken_line r.talk.stage true r.talk.text (drop count r.unread) takes both.1);
    }
