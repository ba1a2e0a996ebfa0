-- A response has one text.
use Rattle.std.proofs.Common.{◌≡◌, ℕ, Bool, true, false, List, [], ◌∷◌, ◌++◌, refl, ap, sym, ◌∙◌}
use Rattle.std.specs.Prelude.{Option, Some, None, codes}
use Rattle.mail_words.specs.Headers.{IsWorded, words_for}
use Rattle.mail_words.proofs.PieceLaws.{pieces_only, one_value}
use Rattle.mail_words.proofs.WrittenLaws.{one_written}
use Rattle.mail_address.specs.declared.address.Addr.{Addr}
use Rattle.mail_address.specs.Spelling.{address_spelling}
use Rattle.sieve_syntax.specs.declared.extension.vacation.VacationArgs.{VacationArgs}
use Rattle.sieve_syntax.specs.declared.extension.vacation.ReplyFrom.{ReplyFrom}
use Rattle.sieve_exec.specs.Mails.{MailSpec}
use Rattle.sieve_vacation.specs.Layout.{IsDisplay, IsFromMailbox, IsFrom, IsSubject, IsVacationReply, is_quotable_display, is_phrase_text, display_of, usable, subject_of, auto_subject}
use Rattle.sieve_vacation.proofs.DateLaws.{one_date}

-- the words of a text have one spelling
one_worded : (text one two : List ℕ) → IsWorded text one → IsWorded text two → one ≡ two
one_worded text one two first second =
    first.spelled ∙ (ap words_for (pieces_only text first.pieces second.pieces first.cut second.cut) ∙ sym second.spelled)

display_at : (phrase quotable : Bool) (display one two : List ℕ) → is_phrase_text display ≡ phrase → is_quotable_display display ≡ quotable → IsDisplay display one → IsDisplay display two → one ≡ two
display_at true quotable display one two is was first second = first.phrase is ∙ sym (second.phrase is)
display_at false true display one two is was first second = first.string is was ∙ sym (second.string is was)
display_at false false display one two is was first second = one_worded display one two (first.words is was) (second.words is was)

-- an address has one spelling with its display
one_named : (display address one two : List ℕ) → IsFromMailbox display address one → IsFromMailbox display address two → one ≡ two
one_named [] address one two first second = first ∙ sym second
one_named (octet ∷ rest) address one two (here, (is, spelled)) (there, (was, written)) =
    spelled ∙ (ap (λ t. t ++ (codes " <" ++ (address ++ codes ">"))) (display_at (is_phrase_text (octet ∷ rest)) (is_quotable_display (octet ∷ rest)) (octet ∷ rest) here there refl refl is was) ∙ sym written)

one_from : (from : Option ReplyFrom) (own : Addr) (one two : List ℕ) → IsFrom from own one → IsFrom from own two → one ≡ two
one_from None own one two first second = first ∙ sym second
one_from (Some from) own one two first second = one_named (display_of from) (address_spelling from.address) one two first second

one_subject : (given : Option (List ℕ)) (mail : MailSpec) (one two : List ℕ) → IsSubject given mail one → IsSubject given mail two → one ≡ two
one_subject None mail one two first second = one_value (auto_subject (usable (subject_of mail))) one two first second
one_subject (Some text) mail one two first second = one_written text one two first second

-- a response has one text
pub one_reply : (args : VacationArgs) (mail : MailSpec) (own : Addr) (moment : ℕ) (one two : List ℕ) → IsVacationReply args mail own moment one → IsVacationReply args mail own moment two → one ≡ two
one_reply args mail own moment one two is was =
    let from = one_from args.from own is.from was.from is.is_from was.is_from in
    let subject = one_subject (usable args.subject) mail is.subject was.subject is.is_subject was.is_subject in
    let date = one_date moment is.date was.date is.is_date was.is_date in
    is.spelled ∙ rw (from, subject, date) (sym was.spelled)
