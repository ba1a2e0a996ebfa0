-- Reports and listings by example: right ones, and what is near them.
use Rattle.std.proofs.Common.{◌≡◌, ℕ, List, refl, ap, get_or, [], ◌∷◌, ◌++◌, Some, None, arith}
use Rattle.std.specs.Prelude.{codes}
use Rattle.mail_flags.specs.declared.placement.Placement.{Placement}
use Rattle.sieve_syntax.specs.declared.extension.vacation.VacationArgs.{VacationArgs}
use Rattle.sieve_plan.specs.Sequences.{settled_well}
use Rattle.store_tables.specs.declared.queue.QueuedKind.TheVariants.{Redirect, Reply}
use Rattle.store_accounts.specs.declared.report.VacationReport.TheVariants as vacation
use Rattle.cli_reports.specs.Addresses.{shown_address, address_octet}
use Rattle.cli_reports.specs.Reports.{delivery_report, settled_report}
use Rattle.cli_reports.specs.Listings.{notice_line, notice_listing, queue_line, queue_listing}

abbrev seen : List ℕ → Placement
seen mailbox = record { mailbox = mailbox; flags = codes "\\Seen" }

-- nothing done is told by `discard`, and mailboxes by a line each, without flags
report-nothing : settled_report (settled_well (record { filed = []; sent = []; reply = None })) ≡ codes "discard\n"
report-nothing = refl

report-two : settled_report (settled_well (record { filed = seen (codes "lists") ∷ seen (codes "INBOX") ∷ []; sent = []; reply = None })) ≡ codes "file lists\nfile INBOX\n"
report-two = refl

-- beside a mailbox there is no `discard`
report-beside : settled_report (settled_well (record { filed = seen (codes "INBOX") ∷ []; sent = []; reply = None })) ≡ codes "file INBOX\ndiscard\n" → ⊥
report-beside e = cc

-- of a script that failed what those before it did is told, and why it failed behind that
report-failed :
    settled_report (record { deeds = record { filed = seen (codes "Junk") ∷ seen (codes "INBOX") ∷ []; sent = []; reply = None }; notice = Some (codes "after: more than 16 redirects") })
    ≡ codes "file Junk\nfile INBOX\nfailed: after: more than 16 redirects\n"
report-failed = refl

-- where nothing is done but that INBOX gets the message, the failure stands alone; where the sender is answered too, it doesn't
report-failed-alone : (flags : List ℕ) → settled_report (record { deeds = record { filed = record { mailbox = codes "INBOX"; flags = flags } ∷ []; sent = []; reply = None }; notice = Some (codes "more than 16 redirects") })
    ≡ codes "failed: more than 16 redirects\n"
report-failed-alone flags = refl

report-failed-answered : (args : VacationArgs) → settled_report (record { deeds = record { filed = seen (codes "INBOX") ∷ []; sent = []; reply = Some args }; notice = Some (codes "more than 16 redirects") })
    ≡ codes "file INBOX\nvacation wanted\nfailed: more than 16 redirects\n"
report-failed-answered args = refl

-- a delivery tells of its folders, addresses, vacation reply and notice, in this order
delivery-whole :
    delivery_report (record { filed = codes "INBOX" ∷ []; sent = codes "c@example.com" ∷ []; vacation = vacation.Quiet 9; notice = Some (codes "script is not valid") })
    ≡ codes "file INBOX\nsend c@example.com\nvacation quiet 9\nnotice script is not valid\n"
unfolding Rattle.std.specs.Fmt.digits
delivery-whole = refl

delivery-nothing : delivery_report (record { filed = []; sent = []; vacation = vacation.None; notice = None }) ≡ codes "discard\n"
delivery-nothing = refl

-- a reply alone isn't `discard`
delivery-reply : delivery_report (record { filed = []; sent = []; vacation = vacation.Sent; notice = None }) ≡ codes "discard\n" → ⊥
delivery-reply e = cc

-- a message on its way out, and a reply, whose sender is empty
queue-redirect : queue_line (record { id = 1; kind = Redirect; sender = codes "bob@example.net"; target = codes "c@example.com"; len = 18 }) ≡ codes "1 redirect <bob@example.net> <c@example.com> 18"
unfolding Rattle.std.specs.Fmt.digits
queue-redirect = refl

queue-reply : queue_line (record { id = 12; kind = Reply; sender = []; target = codes "bob@example.net"; len = 1 }) ≡ codes "12 reply <> <bob@example.net> 1"
unfolding Rattle.std.specs.Fmt.digits
queue-reply = refl

-- the sender comes first
distinct : (x y : ℕ) → x ≡ 97 → y ≡ 98 → x ≡ y → ⊥
distinct x y a b same = omega arith

other : (x y : ℕ) → x ≡ 101 → y ≡ 69 → x ≡ y → ⊥
other x y a b same = omega arith

other_digit : (x y : ℕ) → x ≡ 99 → y ≡ 101 → x ≡ y → ⊥
other_digit x y a b same = omega arith

queue-order : queue_line (record { id = 1; kind = Redirect; sender = codes "a"; target = codes "b"; len = 0 }) ≡ codes "1 redirect <b> <a> 0" → ⊥
unfolding Rattle.std.specs.Fmt.digits
queue-order e = distinct 97 98 refl refl (ap (λ (l : List ℕ). get_or l 12 0) e)

-- a sender whose quoted local part is `> <`: the line has five words all the same
queue-escaped :
    queue_line (record { id = 1; kind = Redirect; sender = codes "\"> <\"@evil.example"; target = codes "c@example.com"; len = 1 })
    ≡ codes "1 redirect <\"\\3e\\20\\3c\"@evil.example> <c@example.com> 1"
unfolding Rattle.std.specs.Fmt.digits Rattle.hex.specs.Hex.encode_with
queue-escaped = refl

-- the octets at the ends: 32 and 127 are escaped, 33 and 126 and an octet over 127 aren't; `\` is
shown-ends : shown_address (0 ∷ 32 ∷ 33 ∷ 126 ∷ 127 ∷ 128 ∷ 255 ∷ 92 ∷ []) ≡ codes "\\00\\20" ++ (33 ∷ 126 ∷ (codes "\\7f" ++ (128 ∷ 255 ∷ codes "\\5c")))
unfolding Rattle.hex.specs.Hex.encode_with
shown-ends = refl

-- the digits are in lower case
third : (text : List ℕ) → ℕ
third text = get_or text 2 0

shown-lower : address_octet 62 ≡ codes "\\3E" → ⊥
unfolding Rattle.hex.specs.Hex.encode_with third
shown-lower e = other 101 69 refl refl (ap third e)

-- an address that has the octets of an escape isn't the one that is escaped so
shown-escape : shown_address (codes "\\3e") ≡ shown_address (codes ">") → ⊥
unfolding Rattle.hex.specs.Hex.encode_with third
shown-escape e = other_digit 99 101 refl refl (ap third e)

queue-none : queue_listing [] ≡ []
queue-none = refl

notice-five : notice_line (record { moment = 5; text = codes "vacation executed twice" }) ≡ codes "5 vacation executed twice"
unfolding Rattle.std.specs.Fmt.digits
notice-five = refl

notice-two : notice_listing (record { moment = 5; text = codes "a" } ∷ record { moment = 6; text = codes "b" } ∷ []) ≡ codes "5 a\n6 b\n"
unfolding Rattle.std.specs.Fmt.digits
notice-two = refl
