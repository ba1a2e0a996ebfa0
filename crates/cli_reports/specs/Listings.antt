-- What the program prints of a user's queue and notices: a line for each row.
use Rattle.std.specs.Prelude.{ℕ, List, ◌++◌, codes, decimal, map}
use Rattle.std.specs.List.{flat_map}
use Rattle.store_tables.specs.declared.queue.QueuedKind.{QueuedKind}
use Rattle.store_tables.specs.declared.queue.QueuedKind.TheVariants.{Redirect, Reply}
use Rattle.store_accounts.specs.declared.queued_envelope.QueuedEnvelope.{QueuedEnvelope}
use Rattle.store_accounts.specs.declared.notice.Notice.{Notice}
use Rattle.cli_reports.specs.Addresses.{shown_address}
use Rattle.cli_reports.specs.Reports.{ended_line}

-- why a message goes out
abbrev pub kind_word : QueuedKind → List ℕ
kind_word Redirect = codes "redirect"
kind_word Reply = codes "reply"

-- the line of a message on its way out: number, kind, sender and target as lines show them in angle brackets, octets
abbrev pub queue_line : QueuedEnvelope → List ℕ
queue_line row =
    decimal row.id ++ (codes " " ++ (kind_word row.kind ++ (codes " <" ++ (shown_address row.sender
    ++ (codes "> <" ++ (shown_address row.target ++ (codes "> " ++ decimal row.len)))))))

-- the line of a notice: the moment in seconds since 1970, and the text
abbrev pub notice_line : Notice → List ℕ
notice_line notice = decimal notice.moment ++ (codes " " ++ notice.text)

-- a queue, and a list of notices, in their order
abbrev pub queue_listing : List QueuedEnvelope → List ℕ
queue_listing rows = flat_map ended_line (map queue_line rows)

abbrev pub notice_listing : List Notice → List ℕ
notice_listing notices = flat_map ended_line (map notice_line notices)
