-- What was read of a place is what the rows say of it.
use Rattle.std.proofs.Common.{◌≡◌, ◌∙◌, ℕ, List, Some, option_map, ap, Option, Ok, Err, Result, IfOk}
use Rattle.sqlite.specs.Effect.{Database}
use Rattle.store_text.specs.declared.part.Part.{Part}
use Rattle.store_text.specs.declared.part.Part.TheVariants as part
use Rattle.store_tables.specs.Rows.{Tables, HoldsTables}
use Rattle.store_tables.specs.Schema.{mail_schema}
use Rattle.store_accounts.specs.declared.notice.Notice.{Notice}
use Rattle.store_accounts.specs.declared.refusal.Refusal.{Refusal}
use Rattle.store_accounts.specs.Account.{Account}
use Rattle.store_accounts.specs.Listing.{IsNoticeOf}
use Rattle.store_accounts.specs.Shows.{rows_of}
use Rattle.store_export.specs.declared.place.PartPlace.TheVariants as place
use Rattle.store_export.specs.Saying.{SaysAt}

pub said_notice : (user : List ℕ) (n : ℕ) (found : Option Notice) (db : Database) (a : Account) (q : Result Part Refusal) → ((tables : Tables) → HoldsTables mail_schema db tables → IsNoticeOf user n found (rows_of user tables))
    → IfOk q (λ p. Some p ≡ option_map (λ e. part.Notice n e.moment e.text) found) → IfOk q (λ p. SaysAt user (place.Notice n) p db a)
said_notice user n found db a (Err e) told made = tt
said_notice user n found db a (Ok p) told made = λ tables held s. made ∙ ap (option_map (λ (e : Notice). part.Notice n e.moment e.text)) (told tables held a s)
