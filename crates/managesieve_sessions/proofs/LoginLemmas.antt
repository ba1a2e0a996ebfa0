-- Logins, over a store.
use Rattle.std.proofs.Common.{◌≡◌, ℕ, List, Option, Some, sym, ap, ◌∙◌}
use Rattle.std.specs.Borrow.{Bor}
use Rattle.sasl_plain.specs.declared.message.Login.{Login}
use Rattle.sasl_plain.specs.Parts.{login_of, login_shown}
use Rattle.store_accounts.specs.Account.{Accounts}
use Rattle.managesieve_sessions.specs.Logins.{admitted_by}
use Rattle.managesieve_sessions.specs.Replies.{borrowed_text}
use Rattle.managesieve_sessions.specs.CommandOutcomes.{admitted_in}

-- whom a text logs in is decided by the login that it says
pub admitted_is : (accounts : Accounts) (o : Option (Bor (List ℕ))) (text : Bor (List ℕ)) (found shown : Option Login) → o ≡ Some text → login_shown found ≡ login_of text.now → found ≡ shown
    → admitted_by accounts (login_shown shown) ≡ admitted_in accounts (borrowed_text o)
admitted_is accounts o text found shown some said is = ap (admitted_by accounts) (sym (ap login_shown is) ∙ said) ∙ sym (ap (λ x. admitted_in accounts (borrowed_text x)) some)
