use Rattle.std.proofs.Common.{◌≡◌, ℕ, List, Some}
use Rattle.mail_address.specs.declared.address.Addr.{Addr}
use Rattle.mail_address.specs.Outbound.{IsOutbound}
use Rattle.sieve_syntax.specs.NamedAddresses.{IsNamedAs}
use Rattle.sieve_syntax.proofs.VacationLemmas.{if_ok_so}
use Rattle.sieve_syntax.proofs.table.redirect.named_address.Goals as goal

pub returns-clause-only : goal.returns-clause-only
returns-clause-only c = if_ok_so
    (λ found. (display : List ℕ) (address : Addr) → IsOutbound c.args.text.now display address → found ≡ Some (display, address))
    (λ found. (display : List ℕ) (address : Addr) → IsNamedAs c.args.text.now display address → found ≡ Some (display, address))
    (λ found only display address is. only display address is.1) c.sieve_address.result c.sieve_address.ensures.only
