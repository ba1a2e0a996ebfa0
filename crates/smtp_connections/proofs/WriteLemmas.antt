-- Octets are written.
use Rattle.std.proofs.Common.{◌≡◌, ℕ, ◌+◌, ◌-◌, ◌<◌, ◌≤◌, [], length, inl, inr, refl, sym, ap, ◌∙◌, subst, arith}
use Rattle.std.proofs.lemmas.List.{length-drop}
use Rattle.smtp_connections.specs.Connections.{line_in, left_at, left_to_write, WritesIn, WritesSome}
use Rattle.smtp_connections.specs.declared.exchange.SmtpExchange.{SmtpExchange}
use Rattle.smtp_connections.specs.declared.exchange.SmtpPhase.TheVariants.{Writing, Awaiting}
use Rattle.smtp_connections.specs.declared.connection.SmtpConnection.{SmtpConnection as Code}

left_size : (exchange : SmtpExchange) (before : ℕ) (c : Code) → c.phase ≡ Writing exchange before → length (left_to_write c) ≡ length (line_in c exchange) - before
left_size exchange before c at = ap (λ q. length (left_at c q)) at ∙ (let size = length-drop before (line_in c exchange) in omega (arith, size))

pub writes_more : (exchange : SmtpExchange) (before count : ℕ) (c : Code) → c.phase ≡ Writing exchange before → count < length (line_in c exchange) - before
    → WritesSome count c (record c { phase = Writing exchange (before + count) })
writes_more exchange before count c at less =
    let e : Code = record c { phase = Writing exchange (before + count) } in
    let size = left_size exchange before c at in
    let it : WritesIn count (Writing exchange before) c e = inl (omega (arith, size), refl) in
    subst (λ q. WritesIn count q c e) (sym at) it

pub writes_all : (exchange : SmtpExchange) (before count : ℕ) (c : Code) → c.phase ≡ Writing exchange before → length (line_in c exchange) - before ≤ count
    → WritesSome count c (record c { phase = Awaiting exchange; heard = [] })
writes_all exchange before count c at all =
    let e : Code = record c { phase = Awaiting exchange; heard = [] } in
    let size = left_size exchange before c at in
    let it : WritesIn count (Writing exchange before) c e = inr (omega (arith, size), refl) in
    subst (λ q. WritesIn count q c e) (sym at) it
