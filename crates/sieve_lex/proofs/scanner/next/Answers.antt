use Rattle.std.proofs.Common.{◌≡◌, ◌+◌, ◌≤◌, Some, take, ap, ◌∙◌}
use Rattle.sieve_lex.specs.declared.token.Token.{Token}
use Rattle.sieve_lex.specs.Spelling.{IsNextToken, placed}
use Rattle.sieve_lex.specs.Text.{line_ends}
use Rattle.sieve_lex.proofs.Next.{gap_line, lined, next_placed}
use Rattle.sieve_lex.proofs.scanner.next.Goals as goal

pub returns-clause-found : goal.returns-clause-found
returns-clause-found c =
    let p = c.in-Some.piece in
    let order : c.args.at ≤ p.start = (rw c.in-Some.is at c.in_ok-piece.ensures.further).0 in
    lined c.args.text.now c.args.at _ p
    (gap_line _ _ _ c.args.at p.start _ _ order c.split_at.ensures.back c.split_at-2.ensures.front c.requires.on_line c.line_feeds.ensures)
    (rw c.in-Some.is at c.in_ok-piece.ensures.found)

pub returns-clause-only : goal.returns-clause-only
returns-clause-only c = λ t h.
    let p = c.in-Some.piece in
    let order : c.args.at ≤ p.start = (rw c.in-Some.is at c.in_ok-piece.ensures.further).0 in
    let only : (u : Token) → IsNextToken c.args.text.now c.args.at u → Some (placed c.args.text.now p) ≡ Some u = rw c.in-Some.is at c.in_ok-piece.ensures.only in
    let le : c.args.line + c.line_feeds.result ≡ 1 + line_ends (take p.start c.args.text.now) =
    gap_line _ _ _ c.args.at p.start _ _ order c.split_at.ensures.back c.split_at-2.ensures.front c.requires.on_line c.line_feeds.ensures in
    ap (λ n. Some (record { content = p.content; start = p.start; end = p.end; line = n })) le ∙ only t h

pub returns-clause-further : goal.returns-clause-further
returns-clause-further c =
    let p = c.in-Some.piece in
    let order : c.args.at ≤ p.start = (rw c.in-Some.is at c.in_ok-piece.ensures.further).0 in
    next_placed c.args.text.now c.args.at _ (lined c.args.text.now c.args.at _ p
    (gap_line _ _ _ c.args.at p.start _ _ order c.split_at.ensures.back c.split_at-2.ensures.front c.requires.on_line c.line_feeds.ensures)
    (rw c.in-Some.is at c.in_ok-piece.ensures.found))
