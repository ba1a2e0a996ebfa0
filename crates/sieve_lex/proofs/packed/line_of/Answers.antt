use Rattle.std.proofs.Common.{length, ap, sym, ◌∙◌, arith}
use Rattle.sieve_lex.specs.Spelling.{IsNextToken}
use Rattle.sieve_lex.proofs.Next.{next_further}
use Rattle.sieve_lex.proofs.Scanned.{front_only}
use Rattle.sieve_lex.proofs.Indexed.{count_more, line_here, line_past}
use Rattle.sieve_lex.proofs.packed.line_of.Goals as goal

pub returns-then-before-eq0-clause-found : goal.returns-then-before-eq0-clause-found
returns-then-before-eq0-clause-found c = λ us s.
    let here : IsNextToken c.args.text.now c.tokens.at c.in-Some.token = rw c.in-Some.is at c.in_ok-token.ensures.found in
    let counted = c.tokens.invariant.counted in
    line_here c.args.text.now c.tokens.at c.args.index c.in-Some.token counted.0 us counted.1.0 (omega (arith, counted.1.1, c.if-before-eq0.true)) here (λ u h. sym c.in-Some.is ∙ c.in_ok-token.ensures.only u h) s.spelled

pub tokens-preserved : goal.tokens-preserved
tokens-preserved c =
    let here : IsNextToken c.args.text.now c.tokens.at c.in-Some.token = rw c.in-Some.is at c.in_ok-token.ensures.found in
    record {
      inside = (next_further _ _ c.in-Some.token here).1;
      on_line = c.end_line-line.ensures;
      counted = count_more _ _ _ _ c.in-Some.token here (λ u h. sym c.in-Some.is ∙ c.in_ok-token.ensures.only u h) c.if-before-eq0.false c.tokens.invariant.counted;
    }

pub returns-clause-found : goal.returns-clause-found
returns-clause-found c = λ us s.
    let counted = c.tokens.invariant.counted in
    line_past c.args.index us
    (omega (arith, counted.1.1, ap length (front_only _ c.tokens.at _ counted.1.0 (λ u h. c.in_default.not-Some u (c.in_ok-token.ensures.only u h)) us s.spelled)))
