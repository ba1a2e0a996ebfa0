use Rattle.std.proofs.Common.{sym, ◌∙◌}
use Rattle.sieve_lex.specs.Spelling.{IsNextToken}
use Rattle.sieve_lex.proofs.Next.{next_further}
use Rattle.sieve_lex.proofs.Scanned.{front_more, front_ends, front_only}
use Rattle.sieve_lex.proofs.scanner.read_tokens.Goals as goal

pub loop-tokens-preserved : goal.loop-tokens-preserved
loop-tokens-preserved c =
    let here : IsNextToken c.args.text.now c.loop-tokens.at c.in-Some.token = rw c.in-Some.is at c.in_ok-token.ensures.found in
    record {
      inside = (next_further _ _ c.in-Some.token here).1;
      on_line = c.end_line-line.ensures;
      front = rw c.in_ok-push.ensures.items (front_more _ c.loop-tokens.at c.in-Some.token _ c.loop-tokens.invariant.front here (λ u h. sym c.in-Some.is ∙ c.in_ok-token.ensures.only u h));
    }

pub returns-clause-found : goal.returns-clause-found
returns-clause-found c = front_ends _ c.loop-tokens.at _ c.loop-tokens.invariant.front (rw c.in_default.is at c.in_ok-token.ensures.found)

pub returns-clause-only : goal.returns-clause-only
returns-clause-only c = front_only _ c.loop-tokens.at _ c.loop-tokens.invariant.front (λ u h. c.in_default.not-Some u (c.in_ok-token.ensures.only u h))
