use Rattle.sieve_lex.proofs.Next.{line_after}
use Rattle.sieve_lex.proofs.scanner.end_line.Goals as goal

pub returns : goal.returns
returns c = line_after _ _ _ _ c.args.token.now c.requires c.split_at.ensures.back c.split_at-2.ensures.front c.line_feeds.ensures
