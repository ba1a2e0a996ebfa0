use Rattle.std.proofs.Common.{◌∙◌, sym}
use Rattle.sieve_exec.specs.Extension.Relational.{is_count}
use Rattle.sieve_exec.proofs.Decisions.{each_asked}
use Rattle.sieve_exec.proofs.cached_mail.CachedMail.header_holds.Goals as goal

pub returns-then-not-is_count-clause-truth : goal.returns-then-not-is_count-clause-truth
returns-then-not-is_count-clause-truth c =
    each_asked c.some_text_matches.result (is_count c.args.header.now.matching) _ _ (sym c.is_count.ensures ∙ c.if-not-is_count.true) c.some_text_matches.ensures.truth
