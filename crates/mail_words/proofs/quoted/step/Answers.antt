use Rattle.std.proofs.Common.{◌∷◌, ap, ◌∙◌}
use Rattle.mail_words.specs.Quoted.{quoted_from}
use Rattle.mail_words.proofs.QuotedLemmas.{plain_step}
use Rattle.mail_words.proofs.quoted.step.Goals as goal

pub returns-else-octet-eq95-clause-reads : goal.returns-else-octet-eq95-clause-reads
returns-else-octet-eq95-clause-reads c = λ rest.
    ap (λ m. quoted_from m (c.args.octet ∷ rest)) c.in-InText.is ∙ plain_step c.args.octet rest c.if-octet-eq61.false c.if-octet-eq95.false
