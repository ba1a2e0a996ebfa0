use Rattle.std.proofs.Common.{codes, sym, ap, ◌∙◌}
use Rattle.std.specs.Str.{str_eq_ignore_ascii_case}
use Rattle.mail_words.proofs.TestLemmas.{differ, unnamed}
use Rattle.mail_words.proofs.charset.charset_named.Goals as goal

pub returns-else-eq_ignore_ascii_case-3 : goal.returns-else-eq_ignore_ascii_case-3
returns-else-eq_ignore_ascii_case-3 c =
    let name = c.args.name.now in
    let part = differ c.eq_ignore_ascii_case-3.result c.split_at.result.0.now (codes "iso-8859-") c.eq_ignore_ascii_case-3.ensures.test c.if-eq_ignore_ascii_case-3.false in
    sym (unnamed name
    (differ c.eq_ignore_ascii_case.result name (codes "utf-8") c.eq_ignore_ascii_case.ensures.test c.if-eq_ignore_ascii_case.false)
    (differ c.eq_ignore_ascii_case-2.result name (codes "us-ascii") c.eq_ignore_ascii_case-2.ensures.test c.if-eq_ignore_ascii_case-2.false)
    (ap (λ t. str_eq_ignore_ascii_case t (codes "iso-8859-")) (sym c.split_at.ensures.front) ∙ part))
