use Rattle.std.proofs.Common.{◌≡◌, ◌∷◌, [], ◌∙◌, ◌+◌, sym, ap, subst, take, MatchOption}
use Rattle.octets.specs.Ascii.{is_blank}
use Rattle.mail_flags.specs.Flags.{between_blanks}
use Rattle.mail_flags.proofs.TextLemmas.{cut_there, uncut, rest_whole}
use Rattle.mail_flags.proofs.flags.cut_at_blank.Goals as goal

pub returns-in_err-at-clause-cut : goal.returns-in_err-at-clause-cut
returns-in_err-at-clause-cut c =
    subst (λ r. MatchOption r (between_blanks c.args.text.now ≡ c.args.text.now ∷ []) (λ cut. between_blanks c.args.text.now ≡ cut.0.now ∷ between_blanks cut.1.now))
    (sym c.from_residual.ensures) (uncut is_blank c.args.text.now (sym c.first_blank.ensures ∙ c.in_err-at.was))

pub returns-clause-cut : goal.returns-clause-cut
returns-clause-cut c =
    cut_there is_blank c.args.text.now c.in_ok-at.at (sym c.first_blank.ensures ∙ c.in_ok-at.was)
    ∙ ap (λ rest. take c.in_ok-at.at c.args.text.now ∷ between_blanks rest) (rest_whole c.args.text.now (c.in_ok-at.at + 1))
