use Rattle.std.proofs.Common.{subst, List, ℕ, Option, Bor}
use Rattle.std.specs.Option.{option_copied}
use Rattle.dovecot_userdb.specs.Answers.{FieldsBegin}
use Rattle.dovecot_userdb.specs.Escapes.{ReadsValue}
use Rattle.dovecot_userdb.proofs.AnswerLemmas.{no_name, no_field}
use Rattle.dovecot_userdb.proofs.line.read_found.Goals as goal

pub returns-in_default-more : goal.returns-in_default-more
returns-in_default-more c =
    no_field (option_copied c.args.behind) c.in-Some.id (subst (λ (o : Option (Bor (List ℕ))). FieldsBegin (option_copied c.args.behind) c.in-Some.id (option_copied o)) c.in_default-more.is c.in-Some.ensures)

pub returns-in-None : goal.returns-in-None
returns-in-None c =
    no_name (option_copied c.args.behind) c.in-Some.id c.in-Some-more.fields.now _ _
    (subst (λ (o : Option (Bor (List ℕ))). FieldsBegin (option_copied c.args.behind) c.in-Some.id (option_copied o)) c.in-Some-more.is c.in-Some.ensures) c.cut_at.ensures
    (subst (λ (o : Option (List ℕ)). ReadsValue c.cut_at.result.0.now o) c.in-None.is c.in_ok-name.ensures)
