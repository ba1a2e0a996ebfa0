use Rattle.std.proofs.Common.{sym, subst, arith, List, ℕ, Option, Bor}
use Rattle.std.specs.Option.{option_copied}
use Rattle.dovecot_userdb.specs.Answers.{ReadsNumber, FieldsBegin}
use Rattle.dovecot_userdb.proofs.AnswerLemmas.{no_number}
use Rattle.dovecot_userdb.proofs.line.number_in.Goals as goal

pub returns-in_err-parse_decimal : goal.returns-in_err-parse_decimal
returns-in_err-parse_decimal c =
    subst (λ (r : Option (ℕ × Option (Bor (List ℕ)))). ReadsNumber (option_copied c.args.behind) r) (sym c.from_residual-in_err-parse_decimal.ensures)
    (λ number more first.
    no_number c.in_ok-behind.field-0.now _ _ c.cut_at.ensures (λ n small writes. c.in_err-parse_decimal.ensures n (omega (arith, small)) writes) number more
    (subst (λ (o : Option (Bor (List ℕ))). FieldsBegin (option_copied o) number more) c.in_ok-behind.was first))

pub returns-in-Err : goal.returns-in-Err
returns-in-Err c = λ number more first.
    no_number c.in_ok-behind.field-0.now _ _ c.cut_at.ensures
    (λ n small writes. c.in-Err.ensures (let same = c.in_ok-parse_decimal.ensures.value in omega (arith, small, writes.value, same))) number more
    (subst (λ (o : Option (Bor (List ℕ))). FieldsBegin (option_copied o) number more) c.in_ok-behind.was first)
