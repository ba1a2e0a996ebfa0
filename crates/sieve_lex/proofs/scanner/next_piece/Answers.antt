use Rattle.std.proofs.Common.{◌+◌, List, refl, sym, ◌∙◌, arith}
use Rattle.std.proofs.lemmas.Bool.{eqb-true, eqb-false}
use Rattle.sieve_lex.specs.declared.front.Front.{Front}
use Rattle.sieve_lex.specs.declared.token.Token.{Token}
use Rattle.sieve_lex.specs.Front.{IsFront}
use Rattle.sieve_lex.specs.Spelling.{SpellsFrom, IsNextToken, placed}
use Rattle.sieve_lex.proofs.FaultLemmas.{fault_on, fault_again}
use Rattle.sieve_lex.proofs.Next.{ahead_is, next_found, next_only, next_further, next_empty, tail_no_next, next_none, open_none}
use Rattle.sieve_lex.proofs.scanner.next_piece.Goals as goal

pub returns-in-Err-clause-fault : goal.returns-in-Err-clause-fault
returns-in-Err-clause-fault c = open_none c.args.text.now c.split_at.result.1.now c.args.at c.split_at.ensures.back c.in-Err.ensures.1

pub returns-then-is_empty-clause-found : goal.returns-then-is_empty-clause-found
returns-then-is_empty-clause-found c =
    next_empty c.args.text.now c.split_at-2.result.1.now c.args.at (c.args.at + c.in-Ok.white) (ahead_is _ _ _ _ _ c.requires c.split_at.ensures.back c.in-Ok.ensures c.split_at-2.ensures.back)
    (eqb-true _ 0 (sym c.is_empty.ensures ∙ c.if-is_empty.true))

pub returns-then-is_empty-clause-only : goal.returns-then-is_empty-clause-only
returns-then-is_empty-clause-only c = λ t h.
    tail_no_next c.args.text.now c.args.at t
    (next_empty c.args.text.now c.split_at-2.result.1.now c.args.at (c.args.at + c.in-Ok.white) (ahead_is _ _ _ _ _ c.requires c.split_at.ensures.back c.in-Ok.ensures c.split_at-2.ensures.back)
    (eqb-true _ 0 (sym c.is_empty.ensures ∙ c.if-is_empty.true))) h

pub returns-in-Ok-read_front-clause-found : goal.returns-in-Ok-read_front-clause-found
returns-in-Ok-read_front-clause-found c =
    next_found _ _ _ _ _ c.in-Ok-read_front.front (ahead_is _ _ _ _ _ c.requires c.split_at.ensures.back c.in-Ok.ensures c.split_at-2.ensures.back)
    (eqb-false _ 0 (sym c.is_empty.ensures ∙ c.if-is_empty.false))
    refl c.in-Ok-read_front.ensures.found.0

pub returns-in-Ok-read_front-clause-only : goal.returns-in-Ok-read_front-clause-only
returns-in-Ok-read_front-clause-only c =
    next_only _ _ _ _ _ c.in-Ok-read_front.front (ahead_is _ _ _ _ _ c.requires c.split_at.ensures.back c.in-Ok.ensures c.split_at-2.ensures.back)
    refl c.in-Ok-read_front.ensures.found.1

pub returns-in-Ok-read_front-clause-further : goal.returns-in-Ok-read_front-clause-further
returns-in-Ok-read_front-clause-further c =
    let here : IsNextToken c.args.text.now c.args.at (placed c.args.text.now record { content = c.in-Ok-read_front.front.content; start = c.args.at + c.in-Ok.white; end = c.args.at + c.in-Ok.white + c.in-Ok-read_front.front.len }) =
    next_found _ _ _ _ _ c.in-Ok-read_front.front (ahead_is _ _ _ _ _ c.requires c.split_at.ensures.back c.in-Ok.ensures c.split_at-2.ensures.back)
    (eqb-false _ 0 (sym c.is_empty.ensures ∙ c.if-is_empty.false))
    refl c.in-Ok-read_front.ensures.found.0 in
    let further = next_further _ _ _ here in
    (omega arith, omega arith, further.0, further.1)

pub returns-in-Err-read_front-clause-fault : goal.returns-in-Err-read_front-clause-fault
returns-in-Err-read_front-clause-fault c =
    rw (c.at_line.ensures) (fault_again _ _ ((ts : List Token) → SpellsFrom c.args.text.now c.args.at ts → ⊥)
    (fault_on _ ((g : Front) → IsFront c.split_at-2.result.1.now g → ⊥) ((ts : List Token) → SpellsFrom c.args.text.now c.args.at ts → ⊥)
    (next_none c.args.text.now c.split_at-2.result.1.now c.args.at _ (ahead_is _ _ _ _ _ c.requires c.split_at.ensures.back c.in-Ok.ensures c.split_at-2.ensures.back)
    (eqb-false _ 0 (sym c.is_empty.ensures ∙ c.if-is_empty.false)))
    c.in-Err-read_front.ensures.found))
