use Rattle.std.proofs.Common.{ap, subst, sym}
use Rattle.std.specs.Prelude.{string_bytes}
use Rattle.mail_words.specs.Headers.{IsWorded}
use Rattle.mail_words.proofs.PieceLemmas.{written_more, written_all, after_valid, emptied}
use Rattle.mail_words.proofs.encoding.words.Goals as goal

pub loop-rest-preserved : goal.loop-rest-preserved
loop-rest-preserved c = (
  after_valid c.loop-rest.rest.now _ _ c.loop-rest.invariant.0 c.next_piece.ensures,
  written_more c.args.text.now c.loop-rest.rest.now (string_bytes c.loop-rest.value) _ _ _ c.loop-rest.invariant.1 c.next_piece.ensures c.in_ok-push_word.ensures,
)

pub returns : goal.returns
returns c =
    subst (IsWorded c.args.text.now) (ap (λ v. v.items) (sym c.into_bytes.ensures.value))
    (written_all c.args.text.now c.loop-rest.rest.now (string_bytes c.loop-rest.value) c.loop-rest.invariant.1 (emptied c.loop-rest.rest.now c.is_empty.result c.is_empty.ensures c.loop-rest-test.false))
