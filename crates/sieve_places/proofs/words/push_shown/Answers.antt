-- A short word is shown whole.
use Rattle.std.proofs.Common.{◌≡◌, ◌++◌, sym, subst, arith}
use Rattle.std.specs.Prelude.{OnOk}
use Rattle.sieve_places.proofs.SpreadLemmas.{short_word}
use Rattle.sieve_places.proofs.words.push_shown.Goals as goal

pub returns-then-word-le-MAX_SHOWN : goal.returns-then-word-le-MAX_SHOWN
returns-then-word-le-MAX_SHOWN c =
    subst (λ t. OnOk c.push_visible.result (c.push_visible.new.out ≡ c.args.out.now ++ t)) (sym (short_word c.args.word.now (omega arith))) c.push_visible.ensures
