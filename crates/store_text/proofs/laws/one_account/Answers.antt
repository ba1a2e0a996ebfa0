-- With nothing behind it a text is that of one account.
use Rattle.std.proofs.Common.{[], sym, subst}
use Rattle.std.proofs.lemmas.List.{append-nil}
use Rattle.store_text.specs.Text.{IsAccountText}
use Rattle.store_text.proofs.ReadLemmas.{texts_same}
use Rattle.store_text.proofs.laws.one_account.Goals as goal

pub returns : goal.returns
returns c = λ text h g ps qs one two. (texts_same text [] h g ps qs one (subst (λ t. IsAccountText t g qs) (sym (append-nil text)) two)).1
