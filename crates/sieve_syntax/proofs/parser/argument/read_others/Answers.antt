use Rattle.std.proofs.Common.{subst, sym, ap, ◌∙◌, append_assoc, ◌∷◌, [], ◌++◌, Ok}
use Rattle.std.proofs.lemmas.Result.{err_from_is_err_and}
use Rattle.sieve_syntax.specs.Arguments.{IsOther}
use Rattle.sieve_syntax.specs.Chains.{Chain}
use Rattle.sieve_syntax.proofs.FaultLemmas.{fault_on, faults_on}
use Rattle.sieve_syntax.proofs.ArgumentLemmas.{others_stop, others_lack, others_grow, others_end}
use Rattle.sieve_syntax.proofs.parser.argument.read_others.Goals as goal

pub returns-in_err-read_separator : goal.returns-in_err-read_separator
returns-in_err-read_separator c =
    let p = err_from_is_err_and c.from_residual.result c.from_residual.ensures.1 in
    let l = c.others in
    rw (p.1, p.2) (faults_on _ _ _ _ (others_stop _ l.invariant.0 l.reader l.invariant.1.1) c.in_err-read_separator.ensures.no_comma c.in_err-read_separator.ensures.no_close)

pub returns-in_err-read_text : goal.returns-in_err-read_text
returns-in_err-read_text c =
    let p = err_from_is_err_and c.from_residual-in_err-read_text.result c.from_residual-in_err-read_text.ensures.1 in
    let l = c.others in
    let comma = c.in_ok-read_separator.ensures.comma (ap Ok c.if-branch.true) in
    rw (p.1, p.2) (fault_on _ _ _ (others_lack _ l.invariant.0 l.reader l.invariant.1.1 _ comma) c.in_err-read_text.ensures.fault)

pub others-preserved : goal.others-preserved
others-preserved c =
    let l = c.others in
    let comma = c.in_ok-read_separator.ensures.comma (ap Ok c.if-branch.true) in
    let s = c.in_ok-read_text.field-0 in (
      l.invariant.0 ++ s ∷ [],
      (
        c.in_ok-push.ensures.ok ∙ ap (λ xs. xs ++ s ∷ []) l.invariant.1.0 ∙ append_assoc c.args.strings l.invariant.0 (s ∷ []),
        others_grow _ l.invariant.0 l.reader l.invariant.1.1 _ s _ comma c.in_ok-read_text.ensures.found,
      ),
    )

pub returns : goal.returns
returns c =
    let l = c.others in
    let closed = c.in_ok-read_separator.ensures.closed (ap Ok c.if-branch.false) in (
      (l.invariant.0, (l.invariant.1.0, subst (Chain IsOther l.invariant.0 c.args.reader.now) closed l.invariant.1.1.joins)),
      λ more to chain.
          let found = others_end _ l.invariant.0 l.reader l.invariant.1.1 _ closed more to chain in
          (l.invariant.1.0 ∙ ap (λ xs. c.args.strings ++ xs) (sym found.0), found.1),
    )
