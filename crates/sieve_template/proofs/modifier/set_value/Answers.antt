use Rattle.std.proofs.Common.{◌≡◌, false, sym, subst, ap, ◌∙◌, IfOk}
use Rattle.sieve_template.specs.Values.{IsKeptAs, kept_as}
use Rattle.sieve_template.specs.Modifiers.{IsSetTo, first_with, modified_if_any, value_set}
use Rattle.sieve_template.proofs.ModifierLemmas.{ok_then}
use Rattle.sieve_template.proofs.KeptLemmas.{kept_same, set_is}
use Rattle.sieve_template.proofs.modifier.set_value.Goals as goal

pub returns : goal.returns
unfolding value_set
returns c =
    let modifiers = c.args.modifiers.now in
    let counted = c.in_ok-counted.ensures ∙ ap (modified_if_any (first_with modifiers 10)) (c.in_ok-quoted.ensures ∙ ap (modified_if_any (first_with modifiers 20)) (c.in_ok-first_cased.ensures ∙ ap (modified_if_any (first_with modifiers 30)) c.in_ok-cased.ensures)) in
    let cut = kept_same false c.as_slice.result.now c.cut_value.result.now c.cut_value.ensures in
    let last = cut ∙ ap (kept_as false) (c.as_slice.ensures ∙ counted) in
    record {
      stored = ok_then c.from_slice.result (λ stored. stored ≡ c.cut_value.result.now) (λ stored. stored ≡ value_set modifiers c.args.value) (λ stored same. same ∙ last) c.from_slice.ensures;
      right = λ alone. ok_then c.from_slice.result (λ stored. stored ≡ c.cut_value.result.now) (λ stored. IsSetTo modifiers c.args.value stored)
          (λ stored same. subst (IsSetTo modifiers c.args.value) (sym (same ∙ last)) (set_is modifiers c.args.value alone)) c.from_slice.ensures;
    }
