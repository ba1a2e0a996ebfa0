use Rattle.std.proofs.Common.{◌≡◌, ◌+◌, length, get_or, ⊎_elim, subst, sym, arith}
use Rattle.std.proofs.lemmas.Grind.{common_steps}
use Rattle.std.proofs.Math.ListN.{get_or-eq_default}
use Rattle.std.proofs.lemmas.List.{length-drop}
use Rattle.std.proofs.lemmas.Bool.{cases_lt}
use Rattle.sieve_lex.proofs.OctetLemmas.{no_nul_more, no_lone_cr_more}
use Rattle.sieve_lex.proofs.text.bad_octet.Goals as goal

pub returns-in_default : goal.returns-in_default
returns-in_default c =
    let text = c.args.text.now in
    let at = c.loop-at.at in
    let clean = (rw (c.split_at.ensures.back) at c.in_default.ensures) in
    let size = length-drop at text in
    record {
      no_nul = λ i short is. no_nul_more text at _ c.loop-at.invariant.no_nul clean i (omega (arith, short, size)) is;
      no_lone_cr = λ i is. ⊎_elim
          (λ inside. no_lone_cr_more text at _ c.loop-at.invariant.no_lone_cr clean i (omega (arith, inside, size)) is)
          (λ past. let none = get_or-eq_default text 0 past in absurd (omega (arith, is, none)))
          (cases_lt i (length text));
    }

pub loop-at-preserved : goal.loop-at-preserved
loop-at-preserved c =
    let text = c.args.text.now in
    let at = c.loop-at.at in
    let before = c.in-Some.before in
    let found = (rw (c.split_at.ensures.back) at c.in-Some.ensures) in
    record {
      within = let size = length-drop at text in let high = found.0.high in omega (arith, size, high);
      no_nul = λ k short is. ⊎_elim (λ less. no_nul_more text at before c.loop-at.invariant.no_nul found.0.before k less is) (λ from. let e : k ≡ at + before = omega (arith, short, from) in c.if-text-at-eq0.false (subst (λ x. get_or text x 0 ≡ 0) e is)) (cases_lt k (at + before));
      no_lone_cr = λ k short is. ⊎_elim (λ less. no_lone_cr_more text at before c.loop-at.invariant.no_lone_cr found.0.before k less is) (λ from. let e : k ≡ at + before = omega (arith, short, from) in let next : get_or text (at + before + 1) 0 ≡ 10 = grind (arith, common_steps) in subst (λ x. get_or text (x + 1) 0 ≡ 10) (sym e) next) (cases_lt k (at + before));
    }
