use Rattle.std.proofs.Common.{◌≡◌, ◌≢◌, ℕ, List, ◌∷◌, length, take, drop, sym, ap, ◌∙◌, arith}
use Rattle.std.proofs.lemmas.List.{nil_from_length}
use Rattle.std.proofs.lemmas.Bool.{eqb-true, eq-eqb, false≢true}
use Rattle.std.specs.List.{prefix_len}
use Rattle.mail_head.specs.Fields.{is_name, after_field_name, after_blanks}
use Rattle.mail_head.proofs.HeaderLemmas.{field_nameless, field_ended, field_other, field_there, same_texts}
use Rattle.mail_head.proofs.header.read_field.Goals as goal

-- what is left after the name and the blanks
left : (line after text : List ℕ) (n : ℕ) → n ≡ prefix_len is_name line → after ≡ drop n line → text ≡ after_blanks after → after_blanks (after_field_name line) ≡ text
left line after text n named cut read = sym (read ∙ ap after_blanks (cut ∙ ap (λ k. drop k line) named))

pub returns-then-is_empty : goal.returns-then-is_empty
returns-then-is_empty c =
    let size : length c.split_at.result.0.now ≡ 0 = eqb-true (length c.split_at.result.0.now) 0 (sym c.is_empty.ensures ∙ c.if-is_empty.true) in
    sym (field_nameless c.args.line.now (omega (arith, c.split_at.ensures.front_len, c.name_len.ensures.value)))

pub returns-in_err-colon : goal.returns-in_err-colon
returns-in_err-colon c =
    let text = c.after_blanks.result.now in
    let none = nil_from_length text c.in_err-colon.ensures.cases in
    let after = left c.args.line.now _ text _ c.name_len.ensures.value c.split_at.ensures.back c.after_blanks.ensures in
    rw c.from_residual.ensures (sym (field_ended c.args.line.now (after ∙ none)))

pub returns-then-colon-ne58 : goal.returns-then-colon-ne58
returns-then-colon-ne58 c =
    let text = c.after_blanks.result.now in
    let first = c.in_ok-colon.ensures.cases.0 in
    let after = left c.args.line.now _ text _ c.name_len.ensures.value c.split_at.ensures.back c.after_blanks.ensures in
    sym (field_other c.args.line.now c.in_ok-colon.colon.now c.in_ok-colon.value.now (after ∙ first) c.if-colon-ne58.true)

pub returns : goal.returns
returns c =
    let text = c.after_blanks.result.now in
    let first = c.in_ok-colon.ensures.cases.0 in
    let after = left c.args.line.now _ text _ c.name_len.ensures.value c.split_at.ensures.back c.after_blanks.ensures in
    let there : prefix_len is_name c.args.line.now ≢ 0 = λ zero.
    let size : length c.split_at.result.0.now ≡ 0 = omega (arith, zero, c.split_at.ensures.front_len, c.name_len.ensures.value) in
    false≢true (sym c.if-is_empty.false ∙ (c.is_empty.ensures ∙ eq-eqb (length c.split_at.result.0.now) 0 size)) in
    let colon : after_blanks (after_field_name c.args.line.now) ≡ 58 ∷ c.in_ok-colon.value.now = after ∙ (first ∙ ap (λ b. b ∷ c.in_ok-colon.value.now) c.if-colon-ne58.false) in
    let name = c.split_at.ensures.front ∙ ap (λ n. take n c.args.line.now) c.name_len.ensures.value in
    same_texts _ _ _ _ name c.without_end.ensures ∙ sym (field_there c.args.line.now c.in_ok-colon.value.now there colon)
