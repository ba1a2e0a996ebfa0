-- Part after part is read, and the text ends where that of an account does.
use Rattle.std.proofs.Common.{◌≡◌, ◌∙◌, ◌-◌, ◌++◌, None, length, take, slice_get, sym, ap, subst}
use Rattle.std.specs.Prelude.{option_copied}
use Rattle.std.proofs.lemmas.Result.{err_from_is_err_and}
use Rattle.store_text.specs.Netstring.{line, AreFields}
use Rattle.store_text.specs.Reading.{MayStand, entry_fields, ends}
use Rattle.store_text.specs.Text.{account_body}
use Rattle.store_text.proofs.ReadLemmas.{IsReading, last_of, reading_begins, reading_on, reading_lost, last_is, line_shrinks, text_ends, text_goes_on, text_head, body_is}
use Rattle.store_text.proofs.reading.read_account_file.Goals as goal

pub returns-in_err-head-clause-none : goal.returns-in_err-head-clause-none
returns-in_err-head-clause-none c =
    let p = err_from_is_err_and c.from_residual.result c.from_residual.ensures.1 in
    rw (p.1, p.2) (λ same h ps of. c.in_err-head.ensures.none same h _ of.account.once (text_head c.args.text.now h ps of))

pub parts-init : goal.parts-init
parts-init c =
    subst (λ ps. IsReading c.args.text.now c.in_ok-head.head ps c.in_ok-head.rest.now) (sym c.new-parts.ensures)
    (reading_begins c.args.text.now c.in_ok-head.head c.in_ok-head.rest.now c.in_ok-head.ensures.head c.in_ok-head.ensures.found)

pub returns-in_err-entry-clause-none : goal.returns-in_err-entry-clause-none
returns-in_err-entry-clause-none c =
    let p = err_from_is_err_and c.from_residual-in_err-entry.result c.from_residual-in_err-entry.ensures.1 in
    let last : option_copied c.last.result ≡ last_of None c.parts.parts = c.last.ensures.value ∙ (ap (λ s. slice_get s (length s - 1)) c.as_slice.ensures ∙ last_is c.parts.parts) in
    rw (p.1, p.2)
    (λ same h ps of. reading_lost c.args.text.now c.in_ok-head.head c.parts.parts c.parts.rest.now c.parts.invariant
    (λ x more may small written. c.in_err-entry.ensures.none same x more (subst (λ l. MayStand c.in_ok-head.head.numbers l x) (sym last) may) small written) h ps of)

pub parts-smaller : goal.parts-smaller
parts-smaller c = line_shrinks c.parts.rest.now (entry_fields c.in_ok-entry.entry) c.in_ok-entry.more.now c.in_ok-entry.ensures.found

pub parts-preserved : goal.parts-preserved
parts-preserved c =
    let last : option_copied c.last.result ≡ last_of None c.parts.parts = c.last.ensures.value ∙ (ap (λ s. slice_get s (length s - 1)) c.as_slice.ensures ∙ last_is c.parts.parts) in
    let found = c.in_ok-entry.ensures.found ∙ ap (λ e. line (entry_fields e) ++ c.in_ok-entry.more.now) c.in-Part.is in
    let may = subst (λ l. MayStand c.in_ok-head.head.numbers l c.in_ok-entry.entry) last c.in_ok-entry.ensures.fits in
    subst (λ ps. IsReading c.args.text.now c.in_ok-head.head ps c.in_ok-entry.more.now) (sym c.in_ok-push-in-Part.ensures.ok)
    (reading_on c.args.text.now c.in_ok-head.head c.parts.parts c.parts.rest.now c.parts.invariant c.in-Part.part c.in_ok-entry.more.now found
    (subst (λ e. MayStand c.in_ok-head.head.numbers (last_of None c.parts.parts) e) c.in-Part.is may) (subst (λ e. AreFields (entry_fields e)) c.in-Part.is c.in_ok-entry.ensures.small))

pub returns-then-not-ends-clause-none : goal.returns-then-not-ends-clause-none
returns-then-not-ends-clause-none c = λ same h ps of.
    text_goes_on c.args.text.now c.in_ok-head.head c.parts.parts c.parts.rest.now c.parts.invariant c.in-Sum.sum c.in_ok-entry.more.now
    (c.in_ok-entry.ensures.found ∙ ap (λ e. line (entry_fields e) ++ c.in_ok-entry.more.now) c.in-Sum.is) (subst (λ e. AreFields (entry_fields e)) c.in-Sum.is c.in_ok-entry.ensures.small) _
    (body_is c.args.text.now (account_body c.in_ok-head.head c.parts.parts) c.parts.rest.now c.parts.invariant.spelled) (ap (λ ps. ends c.in_ok-head.head ps (take (length c.args.text.now - length c.parts.rest.now) c.args.text.now) c.in-Sum.sum c.in_ok-entry.more.now) (sym c.as_slice-in-Sum.ensures) ∙ (ap (λ s. ends c.in_ok-head.head c.as_slice-in-Sum.result.now (take (length c.args.text.now - length c.parts.rest.now) c.args.text.now) s c.in_ok-entry.more.now) (sym c.as_slice-in-Sum-2.ensures) ∙ (sym c.in_ok-ends-in-Sum.ensures ∙ c.if-not-ends.true))) h ps of

pub returns-in-Sum-clause-found : goal.returns-in-Sum-clause-found
returns-in-Sum-clause-found c =
    text_ends c.args.text.now c.in_ok-head.head c.parts.parts c.parts.rest.now c.parts.invariant c.in-Sum.sum c.in_ok-entry.more.now
    (c.in_ok-entry.ensures.found ∙ ap (λ e. line (entry_fields e) ++ c.in_ok-entry.more.now) c.in-Sum.is) (subst (λ e. AreFields (entry_fields e)) c.in-Sum.is c.in_ok-entry.ensures.small) _
    (body_is c.args.text.now (account_body c.in_ok-head.head c.parts.parts) c.parts.rest.now c.parts.invariant.spelled) (ap (λ ps. ends c.in_ok-head.head ps (take (length c.args.text.now - length c.parts.rest.now) c.args.text.now) c.in-Sum.sum c.in_ok-entry.more.now) (sym c.as_slice-in-Sum.ensures) ∙ (ap (λ s. ends c.in_ok-head.head c.as_slice-in-Sum.result.now (take (length c.args.text.now - length c.parts.rest.now) c.args.text.now) s c.in_ok-entry.more.now) (sym c.as_slice-in-Sum-2.ensures) ∙ (sym c.in_ok-ends-in-Sum.ensures ∙ c.if-not-ends.false)))
