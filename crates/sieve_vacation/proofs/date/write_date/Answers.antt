use Rattle.std.proofs.Common.{◌++◌, ◌∙◌, ap, refl}
use Rattle.std.proofs.lemmas.Result.{on_ok_weaker}
use Rattle.sieve_vacation.proofs.DayLemmas.{year_since, is_date_text}
use Rattle.sieve_vacation.proofs.date.write_date.Goals as goal

pub unwrap-text-requires : goal.unwrap-text-requires
unwrap-text-requires c = c.datetime_text.ensures.succeeds.1 (year_since _ c.utc_clock-clock.result.date c.utc_clock-clock.ensures.day)

pub returns : goal.returns
returns c =
    let text = c.unwrap-text.result.bytes in
    let printed = rw c.unwrap-text.ensures at c.datetime_text.ensures.text in
    on_ok_weaker c.extend_from_slice.result
    (λ last. record {
      text = text;
      is_text = is_date_text c.args.moment c.utc_clock-clock.result _ text c.utc_clock-clock.ensures.day c.utc_clock-clock.ensures.second refl printed;
      appended = last ∙ ap (λ added. c.args.out.now ++ added) (c.as_bytes.ensures.value ∙ c.as_str.ensures.value);
    })
    c.extend_from_slice.ensures.ok
