use Rattle.std.proofs.Common.{rules, get_or}
use Rattle.store_tables.specs.Schema.{column_of}
use Rattle.store_tables.proofs.SchemaLemmas.{same_first, one_less, no_first, none_left, shown_false, get_is, shorter, empty_is}
use Rattle.store_tables.proofs.schema.are_columns.Goals as goal

pub loop-forms-init : goal.loop-forms-init
loop-forms-init c = (λ h. h, λ h. h)

pub returns-in_default-columns : goal.returns-in_default-columns
returns-in_default-columns c =
    shown_false _ (λ same. no_first column_of c.loop-forms.columns.now c.loop-forms.forms.now c.in_default-columns.len_below c.in-len1-up.len_at_least (c.loop-forms.invariant.0 same))

pub returns-then-not-is_of : goal.returns-then-not-is_of
returns-then-not-is_of c =
    shown_false _ (λ same.
    let of = c.is_of.ensures.1 (same_first column_of c.loop-forms.columns.now c.loop-forms.forms.now c.column-item.result (get_or c.loop-forms.forms.now 0 _) c.in-len1-up-columns.len_at_least c.in-len1-up.len_at_least c.column-item.is (get_is c.loop-forms.forms.now _ c.in-len1-up.len_at_least)
    (c.loop-forms.invariant.0 same)) in
    let other = c.if-not-is_of.true in
    cc)

pub loop-forms-smaller : goal.loop-forms-smaller
loop-forms-smaller c = shorter c.loop-forms.forms.now c.in-len1-up.len_at_least

pub loop-forms-preserved : goal.loop-forms-preserved
loop-forms-preserved c =
    let first = c.is_of.ensures.0 (search rules) in
    let less = one_less column_of c.loop-forms.columns.now c.loop-forms.forms.now c.column-item.result (get_or c.loop-forms.forms.now 0 _) c.in-len1-up-columns.len_at_least c.in-len1-up.len_at_least c.column-item.is (get_is c.loop-forms.forms.now _ c.in-len1-up.len_at_least) first in
    (λ same. less.0 (c.loop-forms.invariant.0 same), λ same. c.loop-forms.invariant.1 (less.1 same))

pub returns : goal.returns
returns c =
    let none = none_left column_of c.loop-forms.columns.now c.loop-forms.forms.now c.in_default.len_below in
    let inv = c.loop-forms.invariant in
    empty_is c.loop-forms.columns.now c.is_empty.result _ c.is_empty.ensures (λ h. none.1 (inv.0 h), λ h. inv.1 (none.0 h))
