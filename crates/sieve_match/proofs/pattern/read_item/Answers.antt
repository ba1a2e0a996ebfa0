use Rattle.std.proofs.Common.{◌+◌, ◌∷◌, drop, sym, ap, ◌∙◌}
use Rattle.sieve_match.specs.Glob.{items}
use Rattle.sieve_match.specs.declared.pattern.GlobItem.{GlobItem}
use Rattle.sieve_match.proofs.Patterns.{items-quoted, items-unquoted}
use Rattle.sieve_match.proofs.pattern.read_item.Goals as goal
use Rattle.sieve_match.proofs.pattern.read_item.Goals.{else-octet-eq-QUOTE-via-then-octet-eq-QUOTE+else-place-pattern, else-octet-eq-QUOTE-via-else-octet-eq-QUOTE}

pub returns-then-place-pattern-clause-item : goal.returns-then-place-pattern-clause-item
returns-then-place-pattern-clause-item c =
    items-quoted c.args.pattern.now c.args.place c.requires c.if-octet-eq-QUOTE.true c.if-place-pattern.true

pub returns-clause-item : goal.returns-clause-item
returns-clause-item c =
    items-unquoted c.args.pattern.now c.args.place c.requires
    (λ quote. elim c.else-octet-eq-QUOTE.branch [
      | else-octet-eq-QUOTE-via-then-octet-eq-QUOTE+else-place-pattern w ↦ w.if-place-pattern.false
      | else-octet-eq-QUOTE-via-else-octet-eq-QUOTE w ↦ absurd (w.if-octet-eq-QUOTE.false quote)
    ])
    ∙ ap (λ (i : GlobItem). i ∷ items (drop (c.args.place + 1) c.args.pattern.now)) (sym c.unquoted.ensures)
