use Rattle.std.proofs.Common.{◌≡◌, ℕ, [], ◌∷◌, ◌++◌, false, sym, subst}
use Rattle.managesieve_protocol.specs.Machine.{rows, begins_row}
use Rattle.managesieve_protocol.proofs.Names.{no_space, no_return}
use Rattle.managesieve_protocol.proofs.Verbs.{rows_are}
use Rattle.managesieve_protocol.proofs.command_name.CommandName.extend.Goals as goal
use Rattle.managesieve_protocol.proofs.command_name.CommandName.extend.Goals.{then-letter-eq32-via-then-letter-eq32, then-letter-eq32-via-else-letter-eq32+then-letter-eq13}

pub returns-then-letter-eq32 : goal.returns-then-letter-eq32
returns-then-letter-eq32 c =
    elim c.then-letter-eq32.branch [
      | then-letter-eq32-via-then-letter-eq32 w ↦ subst (λ (x : ℕ). begins_row rows (c.args.letters.now ++ x ∷ []) ≡ false) (sym w.if-letter-eq32.true) (no_space c.args.letters.now)
      | then-letter-eq32-via-else-letter-eq32+then-letter-eq13 w ↦ subst (λ (x : ℕ). begins_row rows (c.args.letters.now ++ x ∷ []) ≡ false) (sym w.if-letter-eq13.true) (no_return c.args.letters.now)
    ]

pub returns : goal.returns
returns c = rw rows_are c.find_extending.ensures
