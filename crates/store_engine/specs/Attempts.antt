-- What is tried: a user's script, which may be none, among the host's.
use Rattle.std.specs.Prelude.{◌≡◌, ℕ, List, Option, Some, None}
use Rattle.sieve_lex.specs.Text.{line_ends}
use Rattle.sieve_syntax.specs.Tree.{Commands}
use Rattle.sieve_syntax.specs.Means.{Means}
use Rattle.sieve_exec.specs.Mails.{mail_spec_of}
use Rattle.sieve_exec.specs.declared.envelope.Envelope.{Envelope}
use Rattle.sieve_plan.specs.Sequences.{Settled, SettlesInTurn, at_beginning, sequence_of}
use Rattle.store_engine.specs.AccountEvents.{script_or_default}
use Rattle.store_engine.specs.declared.terms.Terms.{Terms}

-- there is no script, or a valid one
abbrev pub IsValidOrNone : Option (List ℕ) → Type 0
IsValidOrNone None = Unit {0}
IsValidOrNone (Some text) = (tree : Commands) × Means text tree

-- there is a text, and it is no script
abbrev pub IsNoScript : Option (List ℕ) → Type 0
IsNoScript None = ⊥
IsNoScript (Some text) = (tree : Commands) → Means text tree → ⊥

-- how many lines a text has
abbrev pub own_lines : Option (List ℕ) → ℕ
own_lines None = 0
own_lines (Some text) = line_ends text

-- what the host's scripts and a user's text, if there is one, come to on a message that is delivered under these terms
abbrev pub SettlesUnderTerms : Terms → Envelope → Option (List ℕ) → List ℕ → Settled → Type 0
SettlesUnderTerms terms envelope own message settled =
    SettlesInTurn (mail_spec_of message envelope terms.when) (sequence_of terms.host.scripts (script_or_default own terms.host.default)) at_beginning settled
