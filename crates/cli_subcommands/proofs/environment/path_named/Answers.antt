-- The value is UTF-8 and isn't empty, and so it is the path.
use Rattle.std.proofs.Common.{◌≡◌, ℕ, List, [], ◌∷◌, Some, IsTrue, false, refl, sym, subst, rules}
use Rattle.std.proofs.lemmas.Bool.{false≢true}
use Rattle.std.specs.Str.{IsUtf8}
use Rattle.cli_subcommands.specs.Defaults.{NamesPath}
use Rattle.cli_subcommands.proofs.environment.path_named.Goals as goal

itself : (value : List ℕ) → (value ≡ [] → ⊥) → IsUtf8 value → NamesPath (Some value) (Some value)
itself [] some utf8 = absurd (some refl)
itself (octet ∷ rest) some utf8 = (λ is. refl, λ none. absurd (none utf8))

pub returns-in-Ok : goal.returns-in-Ok
returns-in-Ok c =
    let utf8 : IsUtf8 c.args.value = search rules in
    let full : c.is_empty.result ≡ false = search rules in
    let some : c.args.value ≡ [] → ⊥ = λ none. false≢true (subst IsTrue full (c.is_empty.ensures.1 none)) in
    subst (NamesPath (Some c.args.value)) (sym c.owned.ensures) (itself c.args.value some utf8)
