-- The machine accepts the spellings, and lives on their fronts.
use Rattle.std.proofs.Common.{◌≡◌, ℕ, Bool, true, false, List, [], ◌∷◌, ◌++◌, Some, refl, sym, ap, ◌∙◌, subst}
use Rattle.std.specs.Prelude.{map, replicate}
use Rattle.std.specs.Char.{to_ascii_uppercase}
use Rattle.std.proofs.lemmas.List.{length-replicate}
use Rattle.managesieve_protocol.specs.Machine.{Params, LineEnd, MaybeText, ThenText, ThenNumber, rows, params_in, LineState, Word, Between, Opening, Quoted, Escaped, Brace, Count, Plus, Closed, Return, Body, Number, Digits, LineFeed, Whole, Dead, literal_left, run, start_state}
use Rattle.managesieve_protocol.specs.declared.commands.ClientCommand.{ClientCommand}
use Rattle.managesieve_protocol.specs.declared.commands.ClientCommand.TheVariants.{Response}
use Rattle.managesieve_protocol.specs.Commands.{Form, Named, Alone, form_of, IsFormed, IsSpelling, IsCommand, IsViable}
use Rattle.managesieve_protocol.proofs.Left.{IsAfter, InName, IsProper}
use Rattle.managesieve_protocol.proofs.Into.{whole_left, proper_start, proper_run}
use Rattle.managesieve_protocol.proofs.Runs.{run-append, run_dead, body-run, string-run, after-run}
use Rattle.managesieve_protocol.proofs.Names.{word-run, name_goes_on, fill_after, after_fill, IsFilled, filled, named_command}

-- ---- from each state that lives a line can be ended

abbrev finish : Params → List ℕ
finish LineEnd = 13 ∷ 10 ∷ []
finish MaybeText = 13 ∷ 10 ∷ []
finish (ThenText more) = 32 ∷ 34 ∷ 34 ∷ finish more
finish ThenNumber = 32 ∷ 48 ∷ 13 ∷ 10 ∷ []

finish-run : (params : Params) → run (Between params) (finish params) ≡ Whole
finish-run LineEnd = refl
finish-run MaybeText = refl
finish-run (ThenText more) = finish-run more
finish-run ThenNumber = refl

finish_after : (params : Params) → IsAfter params (finish params)
finish_after params = whole_left (Between params) (finish params) tt (finish-run params)

-- n octets of a literal
zeros-run : (n : ℕ) (params : Params) → run (literal_left n params) (replicate n 0 ++ finish params) ≡ Whole
zeros-run n params =
    ap (λ (m : ℕ). run (literal_left m params) (replicate n 0 ++ finish params)) (sym (length-replicate n 0)) ∙ body-run (replicate n 0) params (finish params) ∙ finish-run params

pub live : (s : LineState) → IsProper s → (s ≡ Dead → ⊥) → (t : List ℕ) × (run s t ≡ Whole)
live (Word p) proper alive =
    let on = name_goes_on p proper in
    let named : params_in rows (p ++ map to_ascii_uppercase on.0) ≡ Some on.1 = ap (λ (u : List ℕ). params_in rows (p ++ u)) on.3 ∙ on.2 in
    (on.0 ++ finish on.1, word-run on.0 p on.1 (finish on.1) named (finish_after on.1) ∙ finish-run on.1)
live (Between params) proper alive = (finish params, finish-run params)
live (Opening params) proper alive = (34 ∷ 34 ∷ finish params, finish-run params)
live (Quoted left params) proper alive = (34 ∷ finish params, finish-run params)
live (Escaped left params) proper alive = (34 ∷ 34 ∷ finish params, finish-run params)
live (Brace params) proper alive = (48 ∷ 43 ∷ 125 ∷ 13 ∷ 10 ∷ finish params, finish-run params)
live (Count number params) proper alive = (43 ∷ 125 ∷ 13 ∷ 10 ∷ (replicate number 0 ++ finish params), zeros-run number params)
live (Plus number params) proper alive = (125 ∷ 13 ∷ 10 ∷ (replicate number 0 ++ finish params), zeros-run number params)
live (Closed number params) proper alive = (13 ∷ 10 ∷ (replicate number 0 ++ finish params), zeros-run number params)
live (Return number params) proper alive = (10 ∷ (replicate number 0 ++ finish params), zeros-run number params)
live (Body left params) proper alive = (0 ∷ (replicate left 0 ++ finish params), zeros-run left params)
live Number proper alive = (48 ∷ 13 ∷ 10 ∷ [], refl)
live (Digits number) proper alive = (13 ∷ 10 ∷ [], refl)
live LineFeed proper alive = (10 ∷ [], refl)
live Whole proper alive = ([], refl)
live Dead proper alive = absurd (alive refl)

-- ---- spellings

formed_whole : (pending : Bool) (form : Form) (text : List ℕ) → IsFilled form → IsFormed pending form text → run (start_state pending) text ≡ Whole
formed_whole false (Named word arguments) text f h =
    let after : IsAfter f.0 h.rest = fill_after f.2 h.rest h.filled in
    let named : params_in rows (map to_ascii_uppercase h.name) ≡ Some f.0 = ap (params_in rows) h.named ∙ f.1 in
    ap (run (Word [])) h.written ∙ word-run h.name [] f.0 h.rest named after ∙ after-run f.0 h.rest after
formed_whole false (Alone value) text f h = absurd h
formed_whole true (Named word arguments) text f h = absurd h
formed_whole true (Alone value) text f h =
    ap (run (Opening LineEnd)) h.written ∙ string-run value h.first LineEnd (13 ∷ 10 ∷ []) h.string

pub spelling_whole : (pending : Bool) (command : ClientCommand) (text : List ℕ) → IsSpelling pending command text → run (start_state pending) text ≡ Whole
spelling_whole pending command text h = formed_whole pending (form_of command) text (filled command) h

named_spelling : (text : List ℕ) → InName [] text → IsCommand false text
named_spelling text h =
    let fill = after_fill h.params h.rest h.after in
    let found = named_command (map to_ascii_uppercase h.name) h.params fill.0 h.named fill.1 in
    let line : IsFormed false (Named (map to_ascii_uppercase h.name) fill.0) text = record { name = h.name; rest = h.rest; named = refl; filled = fill.2; written = h.written } in
    (found.0, subst (λ (form : Form). IsFormed false form text) (sym found.1) line)

pub whole_spelling : (pending : Bool) (text : List ℕ) → run (start_state pending) text ≡ Whole → IsCommand pending text
whole_spelling false text e = named_spelling text (whole_left (Word []) text (proper_start false) e)
whole_spelling true text e =
    let h = whole_left (Opening LineEnd) text tt e in
    (Response h.value, record { first = h.first; string = h.string; written = h.written ∙ ap (λ (u : List ℕ). h.first ++ u) h.after })

-- ---- fronts of spellings

pub viable_live : (pending : Bool) (text : List ℕ) → IsViable pending text → run (start_state pending) text ≡ Dead → ⊥
viable_live pending text h dead =
    let whole = spelling_whole pending h.1.0 (text ++ h.0) h.1.1 in
    let gone : run (start_state pending) (text ++ h.0) ≡ Dead = run-append (start_state pending) text h.0 ∙ ap (λ (s : LineState). run s h.0) dead ∙ run_dead h.0 in
    cc (whole, gone)

pub live_viable : (pending : Bool) (text : List ℕ) → (run (start_state pending) text ≡ Dead → ⊥) → IsViable pending text
live_viable pending text alive =
    let more = live (run (start_state pending) text) (proper_run (start_state pending) text (proper_start pending)) alive in
    (more.0, whole_spelling pending (text ++ more.0) (run-append (start_state pending) text more.0 ∙ more.1))
