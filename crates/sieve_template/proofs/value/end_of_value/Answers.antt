use Rattle.std.proofs.Common.{◌≡◌, ℕ, ◌+◌, ◌<◌, ◌≤◌, true, false, List, length, take, get_or, sym, subst, ◌∙◌, arith}
use Rattle.sieve_template.specs.Values.{begins_character, character_count, written_text_as, FitsVariable, EndsCharacter}
use Rattle.sieve_template.proofs.ValueLemmas.{octets_more, characters_more, characters_same, cut_before, between_more}
use Rattle.sieve_template.proofs.value.end_of_value.Goals as goal
use Rattle.sieve_template.proofs.value.end_of_value.Goals.{then-begins_character, else-begins_character, then-octets-gt-MAX_VALUE_OCTETS-via-then-octets-gt-MAX_VALUE_OCTETS, then-octets-gt-MAX_VALUE_OCTETS-via-else-octets-gt-MAX_VALUE_OCTETS+then-characters-gt-MAX_VALUE_CHARACTERS}

pub returns-then-octets-gt-MAX_VALUE_OCTETS : goal.returns-then-octets-gt-MAX_VALUE_OCTETS
returns-then-octets-gt-MAX_VALUE_OCTETS c =
    let quote = c.args.quote in
    let t : List ℕ = c.args.text.now in
    let i : ℕ = c.loop-i.i in
    let inside : i < length t = c.loop-i-test.true in
    let old = c.loop-i.invariant in
    let end : ℕ = c.if-begins_character.end in
    let octets : c.loop-i.octets + c.width-more.result ≡ length (written_text_as quote (take (i + 1) t)) = omega (arith, old.octets, octets_more quote t i inside, c.width-more.ensures) in
    let low : end ≤ i = elim c.if-begins_character.branch [
      | then-begins_character w ↦ omega (arith, w.end-is)
      | else-begins_character w ↦ omega (arith, w.end-is, old.low)
    ] in
    let whole : EndsCharacter t end = elim c.if-begins_character.branch [
      | then-begins_character w ↦ λ some more. subst (λ n. begins_character (get_or t n 0) ≡ true) (sym w.end-is) (sym c.begins_character.ensures ∙ w.if-begins_character.true)
      | else-begins_character w ↦ subst (EndsCharacter t) (sym w.end-is) old.whole
    ] in
    let between : (k : ℕ) → end < k → k ≤ i → begins_character (get_or t k 0) ≡ false = elim c.if-begins_character.branch [
      | then-begins_character w ↦ λ k later before. absurd (omega (arith, w.end-is))
      | else-begins_character w ↦ subst (λ n. (k : ℕ) → n < k → k ≤ i → begins_character (get_or t k 0) ≡ false) (sym w.end-is)
          (between_more t i c.loop-i.end old.between (sym c.begins_character.ensures ∙ w.if-begins_character.false))
    ] in
    let characters : c.if-begins_character.characters ≡ character_count (written_text_as quote (take (i + 1) t)) = elim c.if-begins_character.branch [
      | then-begins_character w ↦ omega (arith, w.characters-is, old.characters, characters_more quote t i inside (sym c.begins_character.ensures ∙ w.if-begins_character.true), c.width-more.ensures)
      | else-begins_character w ↦ w.characters-is ∙ old.characters ∙ sym (characters_same quote t i inside (sym c.begins_character.ensures ∙ w.if-begins_character.false))
    ] in
    cut_before quote t i end inside low whole between (record { octets = omega (arith, old.octets, old.few); characters = omega (arith, old.characters, old.short) })
    (λ (fits : FitsVariable (written_text_as quote (take (i + 1) t))). elim c.then-octets-gt-MAX_VALUE_OCTETS.branch [
      | then-octets-gt-MAX_VALUE_OCTETS-via-then-octets-gt-MAX_VALUE_OCTETS w ↦ omega (arith, octets, fits.octets, w.if-octets-gt-MAX_VALUE_OCTETS.true)
      | then-octets-gt-MAX_VALUE_OCTETS-via-else-octets-gt-MAX_VALUE_OCTETS+then-characters-gt-MAX_VALUE_CHARACTERS w ↦
          omega (arith, characters, fits.characters, w.if-characters-gt-MAX_VALUE_CHARACTERS.true)
    ])

pub loop-i-preserved : goal.loop-i-preserved
loop-i-preserved c =
    let quote = c.args.quote in
    let t : List ℕ = c.args.text.now in
    let i : ℕ = c.loop-i.i in
    let inside : i < length t = c.loop-i-test.true in
    let old = c.loop-i.invariant in
    let end : ℕ = c.if-begins_character.end in
    let octets : c.loop-i.octets + c.width-more.result ≡ length (written_text_as quote (take (i + 1) t)) = omega (arith, old.octets, octets_more quote t i inside, c.width-more.ensures) in
    let low : end ≤ i = elim c.if-begins_character.branch [
      | then-begins_character w ↦ omega (arith, w.end-is)
      | else-begins_character w ↦ omega (arith, w.end-is, old.low)
    ] in
    let whole : EndsCharacter t end = elim c.if-begins_character.branch [
      | then-begins_character w ↦ λ some more. subst (λ n. begins_character (get_or t n 0) ≡ true) (sym w.end-is) (sym c.begins_character.ensures ∙ w.if-begins_character.true)
      | else-begins_character w ↦ subst (EndsCharacter t) (sym w.end-is) old.whole
    ] in
    let between : (k : ℕ) → end < k → k ≤ i → begins_character (get_or t k 0) ≡ false = elim c.if-begins_character.branch [
      | then-begins_character w ↦ λ k later before. absurd (omega (arith, w.end-is))
      | else-begins_character w ↦ subst (λ n. (k : ℕ) → n < k → k ≤ i → begins_character (get_or t k 0) ≡ false) (sym w.end-is)
          (between_more t i c.loop-i.end old.between (sym c.begins_character.ensures ∙ w.if-begins_character.false))
    ] in
    let characters : c.if-begins_character.characters ≡ character_count (written_text_as quote (take (i + 1) t)) = elim c.if-begins_character.branch [
      | then-begins_character w ↦ omega (arith, w.characters-is, old.characters, characters_more quote t i inside (sym c.begins_character.ensures ∙ w.if-begins_character.true), c.width-more.ensures)
      | else-begins_character w ↦ w.characters-is ∙ old.characters ∙ sym (characters_same quote t i inside (sym c.begins_character.ensures ∙ w.if-begins_character.false))
    ] in
    record {
      octets = octets;
      characters = characters;
      few = c.if-octets-gt-MAX_VALUE_OCTETS.false;
      short = c.if-characters-gt-MAX_VALUE_CHARACTERS.false;
      low = omega (arith, low);
      whole = whole;
      between = λ k later before. between k later (omega (arith, before));
    }
