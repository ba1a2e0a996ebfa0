-- What was counted so far, and the last place at which no character goes on.
use Rattle.std.proofs.Common.{◌≡◌, ℕ, ◌<◌, ◌≤◌, false, length, take, get_or}
use Rattle.sieve_template.specs.Values.{begins_character, character_count, written_text_as, EndsCharacter}
use Rattle.sieve_template.specs.declared.limits.TheConstants.{MAX_VALUE_CHARACTERS, MAX_VALUE_OCTETS}
use Rattle.sieve_template.proofs.value.end_of_value.Given as goal

abbrev pub invariant-loop-i : goal.invariant-loop-i
invariant-loop-i l = record {
  octets : l.octets ≡ length (written_text_as l.quote (take l.i l.text));
  characters : l.characters ≡ character_count (written_text_as l.quote (take l.i l.text));
  few : l.octets ≤ MAX_VALUE_OCTETS;
  short : l.characters ≤ MAX_VALUE_CHARACTERS;
  low : l.end ≤ l.i;
  whole : EndsCharacter l.text l.end;
  between : (k : ℕ) → l.end < k → k < l.i → begins_character (get_or l.text k 0) ≡ false;
}
