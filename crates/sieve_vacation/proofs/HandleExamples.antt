-- Keys worked out by hand.
use Rattle.std.proofs.Common.{◌≡◌, true, false, [], ◌∷◌, refl}
use Rattle.std.specs.Prelude.{codes, Some, None}
use Rattle.sieve_vacation.specs.Handles.{Named, Same, handle_key_of, four_octets}

-- `vacation "Away."`: hexadecimal 02 00 00 00 417761792e
reason_alone : handle_key_of (Same None None false (codes "Away.")) ≡ 2 ∷ (0 ∷ (0 ∷ (0 ∷ (65 ∷ (119 ∷ (97 ∷ (121 ∷ (46 ∷ []))))))))
reason_alone = refl

-- `vacation :handle "h" "Away."`: 01 68
name_given : handle_key_of (Named (codes "h")) ≡ 1 ∷ (104 ∷ [])
name_given = refl

-- `vacation :subject "" :from "a@b" :mime ""`: 02, 01 00000000, 01 00000003 a@b, 01
all_given : handle_key_of (Same (Some []) (Some (codes "a@b")) true [])
    ≡ 2 ∷ (1 ∷ (0 ∷ (0 ∷ (0 ∷ (0 ∷ (1 ∷ (0 ∷ (0 ∷ (0 ∷ (3 ∷ (97 ∷ (64 ∷ (98 ∷ (1 ∷ []))))))))))))))
all_given = refl

-- 16,909,060 is 01 02 03 04, and 2^32 - 1 four times 255
lengths : (four_octets 16909060 ≡ 1 ∷ (2 ∷ (3 ∷ (4 ∷ [])))) × (four_octets 4294967295 ≡ 255 ∷ (255 ∷ (255 ∷ (255 ∷ []))))
lengths = (refl, refl)

-- an empty subject isn't no subject
empty_isnt_absent : (handle_key_of (Same (Some []) None false []) ≡ handle_key_of (Same None None false [])) → ⊥
empty_isnt_absent same = cc
