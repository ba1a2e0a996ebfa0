-- Examples of messages that leave a folder together, and near misses.
use Rattle.std.proofs.Common.{◌≡◌, ℕ, List, [], ◌∷◌, Some, option_map, slice_get, refl, inl, inr, ap, codes, arith}
use Rattle.store_accounts.specs.declared.taking.NumberedMessage.{NumberedMessage}
use Rattle.store_accounts.specs.Account.{Accounts}
use Rattle.store_engine.specs.declared.answer.Answer.TheVariants.{MailTaken}
use Rattle.store_engine.specs.declared.event.Event.TheVariants.{TakeMail}
use Rattle.store_engine.specs.Takings.{LosesMails, EndsRun, IsLongestRun, times}

abbrev one : NumberedMessage
one = record { number = 1; message = 65 ∷ []; flags = [] }

abbrev two : NumberedMessage
two = record { number = 2; message = 65 ∷ []; flags = [] }

abbrev three : NumberedMessage
three = record { number = 3; message = 66 ∷ []; flags = [] }

-- with another flag
abbrev flagged : NumberedMessage
flagged = record { number = 1; message = 65 ∷ []; flags = 67 ∷ [] }

numbers : (m n : NumberedMessage) → Some m ≡ Some n → m.number ≡ n.number
numbers m n same = let e : Some m.number ≡ Some n.number = ap (option_map (λ (x : NumberedMessage). x.number)) same in cc

-- of three messages two are told, and leave
two_of_three : IsLongestRun (one ∷ two ∷ three ∷ []) (one ∷ two ∷ []) 2
two_of_three = record { same = refl; ends = inl refl }

-- the second isn't that message, though it has the same octets: one leaves
other_number : EndsRun (one ∷ three ∷ []) (one ∷ two ∷ []) 1
other_number = inr (inr (λ same. let no : 3 ≡ 2 = numbers three two same in omega (arith, no)))

second_differs : IsLongestRun (one ∷ three ∷ []) (one ∷ two ∷ []) 1
second_differs = record { same = refl; ends = other_number }

-- the first isn't: none leaves
first_differs : EndsRun (two ∷ one ∷ []) (one ∷ two ∷ []) 0
first_differs = inr (inr (λ same. let no : 2 ≡ 1 = numbers two one same in omega (arith, no)))

-- nor where its flags are others, or where the folder has none
flags_differ : EndsRun (flagged ∷ []) (one ∷ []) 0
flags_differ = inr (inr (λ same. let no : Some (67 ∷ []) ≡ Some [] = ap (option_map (λ (x : NumberedMessage). x.flags)) same in cc))

folder_gone : EndsRun [] (one ∷ []) 0
folder_gone = inr (inr (λ same. let no = same in cc))

-- near miss: one is taken where two are the same
not_fewer : IsLongestRun (one ∷ two ∷ []) (one ∷ two ∷ []) 1 → ⊥
not_fewer is = elim is.ends [
  | inl all ↦ let no = all in cc
  | inr (inl most) ↦ let no = most in cc
  | inr (inr differ) ↦ differ refl
]

-- near miss: the second is taken, and isn't that message
not_another : IsLongestRun (one ∷ three ∷ []) (one ∷ two ∷ []) 2 → ⊥
not_another is = let no : 3 ≡ 2 = numbers three two (ap (λ l. slice_get l 1) is.same) in omega (arith, no)

-- near miss: one more is taken than were told
not_one_more : (user folder : List ℕ) (accounts later : Accounts) → LosesMails user folder (one ∷ []) 2 accounts later → ⊥
not_one_more user folder accounts later is = let no = is.told in omega (arith, no)

-- near miss: none is taken
not_none : (user folder : List ℕ) (accounts later : Accounts) → LosesMails user folder (one ∷ []) 0 accounts later → ⊥
not_none user folder accounts later is = let no = is.some in omega (arith, no)

-- as events: the same one twice, answered twice
twice_taken : times 2 (TakeMail (codes "alice") (codes "INBOX")) ≡ TakeMail (codes "alice") (codes "INBOX") ∷ TakeMail (codes "alice") (codes "INBOX") ∷ []
twice_taken = refl

twice_answered : times 2 MailTaken ≡ MailTaken ∷ MailTaken ∷ []
twice_answered = refl
