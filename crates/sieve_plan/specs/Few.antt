-- What is true of all that deliveries keep of a message that was sent on.
use Rattle.std.specs.Prelude.{ℕ, ◌≤◌, length, filter, List, []}
use Rattle.std.specs.FinMap.{keys}
use Rattle.store_accounts.specs.Account.{Account}
use Rattle.store_accounts.specs.ReplyRows.{is_key_between}
use Rattle.sieve_plan.specs.Sent.{sent_end, sent_handle}

-- of a message and a half day at most 32 keys are kept, as many as are looked at: deliveries keep 16, an import may bring more
abbrev pub AreFew : Account → (key : List ℕ) → (half : ℕ) → Type 0
AreFew a key half = length (filter (is_key_between (sent_handle half key []) (sent_end half key)) (keys a.replies)) ≤ 32
