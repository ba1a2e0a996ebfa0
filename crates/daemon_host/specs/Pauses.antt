-- How long a store that failed is left alone, in milliseconds.
use Rattle.std.specs.Prelude.{◌≡◌, ◌+◌, ◌*◌, ℕ, min}
use Rattle.daemon_host.specs.declared.pause.Pause.{Pause}

-- it may be asked for, and after the next failure it is left alone for a second
pub record PauseIsOver (pause : Pause) : Type 0 where
  pub until : pause.until ≡ 0
  pub next : pause.next ≡ 1000

-- it failed at a moment: it is left alone, and after a further failure twice as long, a minute at most
pub record PauseBegins (now : ℕ) (before after : Pause) : Type 0 where
  pub until : after.until ≡ min (now + before.next) 18446744073709551615
  pub next : after.next ≡ min (before.next * 2) 60000
