use Rattle.store_engine.proofs.SoundLemmas.{next_sound, runs_sound}
use Rattle.store_engine.proofs.laws.sound_accounts.Goals as goal

pub returns-clause-next : goal.returns-clause-next
returns-clause-next c w next event answer sound step = next_sound w next event answer sound step

pub returns-clause-runs : goal.returns-clause-runs
returns-clause-runs c events told w end sound run = runs_sound events told w end sound run
