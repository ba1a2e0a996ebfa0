-- Each script so far may be kept, and they are counted.
use Rattle.std.proofs.Common.{◌≡◌, ◌≤◌, take}
use Rattle.std.specs.List.{AllByRecursion, count_by}
use Rattle.store_engine.specs.Importable.{IsSoundPart, is_a_script}
use Rattle.store_engine.proofs.importing.has_sound_scripts.Given as goal

abbrev pub invariant-loop-part : goal.invariant-loop-part
invariant-loop-part l = record { each : AllByRecursion IsSoundPart (take l.part-index l.parts); counted : l.count ≡ count_by is_a_script (take l.part-index l.parts); few : l.count ≤ 32 }
