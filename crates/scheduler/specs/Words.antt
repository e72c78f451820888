-- The words that a task's place is written with.
use Rattle.std.specs.Prelude.{ℕ, List, codes}
use Rattle.scheduler.specs.declared.question.Place.{Place}
use Rattle.scheduler.specs.declared.question.Place.TheVariants.{Waiting, Released, Stacked}

abbrev pub place_word : Place → List ℕ
place_word Waiting = codes "waiting"
place_word Released = codes "released"
place_word Stacked = codes "stacked"
