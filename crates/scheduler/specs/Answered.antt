-- A core's answers beside the machine's. A core says what the machine says (`told`), and one thing that the machine never says: that it is shut, which is
-- refusal 13.
use Rattle.std.specs.Prelude.{ℕ, List, [], ◌∷◌}
use Rattle.machine.specs.declared.call.Answer.{Answer}
use Rattle.machine.specs.declared.call.Answer.TheVariants.{Advanced, Granted, Running, Refused}
use Rattle.machine.specs.declared.call.Refusal.{Refusal as MachineRefusal}
use Rattle.machine.specs.Answer.{refusal_number as machine_number}
use Rattle.machine.specs.Answer.{shown_numbers as machine_numbers}
use Rattle.scheduler.specs.declared.answer.Refusal.{Refusal}
use Rattle.scheduler.specs.declared.answer.Refusal.TheVariants.{Shut, Machine}

-- the machine's answer, as a core gives it
abbrev pub told : Answer MachineRefusal → Answer Refusal
told (Advanced numbers) = Advanced numbers
told (Granted grant) = Granted grant
told (Running task) = Running task
told (Refused refusal) = Refused (Machine refusal)

-- the number of a refusal, and the numbers that it is written as
abbrev pub refusal_number : Refusal → ℕ
refusal_number Shut = 13
refusal_number (Machine refusal) = machine_number refusal

abbrev pub shown_numbers : Refusal → List ℕ
shown_numbers Shut = 13 ∷ []
shown_numbers (Machine refusal) = machine_numbers refusal
