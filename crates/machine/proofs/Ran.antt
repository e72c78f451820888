-- The worked examples of runs and of refusals: each is computed.
use Rattle.std.proofs.Common.{◌≡◌, [], ◌∷◌, sym, refl, ◌∙◌}
use Rattle.table.specs.Level.{letter_levels}
use Rattle.machine.specs.declared.call.Call.TheVariants.{Enter}
use Rattle.machine.specs.declared.call.Answer.TheVariants.{Refused}
use Rattle.machine.specs.declared.call.Refusal.TheVariants.{TooManyEntries}
use Rattle.machine.specs.State.{State}
use Rattle.machine.specs.Run.{reached}
use Rattle.machine.specs.Step.{step, selected, advanced}
use Rattle.machine.specs.Worked.{Runs, Refusals, table_of, answers, flash, pair, refused_calls, refused_answers, accepted_calls, full}

pub runs : Runs
unfolding letter_levels step selected advanced
runs = record {
  pair_answers = refl;
  pair_waits = refl;
  pair_stays = refl;
  pair_preempts = refl;
  pair_ends = refl;
  pair_counts = refl;
  flash_answers = refl;
  flash_keeps = refl;
  flash_waits = refl;
}

-- the state that both lead to
abbrev in_inner_lem : State
in_inner_lem = record {
  clock = 10;
  waiting = record { release = 50; task = 0 } ∷ [];
  released = record { deadline = 60; relative = 60; task = 2 } ∷ record { deadline = 90; relative = 90; task = 3 } ∷ [];
  stack = record { task = 1; deadline = 50; opened = record { section = 2; serial = 2 } ∷ record { section = 1; serial = 1 } ∷ [] } ∷ [];
  counts = record { releases = 4; finishes = 1; expiries = 0; entries = 3; leaves = 1; taken = 0 };
}

after_all : reached (table_of flash) refused_calls ≡ in_inner_lem
unfolding letter_levels step selected advanced
after_all = refl

after_accepted : reached (table_of flash) accepted_calls ≡ in_inner_lem
unfolding letter_levels step selected advanced
after_accepted = refl

answered : answers flash refused_calls ≡ refused_answers
unfolding letter_levels step selected advanced
answered = refl

too_many : step (table_of pair) (Enter 0) full ≡ record { state = full; answer = Refused TooManyEntries }
unfolding step letter_levels
too_many = refl

pub refusals : Refusals
refusals = record { answered = answered; unchanged = after_all ∙ sym after_accepted; too_many = too_many }
