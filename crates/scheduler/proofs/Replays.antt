-- Lists of calls: one call more, and what they come to on a core that runs and on a shut one.
use Rattle.std.proofs.Common.{◌≡◌, ℕ, suc, ◌+◌, ◌<◌, Bool, true, false, List, [], ◌∷◌, ◌++◌, map, length, slice_index_or, take, drop, slice_set, replicate, sym, refl, ap, ◌∙◌, append_assoc, arith, length-take}
use Rattle.std.proofs.lemmas.List.{take_more, drop_more, set_at}
use Rattle.machine.specs.declared.call.Call.{Call}
use Rattle.machine.specs.State.{Table, State, start}
use Rattle.machine.specs.Step.{step}
use Rattle.machine.specs.Run.{history_from}
use Rattle.machine.specs.Worked.{answers_of}
use Rattle.machine.specs.Run.{state_from as machine_from}
use Rattle.admission.specs.Verdict.{Admitted}
use Rattle.machine.proofs.Promised.{every_run}
use Rattle.machine.specs.declared.call.Answer.{Answer}
use Rattle.machine.specs.declared.call.Answer.TheVariants.{Refused}
use Rattle.scheduler.specs.declared.answer.Refusal.{Refusal}
use Rattle.scheduler.specs.declared.answer.Refusal.TheVariants.{Shut}
use Rattle.scheduler.specs.declared.records.Records.{Records}
use Rattle.scheduler.specs.Answered.{told}
use Rattle.scheduler.specs.View.{table_of}
use Rattle.scheduler.specs.Calls.{answer_of, state_after}
use Rattle.scheduler.specs.Replayed.{answers_from, state_from, Ran, AllShut}

-- the same core, the same records and the same state give the same
pub at_same : {X : Type 0} (f : Bool → Table → State → X) {live on : Bool} {k m : Records} {s t : State} → live ≡ on → k ≡ m → s ≡ t → f live (table_of k) s ≡ f on (table_of m) t
at_same f a b c = rw (a, b, c)

module _ (live : Bool) (k : Table) where
  state_push : (cs : List Call) (c : Call) (s : State) → state_from live k (cs ++ c ∷ []) s ≡ state_after live k c (state_from live k cs s)
  state_push [] c s = refl
  state_push (x ∷ cs) c s = state_push cs c (state_after live k x s)

  answers_push : (cs : List Call) (c : Call) (s : State) → answers_from live k (cs ++ c ∷ []) s ≡ answers_from live k cs s ++ answer_of live k c (state_from live k cs s) ∷ []
  answers_push [] c s = refl
  answers_push (x ∷ cs) c s = let ih = answers_push cs c (state_after live k x s) in cc

  answers_length : (cs : List Call) (s : State) → length (answers_from live k cs s) ≡ length cs
  answers_length [] s = refl
  answers_length (x ∷ cs) s = ap suc (answers_length cs (state_after live k x s))

  -- the state after one call more
  pub state_more : (cs : List Call) (i : ℕ) (c : Call) (s : State) → i < length cs → state_from live k (take (i + 1) cs) s ≡ state_after live k (slice_index_or cs i c) (state_from live k (take i cs) s)
  state_more cs i c s h = rw (take_more cs i c h) (state_push (take i cs) (slice_index_or cs i c) s)

  -- one answer more
  pub answers_more : (cs : List Call) (i : ℕ) (c : Call) (s : State) (old : List (Answer Refusal)) (a : Answer Refusal) → i < length cs → i < length old → a ≡ answer_of live k (slice_index_or cs i c) (state_from live k (take i cs) s)
      → slice_set (answers_from live k (take i cs) s ++ drop i old) i a ≡ answers_from live k (take (i + 1) cs) s ++ drop (i + 1) old
  answers_more cs i c s old a h room e =
      let so_far = answers_from live k (take i cs) s in
      let n : length so_far ≡ i = answers_length (take i cs) s ∙ length-take i cs ∙ omega arith in
      rw (drop_more old i a room, set_at so_far (slice_index_or old i a) (drop (i + 1) old) a i n, e, take_more cs i c h, answers_push (take i cs) (slice_index_or cs i c) s)
      (sym (append_assoc so_far (answer_of live k (slice_index_or cs i c) (state_from live k (take i cs) s) ∷ []) (drop (i + 1) old)))

module _ (k : Table) where
  -- a core that runs does what the machine does
  live_answers : (cs : List Call) (s : State) → answers_from true k cs s ≡ map told (answers_of (history_from k s cs))
  live_answers [] s = refl
  live_answers (c ∷ cs) s = let ih = live_answers cs (step k c s).state in cc

  live_state : (cs : List Call) (s : State) → state_from true k cs s ≡ machine_from k s cs
  live_state [] s = refl
  live_state (c ∷ cs) s = live_state cs (step k c s).state

  -- a shut one refuses
  shut_answers : (cs : List Call) (s : State) → answers_from false k cs s ≡ replicate (length cs) (Refused Shut)
  shut_answers [] s = refl
  shut_answers (c ∷ cs) s = let ih = shut_answers cs s in cc

-- a core's run, by whether it is live
module _ (live : Bool) (k : Table) (cs : List Call) (s : State) where
  pub ran : (answers old : List (Answer Refusal)) (end : State) → answers ≡ answers_from live k cs s ++ drop (length cs) old → end ≡ state_from live k cs s
      → (t : Table) (idle : ℕ) → Admitted t.tasks t.sections idle → live ≡ true → k ≡ t → s ≡ start t → Ran t cs answers old end
  ran answers old end value after t idle ad on is from = record {
    answered = rw (← live_answers t cs (start t), ← from, ← is, ← on) value;
    state = rw (after, on, is, from) (live_state t cs (start t));
    promised = λ n _. every_run t idle ad (take n cs);
  }

  pub all_shut : (answers old : List (Answer Refusal)) → answers ≡ answers_from live k cs s ++ drop (length cs) old → live ≡ false → AllShut cs answers old
  all_shut answers old value off = rw (value, off, shut_answers k cs s)
