use Rattle.std.proofs.Common.{◌≡◌, ◌+◌, ◌≤◌, [], ◌∷◌, ◌++◌, length, drop, true, is_ok, set, sym, refl, ap, ◌∙◌, subst, rules, tests, arith}
use Rattle.std.proofs.lemmas.List.{length-append}
use Rattle.table.specs.declared.records.TaskRecord.{TaskRecord}
use Rattle.table.specs.Head.{line_items}
use Rattle.table.specs.Item.{left}
use Rattle.table.specs.Lines.{lines_of}
use Rattle.table.specs.Rule.{opens, shallow}
use Rattle.table.specs.Judged.{lines_judged, room_for}
use Rattle.table.specs.Record.{sections_in, tasks_of, sections_of, written, text_tasks, bare_sections}
use Rattle.table.proofs.Split.{total, lines_long, numbered_turn, numbered_end}
use Rattle.table.proofs.Written.{Sofar, finished}
use Rattle.table.proofs.Lined.{next_ok, next_room, next_shallow, next_few, next_task, next_sections}
use Rattle.table.proofs.fill.write_lines.Goals as goal

pub loop-task-init : goal.loop-task-init
loop-task-init c = (
  omega (arith, lines_long c.args.text.now),
  omega arith,
  c.requires,
  record { front = refl; place = refl; back = refl },
  record { front = refl; place = refl; back = refl },
)

pub offset_bounds-tasks-task : goal.offset_bounds-tasks-task
offset_bounds-tasks-task c =
    let turn =
    numbered_turn _ _ _ _ _ c.loop-task.yielded_by c.into_iter-task-iterator.ensures.into_iter_gives c.enumerate-task-items.ensures.source c.enumerate-task-items.ensures.count
    c.split_inclusive.ensures.rest c.split_inclusive.ensures.closure (λ x b q k. search (rules, tests)) _ _ (c.in-Some.task, c.in-Some.line) c.in-Some.is c.next.ensures.steps in
    let count = ap (λ (t : TaskRecord). t.sections.count) c.task_of.ensures.task in
    let kept = c.loop-task.invariant in
    let room = next_room _ _ _ turn.1.more count kept.2 in
    omega arith

pub bounds-tasks-task : goal.bounds-tasks-task
bounds-tasks-task c =
    let turn =
    numbered_turn _ _ _ _ _ c.loop-task.yielded_by c.into_iter-task-iterator.ensures.into_iter_gives c.enumerate-task-items.ensures.source c.enumerate-task-items.ensures.count
    c.split_inclusive.ensures.rest c.split_inclusive.ensures.closure (λ x b q k. search (rules, tests)) _ _ (c.in-Some.task, c.in-Some.line) c.in-Some.is c.next.ensures.steps in
    let count = ap (λ (t : TaskRecord). t.sections.count) c.task_of.ensures.task in
    let kept = c.loop-task.invariant in
    let room = next_room _ _ _ turn.1.more count kept.2 in
    omega arith

pub of-requires : goal.of-requires
of-requires c =
    let turn =
    numbered_turn _ _ _ _ _ c.loop-task.yielded_by c.into_iter-task-iterator.ensures.into_iter_gives c.enumerate-task-items.ensures.source c.enumerate-task-items.ensures.count
    c.split_inclusive.ensures.rest c.split_inclusive.ensures.closure (λ x b q k. search (rules, tests)) _ _ (c.in-Some.task, c.in-Some.line) c.in-Some.is c.next.ensures.steps in
    let count = ap (λ (t : TaskRecord). t.sections.count) c.task_of.ensures.task in
    let kept = c.loop-task.invariant in
    ap (shallow 0) c.task_of.ensures.items ∙ next_shallow _ _ _ turn.1.more count kept.2

pub write_sections-requires : goal.write_sections-requires
write_sections-requires c =
    let turn =
    numbered_turn _ _ _ _ _ c.loop-task.yielded_by c.into_iter-task-iterator.ensures.into_iter_gives c.enumerate-task-items.ensures.source c.enumerate-task-items.ensures.count
    c.split_inclusive.ensures.rest c.split_inclusive.ensures.closure (λ x b q k. search (rules, tests)) _ _ (c.in-Some.task, c.in-Some.line) c.in-Some.is c.next.ensures.steps in
    let count = ap (λ (t : TaskRecord). t.sections.count) c.task_of.ensures.task in
    let kept = c.loop-task.invariant in
    let few = next_few _ _ _ turn.1.more count kept.2 kept.1 in
    let items = ap (λ x. opens (left x)) c.of.ensures ∙ ap opens c.task_of.ensures.items in
    omega arith

pub overflow_add-first : goal.overflow_add-first
overflow_add-first c =
    let turn =
    numbered_turn _ _ _ _ _ c.loop-task.yielded_by c.into_iter-task-iterator.ensures.into_iter_gives c.enumerate-task-items.ensures.source c.enumerate-task-items.ensures.count
    c.split_inclusive.ensures.rest c.split_inclusive.ensures.closure (λ x b q k. search (rules, tests)) _ _ (c.in-Some.task, c.in-Some.line) c.in-Some.is c.next.ensures.steps in
    let count = ap (λ (t : TaskRecord). t.sections.count) c.task_of.ensures.task in
    let kept = c.loop-task.invariant in
    let few = next_few _ _ _ turn.1.more count kept.2 kept.1 in
    omega arith

pub loop-task-preserved : goal.loop-task-preserved
loop-task-preserved c =
    let turn =
    numbered_turn _ _ _ _ _ c.loop-task.yielded_by c.into_iter-task-iterator.ensures.into_iter_gives c.enumerate-task-items.ensures.source c.enumerate-task-items.ensures.count
    c.split_inclusive.ensures.rest c.split_inclusive.ensures.closure (λ x b q k. search (rules, tests)) _ _ (c.in-Some.task, c.in-Some.line) c.in-Some.is c.next.ensures.steps in
    let count = ap (λ (t : TaskRecord). t.sections.count) c.task_of.ensures.task in
    let kept = c.loop-task.invariant in
    let text = c.args.text.now in
    let line = c.in-Some.line.now in
    let k = length c.loop-task.yielded in
    let m = c.loop-task.first in
    let m' = c.loop-task.first + c.task_of.result.0.sections.count in
    let place' = c.loop-task.place + length line in
    let room = room_for (length c.args.tasks.now) (length c.args.sections.now) in
    let tasks' = set c.loop-task.tasks c.in-Some.task c.task_of.result.0 in
    let sections' = c.write_sections.new.sections in
    let spare = next_room room k m turn.1.more count kept.2 in
    let few = next_few room k m turn.1.more count kept.2 kept.1 in
    let written_is =
    c.write_sections.ensures
    ∙ ap (λ is. written m (sections_in c.in-Some.task m [] is) c.loop-task.sections) (ap left c.of.ensures ∙ c.task_of.ensures.items)
    ∙ ap (λ j. written m (sections_in j m [] (line_items line)) c.loop-task.sections) turn.0 in
    let so_long = ap total turn.1.more in
    let n : length (c.loop-task.yielded ++ (c.in-Some.task, c.in-Some.line) ∷ []) ≡ k + 1 = length-append c.loop-task.yielded ((c.in-Some.task, c.in-Some.line) ∷ []) in
    subst
    (λ j. (place' + total (drop j (lines_of text)) ≡ length text) × (m' ≤ room.sections)
    × (is_ok (lines_judged room (record { tasks = j; sections = m' }) (drop j (lines_of text))) ≡ true)
    × Sofar c.args.tasks.now 0 (text_tasks text) tasks' j (tasks_of place' m' (drop j (lines_of text)))
    × Sofar c.args.sections.now 0 (bare_sections text) sections' m' (sections_of j m' (drop j (lines_of text))))
    (sym n) (
      omega (arith, kept.0),
      few,
      next_ok room k m turn.1.more count kept.2,
      subst (λ j. Sofar c.args.tasks.now 0 (text_tasks text) (set c.loop-task.tasks j c.task_of.result.0) (k + 1) (tasks_of place' m' (drop (k + 1) (lines_of text)))) (sym turn.0)
          (next_task room k m turn.1.more count kept.2 c.loop-task.place c.args.tasks.now _ c.loop-task.tasks c.task_of.result.0 c.task_of.ensures.task (omega arith) kept.3),
      next_sections room k m turn.1.more count kept.2 c.args.sections.now _ c.loop-task.sections sections' (omega arith) written_is kept.4,
    )

pub returns-clause-tasks : goal.returns-clause-tasks
returns-clause-tasks c =
    finished c.args.tasks.now 0 _ c.loop-task.tasks (length c.loop-task.yielded) _
    (ap (tasks_of c.loop-task.place c.loop-task.first)
    (numbered_end _ _ _ _ _ c.loop-task.yielded_by c.into_iter-task-iterator.ensures.into_iter_gives c.enumerate-task-items.ensures.source c.enumerate-task-items.ensures.count
    c.split_inclusive.ensures.rest c.split_inclusive.ensures.closure (λ x b q k. search (rules, tests)) _ _ c.in-None.is c.next.ensures.steps))
    c.loop-task.invariant.3

pub returns-clause-sections : goal.returns-clause-sections
returns-clause-sections c =
    finished c.args.sections.now 0 _ c.loop-task.sections c.loop-task.first _
    (ap (sections_of (length c.loop-task.yielded) c.loop-task.first)
    (numbered_end _ _ _ _ _ c.loop-task.yielded_by c.into_iter-task-iterator.ensures.into_iter_gives c.enumerate-task-items.ensures.source c.enumerate-task-items.ensures.count
    c.split_inclusive.ensures.rest c.split_inclusive.ensures.closure (λ x b q k. search (rules, tests)) _ _ c.in-None.is c.next.ensures.steps))
    c.loop-task.invariant.4
