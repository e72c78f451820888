use Rattle.std.proofs.Common.{◌≡◌, ◌++◌, map, length, take, drop, sym, ap, ◌∙◌, arith}
use Rattle.std.proofs.lemmas.List.{length-take-le}
use Rattle.table.specs.Level.{letter_levels}
use Rattle.table.specs.Record.{text_tasks, bare_sections, leveled}
use Rattle.table.specs.Judged.{room_for, nothing_read}
use Rattle.table.specs.Lines.{lines_of}
use Rattle.table.proofs.Counted.{counted, written_front, front_is, with_levels}
use Rattle.table.proofs.read.write_records.Goals as goal

pub slice_bounds-written-end : goal.slice_bounds-written-end
slice_bounds-written-end c =
    let p = counted (room_for (length c.args.tasks.now) (length c.args.sections.now)) nothing_read c.args.counts 0 (lines_of c.args.text.now) c.requires in
    omega (arith, p.sections_within, c.write_lines.auto.sections)

pub slice_bounds-written-end-2 : goal.slice_bounds-written-end-2
slice_bounds-written-end-2 c =
    let p = counted (room_for (length c.args.tasks.now) (length c.args.sections.now)) nothing_read c.args.counts 0 (lines_of c.args.text.now) c.requires in
    sym (length-take-le c.args.counts.sections c.write_lines.new.sections (omega (arith, p.sections_within, c.write_lines.auto.sections)))

pub slice_bounds-letter_levels-end : goal.slice_bounds-letter_levels-end
slice_bounds-letter_levels-end c =
    let p = counted (room_for (length c.args.tasks.now) (length c.args.sections.now)) nothing_read c.args.counts 0 (lines_of c.args.text.now) c.requires in
    omega (arith, p.tasks_within, c.write_lines.auto.tasks)

pub slice_bounds-letter_levels-end-2 : goal.slice_bounds-letter_levels-end-2
slice_bounds-letter_levels-end-2 c =
    let p = counted (room_for (length c.args.tasks.now) (length c.args.sections.now)) nothing_read c.args.counts 0 (lines_of c.args.text.now) c.requires in
    sym (length-take-le c.args.counts.tasks c.write_lines.new.tasks (omega (arith, p.tasks_within, c.write_lines.auto.tasks)))

pub returns : goal.returns
returns c =
    let text = c.args.text.now in
    let p = counted (room_for (length c.args.tasks.now) (length c.args.sections.now)) nothing_read c.args.counts 0 (lines_of text) c.requires in
    let k = c.args.counts.tasks in
    let m = c.args.counts.sections in
    let all : k ≡ length (text_tasks text) = omega (arith, p.tasks) in
    let each : m ≡ length (bare_sections text) = omega (arith, p.sections) in
    let tasks = c.write_lines.ensures.tasks ∙ written_front (text_tasks text) c.args.tasks.now in
    let sections = c.write_lines.ensures.sections ∙ written_front (bare_sections text) c.args.sections.now in
    let levels : c.letter_levels-levels.result ≡ letter_levels (text_tasks text) (bare_sections text) =
    c.letter_levels-levels.ensures
    ∙ ap (λ l. letter_levels l (take m c.write_lines.new.sections)) (front_is k (text_tasks text) c.args.tasks.now _ tasks all)
    ∙ ap (letter_levels (text_tasks text)) (front_is m (bare_sections text) c.args.sections.now _ sections each) in
    record {
      tasks = tasks;
      sections = with_levels m (letter_levels (text_tasks text) (bare_sections text)) (bare_sections text) c.args.sections.now _ _ sections each
          (ap (λ l. l ++ drop m c.write_lines.new.sections) c.write_levels.ensures ∙ ap (λ l. map (leveled l) (take m c.write_lines.new.sections) ++ drop m c.write_lines.new.sections) levels);
    }
