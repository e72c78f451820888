use Rattle.std.proofs.Common.{Ok, Err, sym}
use Rattle.std.proofs.lemmas.Result.{err_from_is_err_and}
use Rattle.admission.proofs.Beyond.{fits_ever}
use Rattle.admission.proofs.Same.{is_judged, admitted_as, refused_as}
use Rattle.admission.proofs.admit.admit.Goals as goal

pub returns-in_err-new-clause-value : goal.returns-in_err-new-clause-value
returns-in_err-new-clause-value c =
    let p = err_from_is_err_and c.from_residual.result c.from_residual.ensures.1 in
    rw (p.1, p.2) (sym (is_judged c.args.tasks.now c.args.sections.now (Err c.in_err-new.field-0.0) c.in_err-new.ensures))

pub returns-in_err-idle-clause-value : goal.returns-in_err-idle-clause-value
returns-in_err-idle-clause-value c =
    let why = c.in_err-idle.field-0.0 in
    let p = err_from_is_err_and c.from_residual-in_err-idle.result c.from_residual-in_err-idle.ensures.1 in
    rw (p.1, p.2) (sym (is_judged c.args.tasks.now c.args.sections.now (Err why) (refused_as _ _ _ _ c.in_ok-new.ensures why c.in_err-idle.ensures)))

pub returns-clause-value : goal.returns-clause-value
returns-clause-value c =
    let idle = c.in_ok-idle.field-0.ticks in
    sym (is_judged c.args.tasks.now c.args.sections.now (Ok idle) (admitted_as _ _ _ _ c.in_ok-new.ensures idle c.in_ok-idle.ensures))

pub returns-clause-ever : goal.returns-clause-ever
returns-clause-ever c =
    let idle = c.in_ok-idle.field-0.ticks in
    fits_ever c.args.tasks.now c.args.sections.now idle (admitted_as _ _ _ _ c.in_ok-new.ensures idle c.in_ok-idle.ensures)
