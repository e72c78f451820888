-- How the two states of a core are seen alike: an engine that runs, or what is kept of queues that cannot serve the table.
use Rattle.std.specs.Prelude.{true, false}
use Rattle.scheduler.specs.declared.run_core.State.{State}
use Rattle.scheduler.specs.declared.run_core.State.TheVariants.{Live, Shut}
use Rattle.scheduler.specs.Parts.{Whole, whole}

abbrev pub whole_of : {W R : Type 0} → State W R → Whole W R
whole_of (Live engine) = whole true engine
whole_of (Shut idle) = whole false idle
