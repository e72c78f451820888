use Rattle.std.proofs.Common.{rules, tests}
use Rattle.table.proofs.Searched.{found}
use Rattle.table.proofs.rules.number_fault.Goals as goal

pub returns : goal.returns
returns c = found _ _ (λ i r q k. search (rules, tests)) c.args.items c.find_map.result c.find_map.ensures.runs
