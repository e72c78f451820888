-- The whole promise, of every run of every admitted table.
use Rattle.machine.specs.Promise.{EveryRun}
use Rattle.machine.proofs.Tables.{fit_if_admitted}
use Rattle.machine.proofs.Shaped.{reached_shaped}
use Rattle.machine.proofs.Orders.{order_reached}
use Rattle.machine.proofs.Balances.{counted_reached, balance_reached}
use Rattle.machine.proofs.OnTime.{on_time}

pub every_run : EveryRun
every_run k idle ad cs = record {
  order = order_reached k idle ad cs;
  counted = counted_reached k cs;
  balance = balance_reached k cs (reached_shaped k (fit_if_admitted k idle ad) cs).shape;
  on_time = on_time k idle ad cs;
}
