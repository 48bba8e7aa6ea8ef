use Rattle.job.proofs.Driving.{none_yet, one_more, all_done}
use Rattle.job.proofs.drive.perform_all.Goals as goal

pub loop-exchange-init : goal.loop-exchange-init
loop-exchange-init g c = none_yet g.S.Sink.model c.args.job.now c.args.exchanges.now

pub loop-exchange-preserved : goal.loop-exchange-preserved
loop-exchange-preserved g c =
    one_more g.S.Sink.model c.args.job.now c.args.exchanges.now c.loop-exchange.exchange-index c.loop-exchange.exchanges c.loop-exchange.job _ c.loop-exchange-test.true c.loop-exchange.invariant c.perform-answer.result c.perform-answer.new.self c.perform-answer.ensures

pub returns : goal.returns
returns g c =
    all_done g.S.Sink.model c.args.job.now c.args.exchanges.now c.loop-exchange.exchange-index c.loop-exchange.exchanges c.loop-exchange.job c.loop-exchange-test.false c.loop-exchange.invariant
