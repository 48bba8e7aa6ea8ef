use Rattle.encode.proofs.write_row.Goals as goal

pub returns : goal.returns
returns g c = g.R.Receiver.reception.join _ _ _ _ _ c.write_body.ensures c.write_past.ensures
