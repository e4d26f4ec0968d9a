use Rattle.calls.proofs.Each.{no_table_no_call}
use Rattle.calls.proofs.theorems.no_table_no_call.Goals as goal

pub returns : goal.returns
returns c = no_table_no_call
