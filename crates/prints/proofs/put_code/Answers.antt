-- A row of one number. It assumes room for 55 bytes.
use Rattle.text.specs.Text.{row}
use Rattle.prints.proofs.put_code.Goals as goal

pub returns : goal.returns
unfolding row
returns c = c.put_number.ensures
