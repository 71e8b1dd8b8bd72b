-- `symphedra::writers::symphedra_write_rf64` meets its contract: it is what `write_file` answers.

use Rattle.symphedra.proofs.writers.symphedra_write_rf64.Goals as goal

pub returns : goal.returns
returns c =
    c.write_file.ensures
