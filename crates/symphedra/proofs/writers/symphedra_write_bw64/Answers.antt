-- `symphedra::writers::symphedra_write_bw64` meets its contract: it is what `write_file` answers.

use Rattle.symphedra.proofs.writers.symphedra_write_bw64.Goals as goal

pub returns : goal.returns
returns c =
    c.write_file.ensures
