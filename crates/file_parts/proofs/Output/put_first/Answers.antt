-- `file_parts::Output::put_first` meets its contract: nine stores, each where the one before it ends.
use Rattle.file_parts.proofs.Stores.{puts_then, puts-as, first_lem}
use Rattle.file_parts.proofs.Output.put_first.Goals as goal

pub returns : goal.returns
returns c =
    puts-as _ _ (first_lem _ _ _ _ _ _)
    (puts_then c.put_number.ensures
    (puts_then c.put_number-2.ensures
    (puts_then c.put_number-3.ensures
    (puts_then c.put_number-4.ensures
    (puts_then c.put_number-5.ensures
    (puts_then c.put_number-6.ensures
    (puts_then c.put_number-7.ensures (puts_then c.put_number-8.ensures c.put_number-9.ensures))))))))
