-- `fmt::write` meets its contract: a writable record's payload is as long as its size says.
use mathlib.Core.Path.{◌≡◌, ◌∙◌, sym}
use mathlib.Core.Bool.{true}
use native.Mathlib.Omega.{arith}
use Rattle.fmt.specs.Writing.{writable}
use Rattle.fmt.proofs.Payloads.{refuse16, refuse15, wrote}
use Rattle.fmt.proofs.write.Goals as goal

pub returns-then-not-is_writable : goal.returns-then-not-is_writable
returns-then-not-is_writable c =
    refuse16 _ _ (sym c.is_writable.ensures ∙ c.if-not-is_writable.true)

pub returns-then-out-format : goal.returns-then-out-format
returns-then-out-format c =
    let can : writable c.args.format ≡ true = sym c.is_writable.ensures ∙ c.if-not-is_writable.false in
    refuse15 _ _ can (omega arith)

pub returns : goal.returns
returns c =
    let can : writable c.args.format ≡ true = sym c.is_writable.ensures ∙ c.if-not-is_writable.false in
    wrote _ _ can _ (omega arith) c.store.ensures
