-- `fmt::Format::store` meets its contract: nothing, or the first 16 bytes and what follows them.
use mathlib.Core.Path.{◌∙◌, ap}
use mathlib.Core.List.{List}
use Prim.Native.Nat.{ℕ}
use native.Mathlib.Omega.{arith}
use lib.Seq.{sets}
use Rattle.fmt.specs.Writing.{extra_bytes}
use Rattle.fmt.proofs.Payloads.{long-all, stores-none, stores-all}
use Rattle.fmt.proofs.Format.store.Goals as goal

pub returns-then-out-payload_length : goal.returns-then-out-payload_length
returns-then-out-payload_length c =
    stores-none _ _ (omega (arith, c.payload_length.ensures))

pub store_head-requires : goal.store_head-requires
store_head-requires c =
    omega (arith, c.payload_length.ensures, long-all c.args.self)

pub returns : goal.returns
returns c =
    stores-all _ _ _ (omega (arith, c.payload_length.ensures))
    (c.store_extra.ensures
    ∙ ap (λ (l : List ℕ). sets l 16 (extra_bytes c.args.self))
    c.store_head.ensures)
